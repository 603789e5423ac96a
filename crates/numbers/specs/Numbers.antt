-- Numbers in a byte order, read from the front of a list of bytes; past the end a byte is 0.
use Rattle.std.specs.Prelude.{ℕ, ◌+◌, ◌*◌, List, get_or, drop}
use Rattle.numbers.specs.declared.io.ByteOrder.{ByteOrder}
use Rattle.numbers.specs.declared.io.ByteOrder.TheVariants.{Little, Big}
use Rattle.numbers.specs.declared.io.Pair.{Pair}

-- two digits to the base k, in the order in which they are written
abbrev pub joined : ByteOrder → ℕ → ℕ → ℕ → ℕ
joined Little k a b = a + k * b
joined Big k a b = k * a + b

-- 16 bits
unfoldable pub u16_of : ByteOrder → List ℕ → ℕ
u16_of o s = joined o 256 (get_or s 0 0) (get_or s 1 0)

-- 32 bits
unfoldable pub u32_of : ByteOrder → List ℕ → ℕ
u32_of o s = joined o 65536 (u16_of o s) (u16_of o (drop 2 s))

-- "Pairs are two 16-bit numbers"
unfoldable pub shorts_of : ByteOrder → List ℕ → Pair
shorts_of o s = record { first = u16_of o s; second = u16_of o (drop 2 s) }
