-- A size in the bytes of a record.
use Rattle.std.specs.Prelude.{Option, Some, None}
use Rattle.std.specs.Prelude.{ℕ, Bool, List, drop, cond}
use Rattle.numbers.specs.Numbers.{u32_of}
use Rattle.numbers.specs.declared.io.ByteOrder.TheVariants.{Big}
use Rattle.reading.specs.declared.geometry.Size.{Size}

-- two 32-bit numbers: the width and the height
abbrev pub size_of : List ℕ → Size
size_of s = record { width = u32_of Big s; height = u32_of Big (drop 4 s) }

-- the size, where one is given
abbrev pub given_size : Bool → List ℕ → Option Size
given_size is_given s = cond is_given (Some (size_of s)) None
