-- 01, "Block": when a block can be read, its directory, the first kept entry of a tag, and that entry's value.
use Rattle.std.specs.Prelude.{ℕ, zero, suc, ◌+◌, ◌*◌, Bool, true, false, cond, ◌&&◌, List, [], ◌∷◌, length, get_or, drop, take, leb, ltb, eqb, Option, Some, None}
use Rattle.reading.specs.Outcome.{Outcome, refused, accepted}
use Rattle.numbers.specs.Numbers.{u16_of, u32_of}
use Rattle.numbers.specs.Bytes.{same}
use Rattle.numbers.specs.declared.io.ByteOrder.{ByteOrder}
use Rattle.numbers.specs.declared.io.ByteOrder.TheVariants.{Little, Big}
use Rattle.reading.specs.declared.ifd.Ifd.{Ifd}
use Rattle.reading.specs.declared.ifd.Value.{Value}
use Rattle.reading.specs.declared.ifd.Entry.{Entry}

-- "The next four are the directory's offset from the block's start"
unfoldable pub offset_of : ByteOrder → List ℕ → ℕ
offset_of o s = u32_of o (drop 4 s)

-- "a 16-bit entry count"
unfoldable pub entry_count : ByteOrder → List ℕ → ℕ
entry_count o s = u16_of o (drop (offset_of o s) s)

-- "then 12 bytes each", all inside the block; "The link after them is not read"
unfoldable pub directory_of : ByteOrder → List ℕ → Option Ifd
directory_of o s =
    cond (leb (offset_of o s + 2 + 12 * entry_count o s) (length s))
    (Some (record { first = offset_of o s + 2; count = entry_count o s }))
    None

-- "Bytes 0 to 3 are `II*` and a zero byte (little-endian) or `MM`, a zero byte and `*` (big)."
abbrev pub little_mark : List ℕ
little_mark = 73 ∷ 73 ∷ 42 ∷ 0 ∷ []

abbrev pub big_mark : List ℕ
big_mark = 77 ∷ 77 ∷ 0 ∷ 42 ∷ []

-- a block of the byte order is readable where its directory lies inside; "directory past the end": 1
abbrev pub by_directory : ByteOrder → Option Ifd → Outcome ByteOrder
by_directory o (Some d) = accepted o
by_directory o None = refused 1

unfoldable pub in_order : ByteOrder → List ℕ → Outcome ByteOrder
in_order o s = by_directory o (directory_of o s)

-- "bad header": 1
unfoldable pub by_mark : List ℕ → Outcome ByteOrder
by_mark s =
    cond (same (take 4 s) little_mark) (in_order Little s)
    (cond (same (take 4 s) big_mark) (in_order Big s)
    (refused 1))

-- "block under 8 or over 1,048,576 bytes": 1
unfoldable pub block_of : List ℕ → Outcome ByteOrder
block_of s = cond (leb 8 (length s) && leb (length s) 1048576) (by_mark s) (refused 1)

-- what the code's answer means in 01's numbers
abbrev pub block_means : Option ByteOrder → Outcome ByteOrder
block_means None = refused 1
block_means (Some o) = accepted o

-- "Types 1 to 13 have sizes 1,1,2,4,8,1,1,2,4,8,4,8,4"; any other has size 0
abbrev pub sizes : List ℕ
sizes = 0 ∷ 1 ∷ 1 ∷ 2 ∷ 4 ∷ 8 ∷ 1 ∷ 1 ∷ 2 ∷ 4 ∷ 8 ∷ 4 ∷ 8 ∷ 4 ∷ []

unfoldable pub size_of : ℕ → ℕ
size_of t = get_or sizes t 0

-- an entry's "tag, type (16 bits), count (32), field (4 bytes)", where its 12 bytes start at `at`
abbrev pub tag_at : ByteOrder → List ℕ → ℕ → ℕ
tag_at o s at = u16_of o (drop at s)

abbrev pub type_at : ByteOrder → List ℕ → ℕ → ℕ
type_at o s at = u16_of o (drop (at + 2) s)

abbrev pub count_at : ByteOrder → List ℕ → ℕ → ℕ
count_at o s at = u32_of o (drop (at + 4) s)

abbrev pub offset_at : ByteOrder → List ℕ → ℕ → ℕ
offset_at o s at = u32_of o (drop (at + 8) s)

-- an entry of a type with so many values, which lie in a part of the block
abbrev pub present : ℕ → ℕ → ℕ → ℕ → Entry
present t n start len = record { typ = t; value = Some (record { count = n; start = start; len = len }) }

abbrev pub damaged : ℕ → Entry
damaged t = record { typ = t; value = None }

-- "Up to 4 bytes lie at the front of the field, longer values at the offset it holds."
-- "Beyond the block's end it is damaged"
abbrev pub entry_with : List ℕ → ℕ → ℕ → ℕ → ℕ → ℕ → Entry
entry_with s t n len field offset =
    cond (leb len 4) (present t n field len)
    (cond (leb (offset + len) (length s)) (present t n offset len)
    (damaged t))

-- "Length is count × size."
unfoldable pub entry_of : ByteOrder → List ℕ → ℕ → Entry
entry_of o s at =
    entry_with s (type_at o s at) (count_at o s at) (count_at o s at * size_of (type_at o s at)) (at + 8) (offset_at o s at)

-- an entry is kept if its type is one of the 13, damaged or not: "other types are passed over"
abbrev pub is_kept_at : ByteOrder → List ℕ → ℕ → Bool
is_kept_at o s at = ltb 0 (size_of (type_at o s at))

-- a kept entry with the tag
unfoldable pub has_tag : ByteOrder → List ℕ → ℕ → ℕ → Bool
has_tag o s tag at = eqb (tag_at o s at) tag && is_kept_at o s at

-- "The first kept entry with a tag counts, even if its type is wrong": of n entries from `at`
unfoldable pub first_of : ByteOrder → List ℕ → ℕ → ℕ → ℕ → Option Entry
first_of o s tag at zero = None
first_of o s tag at (suc n) = cond (has_tag o s tag at) (Some (entry_of o s at)) (first_of o s tag (at + 12) n)

abbrev pub in_directory : ByteOrder → List ℕ → ℕ → Option Ifd → Option Entry
in_directory o s tag (Some d) = first_of o s tag d.first d.count
in_directory o s tag None = None

-- of all entries of the block
unfoldable pub find_of : ByteOrder → List ℕ → ℕ → Option Entry
find_of o s tag = in_directory o s tag (directory_of o s)

-- whether there is a kept entry, damaged or not
abbrev pub is_kept : Option Entry → Bool
is_kept (Some e) = true
is_kept None = false

-- an entry's type, damaged or not; 0 where there is none
abbrev pub type_of : Option Entry → ℕ
type_of (Some e) = e.typ
type_of None = 0

-- the value of an entry that has one
abbrev pub value_in : Option Entry → Option Value
value_in (Some e) = e.value
value_in None = None

-- how many values an entry has: "damaged, which counts as no value"
abbrev pub values_count : Option Value → ℕ
values_count (Some v) = v.count
values_count None = 0

abbrev pub count_of : Option Entry → ℕ
count_of f = values_count (value_in f)

-- "A value is handed back as that part of the lent block"
abbrev pub part_of : List ℕ → Option Value → List ℕ
part_of s (Some v) = take v.len (drop v.start s)
part_of s None = []

abbrev pub value_of : List ℕ → Option Entry → List ℕ
value_of s f = part_of s (value_in f)
