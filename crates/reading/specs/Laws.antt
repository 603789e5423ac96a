-- What follows of every block's contents, in a reader's words. proofs/Laws.antt proves each.
use Rattle.std.specs.Prelude.{ℕ, zero, suc, ◌+◌, ◌≤◌, ◌<◌, ◌≡◌, cond, ◌&&◌, List, [], ◌∷◌, length, get_or, eqb, Option, Some, None}
use Rattle.reading.specs.Block.{directory_of, has_tag, find_of, is_kept}
use Rattle.reading.specs.Contents.{is_among, four_tags, tags_of}
use Rattle.numbers.specs.declared.io.ByteOrder.{ByteOrder}
use Rattle.reading.specs.declared.ifd.Ifd.{Ifd}

-- ---- "which of the four tags have a kept entry, each once"
-- how many places of a list a number has
unfoldable pub places_of : ℕ → List ℕ → ℕ
places_of t [] = 0
places_of t (x ∷ xs) = cond (eqb x t) 1 0 + places_of t xs

-- each of the four tags with a kept entry has one place in a list, and no other number has any
abbrev pub EachOnce : ByteOrder → List ℕ → List ℕ → Type 0
EachOnce o s ts = (t : ℕ) → places_of t ts ≡ cond (is_among t four_tags && is_kept (find_of o s t)) 1 0

-- ---- "in the order of their first kept entries in the directory"
-- how many of n entries from `at` stand before the first kept one of a tag; all n where it has none
unfoldable pub entries_before : ByteOrder → List ℕ → ℕ → ℕ → ℕ → ℕ
entries_before o s tag at zero = 0
entries_before o s tag at (suc n) = cond (has_tag o s tag at) 0 (suc (entries_before o s tag (at + 12) n))

abbrev pub before_in : ByteOrder → List ℕ → ℕ → Option Ifd → ℕ
before_in o s tag (Some d) = entries_before o s tag d.first d.count
before_in o s tag None = 0

-- how many entries of the block do
unfoldable pub before_first : ByteOrder → List ℕ → ℕ → ℕ
before_first o s tag = before_in o s tag (directory_of o s)

-- of two tags in a list the one that comes first has its first kept entry further in front
abbrev pub InDirectoryOrder : ByteOrder → List ℕ → List ℕ → Type 0
InDirectoryOrder o s ts =
    (i j : ℕ) → i < j → j < length ts → before_first o s (get_or ts i 0) < before_first o s (get_or ts j 0)

-- ---- of every block
-- the tags that contents gives are so
abbrev pub ContentsAreSo : Type 0
ContentsAreSo = (o : ByteOrder) (s : List ℕ) → EachOnce o s (tags_of o s) × InDirectoryOrder o s (tags_of o s)

-- and no other list is: the two sentences leave nothing open
abbrev pub NoOtherList : Type 0
NoOtherList = (o : ByteOrder) (s ts : List ℕ) → EachOnce o s ts → InDirectoryOrder o s ts → ts ≡ tags_of o s

-- four places are enough
abbrev pub FourAtMost : Type 0
FourAtMost = (o : ByteOrder) (s : List ℕ) → length (tags_of o s) ≤ 4
