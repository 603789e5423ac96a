-- 01: "Contents gives which of the four tags have a kept entry, each once, .., unused places 0." 02, 2026-01: "Tags now come in the order of
-- their first kept entries in the directory. This replaces 01's open order; unused places are still 0 and stand last."
use Rattle.std.specs.Prelude.{ℕ, zero, suc, ◌+◌, ◌-◌, Bool, false, cond, ◌||◌, List, [], ◌∷◌, ◌++◌, length, replicate, eqb, Option, Some, None}
use Rattle.reading.specs.Outcome.{Outcome, refused, accepted, and_then}
use Rattle.reading.specs.Block.{block_of, directory_of, tag_at, is_kept_at}
use Rattle.numbers.specs.declared.io.ByteOrder.{ByteOrder}
use Rattle.reading.specs.declared.ifd.Ifd.{Ifd}
use Rattle.reading.specs.declared.ifd.TagList.{TagList}

-- the tags of the kept entries, damaged or not, in the directory's order: of n entries from `at`
unfoldable pub kept_from : ByteOrder → List ℕ → ℕ → ℕ → List ℕ
kept_from o s at zero = []
kept_from o s at (suc n) = cond (is_kept_at o s at) (tag_at o s at ∷ kept_from o s (at + 12) n) (kept_from o s (at + 12) n)

abbrev pub kept_in : ByteOrder → List ℕ → Option Ifd → List ℕ
kept_in o s (Some d) = kept_from o s d.first d.count
kept_in o s None = []

-- of all entries of the block
unfoldable pub kept_tags : ByteOrder → List ℕ → List ℕ
kept_tags o s = kept_in o s (directory_of o s)

-- whether a tag stands in a list
unfoldable pub is_among : ℕ → List ℕ → Bool
is_among t [] = false
is_among t (x ∷ xs) = eqb x t || is_among t xs

-- a list without a tag
unfoldable pub without : ℕ → List ℕ → List ℕ
without t [] = []
without t (x ∷ xs) = cond (eqb x t) (without t xs) (x ∷ without t xs)

-- those of `wanted` that stand in a list, in the order in which each first stands there: once it is met, a tag is wanted no more
unfoldable pub first_each : List ℕ → List ℕ → List ℕ
first_each wanted [] = []
first_each wanted (t ∷ ts) = cond (is_among t wanted) (t ∷ first_each (without t wanted) ts) (first_each wanted ts)

-- 0007, 001B, 0045, 00B7 (hexadecimal); the order in which they stand here says nothing
abbrev pub four_tags : List ℕ
four_tags = 7 ∷ 27 ∷ 69 ∷ 183 ∷ []

-- "which of the four tags have a kept entry, each once", "in the order of their first kept entries in the directory"
unfoldable pub tags_of : ByteOrder → List ℕ → List ℕ
tags_of o s = first_each four_tags (kept_tags o s)

-- a block that cannot be read: 1
unfoldable pub contents_of : List ℕ → Outcome (List ℕ)
contents_of s = and_then (block_of s) (λ o. accepted (tags_of o s))

-- ---- how the code lays it out
-- "unused places are still 0 and stand last": how many tags there are, and four places
abbrev pub tag_list : List ℕ → TagList
tag_list ts = record { count = length ts; tags = ts ++ replicate (4 - length ts) 0 }

-- refused by 01's number; or accepted, with the tags
unfoldable pub laid_tags : Outcome (List ℕ) → Outcome TagList
laid_tags (refused n) = refused n
laid_tags (accepted ts) = accepted (tag_list ts)

-- what the code's value means: refused by 01's number where there is none, or accepted
abbrev pub contents_means : Option TagList → Outcome TagList
contents_means None = refused 1
contents_means (Some l) = accepted l
