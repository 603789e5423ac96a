-- What a caller of `nikon::contents` reads off its value: refused by 1, or accepted with the tags that are listed, four at the most.
-- By cases on what contents comes to. Assumes nothing.
use Rattle.std.specs.Prelude.{Some, None}
use Prim.Native.Nat.{ℕ, ◌≤◌}
use mathlib.Core.Bool.{false≢true}
use mathlib.Core.List.{List}
use mathlib.Core.Path.{◌≡◌, sym, ap}
use lib.ListN.{length}
use Rattle.reading.specs.Outcome.{Outcome, refused, accepted, is_accepted, number_of, and_then}
use Rattle.reading.specs.Block.{block_of}
use Rattle.reading.specs.Contents.{tags_of, contents_of, tag_list, laid_tags, contents_means}
use Rattle.reading.proofs.Laws.{four_at_most}
use Rattle.numbers.specs.declared.io.ByteOrder.{ByteOrder}
use Rattle.reading.specs.declared.ifd.TagList.{TagList}

-- ---- four tags at the most, where there are any
abbrev pub FourIn : Outcome (List ℕ) → Type 0
FourIn (refused n) = Unit {0}
FourIn (accepted ts) = length ts ≤ 4

four_of : (s : List ℕ) (b : Outcome ByteOrder) → FourIn (and_then b (λ o. accepted (tags_of o s)))
four_of s (refused n) = tt
four_of s (accepted o) = four_at_most o s

pub four_in : (s : List ℕ) → FourIn (contents_of s)
unfolding contents_of
four_in s = four_of s (block_of s)

-- ---- what a caller reads off the code's value
-- where there is none, contents are refused by 1
pub unreadable_is : (P : Outcome (List ℕ) → Type 0) → P (refused 1) → (x : Outcome (List ℕ)) → contents_means None ≡ laid_tags x → P x
unfolding laid_tags
unreadable_is P p (refused n) e = let f : 1 ≡ n = ap number_of e in rw (← f) p
unreadable_is P p (accepted ts) e = absurd (false≢true (ap is_accepted e))

-- where there are some, they are the tags that are listed
listed : Outcome TagList → TagList → TagList
listed (refused n) l = l
listed (accepted m) l = m

pub tags_are : (l : TagList) (P : Outcome (List ℕ) → Type 0) → ((ts : List ℕ) → l ≡ tag_list ts → P (accepted ts))
    → (x : Outcome (List ℕ)) → contents_means (Some l) ≡ laid_tags x → P x
unfolding laid_tags listed
tags_are l P p (refused n) e = absurd (false≢true (sym (ap is_accepted e)))
tags_are l P p (accepted ts) e = p ts (ap (λ y. listed y l) e)

-- and four at the most
pub few_listed : (l : TagList) (x : Outcome (List ℕ)) → FourIn x → contents_means (Some l) ≡ laid_tags x → l.count ≤ 4
unfolding laid_tags listed
few_listed l (refused n) f e = absurd (false≢true (sym (ap is_accepted e)))
few_listed l (accepted ts) f e = let g : l ≡ tag_list ts = ap (λ y. listed y l) e in rw g f
