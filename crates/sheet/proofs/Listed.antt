-- The listing, one point of the load at a time: its 39 places, and the primary's place and index, as the loop of `present` finds them.
-- From index 0 on it is the listing of the definitions. Assumes nothing.
use Prim.Native.Nat.{ℕ, zero, suc, ◌+◌, ◌<◌, ◌≤◌}
use mathlib.Core.Bool.{Bool, true, false, cond}
use mathlib.Core.List.{List, [], ◌∷◌, ◌++◌, append-nil}
use mathlib.Core.Path.{◌≡◌, refl, ap, ◌∙◌}
use lib.Dec.{leb}
use lib.ListN.{length, set, length-append}
use borrow.Author.Tests.{le-leb, lt-leb}
use native.Mathlib.Omega.{arith}
use native.Mathlib.Numerals.{add-one}
use Rattle.placing.specs.declared.focus.FocusPoint.{FocusPoint}
use Rattle.placing.specs.Laid.{places}
use Rattle.sheet.specs.declared.edits.Carried.{Carried}
use Rattle.sheet.specs.declared.Sheet.{Sheet}
use Rattle.sheet.specs.declared.Present.{Present}
use Rattle.sheet.specs.Sheet.{load_on, placed_at}
use Rattle.sheet.specs.Lists.{if_carried, listed_to}
use Rattle.sheet.specs.Inside.{listed_between, present_of}
use Rattle.sheet.proofs.Walked.{reached, as_placed}
use Rattle.placing.proofs.Places.{set_places}

one_at_most : (b : Bool) (q : Carried) → length (cond b (if_carried q) []) ≤ 1
one_at_most b q = by b q.listed
  where
    by : (b l : Bool) → length (cond b (cond l (q.point ∷ []) []) []) ≤ 1
    by true true = omega arith
    by true false = omega arith
    by false l = omega arith

-- from index 0 on none is left out
pub from_the_first : (s : Sheet) (i : ℕ) → listed_between s 0 i ≡ listed_to s i
unfolding listed_between listed_to
from_the_first s zero = refl
from_the_first s (suc i) = rw (le-leb 0 i (omega arith), from_the_first s i)

module _ (s : Sheet) (a : ℕ) where
  -- no more are listed than there are
  between_length : (i : ℕ) → length (listed_between s a i) ≤ i
  unfolding listed_between
  between_length zero = omega arith
  between_length (suc i) =
      rw length-append (omega (arith, between_length i, one_at_most (leb a i) (placed_at s i)))

  -- before index a there is none
  none_before : (i : ℕ) → i ≤ a → listed_between s a i ≡ []
  unfolding listed_between
  none_before zero h = refl
  none_before (suc i) h = rw (none_before i (omega arith), lt-leb a i (omega arith))

  listed_more : (i : ℕ) → a ≤ i → listed_between s a (i + 1) ≡ listed_between s a i ++ if_carried (placed_at s i)
  unfolding listed_between
  listed_more i h = rw (add-one i, le-leb a i h)

  -- a count and 39 places that hold the listed points from index a up to i
  abbrev pub Row : ℕ → ℕ → List FocusPoint → Type 0
  Row i n ps = (n ≡ length (listed_between s a i)) × (ps ≡ places (listed_between s a i))

  pub empty_row : (ps : List FocusPoint) → ps ≡ places [] → Row a 0 ps
  empty_row ps e = let z = none_before a (omega arith) in rw z (refl, e)

  module _ (i n : ℕ) (ps : List FocusPoint) (hi : i < 39) (r : Row i n ps) where
    pub place_left : n < 39
    place_left = omega (arith, r.0, between_length i)

    module _ (ha : a ≤ i) (q : Carried) (l : s.row.count ≤ 64) (e : q ≡ reached s i) (m : ℕ) (qs : List FocusPoint) where
      pub one_in : q.listed ≡ true → m ≡ n + 1 → qs ≡ set ps n q.point → Row (i + 1) m qs
      one_in t em eq =
          let b = place_left in
          let g : listed_between s a (i + 1) ≡ listed_between s a i ++ q.point ∷ [] = listed_more i ha ∙ rw (← as_placed s i q l e, t) in
          rw g (em ∙ rw (length-append, r.0), eq ∙ rw (r.1, r.0) (set_places (listed_between s a i) q.point (omega (arith, r.0))))

      pub none_in : q.listed ≡ false → m ≡ n → qs ≡ ps → Row (i + 1) m qs
      none_in t em eq =
          let g : listed_between s a (i + 1) ≡ listed_between s a i =
          listed_more i ha ∙ rw (← as_placed s i q l e, t) (append-nil (listed_between s a i)) in
          rw g (em ∙ r.0, eq ∙ r.1)

  -- once the primary has been seen, its place and its index are known
  abbrev pub Seen : ℕ → Carried → ℕ → Type 0
  Seen i q k = (load_on s).primary < i → (q ≡ placed_at s (load_on s).primary) × (k ≡ length (listed_between s a (load_on s).primary))

  module _ (i : ℕ) (q : Carried) (k : ℕ) where
    pub seen_now : (n : ℕ) → n ≡ length (listed_between s a i) → i ≡ (load_on s).primary → (p : Carried) → s.row.count ≤ 64 → p ≡ reached s i → q ≡ p → k ≡ n
        → Seen (i + 1) q k
    seen_now n en h p l e eq ek g = (
      eq ∙ as_placed s i p l e ∙ ap (placed_at s) h,
      ek ∙ en ∙ ap (λ (j : ℕ). length (listed_between s a j)) h,
    )

    pub seen_before : (i ≡ (load_on s).primary → ⊥) → (q₀ : Carried) (k₀ : ℕ) → Seen i q₀ k₀ → q ≡ q₀ → k ≡ k₀ → Seen (i + 1) q k
    seen_before h q₀ k₀ g eq ek l = let z = g (omega arith) in (eq ∙ z.0, ek ∙ z.1)

  pub all_seen : (b i n k : ℕ) (q : Carried) (ps : List FocusPoint) → i ≤ b → b ≤ i → (load_on s).primary < b → Row i n ps → Seen i q k
      → ◌≡◌ {A = Present} (record { primary = q; points = ps; count = n; index = k }) (present_of s a b)
  unfolding present_of
  all_seen b i n k q ps h₁ h₂ h r g =
      let e : i ≡ b = omega arith in
      let z = g (omega arith) in
      rw (r.0, r.1, z.0, z.1, e)

-- no more are listed than there are, in the definitions' words
pub listed_length : (s : Sheet) (i : ℕ) → length (listed_to s i) ≤ i
listed_length s i = rw (← from_the_first s i) (between_length s 0 i)
