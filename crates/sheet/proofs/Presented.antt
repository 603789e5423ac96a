-- What `present` ensures, taken apart: the count, the test for room, the head of an answer and the listed points. Assumes nothing.
use Prim.Native.Nat.{ℕ, ◌*◌, ◌≤◌}
use mathlib.Core.Bool.{Bool, true, false, cond}
use mathlib.Core.List.{List}
use mathlib.Core.Path.{◌≡◌, refl, ap, ap₂, ◌∙◌}
use lib.Dec.{leb, ltb}
use lib.ListN.{length, take}
use native.Mathlib.Omega.{arith}
use borrow.Author.Tests.{ltb-true, ltb-false, le-leb, lt-leb}
use Rattle.reading.specs.declared.geometry.Size.{Size}
use Rattle.sheet.specs.declared.edits.Carried.{Carried}
use Rattle.sheet.specs.declared.Sheet.{Sheet}
use Rattle.sheet.specs.declared.Present.{Present}
use Rattle.sheet.specs.Sheet.{load_on, placed_at, present_frame}
use Rattle.sheet.specs.Lists.{listing, list_count, list_index, is_short, head_in}
use Rattle.reading.specs.Outcome.{refused, accepted}
use Rattle.placing.specs.declared.focus.FocusPoint.{FocusPoint}
use Rattle.sheet.specs.Head.{head_of}
use Rattle.sheet.specs.Listing.{flat, over, has_room, with_points}
use Rattle.sheet.specs.Inside.{listed_between, present_of, head_by, written_outcome}
use Rattle.sheet.proofs.Usable.{Counts}
use Rattle.placing.proofs.Places.{take_places}
use Rattle.sheet.proofs.Listed.{from_the_first, listed_length}

-- of any points
module _ (s : Sheet) (a b : ℕ) (v : Present) (e : v ≡ present_of s a b) where
  pub primary_of_lem : v.primary ≡ placed_at s (load_on s).primary
  unfolding present_of
  primary_of_lem = ap (λ (x : Present). x.primary) e

  pub frame_of : v.primary.frame ≡ present_frame s
  unfolding present_frame
  frame_of = ap (λ (x : Carried). x.frame) primary_of_lem

-- of all points
module _ (s : Sheet) (v : Present) (e : v ≡ present_of s 0 (load_on s).count) where
  pub count_of_lem : v.count ≡ list_count s
  unfolding present_of list_count listing
  count_of_lem = ap (λ (x : Present). x.count) e ∙ ap length (from_the_first s (load_on s).count)

  index_of_lem : v.index ≡ list_index s
  unfolding present_of list_index
  index_of_lem = ap (λ (x : Present). x.index) e ∙ ap length (from_the_first s (load_on s).primary)

  pub points_of : take v.count v.points ≡ listing s
  unfolding present_of listing
  points_of =
      ap (λ (x : Present). take x.count x.points) e ∙ take_places (listed_between s 0 (load_on s).count) ∙ from_the_first s (load_on s).count

  pub count_room : Counts s → v.count ≤ 39
  unfolding list_count listing
  count_room c = omega (arith, count_of_lem, listed_length s (load_on s).count)

  pub index_room : Counts s → v.index ≤ 39
  unfolding list_index
  index_room c = omega (arith, index_of_lem, listed_length s (load_on s).primary, c.points, c.primary)

  head_is : (f : Size) → head_by (load_on s) f v.count v.index ≡ head_in f s
  unfolding head_in
  head_is f = ap₂ (λ (c i : ℕ). head_of f c i (load_on s).area_mode (load_on s).origin) count_of_lem index_of_lem

  -- a listing that is written in the frame f: 13, or the head, and the listed points in the buffer
  module _ (c : Counts s) where
    by_room : {A : Type 0} (m : ℕ) (x y : A) → cond (has_room v.count m) x y ≡ cond (is_short s m) y x
    unfolding has_room is_short
    by_room {A} m x y =
        let k = 6 * v.count in
        rw (le-leb v.count 39 (count_room c), ← count_of_lem) (by (ltb m k) refl)
      where
        by : (t : Bool) → ltb m (6 * v.count) ≡ t → cond {A = A} (leb (6 * v.count) m) x y ≡ cond t y x
        by true e = rw (lt-leb (6 * v.count) m (ltb-true m (6 * v.count) e))
        by false e = rw (le-leb (6 * v.count) m (ltb-false m (6 * v.count) e))

    pub outcome_is : (f : Size) (m : ℕ)
        → written_outcome (load_on s) f v.count v.index m ≡ cond (is_short s m) (refused 13) (accepted (head_in f s))
    outcome_is f m =
        by_room m (accepted (head_by (load_on s) f v.count v.index)) (refused 13)
        ∙ ap (λ (l : List ℕ). cond (is_short s m) (refused 13) (accepted l)) (head_is f)

    pub buffer_is : (qs ps : List FocusPoint) → take v.count qs ≡ ps → (b : List ℕ)
        → with_points qs v.count b ≡ cond (is_short s (length b)) b (over (flat ps) b)
    unfolding with_points
    buffer_is qs ps e b = rw (← e) (by_room (length b) (over (flat (take v.count qs)) b) b)
