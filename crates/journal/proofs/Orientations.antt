-- The laws of orientation calls: a list of them lists like the one call of their product, and each is one edit. The idea: the journal
-- carries a point through orientations as the sheet's definition takes it through them, of which the product is known; a listed
-- point is on the present frame. Assumes nothing.
use Rattle.std.specs.Prelude.{Some, None}
use Prim.Native.Nat.{◌+◌, ◌≤◌, ◌<◌}
use mathlib.Core.Bool.{Bool, true, false}
use mathlib.Core.List.{List, [], ◌∷◌, ◌++◌, map, append_assoc, append-nil}
use mathlib.Core.Path.{◌≡◌, refl, sym, ap, subst, ◌∙◌}
use lib.Dec.{leb}
use lib.ListN.{length, replicate, length-append, length-map}
use native.Mathlib.Omega.{arith}
use borrow.Author.Tests.{le-leb, lt-leb, leb-true, leb-false}
use Rattle.reading.specs.declared.geometry.Size.{Size}
use Rattle.placing.specs.declared.focus.FocusPoint.{FocusPoint}
use Rattle.placing.proofs.Fitting.{fits_on_frame}
use Rattle.placing.specs.Load.{Focus, no_point}
use Rattle.placing.specs.declared.focus.Framed.{Framed}
use Rattle.sheet.specs.declared.orientation.Orientation.{Orientation}
use Rattle.sheet.specs.declared.orientation.Orientation.TheVariants.{Normal, FlipHorizontal, Rotate180, FlipVertical, Transpose, Rotate90, Transverse, Rotate270}
use Rattle.sheet.specs.Orientation.{orientation_number, framed, steps_of, oriented_by}
use Rattle.sheet.specs.OrientationLaws.{OnItsFrame, oriented_by_each, comes_to, product, product_of}
use Rattle.sheet.proofs.Product.{as_the_product}
use Rattle.journal.specs.Journal.{Change, Journal, empty, holds, frame_by, point_by, frame_after, carried, present_frame, Answer, is_outside, change_refusal, journal_change}
use Rattle.journal.specs.Calls.{Call, change, journal_step, journal_after}
use Rattle.journal.specs.Claim.{after}
use Rattle.journal.specs.Laws.{ListAlike, orientation_change, orientation_call, AsOneCall, NothingTogether, FourTurnCalls, TwoMirrorCalls, SixtyFourStand}
use Rattle.journal.proofs.Carry.{frame_append}
use Rattle.journal.proofs.Placed.{oriented_is}
use Rattle.journal.proofs.Answers.{answered, after_append}
use Rattle.journal.proofs.Holds.{right}
use Rattle.journal.proofs.Laws.{CarryAlike, alike, carry_alike, taken}

-- ---- a row of orientations
carried_orients : (os : List Orientation) (g : Size) (p : FocusPoint)
    → carried g (Some p) (map orientation_change os) ≡ Some (oriented_by_each os (framed g p)).point
unfolding carried oriented_by_each
carried_orients [] g p = refl
carried_orients (o ∷ os) g p =
    carried_orients os (frame_by (orientation_change o) g) (point_by (orientation_change o) g p)
    ∙ ap (λ (r : Framed). Some (oriented_by_each os r).point) (sym (oriented_is o g p))

frame_orients : (os : List Orientation) (g : Size) (p : FocusPoint) → frame_after g (map orientation_change os) ≡ (oriented_by_each os (framed g p)).frame
unfolding frame_after oriented_by_each
frame_orients [] g p = refl
frame_orients (o ∷ os) g p =
    frame_orients os (frame_by (orientation_change o) g) (point_by (orientation_change o) g p)
    ∙ ap (λ (r : Framed). (oriented_by_each os r).frame) (sym (oriented_is o g p))

-- two lists with one product
module _ (g : Size) (os others : List Orientation) (e : product_of os ≡ product_of others) where
  same_place_lem : (q : Framed) → OnItsFrame q → oriented_by_each os q ≡ oriented_by_each others q
  same_place_lem q k =
      as_the_product os q k ∙ ap (λ (o : Orientation). oriented_by o q) e ∙ sym (as_the_product others q k)

  points_alike : CarryAlike g (map orientation_change os) (map orientation_change others)
  points_alike p h =
      let k = fits_on_frame g p h in
      carried_orients os g p
      ∙ ap (λ (q : Framed). Some q.point) (same_place_lem (framed g p) (record { across = k.across; down = k.down }))
      ∙ sym (carried_orients others g p)

  -- seen from the corner, which is on every frame
  frame_alike : frame_after g (map orientation_change os) ≡ frame_after g (map orientation_change others)
  frame_alike =
      frame_orients os g no_point
      ∙ ap (λ (q : Framed). q.frame) (same_place_lem (framed g no_point) (record { across = omega arith; down = omega arith }))
      ∙ sym (frame_orients others g no_point)

-- ---- orientation calls, while there is room
inside : (o : Orientation) → is_outside (orientation_number o) ≡ false
unfolding is_outside orientation_number
inside Normal = refl
inside FlipHorizontal = refl
inside Rotate180 = refl
inside FlipVertical = refl
inside Transpose = refl
inside Rotate90 = refl
inside Transverse = refl
inside Rotate270 = refl

orient_taken : (f : Focus) (row : List Change) (o : Orientation) → length row < 64 → change_refusal f row (orientation_change o) ≡ None
unfolding change_refusal
orient_taken f row o r = rw (lt-leb 64 (length row) r, inside o)

all_taken : (f : Focus) (os : List Orientation) (row : List Change) → length row + length os ≤ 64
    → journal_after (holds f row) (map orientation_call os) ≡ holds f (row ++ map orientation_change os)
unfolding journal_after
all_taken f [] row r = ap (holds f) (sym (append-nil row))
all_taken f (o ∷ os) row r =
    ap (λ (a : Answer × Journal). journal_after a.1 (map orientation_call os)) (taken f row (orientation_change o) (orient_taken f row o (omega arith)))
    ∙ all_taken f os (row ++ orientation_change o ∷ []) (rw length-append (omega arith))
    ∙ ap (holds f) (append_assoc row (orientation_change o ∷ []) (map orientation_change os))

after_orients : (calls : List Call) (f : Focus) (row : List Change) (os : List Orientation) → after calls ≡ holds f row
    → length row + length os ≤ 64 → after (calls ++ map orientation_call os) ≡ holds f (row ++ map orientation_change os)
after_orients calls f row os e r = after_append empty calls (map orientation_call os) ∙ rw e (all_taken f os row r)

-- two lists with one product, as calls
list_alike : (calls : List Call) (f : Focus) (row : List Change) (os others : List Orientation) → after calls ≡ holds f row
    → length row + length os ≤ 64 → length row + length others ≤ 64 → product_of os ≡ product_of others
    → ListAlike (calls ++ map orientation_call os) (calls ++ map orientation_call others)
list_alike calls f row os others e r s z =
    let g = present_frame f row in
    alike (calls ++ map orientation_call os) (calls ++ map orientation_call others) f (row ++ map orientation_change os) (row ++ map orientation_change others)
    (after_orients calls f row os e r)
    (after_orients calls f row others e s)
    (right calls f row e).sound
    (frame_append f.frame row (map orientation_change os) ∙ frame_alike g os others z ∙ sym (frame_append f.frame row (map orientation_change others)))
    (carry_alike f row (map orientation_change os) (map orientation_change others) (points_alike g os others z))

-- an orientation alone is its product
alone : (o : Orientation) → product_of (o ∷ []) ≡ o
unfolding steps_of comes_to product product_of
alone Normal = refl
alone FlipHorizontal = refl
alone Rotate180 = refl
alone FlipVertical = refl
alone Transpose = refl
alone Rotate90 = refl
alone Transverse = refl
alone Rotate270 = refl

-- one call more on a full row, which is refused
kept_full : (f : Focus) (row : List Change) (c : Change) → 64 ≤ length row → (journal_step (holds f row) (change c)).1 ≡ holds f row
unfolding journal_step journal_change change_refusal
kept_full f row c l = rw (le-leb 64 (length row) l)

still_full : (calls : List Call) (f : Focus) (row : List Change) (c : Change) → after calls ≡ holds f row → 64 ≤ length row
    → after (calls ++ change c ∷ []) ≡ holds f row
unfolding journal_after
still_full calls f row c e l =
    after_append empty calls (change c ∷ [])
    ∙ ap (λ (j : Journal). journal_after j (change c ∷ [])) e
    ∙ kept_full f row c l

-- an empty list: number 1 lists alike, also where there is no room for it
none_as_one : (calls : List Call) (f : Focus) (row : List Change) → after calls ≡ holds f row → length row ≤ 64
    → ListAlike (calls ++ []) (calls ++ orientation_call (product_of []) ∷ [])
none_as_one calls f row e r = by (leb 64 (length row)) refl
  where
    by : (b : Bool) → leb 64 (length row) ≡ b → ListAlike (calls ++ []) (calls ++ orientation_call (product_of []) ∷ [])
    by true q =
        alike (calls ++ []) (calls ++ orientation_call (product_of []) ∷ []) f row row
        (ap after (append-nil calls) ∙ e)
        (still_full calls f row (orientation_change (product_of [])) e (leb-true 64 (length row) q))
        (right calls f row e).sound refl (λ p h. refl)
    by false q =
        list_alike calls f row [] (product_of [] ∷ []) e (omega arith) (omega (arith, leb-false 64 (length row) q)) (sym (alone (product_of [])))

pub as_one_call : AsOneCall
as_one_call calls f row [] e r = none_as_one calls f row e (omega arith)
as_one_call calls f row (o ∷ os) e r =
    list_alike calls f row (o ∷ os) (product_of (o ∷ os) ∷ []) e r (omega arith) (sym (alone (product_of (o ∷ os))))

pub nothing_together : NothingTogether
unfolding product_of
nothing_together calls f row os e r z =
    subst (ListAlike (calls ++ map orientation_call os)) (append-nil calls) (list_alike calls f row os [] e r (omega arith) z)

pub four_turns : FourTurnCalls
unfolding orientation_number steps_of comes_to product product_of
four_turns calls f row e r = nothing_together calls f row (replicate 4 Rotate90) e r refl

pub two_mirrors : TwoMirrorCalls
unfolding orientation_number steps_of comes_to product product_of
two_mirrors calls f row e r = nothing_together calls f row (replicate 2 FlipHorizontal) e r refl

pub sixty_four_stand : SixtyFourStand
unfolding journal_step journal_change change_refusal
sixty_four_stand calls f os e n =
    let k = after_orients calls f [] os e (omega arith) in
    let l : 64 ≤ length (map orientation_change os) = omega (arith, length-map os orientation_change) in
    (k, λ c. answered (calls ++ map orientation_call os) (holds f (map orientation_change os)) (change c) k ∙ rw (le-leb 64 (length (map orientation_change os)) l))
