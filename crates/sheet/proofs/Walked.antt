-- A walk from the first edit to the last comes to what placed says; number and in-focus stay, and the frame is the same for every point.
-- And what `walk` and `place_after` ensure. The idea: a walk from where i edits place the point ends where the last of its edits places it,
-- by the number of edits that are left; what one edit leaves as it is, any number of them does. Assumes nothing.
use Prim.Native.Nat.{ℕ, zero, suc, ◌+◌, ◌-◌, ◌≤◌, min}
use mathlib.Core.Bool.{Bool}
use mathlib.Core.List.{List}
use mathlib.Core.Path.{◌≡◌, refl, sym, ap, ap₂, ◌∙◌}
use lib.ListN.{get_or}
use native.Mathlib.Nat.{add-zero, zero-add, min-eq_left}
use native.Mathlib.Numerals.{add-one, sub-one}
use native.Mathlib.Omega.{arith}
use Rattle.reading.specs.declared.focus.InFocus.{InFocus}
use Rattle.reading.specs.declared.geometry.Point.{Point}
use Rattle.reading.specs.declared.geometry.Size.{Size}
use Rattle.placing.specs.declared.focus.FocusPoint.{FocusPoint}
use Rattle.placing.specs.Load.{no_point}
use Rattle.sheet.specs.declared.edits.Edit.{Edit}
use Rattle.sheet.specs.declared.edits.Edit.TheVariants.{Orient, Cut}
use Rattle.sheet.specs.declared.edits.Carried.{Carried}
use Rattle.sheet.specs.declared.Sheet.{Sheet}
use Rattle.placing.specs.declared.focus.Framed.{Framed}
use Rattle.sheet.specs.declared.orientation.Orientation.{Orientation}
use Rattle.sheet.specs.declared.orientation.Orientation.TheVariants.{Normal, FlipHorizontal, Rotate180, FlipVertical, Transpose, Rotate90, Transverse, Rotate270}
use Rattle.sheet.specs.Orientation.{framed, steps_of, turned_by, oriented_by}
use Rattle.sheet.specs.Place.{cut_point, moved, edit_at, walked, placed}
use Rattle.sheet.specs.WalkLaws.{FromTheFront, WalkedOn, OneFrame, NumberAndFocusKept}
use Rattle.sheet.specs.Sheet.{load_on, placed_at}
use Rattle.sheet.specs.Inside.{carried_by}

-- ---- from the front
pub walked_on : WalkedOn
unfolding walked placed
walked_on f p es i zero = rw (add-zero i)
walked_on f p es i (suc n) =
    let e : suc i + n ≡ i + suc n = omega arith in
    rw (← e) (walked_on f p es (suc i) n)

pub from_the_front : FromTheFront
from_the_front f p es n = walked_on f p es 0 n ∙ ap (placed f p es) (zero-add n)

-- ---- what an edit leaves as it is, and what the frame goes by
abbrev Alike : FocusPoint → FocusPoint → Type 0
Alike p q = (p.number ≡ q.number) × (p.in_focus ≡ q.in_focus)

-- of an orientation, each of the eight computed: another point p in the same frame comes to the same frame
oriented_keeps : (o : Orientation) (q : Framed) (p : FocusPoint)
    → Alike (oriented_by o q).point q.point × ((oriented_by o q).frame ≡ (oriented_by o (framed q.frame p)).frame)
unfolding turned_by steps_of oriented_by
oriented_keeps Normal q p = ((refl, refl), refl)
oriented_keeps FlipHorizontal q p = ((refl, refl), refl)
oriented_keeps Rotate180 q p = ((refl, refl), refl)
oriented_keeps FlipVertical q p = ((refl, refl), refl)
oriented_keeps Transpose q p = ((refl, refl), refl)
oriented_keeps Rotate90 q p = ((refl, refl), refl)
oriented_keeps Transverse q p = ((refl, refl), refl)
oriented_keeps Rotate270 q p = ((refl, refl), refl)

moved_keeps : (e : Edit) (q : Carried) → Alike (moved e q).point q.point
unfolding moved cut_point
moved_keeps (Cut to) q = (refl, refl)
moved_keeps (Orient o) q = (oriented_keeps o (framed q.frame q.point) q.point).0

moved_frame : (e : Edit) (q r : Carried) → q.frame ≡ r.frame → (moved e q).frame ≡ (moved e r).frame
unfolding moved cut_point
moved_frame (Cut to) q r e = refl
moved_frame (Orient o) q r e =
    (oriented_keeps o (framed q.frame q.point) r.point).1
    ∙ ap (λ (f : Size). (oriented_by o (framed f r.point)).frame) e

pub number_and_focus_kept : NumberAndFocusKept
unfolding placed
number_and_focus_kept f p es zero = (refl, refl)
number_and_focus_kept f p es (suc n) =
    let m = moved_keeps (edit_at es n) (placed f p es n) in
    let k = number_and_focus_kept f p es n in
    (m.0 ∙ k.0, m.1 ∙ k.1)

pub one_frame : OneFrame
unfolding placed
one_frame f p q es zero = refl
one_frame f p q es (suc n) = moved_frame (edit_at es n) (placed f p es n) (placed f q es n) (one_frame f p q es n)

-- ---- what the code ensures
-- an edit's place with the number and the in-focus of before: nothing else has to be carried along
moved_parts : (e : Edit) (q : Carried)
    → carried_by (moved e q).listed q.point.number (moved e q).point.center (moved e q).point.size q.point.in_focus
    (moved e q).frame
    ≡ moved e q
moved_parts e q =
    let r = moved e q in
    let k = moved_keeps e q in
    sym (ap₂ (λ (n : ℕ) (g : InFocus). carried_by r.listed n r.point.center r.point.size g r.frame) k.0 k.1)

-- `walk`, where no edit is left and where one is
module _ (es : List Edit) (i : ℕ) (b : Bool) (k : ℕ) (c : Point) (a : Size) (g : InFocus) (f : Size) where
  pub walk_ends : (n : ℕ) → n ≡ 0 → (p : Carried) → p ≡ carried_by b k c a g f → p ≡ walked es i n (carried_by b k c a g f)
  unfolding walked
  walk_ends n e p v = rw e v

  pub walk_goes_on : (n : ℕ) → (n ≡ 0 → ⊥) → (p : Carried) → p ≡ carried_by b k c a g f
      → (q : Carried) → q ≡ moved (edit_at es i) p
      → (r : Carried) → r ≡ walked es (i + 1) (n - 1) (carried_by q.listed k q.point.center q.point.size g q.frame)
      → r ≡ walked es i n (carried_by b k c a g f)
  unfolding walked
  walk_goes_on zero z p v q m r h = absurd (z refl)
  walk_goes_on (suc n) z p v q m r h =
      let s : carried_by q.listed k q.point.center q.point.size g q.frame ≡ moved (edit_at es i) (carried_by b k c a g f) =
      rw (m, v) (moved_parts (edit_at es i) (carried_by b k c a g f)) in
      h ∙ rw (s, add-one i, sub-one (suc n))

-- what `place_after` ensures of a sheet's point: where 64 edits stand at the most, the point's place
abbrev pub reached : Sheet → ℕ → Carried
reached s i = placed (load_on s).frame (get_or (load_on s).points i no_point) s.row.edits (min s.row.count 64)

pub as_placed : (s : Sheet) (i : ℕ) (q : Carried) → s.row.count ≤ 64 → q ≡ reached s i → q ≡ placed_at s i
unfolding placed_at
as_placed s i q l e = e ∙ ap (placed (load_on s).frame (get_or (load_on s).points i no_point) s.row.edits) (min-eq_left l)
