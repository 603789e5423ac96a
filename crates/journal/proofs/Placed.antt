-- The sheet's placing, by the count of edits, is the journal's carrying through the row: for one edit by cases, for n edits by
-- induction with the laws of one edit more; then the listing, point by point. Assumes nothing.
use Rattle.std.specs.Prelude.{Option, Some, None}
use Prim.Native.Nat.{ℕ, zero, suc, ◌≤◌}
use mathlib.Core.Bool.{Bool, true, false, cond}
use mathlib.Core.List.{List, [], ◌∷◌, ◌++◌}
use mathlib.Core.Path.{◌≡◌, refl, sym, ap, ap₂, ◌∙◌}
use lib.ListN.{get_or, length, take, set, length-append}
use lib.Seq.{take-suc, get_or-set_other}
use native.Mathlib.Omega.{arith}
use Rattle.reading.specs.declared.geometry.Size.{Size}
use Rattle.placing.specs.declared.focus.FocusPoint.{FocusPoint}
use Rattle.placing.specs.Load.{no_point}
use Rattle.sheet.specs.declared.edits.Edit.{Edit}
use Rattle.sheet.specs.declared.edits.Edit.TheVariants.{Cut, Orient}
use Rattle.sheet.specs.declared.edits.Carried.{Carried}
use Rattle.placing.specs.declared.focus.Framed.{Framed}
use Rattle.sheet.specs.declared.orientation.Orientation.{Orientation}
use Rattle.sheet.specs.declared.orientation.Orientation.TheVariants.{Normal, FlipHorizontal, Rotate180, FlipVertical, Transpose, Rotate90, Transverse, Rotate270}
use Rattle.sheet.specs.declared.Sheet.{Sheet}
use Rattle.sheet.specs.Place.{blank_edit, edit_at, stays_on, cut_point, moved, placed}
use Rattle.sheet.specs.Orientation.{orientation_number, framed, turned_by, steps_of, oriented_by}
use Rattle.sheet.specs.Sheet.{load_on, placed_at}
use Rattle.sheet.specs.Lists.{if_carried, listed_to}
use Rattle.sheet.specs.Listing.{six, flat}
use Rattle.journal.specs.Journal.{Change, cut, orient, frame_through, point_through, numbered_steps, frame_by, point_by, moved_by, frame_after, carried, if_listed, listed, numbers}
use Rattle.journal.proofs.Carry.{frame_snoc, carried_snoc, listed_snoc}

-- ---- one edit
abbrev pub change_of : Edit → Change
change_of (Cut r) = cut r.left r.top r.width r.height
change_of (Orient o) = orient (orientation_number o)

abbrev pub point_of : Carried → Option FocusPoint
point_of q = cond q.listed (Some q.point) None

-- an orientation, as the sheet and as the journal take its steps
pub oriented_is : (o : Orientation) (f : Size) (p : FocusPoint)
    → oriented_by o (framed f p) ≡ framed (frame_by (orient (orientation_number o)) f) (point_by (orient (orientation_number o)) f p)
unfolding orientation_number turned_by steps_of oriented_by frame_through point_through numbered_steps
oriented_is Normal f p = refl
oriented_is FlipHorizontal f p = refl
oriented_is Rotate180 f p = refl
oriented_is FlipVertical f p = refl
oriented_is Transpose f p = refl
oriented_is Rotate90 f p = refl
oriented_is Transverse f p = refl
oriented_is Rotate270 f p = refl

pub moved_frame : (e : Edit) (q : Carried) → (moved e q).frame ≡ frame_by (change_of e) q.frame
unfolding moved cut_point
moved_frame (Cut r) q = refl
moved_frame (Orient o) q = ap (λ (r : Framed). r.frame) (oriented_is o q.frame q.point)

pub moved_point_lem : (e : Edit) (q : Carried) → point_of (moved e q) ≡ moved_by (change_of e) q.frame (point_of q)
unfolding moved cut_point stays_on
moved_point_lem e q = by e q.listed
  where
    by : (e : Edit) (b : Bool) →
        let r : Carried = record { listed = b; point = q.point; frame = q.frame } in
        point_of (moved e r) ≡ moved_by (change_of e) q.frame (point_of r)
    by (Cut to) true = refl
    by (Cut to) false = refl
    by (Orient o) true = ap (λ (r : Framed). Some r.point) (oriented_is o q.frame q.point)
    by (Orient o) false = refl

-- ---- n edits
-- the first n edits of a row
abbrev pub row_at : List Edit → ℕ → List Change
row_at es zero = []
row_at es (suc n) = row_at es n ++ change_of (edit_at es n) ∷ []

pub row_count : (es : List Edit) (n : ℕ) → length (row_at es n) ≡ n
row_count es zero = refl
row_count es (suc n) = rw length-append (omega (arith, row_count es n))

pub row_kept : (e : Edit) (es : List Edit) (n m : ℕ) → m ≤ n → row_at (set es n e) m ≡ row_at es m
row_kept e es n zero h = refl
row_kept e es n (suc m) h =
    ap₂ (λ (r : List Change) (d : Edit). r ++ change_of d ∷ [])
    (row_kept e es n m (omega arith))
    (get_or-set_other es n m e blank_edit (λ k. omega arith))

module _ (f : Size) (p : FocusPoint) (es : List Edit) where
  pub placed_frame_lem : (n : ℕ) → (placed f p es n).frame ≡ frame_after f (row_at es n)
  unfolding placed frame_after
  placed_frame_lem zero = refl
  placed_frame_lem (suc n) =
      moved_frame (edit_at es n) (placed f p es n)
      ∙ ap (frame_by (change_of (edit_at es n))) (placed_frame_lem n)
      ∙ sym (frame_snoc f (row_at es n) (change_of (edit_at es n)))

  -- one edit more than the first n
  pub placed_more : (e : Edit) (n : ℕ) → point_of (placed f p es n) ≡ carried f (Some p) (row_at es n)
      → point_of (moved e (placed f p es n)) ≡ carried f (Some p) (row_at es n ++ change_of e ∷ [])
  placed_more e n q =
      moved_point_lem e (placed f p es n)
      ∙ ap₂ (λ (g : Size) (o : Option FocusPoint). moved_by (change_of e) g o) (placed_frame_lem n) q
      ∙ sym (carried_snoc f (Some p) (row_at es n) (change_of e))

  pub placed_point : (n : ℕ) → point_of (placed f p es n) ≡ carried f (Some p) (row_at es n)
  unfolding placed carried
  placed_point zero = refl
  placed_point (suc n) = placed_more (edit_at es n) n (placed_point n)

-- ---- the listing
if_listed_lem : (q : Carried) → if_carried q ≡ if_listed (point_of q)
if_listed_lem q = by q.listed
  where
    by : (b : Bool) → cond b (q.point ∷ []) [] ≡ if_listed (cond b (Some q.point) None)
    by true = refl
    by false = refl

pub listed_to_is : (s : Sheet) (i : ℕ) → i ≤ length (load_on s).points
    → listed_to s i ≡ listed (load_on s).frame (row_at s.row.edits s.row.count) (take i (load_on s).points)
unfolding listed_to listed placed_at
listed_to_is s zero a = refl
listed_to_is s (suc i) a =
    let p = get_or (load_on s).points i no_point in
    let row = row_at s.row.edits s.row.count in
    ap₂ (λ (l m : List FocusPoint). l ++ m)
    (listed_to_is s i (omega arith))
    (if_listed_lem (placed_at s i) ∙ ap if_listed (placed_point (load_on s).frame p s.row.edits s.row.count))
    ∙ sym (listed_snoc (load_on s).frame row (take i (load_on s).points) p)
    ∙ sym (ap (listed (load_on s).frame row) (take-suc (load_on s).points i no_point a))

-- ---- the numbers written
pub flat_numbers : (ps : List FocusPoint) → flat ps ≡ numbers ps
unfolding flat six numbers
flat_numbers [] = refl
flat_numbers (p ∷ ps) = ap (λ (l : List ℕ). six p ++ l) (flat_numbers ps)
