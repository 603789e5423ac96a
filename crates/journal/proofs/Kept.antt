-- On every sheet, also one made by hand, a refused call leaves sheet and buffer as they were: each definition of the sheet by the
-- cases of its tests. Assumes nothing.
use Prim.Native.Nat.{ℕ}
use mathlib.Core.Bool.{Bool, true, false, cond, false≢true}
use mathlib.Core.List.{List, []}
use mathlib.Core.Logic.{◌⊎◌, inl, inr}
use mathlib.Core.Path.{◌≡◌, refl}
use lib.Dec.{ltb, eqb}
use lib.ListN.{length}
use Rattle.reading.specs.Outcome.{Outcome, refused, accepted, is_accepted}
use Rattle.reading.specs.declared.geometry.Size.{Size}
use Rattle.placing.specs.Fit.{has_zero_side}
use Rattle.placing.specs.Focus.{focus_of}
use Rattle.placing.specs.Load.{Focus}
use Rattle.shape.specs.Shape.{same_shape}
use Rattle.shape.specs.WorkedBox.{worked_box}
use Rattle.sheet.specs.declared.edits.Edit.TheVariants.{Cut}
use Rattle.sheet.specs.declared.orientation.Orientation.{Orientation}
use Rattle.sheet.specs.declared.Sheet.{Sheet}
use Rattle.sheet.specs.Sheet.{leaves, kept_by, load_sheet, usable, present_frame, with_row, without_last, add_edit, if_open, orient_to, orient_sheet, keeps_primary, cut_sheet, back_sheet}
use Rattle.sheet.specs.Orientation.{orientation_of}
use Rattle.sheet.specs.Place.{rectangle, is_good_cut}
use Rattle.sheet.specs.Listing.{over, flat}
use Rattle.sheet.specs.Lists.{listing as sheetListing, is_short, head_in, scaled_all, list_outcome, list_buffer, outcome_in_box, buffer_in_box, fit_outcome, fit_buffer}
use Rattle.journal.specs.Journal.{Change, cut, orient, Answer}
use Rattle.journal.specs.Calls.{Call, load, change, back, list, fit, lent}
use Rattle.journal.specs.SheetCalls.{after_edit, after_list, changed, sheet_step}
use Rattle.journal.specs.Claim.{RefusedKeeps}

-- a call that ends so on the sheet s, with the buffer b, is accepted or keeps both
abbrev Keeps : Answer × Sheet → Sheet → List ℕ → Type 0
Keeps r s b = (is_accepted r.0.outcome ≡ true) ⊎ ((r.1 ≡ s) × (r.0.buffer ≡ b))

abbrev KeepsEdited : Outcome (List ℕ) × Sheet → Sheet → Type 0
KeepsEdited r s = (is_accepted r.0 ≡ true) ⊎ (r.1 ≡ s)

keeps_edited : (r : Outcome (List ℕ) × Sheet) (s : Sheet) → KeepsEdited r s → Keeps (after_edit r) s []
keeps_edited r s (inl e) = inl e
keeps_edited r s (inr e) = inr (e, refl)

opens : (s : Sheet) (r : Outcome (List ℕ) × Sheet) → KeepsEdited r s → KeepsEdited (if_open s r) s
unfolding if_open
opens s r k = by (usable s) (ltb s.row.count 64)
  where
    by : (a b : Bool) → KeepsEdited (cond a (cond b r (kept_by 8 s)) (kept_by 7 s)) s
    by true true = k
    by true false = inr refl
    by false b = inr refl

cuts : (s : Sheet) (l t w h : ℕ) → KeepsEdited (cut_sheet s l t w h) s
unfolding cut_sheet
cuts s l t w h = opens s _ (by (is_good_cut l t w h (present_frame s)) (keeps_primary s (Cut (rectangle l t w h))))
  where
    by : (a b : Bool) → KeepsEdited (cond a (cond b (leaves (add_edit s (Cut (rectangle l t w h)))) (kept_by 10 s)) (kept_by 9 s)) s
    by true true = inl refl
    by true false = inr refl
    by false b = inr refl

orients : (s : Sheet) (n : ℕ) → KeepsEdited (orient_sheet s n) s
unfolding orient_sheet
orients s n = opens s _ (by (orientation_of n))
  where
    by : (o : Outcome Orientation) → KeepsEdited (orient_to s o) s
    by (refused m) = inr refl
    by (accepted o) = inl refl

changes : (s : Sheet) (c : Change) → KeepsEdited (changed s c) s
changes s (cut l t w h) = cuts s l t w h
changes s (orient n) = orients s n

backs : (s : Sheet) → KeepsEdited (back_sheet s) s
unfolding back_sheet
backs s = by (usable s) (eqb s.row.count 0)
  where
    by : (a b : Bool) → KeepsEdited (cond a (cond b (kept_by 11 s) (leaves (with_row s (without_last s.row)))) (kept_by 7 s)) s
    by true true = inr refl
    by true false = inl refl
    by false b = inr refl

loads : (s : Sheet) (o : Outcome Focus) → Keeps (after_edit (load_sheet s o)) s []
unfolding load_sheet
loads s (refused n) = inr (refl, refl)
loads s (accepted f) = inl refl

lists : (s : Sheet) (b : List ℕ) → Keeps (after_list (list_outcome s (length b)) (list_buffer s b) s) s b
unfolding list_outcome list_buffer
lists s b = by (usable s) (is_short s (length b))
  where
    by : (u v : Bool) → Keeps (after_list (cond u (cond v (refused 13) (accepted (head_in (present_frame s) s))) (refused 7)) (cond u (cond v b (over (flat (sheetListing s)) b)) b) s) s b
    by true true = inr (refl, refl)
    by true false = inl refl
    by false v = inr (refl, refl)

boxes : (s : Sheet) (box : Size) (b : List ℕ) → Keeps (after_list (outcome_in_box s box (length b)) (buffer_in_box s box b) s) s b
unfolding outcome_in_box buffer_in_box
boxes s box b = by (usable s) (has_zero_side box) (same_shape (present_frame s) box) (is_short s (length b))
  where
    by : (u z t v : Bool)
        → Keeps (after_list (cond u (cond z (refused 12) (cond t (cond v (refused 13) (accepted (head_in box s))) (refused 19))) (refused 7))
        (cond u (cond z b (cond t (cond v b (over (flat (scaled_all (present_frame s) box (sheetListing s))) b)) b)) b) s) s b
    by true true t v = inr (refl, refl)
    by true false false v = inr (refl, refl)
    by true false true true = inr (refl, refl)
    by true false true false = inl refl
    by false z t v = inr (refl, refl)

fits : (s : Sheet) (box : Size) (b : List ℕ) → Keeps (after_list (fit_outcome s box (length b)) (fit_buffer s box b) s) s b
unfolding fit_outcome fit_buffer
fits s box b = boxes s (worked_box (present_frame s) box) b

steps : (s : Sheet) (c : Call) → Keeps (sheet_step s c) s (lent c)
unfolding sheet_step
steps s (load block raw picture model) = loads s (focus_of block raw picture model)
steps s (change c) = keeps_edited (changed s c) s (changes s c)
steps s back = keeps_edited (back_sheet s) s (backs s)
steps s (list b) = lists s b
steps s (fit box b) = fits s box b

pub refused_keeps : RefusedKeeps
refused_keeps s c n e = by (steps s c)
  where
    by : Keeps (sheet_step s c) s (lent c) → ((sheet_step s c).1 ≡ s) × ((sheet_step s c).0.buffer ≡ lent c)
    by (inl a) = absurd (false≢true (rw e at a))
    by (inr k) = k
