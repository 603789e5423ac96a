-- Laws of the journal: what a row of edits does with one edit more, and with further edits, to the frame, to a point and to the
-- listing. By induction over the row, or over the points. Assumes nothing.
use Rattle.std.specs.Prelude.{Option, Some, None}
use Prim.Native.Nat.{◌-◌}
use mathlib.Core.List.{List, [], ◌∷◌, ◌++◌, append_assoc, append-nil}
use mathlib.Core.Path.{◌≡◌, refl, sym, ap, ◌∙◌}
use lib.ListN.{length, take, length-append}
use lib.Seq.{take_at}
use native.Mathlib.Omega.{arith}
use Rattle.reading.specs.declared.geometry.Size.{Size}
use Rattle.placing.specs.declared.focus.FocusPoint.{FocusPoint}
use Rattle.journal.specs.Journal.{Change, frame_by, frame_after, moved_by, carried, if_listed, listed}

-- ---- a row and further edits
pub frame_append : (f : Size) (row more : List Change) → frame_after f (row ++ more) ≡ frame_after (frame_after f row) more
unfolding frame_after
frame_append f [] more = refl
frame_append f (c ∷ row) more = frame_append (frame_by c f) row more

pub carried_append : (f : Size) (o : Option FocusPoint) (row more : List Change)
    → carried f o (row ++ more) ≡ carried (frame_after f row) (carried f o row) more
unfolding frame_after carried
carried_append f o [] more = refl
carried_append f o (c ∷ row) more = carried_append (frame_by c f) (moved_by c f o) row more

-- ---- one edit more
pub frame_snoc : (f : Size) (row : List Change) (c : Change) → frame_after f (row ++ c ∷ []) ≡ frame_by c (frame_after f row)
unfolding frame_after
frame_snoc f row c = frame_append f row (c ∷ [])

pub carried_snoc : (f : Size) (o : Option FocusPoint) (row : List Change) (c : Change)
    → carried f o (row ++ c ∷ []) ≡ moved_by c (frame_after f row) (carried f o row)
unfolding carried
carried_snoc f o row c = carried_append f o row (c ∷ [])

-- a point that is unlisted stays so
pub carried_none : (f : Size) (row : List Change) → carried f None row ≡ None
unfolding carried
carried_none f [] = refl
carried_none f (c ∷ row) = carried_none (frame_by c f) row

-- ---- the listing of further points
pub listed_append : (f : Size) (row : List Change) (ps qs : List FocusPoint) → listed f row (ps ++ qs) ≡ listed f row ps ++ listed f row qs
unfolding listed
listed_append f row [] qs = refl
listed_append f row (p ∷ ps) qs =
    ap (λ (l : List FocusPoint). if_listed (carried f (Some p) row) ++ l) (listed_append f row ps qs)
    ∙ sym (append_assoc (if_listed (carried f (Some p) row)) (listed f row ps) (listed f row qs))

pub listed_snoc : (f : Size) (row : List Change) (ps : List FocusPoint) (p : FocusPoint)
    → listed f row (ps ++ p ∷ []) ≡ listed f row ps ++ if_listed (carried f (Some p) row)
unfolding listed
listed_snoc f row ps p =
    listed_append f row ps (p ∷ [])
    ∙ ap (λ (l : List FocusPoint). listed f row ps ++ l) (append-nil (if_listed (carried f (Some p) row)))

-- the last edit taken off again
pub but_last : (row : List Change) (c : Change) → take (length (row ++ c ∷ []) - 1) (row ++ c ∷ []) ≡ row
but_last row c = take_at row (c ∷ []) (length (row ++ c ∷ []) - 1) (rw length-append (omega arith))
