-- 2026-04, "Sides carried along the walk": "carry the present sides along while walking a point's edits, and take each edit once". The
-- place of a point stays what 01 says, `placed`; a walk from the first edit to the last comes to the same. proofs/Walked.antt has the
-- proofs.
use Rattle.std.specs.Prelude.{ℕ, ◌+◌, List, ◌≡◌}
use Rattle.reading.specs.declared.geometry.Size.{Size}
use Rattle.placing.specs.declared.focus.FocusPoint.{FocusPoint}
use Rattle.sheet.specs.declared.edits.Edit.{Edit}
use Rattle.sheet.specs.Place.{walked, placed}

-- a walk through the first n edits ends where n edits place the point, listed or not and in the same frame
abbrev pub FromTheFront : Type 0
FromTheFront = (f : Size) (p : FocusPoint) (es : List Edit) (n : ℕ) → walked es 0 n (placed f p es 0) ≡ placed f p es n

-- and it may pause: from where i edits place the point, n edits on is where i + n place it
abbrev pub WalkedOn : Type 0
WalkedOn = (f : Size) (p : FocusPoint) (es : List Edit) (i n : ℕ) → walked es i n (placed f p es i) ≡ placed f p es (i + n)

-- the sides that are carried along do not depend on the point: every point of the load comes to the same present frame, so that any
-- point's walk tells the frame of a listing
abbrev pub OneFrame : Type 0
OneFrame = (f : Size) (p q : FocusPoint) (es : List Edit) (n : ℕ) → (placed f p es n).frame ≡ (placed f q es n).frame

-- number and in-focus of a point are those of the load, whatever edits stand
abbrev pub NumberAndFocusKept : Type 0
NumberAndFocusKept =
    (f : Size) (p : FocusPoint) (es : List Edit) (n : ℕ)
    → ((placed f p es n).point.number ≡ p.number) × ((placed f p es n).point.in_focus ≡ p.in_focus)
