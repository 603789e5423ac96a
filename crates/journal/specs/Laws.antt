-- Laws of lists of calls and of the journal, which show that the claim is no empty promise: orientations come to one, edits undo one
-- another as they do on a picture in the hand, every edit of a row moves what is listed before it, 64 edits can stand, and a box that is
-- the present frame, once or some times, is accepted. proofs/Orientations.antt (orientation calls), Boxes.antt and Laws.antt (the others)
-- prove them.
use Rattle.std.specs.Prelude.{Some, None}
use Rattle.std.specs.Prelude.{ℕ, ◌+◌, ◌*◌, ◌≤◌, ◌<◌, List, [], ◌∷◌, ◌++◌, map, ◌≡◌, length, replicate}
use Rattle.reading.specs.declared.geometry.Size.{Size}
use Rattle.placing.specs.declared.focus.FocusPoint.{FocusPoint}
use Rattle.placing.specs.Load.{Focus}
use Rattle.shape.specs.ShapeLaws.{times, times_point}
use Rattle.sheet.specs.declared.orientation.Orientation.{Orientation}
use Rattle.sheet.specs.declared.orientation.Orientation.TheVariants.{Normal}
use Rattle.sheet.specs.Orientation.{orientation_number}
use Rattle.sheet.specs.OrientationLaws.{product_of}
use Rattle.journal.specs.Journal.{Change, cut, orient, holds, moved_by, carried, if_listed, present_frame, listing, no, ok, written}
use Rattle.journal.specs.Calls.{Call, change, back, list, fit}
use Rattle.journal.specs.Claim.{after, answer}

-- after two lists of calls, list and fit answer and write the same
pub record ListAlike (calls others : List Call) : Type 0 where
  pub lists : (buffer : List ℕ) → answer calls (list buffer) ≡ answer others (list buffer)
  pub fits : (box : Size) (buffer : List ℕ) → answer calls (fit box buffer) ≡ answer others (fit box buffer)

-- the edit and the call of an orientation
abbrev pub orientation_change : Orientation → Change
orientation_change o = orient (orientation_number o)

abbrev pub orientation_call : Orientation → Call
orientation_call o = change (orientation_change o)

-- 02, "a single one of the eight places every point on every frame as the list does": a list of orientation calls for which there is
-- room lists and fits like the one call of their product
abbrev pub AsOneCall : Type 0
AsOneCall =
    (calls : List Call) (f : Focus) (standing : List Change) (os : List Orientation) → after calls ≡ holds f standing
    → length standing + length os ≤ 64
    → ListAlike (calls ++ map orientation_call os) (calls ++ orientation_call (product_of os) ∷ [])

-- orientations that come to number 1 change nothing listed
abbrev pub NothingTogether : Type 0
NothingTogether =
    (calls : List Call) (f : Focus) (standing : List Change) (os : List Orientation) → after calls ≡ holds f standing
    → length standing + length os ≤ 64 → product_of os ≡ Normal → ListAlike (calls ++ map orientation_call os) calls

-- so do four turns, and so do two mirrors
abbrev pub FourTurnCalls : Type 0
FourTurnCalls =
    (calls : List Call) (f : Focus) (standing : List Change) → after calls ≡ holds f standing → length standing + 4 ≤ 64
    → ListAlike (calls ++ replicate 4 (change (orient 6))) calls

abbrev pub TwoMirrorCalls : Type 0
TwoMirrorCalls =
    (calls : List Call) (f : Focus) (standing : List Change) → after calls ≡ holds f standing → length standing + 2 ≤ 64
    → ListAlike (calls ++ replicate 2 (change (orient 2))) calls

-- a cut of the whole present frame is accepted and changes nothing listed
abbrev pub whole_cut : Size → Call
whole_cut f = change (cut 0 0 f.width f.height)

abbrev pub WholeCut : Type 0
WholeCut =
    (calls : List Call) (f : Focus) (standing : List Change) → after calls ≡ holds f standing → length standing < 64
    → (answer calls (whole_cut (present_frame f standing)) ≡ ok [] [])
    × ListAlike (calls ++ whole_cut (present_frame f standing) ∷ []) calls

-- back after an accepted edit: every further call is answered as without the two
abbrev pub BackUndoes : Type 0
BackUndoes =
    (calls : List Call) (c : Change) → answer calls (change c) ≡ ok [] []
    → (d : Call) → answer (calls ++ change c ∷ back ∷ []) d ≡ answer calls d

-- "Each is a single edit": after a load 64 orientations can stand, number 1 among them, and then a further edit is refused by 8
abbrev pub SixtyFourStand : Type 0
SixtyFourStand =
    (calls : List Call) (f : Focus) (os : List Orientation) → after calls ≡ holds f [] → length os ≡ 64
    → (after (calls ++ map orientation_call os) ≡ holds f (map orientation_change os))
    × ((c : Change) → answer (calls ++ map orientation_call os) (change c) ≡ no 8 [])

-- an edit more moves every listed point by that edit, and a cut unlists those that do not fit
unfoldable pub moved_all : Change → Size → List FocusPoint → List FocusPoint
moved_all c f [] = []
moved_all c f (p ∷ ps) = if_listed (moved_by c f (Some p)) ++ moved_all c f ps

abbrev pub EditMoves : Type 0
EditMoves =
    (f : Focus) (standing : List Change) (c : Change)
    → listing f (standing ++ c ∷ []) ≡ moved_all c (present_frame f standing) (listing f standing)

-- "they stay unlisted as long as that cut stands"
abbrev pub StaysUnlisted : Type 0
StaysUnlisted =
    (f : Size) (p : FocusPoint) (standing more : List Change) → carried f (Some p) standing ≡ None
    → carried f (Some p) (standing ++ more) ≡ None

-- 02's test of shapes is no trap: a box that is the present frame a whole number of times, no side over 4,294,967,295, is neither 12 nor
-- 19. In it each listed point is where list has it, so many times: nothing is rounded, trimmed or dropped
abbrev pub FitsTimes : Type 0
FitsTimes =
    (calls : List Call) (f : Focus) (standing : List Change) → after calls ≡ holds f standing
    → (k : ℕ) → 0 < k → k * (present_frame f standing).width ≤ 4294967295 → k * (present_frame f standing).height ≤ 4294967295
    → (buffer : List ℕ) → answer calls (fit (times k (present_frame f standing)) buffer)
    ≡ written f standing (times k (present_frame f standing)) (map (times_point k) (listing f standing)) buffer

-- and in the present frame itself, no side over 4,294,967,295, fit answers and writes as list does, 13 too
abbrev pub FitsTheFrame : Type 0
FitsTheFrame =
    (calls : List Call) (f : Focus) (standing : List Change) → after calls ≡ holds f standing
    → (present_frame f standing).width ≤ 4294967295 → (present_frame f standing).height ≤ 4294967295
    → (buffer : List ℕ) → answer calls (fit (present_frame f standing) buffer) ≡ answer calls (list buffer)
