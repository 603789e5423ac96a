-- 01, "Book": what the calls alone say. The journal is fed each call with its arguments, except the sheet, and every answer is
-- worked out from what it holds. Of the sheet it knows nothing: the two share what one load gives, when a point fits a frame, how
-- it is scaled, how a blank side of a box is worked out, when a box has a frame's shape, and 01's numbers for modes, origins and in-focus.
-- 02's orientations are here in the journal's own words.
use Rattle.std.specs.Prelude.{Option, Some, None}
use Rattle.std.specs.Prelude.{ℕ, ◌+◌, ◌-◌, ◌*◌, Bool, true, false, ◌&&◌, ◌||◌, cond, List, [], ◌∷◌, ◌++◌, map, leb, ltb, eqb, get_or, length, take, drop}
use Rattle.reading.specs.Focus.{in_focus_number, mode_number}
use Rattle.reading.specs.Outcome.{Outcome, refused, accepted}
use Rattle.reading.specs.declared.geometry.Size.{Size}
use Rattle.placing.specs.declared.focus.FocusPoint.{FocusPoint}
use Rattle.placing.specs.Fit.{has_zero_side, point_fits}
use Rattle.placing.specs.Scale.{scaled_point}
use Rattle.placing.specs.Load.{Focus, no_point, origin_number}
use Rattle.shape.specs.Shape.{same_shape}
use Rattle.shape.specs.WorkedBox.{worked_box}

-- an edit: "Cut left, top, width, height", or an orientation with its number
pub data Change : Type 0 where
  cut : ℕ → ℕ → ℕ → ℕ → Change
  orient : ℕ → Change

-- "It is empty, or holds a load and a row of standing edits": of the load "the frame, points in order, primary, area mode and
-- origin that demand 2's definition gives"
pub data Journal : Type 0 where
  empty : Journal
  holds : Focus → List Change → Journal

-- ---- turns and mirrors
-- 01's turn, a clockwise quarter rotation, and mirror
pub data Step : Type 0 where
  turn : Step
  mirror : Step

-- at a turn "frame and areas swap sides"
abbrev pub frame_at : Step → Size → Size
frame_at turn f = record { width = f.height; height = f.width }
frame_at mirror f = f

-- "number and in-focus unchanged"
abbrev pub moved_to : FocusPoint → ℕ → ℕ → Size → FocusPoint
moved_to p x y a =
    record { number = p.number; center = record { x = x; y = y }; size = a; in_focus = p.in_focus }

-- where a step moves a point of a frame w by h: at a turn "(x, y) goes to (h − y, x), frame and areas swap sides"; "Mirror:
-- (w − x, y)"
abbrev pub point_at : Step → Size → FocusPoint → FocusPoint
point_at turn f p =
    moved_to p (f.height - p.center.y) p.center.x
    (record { width = p.size.height; height = p.size.width })
point_at mirror f p = moved_to p (f.width - p.center.x) p.center.y p.size

-- one step after the other
unfoldable pub frame_through : List Step → Size → Size
frame_through [] f = f
frame_through (s ∷ ss) f = frame_through ss (frame_at s f)

unfoldable pub point_through : List Step → Size → FocusPoint → FocusPoint
point_through [] f p = p
point_through (s ∷ ss) f p = point_through ss (frame_at s f) (point_at s f p)

-- 02: "1 nothing, 2 mirror, 3 two turns, 4 mirror then two turns, 5 mirror then three turns, 6 one turn, 7 mirror then one turn,
-- 8 three turns"
abbrev pub orientations : List (List Step)
orientations =
    [] ∷
    (mirror ∷ []) ∷
    (turn ∷ turn ∷ []) ∷
    (mirror ∷ turn ∷ turn ∷ []) ∷
    (mirror ∷ turn ∷ turn ∷ turn ∷ []) ∷
    (turn ∷ []) ∷
    (mirror ∷ turn ∷ []) ∷
    (turn ∷ turn ∷ turn ∷ []) ∷
    []

-- the steps of a number from 1 to 8: no other stands in a row
unfoldable pub numbered_steps : ℕ → List Step
numbered_steps n = get_or orientations (n - 1) []

-- ---- one edit
-- a cut "makes width by height the frame"
abbrev pub frame_by : Change → Size → Size
frame_by (cut left top width height) f = record { width = width; height = height }
frame_by (orient n) f = frame_through (numbered_steps n) f

-- a cut "subtracts (left, top)"
abbrev pub point_by : Change → Size → FocusPoint → FocusPoint
point_by (cut left top width height) f p = moved_to p (p.center.x - left) (p.center.y - top) p.size
point_by (orient n) f p = point_through (numbered_steps n) f p

-- "If at a cut, once moved, it doesn't fit the cut's frame, it is unlisted." A coordinate that the cut would bring below 0 is
-- off that frame
abbrev pub stays_listed : Change → Size → FocusPoint → Bool
stays_listed (cut left top width height) f p =
    leb left p.center.x &&
    (leb top p.center.y &&
    point_fits (record { width = width; height = height }) (point_by (cut left top width height) f p))
stays_listed (orient n) f p = true

-- ---- the row of standing edits
-- "The present frame is the load's, changed by each standing edit in order."
unfoldable pub frame_after : Size → List Change → Size
frame_after f [] = f
frame_after f (c ∷ cs) = frame_after (frame_by c f) cs

-- a listed point moved by an edit, or no longer listed; one that is unlisted stays so
abbrev pub moved_by : Change → Size → Option FocusPoint → Option FocusPoint
moved_by c f None = None
moved_by c f (Some p) = cond (stays_listed c f p) (Some (point_by c f p)) None

-- "Each point is carried alone from the load through the row": where it is then, or none where a cut has unlisted it
unfoldable pub carried : Size → Option FocusPoint → List Change → Option FocusPoint
carried f o [] = o
carried f o (c ∷ cs) = carried (frame_by c f) (moved_by c f o) cs

abbrev pub still_listed : Option FocusPoint → Bool
still_listed None = false
still_listed (Some p) = true

abbrev pub if_listed : Option FocusPoint → List FocusPoint
if_listed None = []
if_listed (Some p) = p ∷ []

-- "The others are listed in the load's order, where the row carried them": of some points of a load with the frame f
unfoldable pub listed : Size → List Change → List FocusPoint → List FocusPoint
listed f standing [] = []
listed f standing (p ∷ ps) = if_listed (carried f (Some p) standing) ++ listed f standing ps

-- ---- what a journal that is not empty says
abbrev pub present_frame : Focus → List Change → Size
present_frame load standing = frame_after load.frame standing

abbrev pub listing : Focus → List Change → List FocusPoint
listing load standing = listed load.frame standing load.points

-- "the primary's index its place among them": how many are listed before it
abbrev pub primary_index : Focus → List Change → ℕ
primary_index load standing = length (listed load.frame standing (take load.primary load.points))

abbrev pub primary_of : Focus → FocusPoint
primary_of load = get_or load.points load.primary no_point

-- where the row carries the primary
abbrev pub primary_after : Focus → List Change → Option FocusPoint
primary_after load standing = carried load.frame (Some (primary_of load)) standing

-- the box that a fit works with. 02: one zero side "is scale(that frame side, the given frame side, the given side)", of the present frame
abbrev pub fit_box : Focus → List Change → Size → Size
fit_box load standing box = worked_box (present_frame load standing) box

-- "each point scaled from the present frame to" the box
abbrev pub fitted : Focus → List Change → Size → List FocusPoint
fitted load standing box = map (λ p. scaled_point p (present_frame load standing) box) (listing load standing)

-- ---- how calls end
-- refused by one of the documents' numbers, or accepted with the numbers that the call gives (none, or a listing's head); and the buffer
-- as the call leaves it (of a call that is lent none: no places)
pub record Answer : Type 0 where
  pub outcome : Outcome (List ℕ)
  pub buffer : List ℕ

abbrev pub no : ℕ → List ℕ → Answer
no n buffer = record { outcome = refused n; buffer = buffer }

abbrev pub ok : List ℕ → List ℕ → Answer
ok given buffer = record { outcome = accepted given; buffer = buffer }

-- "A load is judged by 1 to 6; accepted, the book holds" what it gives, "and no edits"
unfoldable pub journal_load : Journal → Outcome Focus → Answer × Journal
journal_load j (refused n) = (no n [], j)
journal_load j (accepted load) = (ok [] [], holds load [])

-- "Any other call is judged by its numbers, from what the book holds. A refused call leaves the book as it is.": the lowest
-- number that applies, if there is one, and the journals before and after
abbrev pub ended : {A : Type 0} → Option ℕ → A → A → Answer × A
ended (Some n) before after = (no n [], before)
ended None before after = (ok [] [], after)

-- 9: "cut has a zero side or passes the present frame"
unfoldable pub is_bad_cut : ℕ → ℕ → ℕ → ℕ → Size → Bool
is_bad_cut left top width height f =
    eqb width 0 || (eqb height 0 || (ltb f.width (left + width) || ltb f.height (top + height)))

-- 15: "number outside 1 to 8"
unfoldable pub is_outside : ℕ → Bool
is_outside n = ltb n 1 || ltb 8 n

-- of a cut 9, then 10: "cut would drop the primary"; of an orientation 15
abbrev pub own_refusal : Focus → List Change → Change → Option ℕ
own_refusal load standing (cut left top width height) =
    cond (is_bad_cut left top width height (present_frame load standing)) (Some 9)
    (cond (still_listed (primary_after load (standing ++ cut left top width height ∷ []))) None (Some 10))
own_refusal load standing (orient n) = cond (is_outside n) (Some 15) None

-- 8: "64 edits stand"
abbrev pub is_full : List Change → Bool
is_full standing = leb 64 (length standing)

-- the lowest number that applies to an edit, 7 apart: 8, then its own ("15, .. after 8")
unfoldable pub change_refusal : Focus → List Change → Change → Option ℕ
change_refusal load standing c = cond (is_full standing) (Some 8) (own_refusal load standing c)

-- 7: "sheet is empty". "An accepted cut, turn or mirror joins the row's end", and so does an orientation in place of the two: "Each is
-- a single edit."
unfoldable pub journal_change : Journal → Change → Answer × Journal
journal_change empty c = (no 7 [], empty)
journal_change (holds load standing) c =
    ended (change_refusal load standing c) (holds load standing) (holds load (standing ++ c ∷ []))

-- 11: "back, but no edit stands"
unfoldable pub back_refusal : List Change → Option ℕ
back_refusal standing = cond (eqb (length standing) 0) (Some 11) None

-- "an accepted back takes the last edit off"
unfoldable pub journal_back : Journal → Answer × Journal
journal_back empty = (no 7 [], empty)
journal_back (holds load standing) =
    ended (back_refusal standing) (holds load standing) (holds load (take (length standing - 1) standing))

-- "six 32-bit numbers a point: number (0 if recorded), x, y, width, height (both 0 without area), in-focus"
unfoldable pub numbers : List FocusPoint → List ℕ
numbers [] = []
numbers (p ∷ ps) =
    p.number ∷
    p.center.x ∷
    p.center.y ∷
    p.size.width ∷ p.size.height ∷ in_focus_number p.in_focus ∷ numbers ps

-- "frame, count, primary's index from 0, mode .., origin", of the points ps in the frame f
abbrev pub head : Focus → List Change → Size → List FocusPoint → List ℕ
head load standing f ps =
    f.width ∷
    f.height ∷
    length ps ∷ primary_index load standing ∷ mode_number load.mode ∷ origin_number load.origin ∷ []

-- 13: "buffer shorter than 6 × count". Else the points' numbers are written; "the rest of the buffer is kept"
unfoldable pub written : Focus → List Change → Size → List FocusPoint → List ℕ → Answer
written load standing f ps buffer =
    cond (ltb (length buffer) (6 * length ps)) (no 13 buffer)
    (ok (head load standing f ps) (numbers ps ++ drop (6 * length ps) buffer))

-- "gives 7 if the book is empty, 13 by the book's count, else the book's frame, count, index, mode, origin and six numbers a
-- point"
unfoldable pub journal_list : Journal → List ℕ → Answer
journal_list empty buffer = no 7 buffer
journal_list (holds load standing) buffer =
    written load standing (present_frame load standing) (listing load standing) buffer

-- "Fit answers and writes as list does, with the box as frame", in the box that it works with; 12: "box for fitting has a zero side"; 02:
-- "19, shapes differ, between 12 and 13", the frame being the present one
unfoldable pub answer_in_box : Focus → List Change → Size → List ℕ → Answer
answer_in_box load standing box buffer =
    cond (has_zero_side box) (no 12 buffer)
    (cond (same_shape (present_frame load standing) box) (written load standing box (fitted load standing box) buffer)
    (no 19 buffer))

-- 02: "A box with one zero side is now answered": 12 and 19 are of "the worked box", and so is the answer's frame
unfoldable pub journal_fit : Journal → Size → List ℕ → Answer
journal_fit empty box buffer = no 7 buffer
journal_fit (holds load standing) box buffer = answer_in_box load standing (fit_box load standing box) buffer
