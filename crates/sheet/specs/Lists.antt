-- 01, "After the sheet", 2026-05 and 2026-06: what list and fit answer and write, for every sheet and buffer.
use Rattle.std.specs.Prelude.{ℕ, zero, suc, ◌*◌, Bool, cond, List, [], ◌∷◌, ◌++◌, map, ltb, length}
use Rattle.reading.specs.Outcome.{Outcome, refused, accepted}
use Rattle.reading.specs.declared.geometry.Size.{Size}
use Rattle.placing.specs.declared.focus.FocusPoint.{FocusPoint}
use Rattle.placing.specs.Fit.{has_zero_side}
use Rattle.placing.specs.Scale.{scaled_point}
use Rattle.shape.specs.Shape.{same_shape}
use Rattle.shape.specs.WorkedBox.{worked_box}
use Rattle.sheet.specs.declared.edits.Carried.{Carried}
use Rattle.sheet.specs.Head.{head_of}
use Rattle.sheet.specs.Listing.{flat, over}
use Rattle.sheet.specs.declared.Sheet.{Sheet}
use Rattle.sheet.specs.Sheet.{load_on, usable, placed_at, present_frame}

-- a point, if no standing cut dropped it
abbrev pub if_carried : Carried → List FocusPoint
if_carried q = cond q.listed (q.point ∷ []) []

-- of the load's first i points, those that no standing cut dropped, in the load's order and where the edits carry them
unfoldable pub listed_to : Sheet → ℕ → List FocusPoint
listed_to s zero = []
listed_to s (suc i) = listed_to s i ++ if_carried (placed_at s i)

-- all points that are listed
unfoldable pub listing : Sheet → List FocusPoint
listing s = listed_to s (load_on s).count

-- "count is their number"
unfoldable pub list_count : Sheet → ℕ
list_count s = length (listing s)

-- "the primary's index its place among them"
unfoldable pub list_index : Sheet → ℕ
list_index s = length (listed_to s (load_on s).primary)

-- 13, for a buffer of m places: "buffer shorter than 6 × count"
unfoldable pub is_short : Sheet → ℕ → Bool
is_short s m = ltb m (6 * list_count s)

-- what a listing in the frame f answers
unfoldable pub head_in : Size → Sheet → List ℕ
head_in f s = head_of f (list_count s) (list_index s) (load_on s).area_mode (load_on s).origin

-- how list ends, for a buffer of m places: 7, 13, or what is given
unfoldable pub list_outcome : Sheet → ℕ → Outcome (List ℕ)
list_outcome s m =
    cond (usable s) (cond (is_short s m) (refused 13) (accepted (head_in (present_frame s) s))) (refused 7)

-- the buffer that list leaves
unfoldable pub list_buffer : Sheet → List ℕ → List ℕ
list_buffer s b = cond (usable s) (cond (is_short s (length b)) b (over (flat (listing s)) b)) b

-- "each point scaled from the present frame to it"
unfoldable pub scaled_all : Size → Size → List FocusPoint → List FocusPoint
scaled_all old new ps = map (λ p. scaled_point p old new) ps

-- "Fit answers .. as list does, with the box as frame", in the box that it works with: 12, then 02's "19, shapes differ, between 12 and
-- 13", of the present frame and that box
unfoldable pub outcome_in_box : Sheet → Size → ℕ → Outcome (List ℕ)
outcome_in_box s box m =
    cond (usable s)
    (cond (has_zero_side box) (refused 12)
    (cond (same_shape (present_frame s) box)
    (cond (is_short s m) (refused 13) (accepted (head_in box s)))
    (refused 19)))
    (refused 7)

-- the buffer that it leaves
unfoldable pub buffer_in_box : Sheet → Size → List ℕ → List ℕ
buffer_in_box s box b =
    cond (usable s)
    (cond (has_zero_side box) b
    (cond (same_shape (present_frame s) box)
    (cond (is_short s (length b)) b (over (flat (scaled_all (present_frame s) box (listing s))) b))
    b))
    b

-- 02: "A box with one zero side is now answered", in that whose missing side is worked out from the present frame
unfoldable pub fit_outcome : Sheet → Size → ℕ → Outcome (List ℕ)
fit_outcome s box m = outcome_in_box s (worked_box (present_frame s) box) m

unfoldable pub fit_buffer : Sheet → Size → List ℕ → List ℕ
fit_buffer s box b = buffer_in_box s (worked_box (present_frame s) box) b
