-- Laws of fits with 02's blank side, after any list of calls: a box with two sides answers as before, one with a blank side as the box that it
-- stands for; exactly when it is refused, and what is answered else. proofs/BlankSides.antt has the proofs.
use Rattle.std.specs.Prelude.{ℕ, ◌*◌, ◌≤◌, false, List, ◌↔◌, ◌≡◌}
use Rattle.reading.specs.Outcome.{Outcome, refused}
use Rattle.reading.specs.declared.geometry.Size.{Size}
use Rattle.placing.specs.Fit.{by, has_zero_side}
use Rattle.placing.specs.Load.{Focus}
use Rattle.placing.specs.Scale.{scale_of}
use Rattle.shape.specs.ShapeLaws.{times}
use Rattle.shape.specs.WorkedBoxLaws.{NotCapped, UnderHalf, InReach, NotExtreme}
use Rattle.sheet.specs.declared.Sheet.{Sheet}
use Rattle.sheet.specs.Lists.{outcome_in_box, buffer_in_box, fit_outcome, fit_buffer}
use Rattle.journal.specs.Journal.{Change, holds, present_frame, fit_box, fitted, no, written, answer_in_box}
use Rattle.journal.specs.Calls.{Call, fit}
use Rattle.journal.specs.Claim.{after, answer}

-- "A box with two sides answers as before": fit works with the box as it is given, on every sheet, also one made by hand
abbrev pub TwoSidesOnAny : Type 0
TwoSidesOnAny =
    (s : Sheet) (box : Size) → has_zero_side box ≡ false
    → ((m : ℕ) → fit_outcome s box m ≡ outcome_in_box s box m) × ((buffer : List ℕ) → fit_buffer s box buffer ≡ buffer_in_box s box buffer)

abbrev pub TwoSidesAsGiven : Type 0
TwoSidesAsGiven =
    (calls : List Call) (f : Focus) (standing : List Change) → after calls ≡ holds f standing
    → (box : Size) → has_zero_side box ≡ false → (buffer : List ℕ) → answer calls (fit box buffer) ≡ answer_in_box f standing box buffer

-- "the worked box is then put to the shape test like any other": to leave a side blank, and to give the worked box outright, is answered and
-- written alike
abbrev pub FitsAsWorked : Type 0
FitsAsWorked =
    (calls : List Call) (f : Focus) (standing : List Change) → after calls ≡ holds f standing
    → (box : Size) (buffer : List ℕ) → answer calls (fit box buffer) ≡ answer calls (fit (fit_box f standing box) buffer)

-- "Both zero .. still give 12"
abbrev pub BothBlankRefused : Type 0
BothBlankRefused =
    (calls : List Call) (f : Focus) (standing : List Change) → after calls ≡ holds f standing
    → (buffer : List ℕ) → answer calls (fit (by 0 0) buffer) ≡ no 12 buffer

-- a side of the present frame so many times, the other blank: as the frame so many times
abbrev pub BlankTimes : Type 0
BlankTimes =
    (calls : List Call) (f : Focus) (standing : List Change) → after calls ≡ holds f standing
    → (k : ℕ) → k * (present_frame f standing).width ≤ 4294967295 → k * (present_frame f standing).height ≤ 4294967295 → (buffer : List ℕ)
    → (answer calls (fit (by (k * (present_frame f standing).width) 0) buffer) ≡ answer calls (fit (times k (present_frame f standing)) buffer))
    × (answer calls (fit (by 0 (k * (present_frame f standing).height)) buffer) ≡ answer calls (fit (times k (present_frame f standing)) buffer))

-- ---- when a box with one side is refused
-- `that` and `given` are the present frame's sides, `side` is the box's given one. 12: the missing side is less than half a pixel; 19: it is not
-- in reach
pub record BlankRefused (that given side : ℕ) (outcome : Outcome (List ℕ)) : Type 0 where
  pub zero_side : (outcome ≡ refused 12) ↔ UnderHalf that given side
  pub other_shape : (outcome ≡ refused 19) ↔ (InReach that given side → ⊥)

-- the height blank, then the width
abbrev pub BlankHeightRefused : Type 0
BlankHeightRefused =
    (calls : List Call) (f : Focus) (standing : List Change) → after calls ≡ holds f standing
    → (width : ℕ) (buffer : List ℕ)
    → BlankRefused (present_frame f standing).height (present_frame f standing).width width (answer calls (fit (by width 0) buffer)).outcome

abbrev pub BlankWidthRefused : Type 0
BlankWidthRefused =
    (calls : List Call) (f : Focus) (standing : List Change) → after calls ≡ holds f standing
    → (height : ℕ) (buffer : List ℕ)
    → BlankRefused (present_frame f standing).width (present_frame f standing).height height (answer calls (fit (by 0 height) buffer)).outcome

-- a missing side that is not capped never meets 19: the height, then the width
abbrev pub NotCappedKeepsShape : Type 0
NotCappedKeepsShape =
    (calls : List Call) (f : Focus) (standing : List Change) → after calls ≡ holds f standing
    → (side : ℕ) (buffer : List ℕ)
    → (NotCapped (present_frame f standing).height (present_frame f standing).width side
    → (answer calls (fit (by side 0) buffer)).outcome ≡ refused 19 → ⊥)
    × (NotCapped (present_frame f standing).width (present_frame f standing).height side
    → (answer calls (fit (by 0 side) buffer)).outcome ≡ refused 19 → ⊥)

-- so a grid of columns, or of rows, never meets it, unless they are extreme beside the present frame
abbrev pub GridsKeepShape : Type 0
GridsKeepShape =
    (calls : List Call) (f : Focus) (standing : List Change) → after calls ≡ holds f standing
    → (side : ℕ) (buffer : List ℕ)
    → (NotExtreme (present_frame f standing).height (present_frame f standing).width side
    → (answer calls (fit (by side 0) buffer)).outcome ≡ refused 19 → ⊥)
    × (NotExtreme (present_frame f standing).width (present_frame f standing).height side
    → (answer calls (fit (by 0 side) buffer)).outcome ≡ refused 19 → ⊥)

-- ---- "A box with one zero side is now answered"
-- neither 12 nor 19
pub record InBounds (that given side : ℕ) : Type 0 where
  pub half : UnderHalf that given side → ⊥
  pub reach : InReach that given side

-- then the points are written, or 13 is answered, as in the box whose missing side is "scale(that frame side, the given frame side, the given
-- side)": the height, then the width
abbrev pub BlankHeightAnswered : Type 0
BlankHeightAnswered =
    (calls : List Call) (f : Focus) (standing : List Change) → after calls ≡ holds f standing
    → (width height : ℕ) → InBounds (present_frame f standing).height (present_frame f standing).width width
    → height ≡ scale_of (present_frame f standing).height (present_frame f standing).width width
    → (buffer : List ℕ)
    → answer calls (fit (by width 0) buffer) ≡ written f standing (by width height) (fitted f standing (by width height)) buffer

abbrev pub BlankWidthAnswered : Type 0
BlankWidthAnswered =
    (calls : List Call) (f : Focus) (standing : List Change) → after calls ≡ holds f standing
    → (width height : ℕ) → InBounds (present_frame f standing).width (present_frame f standing).height height
    → width ≡ scale_of (present_frame f standing).width (present_frame f standing).height height
    → (buffer : List ℕ)
    → answer calls (fit (by 0 height) buffer) ≡ written f standing (by width height) (fitted f standing (by width height)) buffer
