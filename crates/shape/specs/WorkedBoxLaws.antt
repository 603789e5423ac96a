-- What follows from working out a blank side, and examples of it. proofs/Blank.antt has the proofs.
use Rattle.std.specs.Prelude.{ℕ, ◌+◌, ◌*◌, ◌/◌, ◌≤◌, ◌<◌, Bool, true, false, ◌&&◌, cond, List, [], ◌∷◌, ◌↔◌, ◌⊎◌, ◌≡◌, eqb}
use Rattle.reading.specs.declared.geometry.Size.{Size}
use Rattle.placing.specs.Fit.{by, swapped, has_zero_side, same_size}
use Rattle.placing.specs.FittingLaws.{HalfPixel}
use Rattle.placing.specs.Scale.{scale_of}
use Rattle.shape.specs.Shape.{longest_side, same_shape}
use Rattle.shape.specs.ShapeLaws.{times}
use Rattle.shape.specs.WorkedBox.{worked_box}

-- "A box with two sides answers as before": it is as given
abbrev pub TwoSidesStay : Type 0
TwoSidesStay = (frame box : Size) → has_zero_side box ≡ false → worked_box frame box ≡ box

-- "the missing side is scale(that frame side, the given frame side, the given side)": first the height is blank, then the width
abbrev pub BlankHeight : Type 0
BlankHeight = (frame : Size) (width : ℕ) → worked_box frame (by width 0) ≡ by width (scale_of frame.height frame.width width)

abbrev pub BlankWidth : Type 0
BlankWidth = (frame : Size) (height : ℕ) → worked_box frame (by 0 height) ≡ by (scale_of frame.width frame.height height) height

-- "Both zero": both stay so
abbrev pub BothBlank : Type 0
BothBlank = (frame : Size) → worked_box frame (by 0 0) ≡ by 0 0

-- a worked box is a box like any other: worked out once more it is the same
abbrev pub WorkedTwice : Type 0
WorkedTwice = (frame box : Size) → worked_box frame (worked_box frame box) ≡ worked_box frame box

-- neither axis is treated unlike the other
abbrev pub WorkedSwapped : Type 0
WorkedSwapped = (frame box : Size) → worked_box (swapped frame) (swapped box) ≡ swapped (worked_box frame box)

-- the given side of the frame so many times: the other one comes out so many times, exactly
abbrev pub WorkedTimes : Type 0
WorkedTimes =
    (k : ℕ) (frame : Size) → 0 < frame.width → 0 < frame.height → k * frame.width ≤ 4294967295 → k * frame.height ≤ 4294967295
    → (worked_box frame (by (k * frame.width) 0) ≡ times k frame) × (worked_box frame (by 0 (k * frame.height)) ≡ times k frame)

-- ---- how long the missing side is: `that` and `given` are the frame's sides, `side` is the box's given one
-- what scale divides out is at most 4,294,967,295, so that its cap does nothing
abbrev pub NotCapped : ℕ → ℕ → ℕ → Type 0
NotCapped that given side = (that * side + given / 2) / given ≤ 4294967295

-- then the missing side is off by half a pixel at most
abbrev pub WorkedIsNearest : Type 0
WorkedIsNearest = (that given side : ℕ) → 0 < given → NotCapped that given side → HalfPixel that given side (scale_of that given side)

-- "a worked side of 0": it is less than half a pixel
abbrev pub UnderHalf : ℕ → ℕ → ℕ → Type 0
UnderHalf that given side = 2 * (that * side) < given

abbrev pub WorkedIsZero : Type 0
WorkedIsZero = (that given side : ℕ) → 0 < given → (scale_of that given side ≡ 0) ↔ UnderHalf that given side

-- exactly then the worked box has a zero side
abbrev pub ZeroUnderHalf : Type 0
ZeroUnderHalf =
    (frame : Size) (side : ℕ) → 0 < frame.width → 0 < frame.height
    → ((has_zero_side (worked_box frame (by side 0)) ≡ true) ↔ UnderHalf frame.height frame.width side)
    × ((has_zero_side (worked_box frame (by 0 side)) ≡ true) ↔ UnderHalf frame.width frame.height side)

-- ---- "the worked box is then put to the shape test like any other"
-- it has the frame's shape where it was not capped
abbrev pub NotCappedHasShape : Type 0
NotCappedHasShape =
    (frame : Size) (side : ℕ) → 0 < frame.width → 0 < frame.height
    → (NotCapped frame.height frame.width side → same_shape frame (worked_box frame (by side 0)) ≡ true)
    × (NotCapped frame.width frame.height side → same_shape frame (worked_box frame (by 0 side)) ≡ true)

-- and, capped or not, exactly where `that` × `side` is over 4,294,967,295 × `given` by no more than the longest of the frame's two sides,
-- `side` and 4,294,967,295: what is left of 19
abbrev pub InReach : ℕ → ℕ → ℕ → Type 0
InReach that given side = that * side ≤ 4294967295 * given + longest_side (by given that) (by side 4294967295)

abbrev pub HasShapeInReach : Type 0
HasShapeInReach =
    (frame : Size) (side : ℕ) → 0 < frame.width → 0 < frame.height
    → ((same_shape frame (worked_box frame (by side 0)) ≡ true) ↔ InReach frame.height frame.width side)
    × ((same_shape frame (worked_box frame (by 0 side)) ≡ true) ↔ InReach frame.width frame.height side)

-- no side of 32 bits is longer than 4,294,967,295: then it is where `that` × `side` is at most 4,294,967,295 × (`given` + 1)
abbrev pub InReachOf32 : Type 0
InReachOf32 =
    (that given side : ℕ) → that ≤ 4294967295 → given ≤ 4294967295 → side ≤ 4294967295
    → InReach that given side ↔ (that * side ≤ 4294967295 * (given + 1))

-- a column is not extreme if it is no wider than a frame whose height is of 32 bits, or if 32 bits hold the height times the column's
-- width, as they do where both are of 16 bits; a row likewise
abbrev pub NotExtreme : ℕ → ℕ → ℕ → Type 0
NotExtreme that given side = ((that ≤ 4294967295) × (side ≤ given)) ⊎ (that * side ≤ 4294967295)

-- its missing side is not capped
abbrev pub NotExtremeNotCapped : Type 0
NotExtremeNotCapped = (that given side : ℕ) → 0 < given → NotExtreme that given side → NotCapped that given side

-- on a frame without a zero side 12 and 19 never apply both
abbrev pub ZeroHasShape : Type 0
ZeroHasShape =
    (frame box : Size) → 0 < frame.width → 0 < frame.height → has_zero_side (worked_box frame box) ≡ true
    → same_shape frame (worked_box frame box) ≡ true

-- on a frame with one, which only a sheet made by hand can have, every box with a blank side is 12
abbrev pub BlankInNoFrame : Type 0
BlankInNoFrame =
    (frame box : Size) → has_zero_side frame ≡ true → has_zero_side box ≡ true → has_zero_side (worked_box frame box) ≡ true

-- ---- examples
pub record Example : Type 0 where
  pub frame : Size
  pub box : Size
  pub worked : Size
  -- 12, 19, or 0 where the worked box is accepted
  pub number : ℕ

abbrev row : Size → Size → Size → ℕ → Example
row frame box worked number = record { frame = frame; box = box; worked = worked; number = number }

abbrev pub blank_rows : List Example
blank_rows =
    row (by 6016 4016) (by 300 0) (by 300 200) 0 ∷  -- 200.27
    row (by 6016 4016) (by 0 200) (by 300 200) 0 ∷  -- 299.6
    row (by 4016 6016) (by 300 0) (by 300 449) 0 ∷  -- on its side: 449.4
    row (by 6016 4016) (by 1200 0) (by 1200 801) 0 ∷  -- 801.06
    row (by 6016 4016) (by 1200 800) (by 1200 800) 19 ∷  -- two sides: as given
    row (by 6016 4016) (by 0 0) (by 0 0) 12 ∷  -- none
    row (by 4 2) (by 1 0) (by 1 1) 0 ∷  -- half a pixel is rounded up
    row (by 5 2) (by 1 0) (by 1 0) 12 ∷  -- less is none
    row (by 2 5) (by 0 1) (by 0 1) 12 ∷
    row (by 1 4294967295) (by 1 0) (by 1 4294967295) 0 ∷
    row (by 1 4294967295) (by 2 0) (by 2 4294967295) 0 ∷  -- capped, and still in reach
    row (by 1 4294967295) (by 3 0) (by 3 4294967295) 19 ∷  -- capped, and not
    row (by 4294967295 1) (by 0 3) (by 4294967295 3) 19 ∷
    row (by 4294967295 1) (by 2147483647 0) (by 2147483647 0) 12 ∷  -- just less than half a pixel
    row (by 4294967295 1) (by 2147483648 0) (by 2147483648 1) 0 ∷
    row (by 0 5) (by 3 0) (by 3 0) 12 ∷  -- a zero side of the frame, by hand
    row (by 5 0) (by 3 0) (by 3 0) 12 ∷
    row (by 0 0) (by 5 7) (by 5 7) 0 ∷
    []

abbrev pub number_for : Size → Size → ℕ
number_for frame box = cond (has_zero_side box) 12 (cond (same_shape frame box) 0 19)

unfoldable pub rows_agree : List Example → Bool
rows_agree [] = true
rows_agree (e ∷ es) =
    (same_size (worked_box e.frame e.box) e.worked && eqb (number_for e.frame e.worked) e.number) && rows_agree es

abbrev pub BlankExamples : Type 0
BlankExamples = rows_agree blank_rows ≡ true
