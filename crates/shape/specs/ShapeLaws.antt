-- What follows from the test of shapes, and examples of it. proofs/Shapes.antt has the proofs, Times.antt that of scaling to a whole
-- number of times the frame.
use Rattle.std.specs.Prelude.{ℕ, ◌+◌, ◌*◌, ◌/◌, ◌≤◌, ◌<◌, max, Bool, true, false, ◌&&◌, List, [], ◌∷◌, ◌↔◌, ◌≡◌}
use Rattle.std.specs.Bool.{beq}
use Rattle.reading.specs.declared.geometry.Size.{Size}
use Rattle.placing.specs.declared.focus.FocusPoint.{FocusPoint}
use Rattle.placing.specs.Fit.{by, swapped, point_fits}
use Rattle.placing.specs.Scale.{scale_of, scaled_point}
use Rattle.shape.specs.Shape.{longest_side, same_shape}

-- the same without a subtraction: neither product is over the other by more than the longest side
pub record NearInShape (frame box : Size) : Type 0 where
  pub above : frame.width * box.height ≤ frame.height * box.width + longest_side frame box
  pub below : frame.height * box.width ≤ frame.width * box.height + longest_side frame box

abbrev pub ToldByProducts : Type 0
ToldByProducts = (frame box : Size) → (same_shape frame box ≡ true) ↔ NearInShape frame box

-- a size, each side so many times
abbrev pub times : ℕ → Size → Size
times k s = by (k * s.width) (k * s.height)

-- the test is no trap: a frame has its own shape, and so has the frame times any whole number. That a caller's sides end at
-- 4,294,967,295 is not needed
abbrev pub OwnShape : Type 0
OwnShape = (frame : Size) → same_shape frame frame ≡ true

abbrev pub TimesShape : Type 0
TimesShape = (k : ℕ) (frame : Size) → same_shape frame (times k frame) ≡ true

-- nor does it matter which of the two is the frame, so that a whole part of a frame has its shape too
abbrev pub EitherWay : Type 0
EitherWay = (a b : Size) → same_shape a b ≡ same_shape b a

-- nor whether both are seen with their sides exchanged
abbrev pub BothSwapped : Type 0
BothSwapped = (a b : Size) → same_shape (swapped a) (swapped b) ≡ same_shape a b

-- a box with one side of choice, the other as the frame's shape has it, rounded to the nearest pixel and at least 1, has the frame's
-- shape, unless that side would be over 4,294,967,295. First the width of choice, then the height
abbrev pub RoundedHeight : Type 0
RoundedHeight =
    (frame : Size) (width : ℕ) → 0 < frame.width
    → (frame.height * width + frame.width / 2) / frame.width ≤ 4294967295
    → same_shape frame (by width (max (scale_of frame.height frame.width width) 1)) ≡ true

abbrev pub RoundedWidth : Type 0
RoundedWidth =
    (frame : Size) (height : ℕ) → 0 < frame.height
    → (frame.width * height + frame.height / 2) / frame.height ≤ 4294967295
    → same_shape frame (by (max (scale_of frame.width frame.height height) 1) height) ≡ true

-- ---- scaling to a whole number of times the frame
-- a point, its center and area so many times
abbrev pub times_point : ℕ → FocusPoint → FocusPoint
times_point k p =
    record {
      number = p.number;
      center = record { x = k * p.center.x; y = k * p.center.y };
      size = times k p.size;
      in_focus = p.in_focus;
    }

-- is exact: nothing is rounded, trimmed or dropped of a point that fits the frame
abbrev pub ScaledTimes : Type 0
ScaledTimes =
    (k : ℕ) (frame : Size) (p : FocusPoint) → 0 < k → k * frame.width ≤ 4294967295 → k * frame.height ≤ 4294967295
    → point_fits frame p ≡ true → scaled_point p frame (times k frame) ≡ times_point k p

-- ---- examples
pub record Example : Type 0 where
  pub frame : Size
  pub box : Size
  pub same : Bool

abbrev row : Size → Size → Bool → Example
row frame box same = record { frame = frame; box = box; same = same }

abbrev pub shape_rows : List Example
shape_rows =
    row (by 3 2) (by 2 2) true ∷  -- 2 apart: one below the longest side
    row (by 3 2) (by 3 3) true ∷  -- 3 apart: the longest side
    row (by 3 2) (by 1 2) false ∷  -- 4 apart: one over it
    row (by 2 3) (by 3 3) true ∷  -- the frame's height is the longest, or one of them
    row (by 2 3) (by 2 1) false ∷
    row (by 2 1) (by 5 5) true ∷  -- a side of the box is
    row (by 2 1) (by 3 5) false ∷
    row (by 6000 4000) (by 640 427) true ∷  -- 3 to 2, rounded
    row (by 6000 4000) (by 640 428) false ∷
    row (by 6016 4016) (by 4016 6016) false ∷  -- upright, the frame is not
    row (by 4294967295 4294967295) (by 4294967295 4294967294) true ∷  -- products of 64 bits
    row (by 4294967295 4294967295) (by 4294967295 4294967293) false ∷
    row (by 1 1) (by 1 4294967295) true ∷  -- one pixel has any shape
    row (by 0 5) (by 5 5) false ∷  -- a zero side
    row (by 0 0) (by 5 7) true ∷
    []

unfoldable pub rows_agree : List Example → Bool
rows_agree [] = true
rows_agree (e ∷ es) = beq (same_shape e.frame e.box) e.same && rows_agree es

abbrev pub ShapeExamples : Type 0
ShapeExamples = rows_agree shape_rows ≡ true
