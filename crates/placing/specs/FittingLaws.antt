-- Laws of fitting and scaling: first on one axis, over plain numbers, then for both axes. Here are the statements; proofs/Scaling.antt,
-- Fitting.antt and Scaled.antt have the proofs.
use Rattle.std.specs.Prelude.{ℕ, ◌+◌, ◌*◌, ◌-◌, ◌≤◌, ◌<◌, true, false, ◌≡◌}
use Rattle.reading.specs.declared.geometry.Size.{Size}
use Rattle.reading.specs.declared.geometry.Point.{Point}
use Rattle.placing.specs.declared.focus.FocusPoint.{FocusPoint}
use Rattle.placing.specs.Fit.{axis_fits, has_zero_side, lies_on, point_fits, swapped}
use Rattle.placing.specs.Scale.{scale_of, trim_of, scaled_point}

-- "Half a pixel means: 2 × |result × old − v × new| ≤ old": neither product is over the other by more
pub record HalfPixel (v old new result : ℕ) : Type 0 where
  pub above : 2 * (result * old) ≤ 2 * (v * new) + old
  pub below : 2 * (v * new) ≤ 2 * (result * old) + old

-- a value on the old side is scaled to within half a pixel
abbrev pub ScalesToNearest : Type 0
ScalesToNearest = (v old new : ℕ) → 0 < old → v ≤ old → new ≤ 4294967295 → HalfPixel v old new (scale_of v old new)

-- and it lies on the new side
abbrev pub ScalesInside : Type 0
ScalesInside = (v old new : ℕ) → 0 < old → v ≤ old → scale_of v old new ≤ new

-- a side that trimming leaves fits around its center
abbrev pub TrimFits : Type 0
TrimFits =
    (side center frame : ℕ) → (trim_of side center frame ≡ 0 → ⊥) → axis_fits (trim_of side center frame) center frame ≡ true

-- a side that fits around a center fits around it seen from the other end
abbrev pub AxisMirrored : Type 0
AxisMirrored = (side center frame : ℕ) → axis_fits side center frame ≡ true → axis_fits side (frame - center) frame ≡ true

-- what the test center_lies_on tells
pub record OnFrame (f : Size) (c : Point) : Type 0 where
  pub wide : 0 < f.width
  pub high : 0 < f.height
  pub across : c.x ≤ f.width
  pub down : c.y ≤ f.height

-- a point that fits has its center on the frame
abbrev pub FitsOnFrame : Type 0
FitsOnFrame = (f : Size) (p : FocusPoint) → point_fits f p ≡ true → OnFrame f p.center

-- seen from the right edge a point still fits
abbrev pub FitsMirrored : Type 0
FitsMirrored =
    (f : Size) (c : Point) (a : Size) → lies_on f c a ≡ true → lies_on f (record { x = f.width - c.x; y = c.y }) a ≡ true

-- with the axes exchanged a point still fits
abbrev pub FitsSwapped : Type 0
FitsSwapped =
    (f : Size) (c : Point) (a : Size) → lies_on f c a ≡ true → lies_on (swapped f) (record { x = c.y; y = c.x }) (swapped a) ≡ true

-- a point that fits a frame, scaled to any frame of no zero side, fits that
abbrev pub ScaledFits : Type 0
ScaledFits =
    (p : FocusPoint) (old new : Size) → point_fits old p ≡ true → has_zero_side new ≡ false
    → point_fits new (scaled_point p old new) ≡ true

-- on both axes a point is within half a pixel of a center that was scaled
pub record CenterNear (c : Point) (old new : Size) (result : Point) : Type 0 where
  pub across : HalfPixel c.x old.width new.width result.x
  pub down : HalfPixel c.y old.height new.height result.y

-- a point that fits a frame is scaled to within half a pixel
abbrev pub ScaledNear : Type 0
ScaledNear =
    (p : FocusPoint) (old new : Size) → point_fits old p ≡ true → new.width ≤ 4294967295 → new.height ≤ 4294967295
    → CenterNear p.center old new (scaled_point p old new).center
