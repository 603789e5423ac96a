-- 01, 'Fit and scale': a point measured in another frame.
use Rattle.std.specs.Prelude.{ℕ, ◌+◌, ◌*◌, ◌-◌, ◌/◌, min, max, cond}
use Rattle.reading.specs.declared.geometry.Size.{Size}
use Rattle.reading.specs.declared.geometry.Point.{Point}
use Rattle.placing.specs.declared.focus.FocusPoint.{FocusPoint}
use Rattle.placing.specs.Fit.{has_zero_side, no_area}

-- "scale(v, old, new) = floor((v × new + floor(old/2)) / old), at most 4,294,967,295". A division by 0 is 0, and so is
-- scale from a side of 0
unfoldable pub scale_of : ℕ → ℕ → ℕ → ℕ
scale_of v old new = min ((v * new + old / 2) / old) 4294967295

-- "trims it to twice the nearer of centre and frame − centre": one axis, an area's side first
unfoldable pub trim_of : ℕ → ℕ → ℕ → ℕ
trim_of side center frame = min side (2 * min center (frame - center))

-- an area's side on one axis: scaled, "raises each side to 1, trims it" around a center that is scaled already
unfoldable pub scaled_side : ℕ → ℕ → ℕ → ℕ → ℕ
scaled_side side center old new = trim_of (max (scale_of side old new) 1) center new

-- "scales its centre"
unfoldable pub scaled_center : Point → Size → Size → Point
scaled_center c old new =
    record { x = scale_of c.x old.width new.width; y = scale_of c.y old.height new.height }

-- an area on both axes, around a center that is scaled already
unfoldable pub scaled_area : Size → Point → Size → Size → Size
scaled_area a c old new =
    record {
      width = scaled_side a.width c.x old.width new.width;
      height = scaled_side a.height c.y old.height new.height;
    }

-- "drops the area if a side is then 0": an area that is dropped has the size 0 by 0
unfoldable pub kept_area : Size → Size
kept_area a = cond (has_zero_side a) (record { width = 0; height = 0 }) a

-- a point's size: no area stays none, an area is scaled and may be dropped
unfoldable pub scaled_size : Size → Point → Size → Size → Size
scaled_size a c old new = cond (no_area a) a (kept_area (scaled_area a c old new))

-- "Scaling a point scales its centre and sides, raises each side to 1, trims it to twice the nearer of centre and frame − centre,
-- and drops the area if a side is then 0."
unfoldable pub scaled_point : FocusPoint → Size → Size → FocusPoint
scaled_point p old new =
    record {
      number = p.number;
      center = scaled_center p.center old new;
      size = scaled_size p.size (scaled_center p.center old new) old new;
      in_focus = p.in_focus;
    }
