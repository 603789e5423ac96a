-- 01, 'Fit and scale': when a point fits a frame.
use Rattle.std.specs.Prelude.{ℕ, ◌+◌, ◌/◌, Bool, ◌&&◌, ◌||◌, not, leb, eqb}
use Rattle.reading.specs.declared.geometry.Size.{Size}
use Rattle.reading.specs.declared.geometry.Point.{Point}
use Rattle.placing.specs.declared.focus.FocusPoint.{FocusPoint}

-- a size, width first
abbrev pub by : ℕ → ℕ → Size
by width height = record { width = width; height = height }

-- a frame or an area with its sides exchanged
abbrev pub swapped : Size → Size
swapped s = by s.height s.width

-- whether two sizes are equal
unfoldable pub same_size : Size → Size → Bool
same_size a b = eqb a.width b.width && eqb a.height b.height

-- "ceil(side/2)"
abbrev pub half_up : ℕ → ℕ
half_up side = (side + 1) / 2

-- "on each axis, ceil(side/2) ≤ centre and centre + ceil(side/2) ≤ frame side": one axis, an area's side first
unfoldable pub axis_fits : ℕ → ℕ → ℕ → Bool
axis_fits side center frame = leb (half_up side) center && leb (center + half_up side) frame

-- "a zero side", of a frame or of an area
unfoldable pub has_zero_side : Size → Bool
has_zero_side s = eqb s.width 0 || eqb s.height 0

-- "A centre lies on a frame of no zero side if no coordinate is below 0 or over its side."
unfoldable pub center_lies_on : Size → Point → Bool
center_lies_on f c = not (has_zero_side f) && (leb c.x f.width && leb c.y f.height)

-- "An area fits if neither side is zero and, on each axis," its side fits around the center
unfoldable pub area_fits : Size → Point → Size → Bool
area_fits f c a =
    not (has_zero_side a) && (axis_fits a.width c.x f.width && axis_fits a.height c.y f.height)

-- "width, height (both 0 without area)"
unfoldable pub no_area : Size → Bool
no_area a = eqb a.width 0 && eqb a.height 0

-- "its area, if it has one, fits"
abbrev pub area_if_any_fits : Size → Point → Size → Bool
area_if_any_fits f c a = no_area a || area_fits f c a

-- "A point fits if its centre lies on the frame and its area, if it has one, fits": of a center and a size
unfoldable pub lies_on : Size → Point → Size → Bool
lies_on f c a = center_lies_on f c && area_if_any_fits f c a

-- the same of a point
unfoldable pub point_fits : Size → FocusPoint → Bool
point_fits f p = lies_on f p.center p.size
