-- A point that fits a frame, scaled to a frame of no zero side, fits that, and its center is within half a pixel. The idea: the laws
-- of one axis, once across and once down. Assumes nothing.
use Prim.Native.Nat.{ℕ, max}
use mathlib.Core.Path.{◌≡◌, refl}
use mathlib.Core.Bool.{Bool, true, false, cond}
use native.Mathlib.Omega.{arith}
use Rattle.reading.specs.declared.geometry.Size.{Size}
use Rattle.reading.specs.declared.geometry.Point.{Point}
use Rattle.placing.specs.declared.focus.FocusPoint.{FocusPoint}
use Rattle.placing.specs.Fit.{axis_fits, has_zero_side, area_fits, no_area, area_if_any_fits, point_fits}
use Rattle.placing.specs.Scale.{scale_of, scaled_side, scaled_center, scaled_area, kept_area, scaled_size, scaled_point}
use Rattle.placing.specs.FittingLaws.{OnFrame, ScaledFits, ScaledNear}
use Rattle.laws.proofs.Tests.{or_first, or_second}
use Rattle.placing.proofs.Fitting.{some_width, some_height, on_area, lies_of, fits_on_frame}
use Rattle.placing.proofs.Scaling.{scales_inside, scales_to_nearest, trim_fits}

pub center_scaled : (c : Point) (old new : Size) → OnFrame old c → has_zero_side new ≡ false → OnFrame new (scaled_center c old new)
unfolding scaled_center
center_scaled c old new o z =
    record {
      wide = omega (arith, some_width new z);
      high = omega (arith, some_height new z);
      across = scales_inside c.x old.width new.width o.wide o.across;
      down = scales_inside c.y old.height new.height o.high o.down;
    }

-- one axis of an area around a scaled center
pub side_fits : (s c old new : ℕ) → (scaled_side s c old new ≡ 0 → ⊥) → axis_fits (scaled_side s c old new) c new ≡ true
unfolding scaled_side
side_fits s c old new some = trim_fits (max (scale_of s old new) 1) c new some

-- an area with no zero side fits around the center that it was trimmed to
pub area_scaled : (a : Size) (c : Point) (old new : Size) → has_zero_side (scaled_area a c old new) ≡ false
    → area_fits new c (scaled_area a c old new) ≡ true
unfolding scaled_area
area_scaled a c old new z =
    on_area new c (scaled_area a c old new)
    (record {
      sides = z;
      across = side_fits a.width c.x old.width new.width (some_width (scaled_area a c old new) z);
      down = side_fits a.height c.y old.height new.height (some_height (scaled_area a c old new) z);
    })

-- a size is chosen by a test, and both choices will do
module _ (f : Size) (c : Point) (a b : Size) where
  chosen : (t : Bool) → (t ≡ true → area_if_any_fits f c a ≡ true) → (t ≡ false → area_if_any_fits f c b ≡ true)
      → area_if_any_fits f c (cond t a b) ≡ true
  chosen true p q = p refl
  chosen false p q = q refl

pub kept : (f : Size) (c : Point) (a : Size) → (has_zero_side a ≡ false → area_fits f c a ≡ true)
    → area_if_any_fits f c (kept_area a) ≡ true
unfolding kept_area no_area
kept f c a k =
    chosen f c (record { width = 0; height = 0 }) a (has_zero_side a) (λ z. refl)
    (λ z. or_second (no_area a) (area_fits f c a) (k z))

pub size_scaled : (a : Size) (c : Point) (old new : Size) → area_if_any_fits new c (scaled_size a c old new) ≡ true
unfolding scaled_size
size_scaled a c old new =
    let s = scaled_area a c old new in
    chosen new c a (kept_area s) (no_area a)
    (or_first (no_area a) (area_fits new c a))
    (λ z. kept new c s (area_scaled a c old new))

pub scaled_fits : ScaledFits
unfolding point_fits scaled_point
scaled_fits p old new e z =
    let c = scaled_center p.center old new in
    lies_of new c (scaled_size p.size c old new)
    (center_scaled p.center old new (fits_on_frame old p e) z)
    (size_scaled p.size c old new)

pub scaled_near : ScaledNear
unfolding scaled_point scaled_center
scaled_near p old new e w h =
    let o = fits_on_frame old p e in
    record {
      across = scales_to_nearest p.center.x old.width new.width o.wide o.across w;
      down = scales_to_nearest p.center.y old.height new.height o.high o.down h;
    }

-- what scaling leaves alone
pub scaled_number : (p : FocusPoint) (old new : Size) → (scaled_point p old new).number ≡ p.number
unfolding scaled_point
scaled_number p old new = refl

pub scaled_in_focus : (p : FocusPoint) (old new : Size) → (scaled_point p old new).in_focus ≡ p.in_focus
unfolding scaled_point
scaled_in_focus p old new = refl
