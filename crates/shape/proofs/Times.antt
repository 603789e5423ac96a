-- Scaling to a whole number of times the frame is exact: on one axis first, of a coordinate and of a side around its center, then of a
-- point. The idea: what is to be divided is a multiple of the frame's side and less than one more, and a side that fits its frame fits
-- it so many times. Assumes nothing.
use Prim.Native.Nat.{ℕ, ◌+◌, ◌*◌, ◌/◌, ◌≤◌, ◌<◌}
use mathlib.Core.Bool.{true}
use mathlib.Core.Path.{◌≡◌, sym, ap, ap₂, ◌∙◌}
use lib.Dec.{eqb}
use native.Mathlib.Nat.{mul_left_comm, mul_assoc, mul-add, mul-zero, mul-pos, mul-le-mul_left, mul-add-div_right, div-eq_of_lt, min-eq_left, add-zero}
use native.Mathlib.Omega.{arith}
use borrow.Author.Tests.{eqb-true}
use Rattle.reading.specs.declared.geometry.Size.{Size}
use Rattle.reading.specs.declared.geometry.Point.{Point}
use Rattle.laws.proofs.Tests.{by_cond, both}
use Rattle.placing.specs.Fit.{by, axis_fits, no_area, area_if_any_fits, point_fits}
use Rattle.placing.specs.Scale.{scale_of, trim_of, scaled_side, scaled_center, scaled_area, kept_area, scaled_size, scaled_point}
use Rattle.placing.proofs.Fitting.{some_width, some_height, no_zero_side, axis_facts, AreaOn, area_on, area_of, fits_on_frame}
use Rattle.shape.specs.ShapeLaws.{times, ScaledTimes}

-- ---- one axis
pub scale_times : (k v old : ℕ) → 0 < old → k * v ≤ 4294967295 → scale_of v old (k * old) ≡ k * v
unfolding scale_of
scale_times k v old pos l =
    let z : old / 2 / old ≡ 0 = div-eq_of_lt (omega arith) in
    let m : v * (k * old) ≡ k * v * old = mul_left_comm v k old ∙ sym (mul_assoc k v old) in
    let e : (v * (k * old) + old / 2) / old ≡ k * v =
    ap (λ (n : ℕ). (n + old / 2) / old) m ∙ mul-add-div_right pos (k * v) (old / 2) ∙ ap (λ (n : ℕ). k * v + n) z ∙ add-zero (k * v) in
    rw e (min-eq_left l)

side_times : (k s c f : ℕ) → 0 < k → 0 < s → axis_fits s c f ≡ true → k * f ≤ 4294967295 → scaled_side s (k * c) f (k * f) ≡ k * s
unfolding scaled_side trim_of
side_times k s c f pos some e l =
    let a = axis_facts s c f e in
    let near : s ≤ c + c = omega (arith, a.0) in
    let far : s + (c + c) ≤ f + f = omega (arith, a.1) in
    let near_times : k * s ≤ k * c + k * c = rw (← mul-add k c c) (mul-le-mul_left k near) in
    let far_times : k * s + (k * c + k * c) ≤ k * f + k * f =
    rw (← mul-add k c c, ← mul-add k s (c + c), ← mul-add k f f) (mul-le-mul_left k far) in
    let any : 0 < k * s = mul-pos pos some in
    rw (scale_times k s f (omega arith) (omega arith)) (omega arith)

-- ---- a point
-- no area stays none
none_times : (k : ℕ) (a : Size) → no_area a ≡ true → a ≡ times k a
unfolding no_area
none_times k a e =
    let z = both (eqb a.width 0) (eqb a.height 0) e in
    ap₂ by (none a.width (eqb-true a.width 0 z.0)) (none a.height (eqb-true a.height 0 z.1))
  where
    none : (n : ℕ) → n ≡ 0 → n ≡ k * n
    none n z = rw (z, mul-zero)

module _ (k : ℕ) (f : Size) (c : Point) (a : Size) (pos : 0 < k) (w : k * f.width ≤ 4294967295) (h : k * f.height ≤ 4294967295) where
  abbrev center : Point
  center = record { x = k * c.x; y = k * c.y }

  -- one that fits is kept
  area_times : AreaOn f c a → kept_area (scaled_area a center f (times k f)) ≡ times k a
  unfolding scaled_area kept_area
  area_times d =
      let wide : 0 < a.width = omega (arith, some_width a d.sides) in
      let high : 0 < a.height = omega (arith, some_height a d.sides) in
      rw (side_times k a.width c.x f.width pos wide d.across w, side_times k a.height c.y f.height pos high d.down h)
      (rw (no_zero_side (times k a) (mul-pos pos wide) (mul-pos pos high)))

  size_times : area_if_any_fits f c a ≡ true → scaled_size a center f (times k f) ≡ times k a
  unfolding scaled_size
  size_times e =
      by_cond (λ (s : Size). s ≡ times k a) (no_area a) (none_times k a) (λ n. area_times (area_on f c a (rw n at e)))

pub scaled_times : ScaledTimes
unfolding scaled_point scaled_center point_fits
scaled_times k f p pos w h e =
    let o = fits_on_frame f p e in
    let x = scale_times k p.center.x f.width o.wide (omega (arith, mul-le-mul_left k o.across)) in
    let y = scale_times k p.center.y f.height o.high (omega (arith, mul-le-mul_left k o.down)) in
    rw (x, y, size_times k f p.center p.size pos w h (area_of f p.center p.size e))
