-- What the tests of Fit tell, and that a point still fits when it is mirrored or its axes are exchanged. The idea: a test that is true
-- is turned into facts on the numbers, and facts back into a test. Assumes nothing.
use Prim.Native.Nat.{ℕ, ◌+◌, ◌-◌, ◌≤◌, ◌<◌}
use mathlib.Core.Path.{◌≡◌, ◌∙◌}
use mathlib.Core.Bool.{true, false, ◌&&◌, not, and_comm, or_comm}
use native.Mathlib.Omega.{arith}
use lib.Dec.{leb, eqb}
use borrow.Author.Tests.{le-leb, leb-true, ne_eqb, eqb-false, not-true}
use Rattle.reading.specs.declared.geometry.Size.{Size}
use Rattle.reading.specs.declared.geometry.Point.{Point}
use Rattle.placing.specs.Fit.{half_up, axis_fits, has_zero_side, center_lies_on, area_fits, no_area, area_if_any_fits, lies_on, point_fits}
use Rattle.laws.proofs.Tests.{both, and_of, neither, or_map}
use Rattle.placing.specs.FittingLaws.{OnFrame, AxisMirrored, FitsOnFrame, FitsMirrored, FitsSwapped}
use Rattle.placing.specs.Fit.{swapped}

pub some_width : (s : Size) → has_zero_side s ≡ false → s.width ≡ 0 → ⊥
unfolding has_zero_side
some_width s e = eqb-false s.width 0 (neither (eqb s.width 0) (eqb s.height 0) e).0

pub some_height : (s : Size) → has_zero_side s ≡ false → s.height ≡ 0 → ⊥
unfolding has_zero_side
some_height s e = eqb-false s.height 0 (neither (eqb s.width 0) (eqb s.height 0) e).1

pub no_zero_side : (s : Size) → 0 < s.width → 0 < s.height → has_zero_side s ≡ false
unfolding has_zero_side
no_zero_side s w h = rw (ne_eqb s.width 0 (λ e. omega arith), ne_eqb s.height 0 (λ e. omega arith))

-- center_lies_on and its facts
pub center_on : (f : Size) (c : Point) → center_lies_on f c ≡ true → OnFrame f c
unfolding center_lies_on
center_on f c e =
    let p = both (not (has_zero_side f)) (leb c.x f.width && leb c.y f.height) e in
    let q = both (leb c.x f.width) (leb c.y f.height) p.1 in
    let z = not-true (has_zero_side f) p.0 in
    record {
      wide = omega (arith, some_width f z);
      high = omega (arith, some_height f z);
      across = leb-true c.x f.width q.0;
      down = leb-true c.y f.height q.1;
    }

pub on_center : (f : Size) (c : Point) → OnFrame f c → center_lies_on f c ≡ true
unfolding center_lies_on
on_center f c o =
    rw (no_zero_side f o.wide o.high, le-leb c.x f.width o.across, le-leb c.y f.height o.down)

-- axis_fits and its facts
pub axis_facts : (s c f : ℕ) → axis_fits s c f ≡ true → (half_up s ≤ c) × (c + half_up s ≤ f)
unfolding axis_fits
axis_facts s c f e =
    let p = both (leb (half_up s) c) (leb (c + half_up s) f) e in
    (leb-true (half_up s) c p.0, leb-true (c + half_up s) f p.1)

pub facts_axis : (s c f : ℕ) → half_up s ≤ c → c + half_up s ≤ f → axis_fits s c f ≡ true
unfolding axis_fits
facts_axis s c f a b = rw (le-leb (half_up s) c a, le-leb (c + half_up s) f b)

pub axis_mirrored : AxisMirrored
axis_mirrored s c f e =
    let p = axis_facts s c f e in
    facts_axis s (f - c) f (omega (arith, p.0, p.1)) (omega (arith, p.0, p.1))

-- area_fits and its three tests
pub record AreaOn (f : Size) (c : Point) (a : Size) : Type 0 where
  pub sides : has_zero_side a ≡ false
  pub across : axis_fits a.width c.x f.width ≡ true
  pub down : axis_fits a.height c.y f.height ≡ true

pub area_on : (f : Size) (c : Point) (a : Size) → area_fits f c a ≡ true → AreaOn f c a
unfolding area_fits
area_on f c a e =
    let across = axis_fits a.width c.x f.width in
    let down = axis_fits a.height c.y f.height in
    let p = both (not (has_zero_side a)) (across && down) e in
    let q = both across down p.1 in
    record { sides = not-true (has_zero_side a) p.0; across = q.0; down = q.1 }

pub on_area : (f : Size) (c : Point) (a : Size) → AreaOn f c a → area_fits f c a ≡ true
unfolding area_fits
on_area f c a o = rw (o.sides, o.across, o.down)

-- lies_on and its two tests
pub center_of : (f : Size) (c : Point) (a : Size) → lies_on f c a ≡ true → center_lies_on f c ≡ true
unfolding lies_on
center_of f c a e = (both (center_lies_on f c) (area_if_any_fits f c a) e).0

pub area_of : (f : Size) (c : Point) (a : Size) → lies_on f c a ≡ true → area_if_any_fits f c a ≡ true
unfolding lies_on
area_of f c a e = (both (center_lies_on f c) (area_if_any_fits f c a) e).1

pub lies_of : (f : Size) (c : Point) (a : Size) → OnFrame f c → area_if_any_fits f c a ≡ true → lies_on f c a ≡ true
unfolding lies_on
lies_of f c a o e = and_of (center_lies_on f c) (area_if_any_fits f c a) (on_center f c o) e

pub fits_on_frame : FitsOnFrame
unfolding point_fits
fits_on_frame f p e = center_on f p.center (center_of f p.center p.size e)

pub fits_mirrored : FitsMirrored
fits_mirrored f c a e =
    let m : Point = record { x = f.width - c.x; y = c.y } in
    let o = center_on f c (center_of f c a e) in
    let moved : AreaOn f c a → AreaOn f m a =
    λ k. record { sides = k.sides; across = axis_mirrored a.width c.x f.width k.across; down = k.down } in
    lies_of f m a
    (record { wide = o.wide; high = o.high; across = omega arith; down = o.down })
    (or_map (no_area a) (area_fits f c a) (area_fits f m a) (λ k. on_area f m a (moved (area_on f c a k))) (area_of f c a e))

no_area_swapped : (a : Size) → no_area (swapped a) ≡ no_area a
unfolding no_area
no_area_swapped a = and_comm (eqb a.height 0) (eqb a.width 0)

has_zero_side_swapped : (a : Size) → has_zero_side (swapped a) ≡ has_zero_side a
unfolding has_zero_side
has_zero_side_swapped a = or_comm (eqb a.height 0) (eqb a.width 0)

pub fits_swapped : FitsSwapped
fits_swapped f c a e =
    let s : Point = record { x = c.y; y = c.x } in
    let o = center_on f c (center_of f c a e) in
    let moved : AreaOn f c a → AreaOn (swapped f) s (swapped a) =
    λ k. record { sides = has_zero_side_swapped a ∙ k.sides; across = k.down; down = k.across } in
    lies_of (swapped f) s (swapped a)
    (record { wide = o.high; high = o.wide; across = o.down; down = o.across })
    (rw (no_area_swapped a)
    (or_map (no_area a) (area_fits f c a) (area_fits (swapped f) s (swapped a))
    (λ k. on_area (swapped f) s (swapped a) (moved (area_on f c a k)))
    (area_of f c a e)))
