-- The laws of the test of shapes, and its examples. The idea: products are taken as numbers, of which the test is linear; where both
-- products are one, nothing is between them, and where a side is rounded, half of the side that it is divided by. Assumes nothing.
use Prim.Native.Nat.{ℕ, zero, suc, ◌+◌, ◌*◌, ◌/◌, ◌≤◌, ◌<◌, max}
use mathlib.Core.Bool.{true, false}
use mathlib.Core.Path.{◌≡◌, refl, sym, ap, ap₂, ◌∙◌}
use lib.Dec.{leb}
use native.Mathlib.Nat.{mul_comm, mul_assoc, mul-one, zero-mul, min-eq_left, div-mul-le_self, lt-div-mul-add}
use native.Mathlib.Omega.{arith}
use borrow.Author.Tests.{le-leb, lt-leb, leb-true, leb-false}
use Rattle.reading.specs.declared.geometry.Size.{Size}
use Rattle.placing.specs.Fit.{by, swapped}
use Rattle.placing.specs.Scale.{scale_of}
use Rattle.shape.specs.Shape.{shape_difference, longest_side, same_shape}
use Rattle.shape.specs.ShapeLaws.{NearInShape, ToldByProducts, times, OwnShape, TimesShape, EitherWay, BothSwapped, RoundedHeight, RoundedWidth, rows_agree, ShapeExamples}

-- the test, in numbers
module _ (f b : Size) where
  pub same_told : same_shape f b ≡ true → shape_difference f b ≤ longest_side f b
  unfolding same_shape
  same_told e = leb-true (shape_difference f b) (longest_side f b) e

  pub same_of : shape_difference f b ≤ longest_side f b → same_shape f b ≡ true
  unfolding same_shape
  same_of l = le-leb (shape_difference f b) (longest_side f b) l

  pub other_told : same_shape f b ≡ false → longest_side f b < shape_difference f b
  unfolding same_shape
  other_told e = leb-false (shape_difference f b) (longest_side f b) e

  pub other_of : longest_side f b < shape_difference f b → same_shape f b ≡ false
  unfolding same_shape
  other_of l = lt-leb (shape_difference f b) (longest_side f b) l

near : (f b : Size) → same_shape f b ≡ true → NearInShape f b
near f b e = let l = same_told f b e in record { above = omega arith; below = omega arith }

same : (f b : Size) → NearInShape f b → same_shape f b ≡ true
same f b n = same_of f b (omega (arith, n.above, n.below))

pub told_by_products : ToldByProducts
told_by_products f b = (near f b, same f b)

-- equal products
pub equal_products : (f b : Size) → f.width * b.height ≡ f.height * b.width → same_shape f b ≡ true
equal_products f b e = same f b (record { above = omega arith; below = omega arith })

pub own_shape : OwnShape
own_shape f = equal_products f f (mul_comm f.width f.height)

pub times_shape : TimesShape
times_shape k f = equal_products f (times k f) (across f.width f.height)
  where
    across : (w h : ℕ) → w * (k * h) ≡ h * (k * w)
    across w h = sym (mul_assoc w k h) ∙ mul_comm (w * k) h ∙ ap₂ (λ (a b : ℕ). a * b) refl (mul_comm w k)

pub either_way : EitherWay
unfolding same_shape
either_way a b =
    let p = mul_comm a.width b.height in
    let q = mul_comm a.height b.width in
    let d : shape_difference a b ≡ shape_difference b a = omega arith in
    let l : longest_side a b ≡ longest_side b a = omega arith in
    ap₂ leb d l

pub both_swapped : BothSwapped
unfolding same_shape
both_swapped a b =
    let d : shape_difference (swapped a) (swapped b) ≡ shape_difference a b = omega arith in
    let l : longest_side (swapped a) (swapped b) ≡ longest_side a b = omega arith in
    ap₂ leb d l

-- ---- a rounded side
-- q of the sides w are nearest to a number p; one of them, where that is none, is still near
side_near : (w p q : ℕ) → q * w ≤ p + w / 2 → p + w / 2 < q * w + w → (w * max q 1 ≤ p + w) × (p ≤ w * max q 1 + w)
side_near w p zero lo hi =
    let z = zero-mul w in
    let one : w * max zero 1 ≡ w = mul-one w in
    (omega arith, omega arith)
side_near w p (suc q) lo hi =
    let m : max (suc q) 1 ≡ suc q = omega arith in
    let c : w * max (suc q) 1 ≡ suc q * w = ap (λ (n : ℕ). w * n) m ∙ mul_comm w (suc q) in
    (omega arith, omega arith)

pub rounded_height : RoundedHeight
unfolding scale_of
rounded_height f w pos l =
    let n = f.height * w + f.width / 2 in
    let b = by w (max (n / f.width) 1) in
    let near = side_near f.width (f.height * w) (n / f.width) (div-mul-le_self n f.width) (lt-div-mul-add pos) in
    rw (min-eq_left l) (same f b (record { above = omega (arith, near.0); below = omega (arith, near.1) }))

pub rounded_width : RoundedWidth
rounded_width f h pos l =
    sym (both_swapped f (by (max (scale_of f.width f.height h) 1) h)) ∙ rounded_height (swapped f) h pos l

pub shape_examples : ShapeExamples
unfolding rows_agree same_shape
shape_examples = refl
