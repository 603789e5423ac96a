-- One axis: scaling rounds to the nearest pixel and stays on the new side, and a trimmed side fits around its center. The idea: the
-- quotient's two bounds are linear once the products are taken as numbers of their own. Assumes nothing.
use mathlib.Core.Path.{◌≡◌, sym, subst}
use Prim.Native.Nat.{ℕ, ◌+◌, ◌*◌, ◌/◌, ◌≤◌, ◌<◌}
use native.Mathlib.Nat.{mul-le-mul, mul-le-mul_right, div-mul-le_self, lt-div-mul-add, lt_of_mul-lt-mul_right, mul_comm, add-mul, one-mul, min-eq_left, div-zero}
use native.Mathlib.Omega.{arith}
use borrow.Author.Tests.{le-leb}
use Rattle.placing.specs.Fit.{half_up, axis_fits}
use Rattle.placing.specs.Scale.{scale_of, trim_of}
use Rattle.placing.specs.FittingLaws.{HalfPixel, ScalesToNearest, ScalesInside, TrimFits}

-- a product of two 32-bit numbers
pub product : (a b : ℕ) → a < 4294967296 → b < 4294967296 → a * b ≤ 18446744065119617025
product a b ha hb =
    let ha' : a ≤ 4294967295 = omega arith in
    let hb' : b ≤ 4294967295 = omega arith in
    mul-le-mul ha' hb'

-- a side of no pixels
pub no_side : (v old new : ℕ) → old ≡ 0 → 0 ≡ scale_of v old new
unfolding scale_of
no_side v old new e = rw (e, div-zero)

-- before the cap: within half a pixel
abbrev pub quotient : ℕ → ℕ → ℕ → ℕ
quotient v old new = (v * new + old / 2) / old

module _ (v old new : ℕ) (pos : 0 < old) where
  pub half : HalfPixel v old new (quotient v old new)
  half =
      let lo : quotient v old new * old ≤ v * new + old / 2 = div-mul-le_self (v * new + old / 2) old in
      let hi : v * new + old / 2 < quotient v old new * old + old = lt-div-mul-add pos in
      record { above = omega arith; below = omega arith }

  inside : v ≤ old → quotient v old new ≤ new
  inside h =
      let lo : quotient v old new * old ≤ v * new + old / 2 = div-mul-le_self (v * new + old / 2) old in
      let k : v * new ≤ old * new = mul-le-mul_right new h in
      let e : (new + 1) * old ≡ new * old + 1 * old = add-mul new 1 old in
      let f : 1 * old ≡ old = one-mul old in
      let g : old * new ≡ new * old = mul_comm old new in
      let l : quotient v old new * old < (new + 1) * old = omega arith in
      let m : quotient v old new < new + 1 = lt_of_mul-lt-mul_right old l in
      omega arith

pub scales_inside : ScalesInside
unfolding scale_of
scales_inside v old new pos h = omega (arith, inside v old new pos h)

pub scale_capped : (v old new : ℕ) → scale_of v old new ≤ 4294967295
unfolding scale_of
scale_capped v old new = omega arith

-- of a value on the old side, the cap is not reached
pub scale_uncapped : (v old new : ℕ) → 0 < old → v ≤ old → new ≤ 4294967295 → scale_of v old new ≡ (v * new + old / 2) / old
unfolding scale_of
scale_uncapped v old new pos h k = min-eq_left (let i : quotient v old new ≤ new = inside v old new pos h in omega arith)

pub scales_to_nearest : ScalesToNearest
scales_to_nearest v old new pos h k =
    subst (HalfPixel v old new) (sym (scale_uncapped v old new pos h k)) (half v old new pos)

pub trim_fits : TrimFits
unfolding axis_fits trim_of
trim_fits side center frame some =
    let t = trim_of side center frame in
    let a : half_up t ≤ center = omega arith in
    let b : center + half_up t ≤ frame = omega arith in
    rw (le-leb (half_up t) center a, le-leb (center + half_up t) frame b)
