-- The eight have the numbers 1 to 8, and no other number stands for one. Assumes nothing.
use Prim.Native.Nat.{ℕ, zero, suc, ◌-◌, ◌<◌}
use mathlib.Core.Bool.{Bool, true, false, ◌||◌, cond}
use mathlib.Core.Logic.{inl, inr}
use mathlib.Core.Path.{◌≡◌, refl, sym, ap, ◌∙◌}
use lib.Dec.{ltb}
use lib.ListN.{get_or}
use native.Mathlib.Omega.{arith}
use borrow.Author.Tests.{lt-ltb, ltb-false}
use Rattle.laws.proofs.Tests.{neither, or_first, or_second}
use Rattle.reading.specs.Outcome.{refused, accepted}
use Rattle.sheet.specs.declared.orientation.Orientation.TheVariants.{Normal, FlipHorizontal, Rotate180, FlipVertical, Transpose, Rotate90, Transverse, Rotate270}
use Rattle.sheet.specs.Orientation.{eight, orientation_number, orientation_of}
use Rattle.sheet.specs.OrientationLaws.{OneToEight, NumberStandsFor, StandsForOne, OthersOutside}

pub one_to_eight : OneToEight
unfolding orientation_number
one_to_eight = refl

pub number_stands_for : NumberStandsFor
unfolding orientation_number orientation_of
number_stands_for Normal = refl
number_stands_for FlipHorizontal = refl
number_stands_for Rotate180 = refl
number_stands_for FlipVertical = refl
number_stands_for Transpose = refl
number_stands_for Rotate90 = refl
number_stands_for Transverse = refl
number_stands_for Rotate270 = refl

-- the place among the eight, from 0, is one less than the number
placed : (i : ℕ) → i < 8 → orientation_number (get_or eight i Normal) ≡ suc i
unfolding orientation_number
placed zero h = refl
placed (suc zero) h = refl
placed (suc (suc zero)) h = refl
placed (suc (suc (suc zero))) h = refl
placed (suc (suc (suc (suc zero)))) h = refl
placed (suc (suc (suc (suc (suc zero))))) h = refl
placed (suc (suc (suc (suc (suc (suc zero)))))) h = refl
placed (suc (suc (suc (suc (suc (suc (suc zero))))))) h = refl
placed (suc (suc (suc (suc (suc (suc (suc (suc i)))))))) h = absurd (omega arith)

pub stands_for_one : StandsForOne
unfolding orientation_of
stands_for_one n o e = by (ltb n 1 || ltb 8 n) refl e
  where
    by : (b : Bool) → ltb n 1 || ltb 8 n ≡ b → cond b (refused 15) (accepted (get_or eight (n - 1) Normal)) ≡ accepted o → orientation_number o ≡ n
    by true p y = let z : ◌≡◌ {A = ℕ} 0 1 = cc in absurd (omega arith)
    by false p y =
        let k = neither (ltb n 1) (ltb 8 n) p in
        let q : get_or eight (n - 1) Normal ≡ o = cc in
        let s : suc (n - 1) ≡ n = omega (arith, ltb-false n 1 k.0) in
        ap orientation_number (sym q) ∙ placed (n - 1) (omega (arith, ltb-false n 1 k.0, ltb-false 8 n k.1)) ∙ s

pub others_outside : OthersOutside
unfolding orientation_of
others_outside n (inl a) = rw (or_first (ltb n 1) (ltb 8 n) (lt-ltb n 1 a))
others_outside n (inr a) = rw (or_second (ltb n 1) (ltb 8 n) (lt-ltb 8 n a))
