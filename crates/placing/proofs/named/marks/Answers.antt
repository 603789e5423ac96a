-- `marks`: past the mask's 64 bits there is none. Assumes nothing.
use Rattle.std.proofs.Common.{◌≡◌, ℕ, ◌<◌, ◌/◌, ◌%◌, ◌^◌, Option, Some, None, SomeIff}
use Rattle.std.specs.Option.{unwrap_or}
use Rattle.std.proofs.lemmas.Nat.Bits.{bit_at_above}
use mathlib.Core.Path.{sym}
use native.Mathlib.Omega.{arith}
use Rattle.placing.specs.Named.{marked}
use Rattle.placing.proofs.named.marks.Goals as goal

last_bit : (mask k : ℕ) (r : Option ℕ) → mask < 2 ^ 64 → SomeIff r (k < 64) (mask / 2 ^ k) → unwrap_or r 0 % 2 ≡ mask / 2 ^ k % 2
last_bit mask k None h past = sym (bit_at_above mask 64 k h (omega (arith, past)))
last_bit mask k (Some x) h e = rw e.1

pub returns : goal.returns
unfolding marked
returns c =
    rw (c.unwrap_or.ensures, last_bit c.args.mask _ _ c.ranges.mask.fits c.checked_shr.ensures, c.saturating_sub.ensures)
