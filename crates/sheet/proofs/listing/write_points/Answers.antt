-- `write_points`: without room nothing is written; else the loop's invariant is that the first i points are written over the
-- buffer's front. Assumes nothing.
use mathlib.Core.List.{List}
use mathlib.Core.Path.{◌≡◌, refl, ap, ◌∙◌}
use Prim.Native.Nat.{ℕ, ◌*◌, ◌<◌, ◌≤◌}
use lib.ListN.{get_or, length, take}
use lib.Seq.{length-take-le, get_or-take, sets}
use native.Mathlib.Omega.{arith}
use Rattle.placing.specs.declared.focus.FocusPoint.{FocusPoint}
use Rattle.placing.specs.Load.{no_point}
use Rattle.sheet.specs.Listing.{six, flat}
use Rattle.sheet.proofs.Buffer.{too_many, too_short, one_written, all_written}
use Rattle.std.proofs.Common.{rules}
use Rattle.sheet.proofs.listing.write_points.Goals.{then-n-gt-MOST_POINTS-via-then-n-gt-MOST_POINTS, then-n-gt-MOST_POINTS-via-else-n-gt-MOST_POINTS+then-out-n}
use Rattle.sheet.proofs.listing.write_points.Goals as goal

-- an item of the first n points
module _ (ps : List FocusPoint) (lp : length ps ≡ 39) (n : ℕ) (h : n ≤ 39) where
  before_end : (i : ℕ) → i < length (take n ps) → i < n
  before_end i a = omega (arith, length-take-le n ps (omega arith))

  at_end : (i : ℕ) → length (take n ps) ≤ i → n ≤ i
  at_end i a = omega (arith, length-take-le n ps (omega arith))

  item_put : (i : ℕ) → i < n → (out o : List ℕ) → out ≡ sets o (i * 6) (six (get_or (take n ps) i no_point))
      → out ≡ sets o (i * 6) (six (get_or ps i no_point))
  item_put i a out o e = e ∙ ap (λ (p : FocusPoint). sets o (i * 6) (six p)) (get_or-take n ps i no_point a)

pub returns-then-n-gt-MOST_POINTS : goal.returns-then-n-gt-MOST_POINTS
returns-then-n-gt-MOST_POINTS c =
    elim c.then-n-gt-MOST_POINTS.branch [
      | then-n-gt-MOST_POINTS-via-then-n-gt-MOST_POINTS w ↦ too_many _ _ _ w.if-n-gt-MOST_POINTS.true
      | then-n-gt-MOST_POINTS-via-else-n-gt-MOST_POINTS+then-out-n w ↦ too_short _ _ _ w.if-out-n.true
    ]

pub loop-i-init : goal.loop-i-init
unfolding flat
loop-i-init c = (omega arith, refl)

pub loop-i-preserved : goal.loop-i-preserved
loop-i-preserved c =
    let l : length c.args.points ≡ 39 = search rules in
    let a = before_end c.args.points l c.args.n c.if-n-gt-MOST_POINTS.false _ c.loop-i-test.true in (
      omega arith,
      one_written c.args.points l _ c.if-n-gt-MOST_POINTS.false _ _ c.if-out-n.false _ c.loop-i.invariant.0 c.loop-i.invariant.1 a _
          (item_put c.args.points l c.args.n c.if-n-gt-MOST_POINTS.false _ a _ _ c.put_point.ensures),
    )

pub returns : goal.returns
returns c =
    let l : length c.args.points ≡ 39 = search rules in
    all_written c.args.points l _ c.if-n-gt-MOST_POINTS.false _ _ c.if-out-n.false _ c.loop-i.invariant.0 c.loop-i.invariant.1
    (at_end c.args.points l c.args.n c.if-n-gt-MOST_POINTS.false _ c.loop-i-test.false)
