-- `put_listing`: without room the buffer is kept; else the points are written behind the head's places, and then the head. Assumes nothing.
use native.Mathlib.Omega.{arith}
use Rattle.focuspoints.specs.Inside.{laid_numbers}
use Rattle.focuspoints.proofs.Buffers as buffers
use Rattle.std.proofs.Common.{ap, not, ◌∙◌}
use Rattle.focuspoints.proofs.put_listing.Goals as goal

pub returns-then-out-lt6 : goal.returns-then-out-lt6
returns-then-out-lt6 c = buffers.too_short _ _ _ (omega (arith, c.if-out-lt6.true))

pub returns-then-not-write_points : goal.returns-then-not-write_points
returns-then-not-write_points c = buffers.points_short _ _ c.requires.0 c.args.out.now c.if-out-lt6.false _ _ c.write_points.ensures (ap not c.if-not-write_points.true) _

pub returns : goal.returns
unfolding laid_numbers
returns c =
    let f = c.args.focus in
    let h = buffers.head_length f.frame f.count f.primary f.area_mode f.origin in
    buffers.points_written _ _ c.requires.0 c.args.out.now c.if-out-lt6.false _ _ c.write_points.ensures (ap not c.if-not-write_points.false) _ h _
    (buffers.head_over _ _ _ h (c.copy_from_slice.ensures.after ∙ c.numbers.ensures))
