-- `listed_points`: the loop collects the points at the front of the places; the rows that are left decide the rest. Assumes
-- nothing.
use native.Mathlib.Omega.{arith}
use Rattle.placing.proofs.named.listed_points.Invariants.{same_row, is_listed_lem, is_left, start, end}
use Rattle.placing.proofs.named.listed_points.Goals.{in-Some, in_default}
use Rattle.placing.proofs.named.listed_points.Goals as goal

pub loop-point-init : goal.loop-point-init
loop-point-init c = (omega arith, start _ _ _ _ c.no_places-points.ensures)

pub loop-point-preserved : goal.loop-point-preserved
loop-point-preserved c =
    let a = c.args in
    let l = c.loop-point in
    let i = l.point-index in
    let t = c.loop-point-test.true in
    let ep = same_row _ i c.table.ensures in
    let er = c.placed_point.ensures in
    elim c.match-placed_point.branch [
      | in-Some w ↦ (
        omega (arith, w.count-is),
        rw (w.points-is, w.count-is)
            (is_listed_lem a.window a.names.primary a.names.mask l.count i l.points t _ ep _ er l.invariant.1 _ (omega arith) w.in-Some.is),
      )
      | in_default w ↦ (
        omega (arith, w.count-is),
        rw (w.points-is, w.count-is) (is_left a.window a.names.primary a.names.mask l.count i l.points t _ ep _ er l.invariant.1 w.in_default.is),
      )
    ]

pub returns : goal.returns
returns c =
    let a = c.args in
    end a.window a.names.primary a.names.mask _ _ c.loop-point.point-index (omega (arith, c.loop-point-test.false, c.loop-point.auto.point-index-end)) c.loop-point.invariant.1
