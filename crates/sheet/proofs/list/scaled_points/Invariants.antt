-- `list::scaled_points`: the loop's invariant is that the first of the listed points are scaled and the others as they were. Assumes
-- nothing.
use Rattle.std.proofs.Common.{◌≡◌, ◌++◌, map, take, drop}
use Rattle.placing.specs.declared.focus.FocusPoint.{FocusPoint}
use Rattle.placing.specs.Scale.{scaled_point}
use Rattle.sheet.proofs.list.scaled_points.Given as goal

abbrev pub invariant-loop-point : goal.invariant-loop-point
invariant-loop-point l =
    l.point-items
    ≡ map (λ (p : FocusPoint). scaled_point p l.old l.new) (take l.point-index l.initial.point-items) ++ drop l.point-index l.initial.point-items
