-- `put_points`: the loop's invariant is that the lines of the first i points are put, 66 characters a line at the most. Assumes nothing.
use Rattle.std.proofs.Common.{◌*◌}
use Rattle.text.specs.Put.{WritesUpTo}
use Rattle.answers.specs.Answers.{points_text}
use Rattle.answers.proofs.put_points.Given as goal

abbrev pub invariant-loop-i : goal.invariant-loop-i
invariant-loop-i l = WritesUpTo l.initial.out (points_text l.words l.i) (l.i * 66) l.out
