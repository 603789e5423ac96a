-- `put_point`: the loop's invariant is that the first k numbers are put, 11 characters a number at the most. Assumes nothing.
use Rattle.std.proofs.Common.{◌-◌, ◌*◌, ◌+◌}
use Rattle.text.specs.Put.{WritesUpTo}
use Rattle.answers.proofs.Point.{first_numbers}
use Rattle.answers.proofs.put_point.Given as goal

abbrev pub invariant-loop-k : goal.invariant-loop-k
invariant-loop-k l = WritesUpTo l.fn.out (first_numbers l.words l.w (l.k - 1)) (10 + (l.k - 1) * 11) l.out
