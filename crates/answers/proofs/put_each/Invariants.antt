-- `put_each`: the loop's invariant is that the first i tags are put, 11 characters a tag at the most. Assumes nothing.
use Rattle.std.proofs.Common.{◌*◌}
use Rattle.text.specs.Put.{WritesUpTo}
use Rattle.answers.specs.Answers.{spaced_all}
use Rattle.answers.proofs.put_each.Given as goal

abbrev pub invariant-loop-i : goal.invariant-loop-i
invariant-loop-i l = WritesUpTo l.initial.out (spaced_all l.tags l.i) (l.i * 11) l.out
