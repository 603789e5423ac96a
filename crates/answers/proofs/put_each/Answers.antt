-- `put_each`: one more tag. Assumes nothing.
use Rattle.std.proofs.Common.{refl, arith, rules}
use Rattle.text.proofs.Laws.{nothing_yet}
use Rattle.answers.specs.Answers.{space, spaced_all}
use Rattle.answers.proofs.Lines.{numbered, rows_more}
use Rattle.answers.proofs.put_each.Goals as goal

pub loop-i-init : goal.loop-i-init
unfolding spaced_all
loop-i-init c = nothing_yet _ (omega arith) (omega arith)

pub loop-i-preserved : goal.loop-i-preserved
unfolding spaced_all
loop-i-preserved c = rows_more (spaced_all _) 11 _ c.loop-i.invariant refl (numbered space (search rules) c.pair.ensures)
