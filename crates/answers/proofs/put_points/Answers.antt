-- `put_points`: one more line. Assumes nothing.
use Rattle.std.proofs.Common.{refl, arith}
use Rattle.text.proofs.Laws.{nothing_yet}
use Rattle.answers.specs.Answers.{points_text}
use Rattle.answers.proofs.Lines.{rows_more}
use Rattle.answers.proofs.put_points.Goals as goal

pub loop-i-init : goal.loop-i-init
unfolding points_text
loop-i-init c = nothing_yet _ (omega arith) (omega arith)

pub loop-i-preserved : goal.loop-i-preserved
unfolding points_text
loop-i-preserved c = rows_more (points_text _) 66 _ c.loop-i.invariant refl c.put_point.ensures
