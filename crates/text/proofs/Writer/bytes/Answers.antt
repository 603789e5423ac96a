-- `Writer::bytes`: one more byte. Assumes nothing.
use Rattle.text.proofs.Laws.{one_more}
use Rattle.text.proofs.Writer.bytes.Goals as goal

pub loop-b-preserved : goal.loop-b-preserved
loop-b-preserved c = one_more _ _ c.loop-b-test.true c.loop-b.invariant c.byte.ensures
