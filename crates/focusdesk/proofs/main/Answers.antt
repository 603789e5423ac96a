-- Read by read, the sheet and the held line are those that some bytes leave, from the fresh sheet on (`Taken`).
use Rattle.std.proofs.Common.{[], arith}
use Rattle.focusdesk.proofs.Laws as laws
use Rattle.focusdesk.proofs.main.Goals as goal

pub loop-init : goal.loop-init
loop-init c = ([], laws.running_none _ _ c.new.ensures, omega arith)

pub loop-preserved : goal.loop-preserved
loop-preserved c = (
  _,
  laws.running_more _ _ _ _ _ _ c.loop.invariant.1 c.after_read-after.ensures c.if-not-after.false,
  omega (arith, c.loop.invariant.2, c.after_read-after.auto.out),
)
