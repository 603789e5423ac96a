-- `put_tags`: five stores are the numbers laid over the buffer, where it has room. Assumes nothing.
use native.Mathlib.Omega.{arith}
use Rattle.focuspoints.proofs.Buffers as buffers
use Rattle.focuspoints.proofs.put_tags.Goals as goal

pub returns-then-out-lt5 : goal.returns-then-out-lt5
returns-then-out-lt5 c = buffers.too_short 5 _ _ c.if-out-lt5.true

pub returns : goal.returns
returns c = buffers.long_enough 5 _ (c.args.out.now) _ c.if-out-lt5.false (buffers.tag_stores (c.args.out.now) c.args.tags _ _ _ _ _ (omega (arith, c.well_formed)) c.from.ensures c.from-2.ensures c.from-3.ensures c.from-4.ensures c.if-out-lt5.false)
