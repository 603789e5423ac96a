-- `last`: a held line is answered, and none has no text. Assumes nothing.
use Rattle.stream.proofs.Laws as laws
use native.Mathlib.Omega.{arith}
use Rattle.std.proofs.Common.{rules}
use Rattle.stream.proofs.last.Goals as goal

pub returns-then-is_empty : goal.returns-then-is_empty
returns-then-is_empty c = laws.last_none _ _ _ c.min-n.ensures _ _ _ c.if-is_empty.true (omega arith) (omega arith)

pub returns : goal.returns
returns c = laws.last_some _ _ _ c.min-n.ensures (search rules) c.if-is_empty.false c.answer.ensures.put c.answer.ensures.short
