-- `Writer::bytes`: the loop's invariant is that the first bytes of the piece are put. Assumes nothing.
use Rattle.std.proofs.Common.{take}
use Rattle.text.specs.Put.{Writes}
use Rattle.text.proofs.Writer.bytes.Given as goal

abbrev pub invariant-loop-b : goal.invariant-loop-b
invariant-loop-b l = Writes l.initial.self (take l.b-index l.piece) l.self
