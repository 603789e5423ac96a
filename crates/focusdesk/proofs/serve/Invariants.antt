-- Feeding again and again takes the part from its start on (`Serving`).
use Rattle.std.proofs.Common.{◌≡◌, length, take}
use Rattle.focusdesk.proofs.Laws.{Serving}
use Rattle.focusdesk.proofs.serve.Given as goal

abbrev pub invariant-loop-rest : goal.invariant-loop-rest
invariant-loop-rest g l = Serving l.fn.sheet l.fn.line (take l.fn.held l.fn.line) l.input l.line l.once l.rest × (length l.out ≡ length l.fn.out)

abbrev pub decreases-loop-rest : goal.decreases-loop-rest
decreases-loop-rest g l = length l.rest
