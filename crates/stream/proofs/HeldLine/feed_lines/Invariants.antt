-- `HeldLine::feed_lines`: line by line, what is not in `rest` is used and the rest is to be used as from the start (`LinesTaken`), until
-- there is no room for an answer or the piece has ended. Assumes nothing.
use Rattle.std.proofs.Common.{◌≡◌, length, take}
use Rattle.stream.proofs.Laws.{RestLeft}
use Rattle.stream.proofs.HeldLine.feed_lines.Given as goal

abbrev pub invariant-loop-self : goal.invariant-loop-self
invariant-loop-self l =
    (l.self.line.ghost_name ≡ l.initial.self.line.ghost_name)
    × (l.fed.held ≡ l.self.held)
    × RestLeft l.initial.fed.sheet l.initial.self.line.now (take l.initial.self.held l.initial.self.line.now) l.input l.initial.out l.at l.out l.self.line.now l.fed l.rest

abbrev pub decreases-loop-self : goal.decreases-loop-self
decreases-loop-self l = length l.rest
