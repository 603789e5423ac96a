-- `Sheet::present`: the loop's invariant is that the places hold the points that are listed from `from` up to i, and that place and index
-- are the primary's once it has been seen. Assumes nothing.
use Prim.Native.Nat.{◌≤◌}
use Rattle.sheet.proofs.Listed.{Row, Seen}
use Rattle.sheet.proofs.Sheet.present.Given as goal

abbrev pub invariant-loop-i : goal.invariant-loop-i
invariant-loop-i l = (l.from ≤ l.i) × (l.i ≤ l.to) × Row l.self l.from l.i l.count l.points × Seen l.self l.from l.i l.primary l.index
