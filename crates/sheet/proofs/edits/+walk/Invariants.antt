-- `walk`: walked by the number of edits that are left, which falls at the recursive call. Assumes nothing.
use Rattle.sheet.proofs.edits.+walk.Given as goal

abbrev pub decreases-walk : goal.decreases-walk
decreases-walk l = l.n
