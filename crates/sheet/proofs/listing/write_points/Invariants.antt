-- `write_points`: without room nothing is written; else the loop's invariant is that the first i points are written over the
-- buffer's front. Assumes nothing.
use mathlib.Core.Path.{◌≡◌}
use Prim.Native.Nat.{◌≤◌}
use lib.ListN.{take}
use Rattle.sheet.specs.Listing.{flat, over}
use Rattle.sheet.proofs.listing.write_points.Given as goal

abbrev pub invariant-loop-i : goal.invariant-loop-i
invariant-loop-i l = (l.i ≤ l.n) × (l.out ≡ over (flat (take l.i l.fn.points)) l.initial.out)
