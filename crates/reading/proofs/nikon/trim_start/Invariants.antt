-- `nikon::trim_start`: trimming the rest trims the whole.
use Rattle.std.proofs.Common.{◌≡◌, length}
use Rattle.reading.specs.Values.{trim_start}
use Rattle.reading.proofs.nikon.trim_start.Given as goal

abbrev pub invariant-loop-rest : goal.invariant-loop-rest
invariant-loop-rest l = trim_start l.s ≡ trim_start l.rest

abbrev pub decreases-loop-rest : goal.decreases-loop-rest
decreases-loop-rest l = length l.rest
