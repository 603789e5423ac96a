-- `nikon::trim_end`: trimming the rest trims the whole.
use Rattle.std.proofs.Common.{◌≡◌, length}
use Rattle.reading.specs.Values.{trim_end}
use Rattle.reading.proofs.nikon.trim_end.Given as goal

abbrev pub invariant-loop-rest : goal.invariant-loop-rest
invariant-loop-rest l = trim_end l.s ≡ trim_end l.rest

abbrev pub decreases-loop-rest : goal.decreases-loop-rest
decreases-loop-rest l = length l.rest
