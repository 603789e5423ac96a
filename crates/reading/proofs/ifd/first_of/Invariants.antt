-- `ifd::first_of`: what is found from the entry at hand on is found of all.
use Rattle.std.proofs.Common.{◌≡◌, ◌+◌, ◌*◌, ◌-◌}
use Rattle.reading.specs.Block.{first_of}
use Rattle.reading.proofs.ifd.first_of.Given as goal

abbrev pub invariant-loop-i : goal.invariant-loop-i
invariant-loop-i l =
    first_of l.order l.block l.tag l.directory.first l.directory.count ≡ first_of l.order l.block l.tag (l.directory.first + 12 * l.i) (l.directory.count - l.i)
