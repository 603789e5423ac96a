-- `afinfo::layout_of`: the layout is one of the versions that are left.
use Rattle.std.proofs.Common.{◌≡◌, drop}
use Rattle.reading.specs.Record.{versions, layout_of, layout_among}
use Rattle.reading.proofs.afinfo.layout_of.Given as goal

abbrev pub invariant-loop-version : goal.invariant-loop-version
invariant-loop-version l = layout_of l.value ≡ layout_among (drop l.version-index versions) l.value
