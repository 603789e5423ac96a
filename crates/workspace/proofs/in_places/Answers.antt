-- `in_places`: the name over the front of 16 zeros. Assumes nothing.
use Rattle.std.proofs.lemmas.List.{drop-replicate}
use Rattle.std.proofs.Common.{ℕ, length}
use Rattle.workspace.specs.Names.{in_places}
use Rattle.workspace.proofs.in_places.Goals as goal

pub returns : goal.returns
unfolding in_places
returns c = let z : ℕ = 0 in rw (c.copy_from_slice.ensures.after, ← drop-replicate (length c.args.name.now) 16 z)
