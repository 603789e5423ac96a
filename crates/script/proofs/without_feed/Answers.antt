-- `without_feed`: by whether a feed is stripped. Assumes nothing.
use Rattle.std.proofs.Common.{refl}
use Rattle.script.proofs.Laws.{stripped_told}
use Rattle.script.proofs.without_feed.Goals as goal

pub returns : goal.returns
returns c = rw c.unwrap_or.ensures (stripped_told _ _ _ refl c.strip_suffix.ensures.cases)
