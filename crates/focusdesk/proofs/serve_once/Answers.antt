-- The answers of a feed from the buffer's start are its first bytes.
use Rattle.focusdesk.proofs.Laws as laws
use Rattle.focusdesk.proofs.serve_once.Goals as goal

pub returns : goal.returns
returns g c = laws.once_fed _ _ c.flush-handed.ensures c.requires c.feed-fed.ensures
