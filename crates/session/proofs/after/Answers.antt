-- `after`: `ok`, or the number of the refusal. Assumes nothing.
use mathlib.Core.List.{[]}
use Rattle.session.proofs.Texts as texts
use Rattle.session.proofs.after.Goals as goal

pub returns-in-Ok-clause-written : goal.returns-in-Ok-clause-written
returns-in-Ok-clause-written g c number h = rw c.in-Ok.is (texts.done_ok c.put_ok.ensures)

pub returns-in-Err-clause-written : goal.returns-in-Err-clause-written
returns-in-Err-clause-written g c number h = rw (c.in-Err.is, ← h _ _ c.into.ensures) (texts.done_no _ [] c.put_no.ensures)
