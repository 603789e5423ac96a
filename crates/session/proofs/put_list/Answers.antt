-- `put_list`: by cases on the answer. Assumes nothing.
use Rattle.session.proofs.Texts as texts
use Rattle.session.proofs.put_list.Goals as goal

pub returns-in-Err : goal.returns-in-Err
returns-in-Err c = rw (c.in-Err.is, ← c.from.ensures) (texts.done_no _ c.args.words.now c.put_no.ensures)
