-- `answer_list`: the sheet's list on the lent buffer. Assumes nothing.
use Rattle.session.proofs.Texts as texts
use Rattle.session.proofs.answer_list.Goals as goal

pub returns : goal.returns
returns c = texts.answered_list _ c.list-answer.result _ _ c.lent_buffer-words.ensures (c.list-answer.ensures.0) (c.list-answer.ensures.1) c.put_list.ensures
