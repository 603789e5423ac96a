-- `answer_fit`: the sheet's fit on the lent buffer. Assumes nothing.
use Rattle.session.proofs.Texts as texts
use Rattle.session.proofs.answer_fit.Goals as goal

pub returns : goal.returns
returns c = texts.answered_fit _ _ c.fit-answer.result _ _ c.lent_buffer-words.ensures (c.fit-answer.ensures.0) (c.fit-answer.ensures.1) c.put_list.ensures
