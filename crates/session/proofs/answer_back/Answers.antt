-- `answer_back`: the sheet's back, and the line of what it answers. Assumes nothing.
use mathlib.Core.Path.{ap}
use Rattle.journal.specs.SheetCalls.{after_edit, sheet_step}
use Rattle.sheet.specs.Answer.{edit_refusal_number}
use Rattle.session.proofs.Texts as texts
use Rattle.session.proofs.answer_back.Goals as goal

pub returns : goal.returns
unfolding sheet_step
returns c = texts.answered_edit _ _ _ (ap after_edit c.back.ensures) (c.after.ensures.left edit_refusal_number) (c.after.ensures.written edit_refusal_number (λ why n h. h))
