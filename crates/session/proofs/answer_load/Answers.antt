-- `answer_load`: the sheet's load of the parts of the bytes. Assumes nothing.
use Rattle.placing.specs.Laid.{refusal_number}
use Rattle.session.proofs.Texts as texts
use Rattle.session.proofs.answer_load.Goals as goal

pub returns : goal.returns
returns c =
    rw (c.after.ensures.left refusal_number)
    (texts.answered_load _ _ _ _ _ _ _ _ c.block_part.ensures c.model_part.ensures c.load-loaded.ensures
    (c.after.ensures.written refusal_number (λ why n h. h)))
