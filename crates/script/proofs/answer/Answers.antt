-- `answer`: a law of proofs/Answering.antt for each return, of what the measuring pass counted. Assumes nothing.
use Rattle.script.proofs.Answering as steps
use Rattle.script.proofs.answer.Goals as goal
use Rattle.script.proofs.answer.Goals.{then-n-via-then-n, then-n-via-else-n+then-out-n}

pub returns-then-n : goal.returns-then-n
returns-then-n c =
    elim c.then-n.branch [
      | then-n-via-then-n w ↦ steps.answer_uncounted _ _ _ _ _ c.answer_all-n.ensures w.if-n.true
      | then-n-via-else-n+then-out-n w ↦ steps.answer_short _ _ _ _ _ c.answer_all-n.ensures w.if-n.false w.if-out-n.true
    ]

pub returns : goal.returns
returns c = steps.answer_fits _ _ _ _ _ c.answer_all-n.ensures c.if-n.false c.if-out-n.false c.answer_all.ensures
