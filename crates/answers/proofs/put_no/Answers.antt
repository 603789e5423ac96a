-- `put_no`: the word, the number and the feed, joined. Assumes nothing.
use Rattle.text.proofs.Laws.{◌▹◌}
use Rattle.answers.specs.Answers.{no_text}
use Rattle.answers.proofs.Lines.{ended}
use Rattle.answers.proofs.put_no.Goals as goal

pub returns : goal.returns
unfolding no_text
returns c = c.pair.ensures ▹ ended c.byte.ensures
