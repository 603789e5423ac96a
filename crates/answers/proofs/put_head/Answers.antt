-- `put_head`: six words with their numbers, and the feed, joined. Assumes nothing.
use Rattle.text.proofs.Laws.{◌▹◌}
use Rattle.answers.specs.Answers.{frame_word, space, points_word, primary_word, mode_word, origin_word, head_text}
use Rattle.answers.proofs.Lines.{numbered, ended}
use Rattle.answers.proofs.put_head.Goals as goal

pub returns : goal.returns
unfolding head_text
returns c =
    numbered frame_word c.word_at.ensures c.pair.ensures
    ▹ numbered space c.word_at-2.ensures c.pair-2.ensures
    ▹ numbered points_word c.word_at-3.ensures c.pair-3.ensures
    ▹ numbered primary_word c.word_at-4.ensures c.pair-4.ensures
    ▹ numbered mode_word c.word_at-5.ensures c.pair-5.ensures
    ▹ numbered origin_word c.word_at-6.ensures c.pair-6.ensures
    ▹ ended c.byte.ensures
