-- `put_tags`: the count, the tags and the feed, joined. Assumes nothing.
use Rattle.text.proofs.Laws.{◌▹◌}
use Rattle.answers.specs.Answers.{tags_word, tags_text}
use Rattle.answers.proofs.Lines.{numbered, ended}
use Rattle.answers.proofs.put_tags.Goals as goal

pub returns : goal.returns
unfolding tags_text
returns c =
    let few = c.min-n.ensures in
    numbered tags_word few c.pair.ensures
    ▹ rw few at c.put_each.ensures
    ▹ ended c.byte.ensures
