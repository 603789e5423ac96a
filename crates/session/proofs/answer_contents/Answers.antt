-- `answer_contents`: by cases on whether the block can be read. Assumes nothing.
use Rattle.reading.proofs.ListedTags.{four_in}
use Rattle.session.proofs.Texts as texts
use Rattle.session.proofs.answer_contents.Goals as goal

pub returns-in-Some : goal.returns-in-Some
returns-in-Some c = texts.answered_contents _ _ (texts.contents_yes _ _ _ c.contents.ensures (four_in _) c.in-Some.is c.put_tags.ensures)

pub returns-in-None : goal.returns-in-None
returns-in-None c = texts.answered_contents _ _ (texts.contents_no _ _ c.contents.ensures c.in-None.is c.put_no.ensures)
