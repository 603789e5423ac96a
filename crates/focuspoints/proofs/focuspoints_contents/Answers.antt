-- `focuspoints_contents`: by whether the block can be read. Assumes nothing.
use Rattle.reading.proofs.ListedTags.{four_in, few_listed}
use Rattle.focuspoints.proofs.Tags as tags
use Rattle.focuspoints.proofs.focuspoints_contents.Goals as goal

pub put_tags-requires : goal.put_tags-requires
put_tags-requires c = few_listed c.in-Some.list _ (four_in _) (rw c.in-Some.is at c.contents.ensures)

pub returns-in-Some : goal.returns-in-Some
returns-in-Some c = tags.contents_yes _ _ _ c.contents.ensures _ c.in-Some.is _ _ c.put_tags.ensures

pub returns-in-None : goal.returns-in-None
returns-in-None c = tags.contents_no _ _ _ c.contents.ensures c.in-None.is
