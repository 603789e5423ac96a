-- `ifd::is_among`: std's word for it is the definition.
use Rattle.std.proofs.Common.{◌∙◌}
use Rattle.reading.proofs.Wanted.{among_any}
use Rattle.reading.proofs.ifd.is_among.Goals as goal

pub returns : goal.returns
returns c = c.contains.ensures.value ∙ among_any c.args.tag c.args.tags.now
