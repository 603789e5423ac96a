-- `put_listing`: the head line and the lines of the points, joined. Assumes nothing.
use Rattle.session.proofs.Texts as texts
use Rattle.session.proofs.put_listing.Goals as goal

pub returns : goal.returns
returns c = texts.listing_text c.args.l _ _ c.numbers.ensures c.args.l.counted c.put_head.ensures c.put_points.ensures
