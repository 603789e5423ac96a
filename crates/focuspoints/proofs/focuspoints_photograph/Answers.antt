-- `focuspoints_photograph`: a load's number, or the listing of its points. Assumes nothing.
use Rattle.focuspoints.proofs.Listing as listing
use Rattle.focuspoints.proofs.focuspoints_photograph.Goals as goal

pub put_listing-requires : goal.put_listing-requires
put_listing-requires c = listing.photograph_few _ _ _ _ _ _ c.given_size-raw.ensures c.given_size-picture.ensures _ c.focus.ensures c.args.out.now _ c.in-Ok.is

pub returns-in-Ok : goal.returns-in-Ok
returns-in-Ok c = listing.photograph_yes _ _ _ _ _ _ c.given_size-raw.ensures c.given_size-picture.ensures _ c.focus.ensures c.args.out.now _ c.in-Ok.is _ _ c.put_listing.ensures

pub returns-in-Err : goal.returns-in-Err
returns-in-Err c = listing.photograph_no _ _ _ _ _ _ c.given_size-raw.ensures c.given_size-picture.ensures _ c.focus.ensures _ _ _ c.from.ensures c.in-Err.is
