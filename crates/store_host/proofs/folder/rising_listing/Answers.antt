use Rattle.store_host.proofs.Listing.{rising}
use Rattle.store_host.proofs.folder.rising_listing.Goals as goal

pub returns : goal.returns
returns c = rw c.in_ok-all.ensures.items (rising _ c.args.lengths.now.entries c.listing.ensures.ordered)
