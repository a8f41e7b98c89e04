use Rattle.nfs_wire.specs.Results.{EntryText, EntryPlusText}
use Rattle.name_queries.proofs.ListingLaws.{fills_the_front, goes_on_behind, readdirpluses_fit, readdirs_fit}
use Rattle.name_queries.proofs.laws.listing_laws.Goals as goal

pub returns : goal.returns
returns c = record { readdir = readdirs_fit; readdirplus = readdirpluses_fit; front = fills_the_front EntryText; front_plus = fills_the_front EntryPlusText; behind = goes_on_behind }
