use Rattle.std.proofs.Common.{◌≡◌, ◌++◌}
use Rattle.store_host.specs.Listing.{kept_objects}
use Rattle.store_host.proofs.folder.listing.Given as goal

abbrev pub invariant-loop-object : goal.invariant-loop-object
invariant-loop-object l = l.all.items ++ kept_objects l.object-iterator ≡ kept_objects l.lengths.entries
