use Rattle.std.proofs.Common.{◌≡◌, ◌++◌}
use Rattle.append_store.specs.Slots.{entries_listing}
use Rattle.append_store.proofs.mem_cluster.listing.Given as goal

abbrev pub invariant-loop-object : goal.invariant-loop-object
invariant-loop-object l = l.all.items ++ entries_listing l.object-iterator ≡ entries_listing l.entries.entries
