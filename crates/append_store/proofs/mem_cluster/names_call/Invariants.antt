use Rattle.std.proofs.Common.{◌≡◌, drop}
use Rattle.append_store.specs.Plan.{is_store_call_named}
use Rattle.append_store.proofs.mem_cluster.names_call.Given as goal

abbrev pub invariant-loop-entry : goal.invariant-loop-entry
invariant-loop-entry l = is_store_call_named (drop l.entry-index l.failing) l.call ≡ is_store_call_named l.failing l.call
