use Rattle.std.proofs.Common.{◌≡◌, drop}
use Rattle.append_store.specs.Plan.{due_of}
use Rattle.append_store.proofs.mem_file.first_due.Given as goal

abbrev pub invariant-loop-entry : goal.invariant-loop-entry
invariant-loop-entry l = due_of (drop l.entry-index l.plan) l.call ≡ due_of l.plan l.call
