use Rattle.std.proofs.Common.{◌≡◌, ◌++◌, drop}
use Rattle.append_store.specs.Plan.{plan_for}
use Rattle.append_store.proofs.mem_cluster.plan_of.Given as goal

abbrev pub invariant-loop-entry : goal.invariant-loop-entry
invariant-loop-entry l = l.plan.items ++ plan_for l.object (drop l.entry-index l.failing) ≡ plan_for l.object l.failing
