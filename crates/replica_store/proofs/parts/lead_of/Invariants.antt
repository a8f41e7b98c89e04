use Rattle.replica_store.proofs.Leading.{LeadsTo}
use Rattle.replica_store.proofs.parts.lead_of.Given as goal

abbrev pub invariant-loop-i : goal.invariant-loop-i
invariant-loop-i g l = LeadsTo l.parts.items l.i l.lead l.most
