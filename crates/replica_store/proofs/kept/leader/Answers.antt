use Rattle.replica_store.proofs.Changes.{few_live}
use Rattle.replica_store.proofs.kept.leader.Goals as goal

pub returns-clause-none : goal.returns-clause-none
returns-clause-none g c = few_live _ _ _ c.requires c.lead_of.ensures.none
