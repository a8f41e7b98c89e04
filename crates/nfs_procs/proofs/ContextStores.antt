-- What stays of a store, call after call.
use Rattle.std.proofs.Common.{refl, ◌∙◌}
use Rattle.nfs_procs.specs.Contexts.{StoreState, ObjectsStay, SameLosses, StaysThere}

pub objects_same : (s : StoreState) → ObjectsStay s s
objects_same s q apart = (refl, refl)

pub objects_trans : (a b c : StoreState) → ObjectsStay a b → ObjectsStay b c → ObjectsStay a c
objects_trans a b c s t q apart = ((t q apart).0 ∙ (s q apart).0, (t q apart).1 ∙ (s q apart).1)

pub there_trans : (a b c : StoreState) → StaysThere a b → StaysThere b c → StaysThere a c
there_trans a b c s t q there = t q (s q there)

pub losses_trans : (a b c : StoreState) → SameLosses a b → SameLosses b c → SameLosses a c
losses_trans a b c s t q = t q ∙ s q
