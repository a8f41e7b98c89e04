use Rattle.std.proofs.Common.{ap, arith, subst, sym, Err}
use Rattle.gw_model.specs.declared.object.ObjectId.{ObjectId}
use Rattle.append_store.specs.State.{IsAway}
use Rattle.replica_store.specs.Seats.{seat_view, told_in}
use Rattle.replica_store.proofs.Answering.{still_sound}
use Rattle.replica_store.proofs.Asking.{listed_all, none_out, stay_counts, stay_losses, stay_sound, stay_told}
use Rattle.replica_store.proofs.Files.{later_count, later_refused, rose_refused}
use Rattle.replica_store.proofs.store.ReplicaCluster.list.Goals as goal

pub list_first-requires : goal.list_first-requires
list_first-requires g c = none_out (seat_view g.C.Cluster.at g.C.Cluster.losses g.C.Cluster.count) g.C.File.AppendFile.tells _ _ c.self.invariant.each (subst (λ r. g.C.File.AppendFile.tells → (q : ObjectId) → IsAway (told_in (seat_view g.C.Cluster.at g.C.Cluster.losses g.C.Cluster.count) r q) → ⊥) (sym c.self.view_is) c.requires)

pub invariant_of-self : goal.invariant_of-self
invariant_of-self g c = still_sound g.C.File.AppendFile.tells (seat_view g.C.Cluster.at g.C.Cluster.losses g.C.Cluster.count) _ _ _ _ _ c.self.invariant (stay_sound (seat_view g.C.Cluster.at g.C.Cluster.losses g.C.Cluster.count) g.C.File.AppendFile.tells _ _ _ c.list_first.ensures.stays c.self.invariant.each)

pub returns-in-Ok-clause-same : goal.returns-in-Ok-clause-same
returns-in-Ok-clause-same g c = rw (← c.self.view_is) (λ t q. stay_told (seat_view g.C.Cluster.at g.C.Cluster.losses g.C.Cluster.count) g.C.File.AppendFile.tells _ _ _ c.list_first.ensures.stays t q)

pub returns-in-Ok-clause-no_losses : goal.returns-in-Ok-clause-no_losses
returns-in-Ok-clause-no_losses g c = rw (← c.self.view_is) (λ t q. stay_losses (seat_view g.C.Cluster.at g.C.Cluster.losses g.C.Cluster.count) g.C.File.AppendFile.tells _ _ c.list_first.ensures.stays t q)

pub returns-in-Ok-clause-later : goal.returns-in-Ok-clause-later
returns-in-Ok-clause-later g c = rw (← c.self.view_is, c.done.ensures) (later_count _ _ _ _ (stay_counts (seat_view g.C.Cluster.at g.C.Cluster.losses g.C.Cluster.count) g.C.File.AppendFile.tells _ _ c.list_first.ensures.stays) (omega arith))

pub returns-in-Ok-clause-listed : goal.returns-in-Ok-clause-listed
returns-in-Ok-clause-listed g c = rw (← c.self.view_is) (λ t. listed_all (seat_view g.C.Cluster.at g.C.Cluster.losses g.C.Cluster.count) g.C.File.AppendFile.tells _ _ _ c.self.invariant.each (subst (λ r. g.C.File.AppendFile.tells → (q : ObjectId) → IsAway (told_in (seat_view g.C.Cluster.at g.C.Cluster.losses g.C.Cluster.count) r q) → ⊥) (sym c.self.view_is) c.requires) c.in-Ok.ensures.listed t)

pub invariant_of-self-in-Err-Fault : goal.invariant_of-self-in-Err-Fault
invariant_of-self-in-Err-Fault g c = still_sound g.C.File.AppendFile.tells (seat_view g.C.Cluster.at g.C.Cluster.losses g.C.Cluster.count) _ _ _ _ _ c.self.invariant (stay_sound (seat_view g.C.Cluster.at g.C.Cluster.losses g.C.Cluster.count) g.C.File.AppendFile.tells _ _ _ c.list_first.ensures.stays c.self.invariant.each)

pub returns-in-Err-Fault-clause-same : goal.returns-in-Err-Fault-clause-same
returns-in-Err-Fault-clause-same g c = rw (← c.self.view_is) (λ t q. stay_told (seat_view g.C.Cluster.at g.C.Cluster.losses g.C.Cluster.count) g.C.File.AppendFile.tells _ _ _ c.list_first.ensures.stays t q)

pub returns-in-Err-Fault-clause-no_losses : goal.returns-in-Err-Fault-clause-no_losses
returns-in-Err-Fault-clause-no_losses g c = rw (← c.self.view_is) (λ t q. stay_losses (seat_view g.C.Cluster.at g.C.Cluster.losses g.C.Cluster.count) g.C.File.AppendFile.tells _ _ c.list_first.ensures.stays t q)

pub returns-in-Err-Fault-clause-later : goal.returns-in-Err-Fault-clause-later
returns-in-Err-Fault-clause-later g c = rw (← c.self.view_is, c.fail.ensures) (later_refused _ _ _ (stay_counts (seat_view g.C.Cluster.at g.C.Cluster.losses g.C.Cluster.count) g.C.File.AppendFile.tells _ _ c.list_first.ensures.stays))

pub returns-in-Err-Fault-clause-cause : goal.returns-in-Err-Fault-clause-cause
returns-in-Err-Fault-clause-cause g c = rw (← c.self.view_is, c.fail.ensures) (λ e. rose_refused _ _ _ (stay_counts (seat_view g.C.Cluster.at g.C.Cluster.losses g.C.Cluster.count) g.C.File.AppendFile.tells _ _ c.list_first.ensures.stays))

pub returns-in-Err-Fault-clause-failed : goal.returns-in-Err-Fault-clause-failed
returns-in-Err-Fault-clause-failed g c = λ e. c.in-Err-Fault.ensures.failed (ap Err c.in-Err-Fault.field-0-is)

pub invariant_of-self-in-Err-Memory : goal.invariant_of-self-in-Err-Memory
invariant_of-self-in-Err-Memory g c = still_sound g.C.File.AppendFile.tells (seat_view g.C.Cluster.at g.C.Cluster.losses g.C.Cluster.count) _ _ _ _ _ c.self.invariant (stay_sound (seat_view g.C.Cluster.at g.C.Cluster.losses g.C.Cluster.count) g.C.File.AppendFile.tells _ _ _ c.list_first.ensures.stays c.self.invariant.each)

pub returns-in-Err-Memory-clause-same : goal.returns-in-Err-Memory-clause-same
returns-in-Err-Memory-clause-same g c = rw (← c.self.view_is) (λ t q. stay_told (seat_view g.C.Cluster.at g.C.Cluster.losses g.C.Cluster.count) g.C.File.AppendFile.tells _ _ _ c.list_first.ensures.stays t q)

pub returns-in-Err-Memory-clause-no_losses : goal.returns-in-Err-Memory-clause-no_losses
returns-in-Err-Memory-clause-no_losses g c = rw (← c.self.view_is) (λ t q. stay_losses (seat_view g.C.Cluster.at g.C.Cluster.losses g.C.Cluster.count) g.C.File.AppendFile.tells _ _ c.list_first.ensures.stays t q)

pub returns-in-Err-Memory-clause-later : goal.returns-in-Err-Memory-clause-later
returns-in-Err-Memory-clause-later g c = rw (← c.self.view_is) (later_count _ _ _ _ (stay_counts (seat_view g.C.Cluster.at g.C.Cluster.losses g.C.Cluster.count) g.C.File.AppendFile.tells _ _ c.list_first.ensures.stays) (omega arith))
