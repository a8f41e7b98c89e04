use Rattle.std.proofs.Common.{arith, subst, sym}
use Rattle.append_store.specs.State.{IsThere}
use Rattle.replica_store.specs.Seats.{seat_view, told_in}
use Rattle.replica_store.proofs.Answering.{still_sound}
use Rattle.replica_store.proofs.Asking.{have_all, stay_counts, stay_losses, stay_sound, stay_told, there_all}
use Rattle.replica_store.proofs.Files.{later_count, later_refused, rose_refused}
use Rattle.replica_store.proofs.store.ReplicaCluster.read_closed.Goals as goal

pub read_closed_first-requires : goal.read_closed_first-requires
read_closed_first-requires g c = there_all (seat_view g.C.Cluster.at g.C.Cluster.losses g.C.Cluster.count) g.C.File.AppendFile.tells c.args.object _ _ c.self.invariant.each (subst (λ r. g.C.File.AppendFile.tells → IsThere (told_in (seat_view g.C.Cluster.at g.C.Cluster.losses g.C.Cluster.count) r c.args.object)) (sym c.self.view_is) c.requires)

pub invariant_of-self : goal.invariant_of-self
invariant_of-self g c = still_sound g.C.File.AppendFile.tells (seat_view g.C.Cluster.at g.C.Cluster.losses g.C.Cluster.count) _ _ _ _ _ c.self.invariant (stay_sound (seat_view g.C.Cluster.at g.C.Cluster.losses g.C.Cluster.count) g.C.File.AppendFile.tells _ _ _ c.in-Some.ensures.stays c.self.invariant.each)

pub returns-in-Some-clause-same : goal.returns-in-Some-clause-same
returns-in-Some-clause-same g c = rw (← c.self.view_is) (λ t q. stay_told (seat_view g.C.Cluster.at g.C.Cluster.losses g.C.Cluster.count) g.C.File.AppendFile.tells _ _ _ c.in-Some.ensures.stays t q)

pub returns-in-Some-clause-no_losses : goal.returns-in-Some-clause-no_losses
returns-in-Some-clause-no_losses g c = rw (← c.self.view_is) (λ t q. stay_losses (seat_view g.C.Cluster.at g.C.Cluster.losses g.C.Cluster.count) g.C.File.AppendFile.tells _ _ c.in-Some.ensures.stays t q)

pub invariant_of-self-in-None : goal.invariant_of-self-in-None
invariant_of-self-in-None g c = still_sound g.C.File.AppendFile.tells (seat_view g.C.Cluster.at g.C.Cluster.losses g.C.Cluster.count) _ _ _ _ _ c.self.invariant (stay_sound (seat_view g.C.Cluster.at g.C.Cluster.losses g.C.Cluster.count) g.C.File.AppendFile.tells _ _ _ c.in-None.ensures.stays c.self.invariant.each)

pub returns-in-None-clause-same : goal.returns-in-None-clause-same
returns-in-None-clause-same g c = rw (← c.self.view_is) (λ t q. stay_told (seat_view g.C.Cluster.at g.C.Cluster.losses g.C.Cluster.count) g.C.File.AppendFile.tells _ _ _ c.in-None.ensures.stays t q)

pub returns-in-None-clause-no_losses : goal.returns-in-None-clause-no_losses
returns-in-None-clause-no_losses g c = rw (← c.self.view_is) (λ t q. stay_losses (seat_view g.C.Cluster.at g.C.Cluster.losses g.C.Cluster.count) g.C.File.AppendFile.tells _ _ c.in-None.ensures.stays t q)

pub returns-in-Some-clause-length : goal.returns-in-Some-clause-length
returns-in-Some-clause-length g c = rw (← c.self.view_is) (λ t. c.in-Some.ensures.length _ t (have_all (seat_view g.C.Cluster.at g.C.Cluster.losses g.C.Cluster.count) g.C.File.AppendFile.tells c.args.object _ _ c.self.invariant.each (subst (λ r. g.C.File.AppendFile.tells → IsThere (told_in (seat_view g.C.Cluster.at g.C.Cluster.losses g.C.Cluster.count) r c.args.object)) (sym c.self.view_is) c.requires) t))

pub returns-in-Some-clause-bytes : goal.returns-in-Some-clause-bytes
returns-in-Some-clause-bytes g c = rw (← c.self.view_is) (λ t. c.in-Some.ensures.bytes _ t (have_all (seat_view g.C.Cluster.at g.C.Cluster.losses g.C.Cluster.count) g.C.File.AppendFile.tells c.args.object _ _ c.self.invariant.each (subst (λ r. g.C.File.AppendFile.tells → IsThere (told_in (seat_view g.C.Cluster.at g.C.Cluster.losses g.C.Cluster.count) r c.args.object)) (sym c.self.view_is) c.requires) t))

pub returns-in-Some-clause-cause : goal.returns-in-Some-clause-cause
returns-in-Some-clause-cause g c = rw (← c.self.view_is, c.done.ensures) (record { later = later_count _ _ _ _ (stay_counts (seat_view g.C.Cluster.at g.C.Cluster.losses g.C.Cluster.count) g.C.File.AppendFile.tells _ _ c.in-Some.ensures.stays) (omega arith); failed = tt })

pub returns-in-None-clause-cause : goal.returns-in-None-clause-cause
returns-in-None-clause-cause g c = rw (← c.self.view_is, c.fail.ensures) (let n = stay_counts (seat_view g.C.Cluster.at g.C.Cluster.losses g.C.Cluster.count) g.C.File.AppendFile.tells _ _ c.in-None.ensures.stays in record { later = later_refused _ _ _ n; failed = rose_refused _ _ _ n })
