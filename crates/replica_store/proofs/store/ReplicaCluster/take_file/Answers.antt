use Rattle.std.proofs.Common.{ap, arith, subst, sym}
use Rattle.append_store.specs.State.{IsThere}
use Rattle.replica_store.specs.Seats.{seat_view, told_in}
use Rattle.replica_store.proofs.Answering.{all_losses, fresh_count, still_sound}
use Rattle.replica_store.proofs.Files.{later_count, later_refused, rose_refused}
use Rattle.replica_store.proofs.store.ReplicaCluster.take_file.Goals as goal

pub take_in-requires-clause-sound : goal.take_in-requires-clause-sound
take_in-requires-clause-sound g c = c.self.invariant.each

pub take_in-requires-clause-there : goal.take_in-requires-clause-there
take_in-requires-clause-there g c = (subst (λ r. g.C.File.AppendFile.tells → IsThere (told_in (seat_view g.C.Cluster.at g.C.Cluster.losses g.C.Cluster.count) r c.args.object)) (sym c.self.view_is) c.requires)

pub take_in-requires-clause-some : goal.take_in-requires-clause-some
take_in-requires-clause-some g c = c.self.invariant.enough

pub invariant_of-self : goal.invariant_of-self
invariant_of-self g c = still_sound g.C.File.AppendFile.tells (seat_view g.C.Cluster.at g.C.Cluster.losses g.C.Cluster.count) _ _ _ _ _ c.self.invariant c.in-Some.ensures.taken.rest.sound

pub returns-in-Some-clause-others : goal.returns-in-Some-clause-others
returns-in-Some-clause-others g c = rw (← c.self.view_is) c.in-Some.ensures.taken.rest.others

pub returns-in-Some-clause-no_losses : goal.returns-in-Some-clause-no_losses
returns-in-Some-clause-no_losses g c = rw (← c.self.view_is) (λ t. all_losses (seat_view g.C.Cluster.at g.C.Cluster.losses g.C.Cluster.count) g.C.File.AppendFile.tells c.args.object _ _ _ _ c.in-Some.ensures.taken.rest (c.in-Some.ensures.taken.losses t) t)

pub returns-in-Some-clause-taken : goal.returns-in-Some-clause-taken
returns-in-Some-clause-taken g c = rw (← c.self.view_is) (λ t. (c.in-Some.ensures.taken.taken t).0)

pub returns-in-Some-clause-out : goal.returns-in-Some-clause-out
returns-in-Some-clause-out g c = λ t. (c.in-Some.ensures.taken.taken t).1

pub returns-in-Some-clause-fresh : goal.returns-in-Some-clause-fresh
returns-in-Some-clause-fresh g c = fresh_count _ c.in-Some.ensures.fresh c.in-Some.ensures.no_faults

pub returns-in-Some-clause-no_calls : goal.returns-in-Some-clause-no_calls
returns-in-Some-clause-no_calls g c = ap (λ f. f.answered.tally) c.in-Some.ensures.fresh

pub returns-in-Some-clause-cause : goal.returns-in-Some-clause-cause
returns-in-Some-clause-cause g c = rw (← c.self.view_is, c.done.ensures) (record { later = later_count _ _ _ _ c.in-Some.ensures.taken.rest.later (omega arith); failed = tt })

pub invariant_of-self-in-None : goal.invariant_of-self-in-None
invariant_of-self-in-None g c = still_sound g.C.File.AppendFile.tells (seat_view g.C.Cluster.at g.C.Cluster.losses g.C.Cluster.count) _ _ _ _ _ c.self.invariant c.in-None.ensures.taken.rest.sound

pub returns-in-None-clause-others : goal.returns-in-None-clause-others
returns-in-None-clause-others g c = rw (← c.self.view_is) c.in-None.ensures.taken.rest.others

pub returns-in-None-clause-no_losses : goal.returns-in-None-clause-no_losses
returns-in-None-clause-no_losses g c = rw (← c.self.view_is) (λ t. all_losses (seat_view g.C.Cluster.at g.C.Cluster.losses g.C.Cluster.count) g.C.File.AppendFile.tells c.args.object _ _ _ _ c.in-None.ensures.taken.rest (c.in-None.ensures.taken.losses t) t)

pub returns-in-None-clause-failed : goal.returns-in-None-clause-failed
returns-in-None-clause-failed g c = rw (← c.self.view_is) c.in-None.ensures.taken.taken

pub returns-in-None-clause-cause : goal.returns-in-None-clause-cause
returns-in-None-clause-cause g c = rw (← c.self.view_is, c.fail.ensures) (let n = c.in-None.ensures.taken.rest.later in record { later = later_refused _ _ _ n; failed = rose_refused _ _ _ n })

pub returns-in-None-clause-few : goal.returns-in-None-clause-few
returns-in-None-clause-few g c = rw (← c.self.view_is) c.in-None.ensures.failed
