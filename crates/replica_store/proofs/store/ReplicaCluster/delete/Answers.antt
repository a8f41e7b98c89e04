use Rattle.std.proofs.Common.{arith, subst, sym}
use Rattle.append_store.specs.State.{IsThere}
use Rattle.replica_store.specs.Seats.{seat_view, told_in}
use Rattle.replica_store.proofs.Answering.{some_called, still_sound}
use Rattle.replica_store.proofs.Files.{later_count, later_refused, rose_refused}
use Rattle.replica_store.proofs.store.ReplicaCluster.delete.Goals as goal

pub delete_in-requires-clause-sound : goal.delete_in-requires-clause-sound
delete_in-requires-clause-sound g c = c.self.invariant.each

pub delete_in-requires-clause-there : goal.delete_in-requires-clause-there
delete_in-requires-clause-there g c = (subst (λ r. g.C.File.AppendFile.tells → IsThere (told_in (seat_view g.C.Cluster.at g.C.Cluster.losses g.C.Cluster.count) r c.args.object)) (sym c.self.view_is) c.requires)

pub invariant_of-self : goal.invariant_of-self
invariant_of-self g c = still_sound g.C.File.AppendFile.tells (seat_view g.C.Cluster.at g.C.Cluster.losses g.C.Cluster.count) _ _ _ _ _ c.self.invariant c.delete_in.ensures.rest.sound

pub returns-then-not-delete_in-clause-others : goal.returns-then-not-delete_in-clause-others
returns-then-not-delete_in-clause-others g c = rw (← c.self.view_is) c.delete_in.ensures.rest.others

pub returns-then-not-delete_in-clause-no_losses : goal.returns-then-not-delete_in-clause-no_losses
returns-then-not-delete_in-clause-no_losses g c = rw (← c.self.view_is) c.delete_in.ensures.rest.no_losses

pub returns-then-not-delete_in-clause-losses : goal.returns-then-not-delete_in-clause-losses
returns-then-not-delete_in-clause-losses g c = rw (← c.self.view_is) c.delete_in.ensures.guards

pub returns-then-not-delete_in-clause-failed : goal.returns-then-not-delete_in-clause-failed
returns-then-not-delete_in-clause-failed g c = rw (← c.self.view_is) c.delete_in.ensures.may

pub returns-then-not-delete_in-clause-cause : goal.returns-then-not-delete_in-clause-cause
returns-then-not-delete_in-clause-cause g c = rw (← c.self.view_is, c.fail.ensures) (let n = c.delete_in.ensures.rest.later in record { later = later_refused _ _ _ n; failed = rose_refused _ _ _ n })

pub returns-then-not-delete_in-clause-few : goal.returns-then-not-delete_in-clause-few
returns-then-not-delete_in-clause-few g c = rw (← c.self.view_is) (λ t. absurd (let e = c.delete_in.ensures.tried t in let f = c.if-not-delete_in.true in cc))

pub invariant_of-self-2 : goal.invariant_of-self-2
invariant_of-self-2 g c = still_sound g.C.File.AppendFile.tells (seat_view g.C.Cluster.at g.C.Cluster.losses g.C.Cluster.count) _ _ _ _ _ c.self.invariant c.delete_in.ensures.rest.sound

pub returns-then-count_called-self-clause-others : goal.returns-then-count_called-self-clause-others
returns-then-count_called-self-clause-others g c = rw (← c.self.view_is) c.delete_in.ensures.rest.others

pub returns-then-count_called-self-clause-no_losses : goal.returns-then-count_called-self-clause-no_losses
returns-then-count_called-self-clause-no_losses g c = rw (← c.self.view_is) c.delete_in.ensures.rest.no_losses

pub returns-then-count_called-self-clause-losses : goal.returns-then-count_called-self-clause-losses
returns-then-count_called-self-clause-losses g c = rw (← c.self.view_is) c.delete_in.ensures.guards

pub returns-then-count_called-self-clause-failed : goal.returns-then-count_called-self-clause-failed
returns-then-count_called-self-clause-failed g c = rw (← c.self.view_is) c.delete_in.ensures.may

pub returns-then-count_called-self-clause-cause : goal.returns-then-count_called-self-clause-cause
returns-then-count_called-self-clause-cause g c = rw (← c.self.view_is, c.fail-then-count_called-self.ensures) (let n = c.delete_in.ensures.rest.later in record { later = later_refused _ _ _ n; failed = rose_refused _ _ _ n })

pub returns-then-count_called-self-clause-few : goal.returns-then-count_called-self-clause-few
returns-then-count_called-self-clause-few g c = rw (← c.self.view_is) (λ t. omega (arith, c.count_called.ensures, c.if-count_called-self.true))

pub returns-clause-others : goal.returns-clause-others
returns-clause-others g c = rw (← c.self.view_is) c.delete_in.ensures.rest.others

pub returns-clause-no_losses : goal.returns-clause-no_losses
returns-clause-no_losses g c = rw (← c.self.view_is) c.delete_in.ensures.rest.no_losses

pub returns-clause-losses : goal.returns-clause-losses
returns-clause-losses g c = rw (← c.self.view_is) c.delete_in.ensures.guards

pub returns-clause-done : goal.returns-clause-done
returns-clause-done g c = λ t. c.delete_in.ensures.done (c.delete_in.ensures.tried t) t (some_called _ _ c.self.invariant.enough (omega (arith, c.count_called.ensures, c.if-count_called-self.false)))

pub returns-clause-cause : goal.returns-clause-cause
returns-clause-cause g c = rw (← c.self.view_is, c.done.ensures) (record { later = later_count _ _ _ _ c.delete_in.ensures.rest.later (omega arith); failed = tt })

pub returns-clause-enough : goal.returns-clause-enough
returns-clause-enough g c = rw (← c.self.view_is) (omega (arith, c.count_called.ensures, c.if-count_called-self.false))
