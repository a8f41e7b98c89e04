use Rattle.std.proofs.Common.{arith, inr, subst, sym}
use Rattle.gw_model.specs.declared.object.ObjectId.{ObjectId}
use Rattle.append_store.specs.State.{IsAway}
use Rattle.replica_store.specs.Seats.{seat_view, told_in}
use Rattle.replica_store.proofs.Answering.{still_sound}
use Rattle.replica_store.proofs.Files.{later_count, later_refused, rose_refused}
use Rattle.replica_store.proofs.store.ReplicaCluster.reopen.Goals as goal

pub reopen_in-requires-clause-inside : goal.reopen_in-requires-clause-inside
reopen_in-requires-clause-inside g c = (subst (λ r. g.C.File.AppendFile.tells → (q : ObjectId) → IsAway (told_in (seat_view g.C.Cluster.at g.C.Cluster.losses g.C.Cluster.count) r q) → ⊥) (sym c.self.view_is) c.requires)

pub reopen_in-requires-clause-sound : goal.reopen_in-requires-clause-sound
reopen_in-requires-clause-sound g c = c.self.invariant.each

pub invariant_of-self : goal.invariant_of-self
invariant_of-self g c = still_sound g.C.File.AppendFile.tells (seat_view g.C.Cluster.at g.C.Cluster.losses g.C.Cluster.count) _ _ _ _ _ c.self.invariant c.reopen_in.ensures.sound

pub returns-then-count_called-needed-clause-no_losses : goal.returns-then-count_called-needed-clause-no_losses
returns-then-count_called-needed-clause-no_losses g c = rw (← c.self.view_is) c.reopen_in.ensures.losses

pub returns-then-count_called-needed-clause-failed : goal.returns-then-count_called-needed-clause-failed
returns-then-count_called-needed-clause-failed g c = rw (← c.self.view_is) (λ t q. inr (c.reopen_in.ensures.image t q))

pub returns-then-count_called-needed-clause-cause : goal.returns-then-count_called-needed-clause-cause
returns-then-count_called-needed-clause-cause g c = rw (← c.self.view_is, c.fail.ensures) (let n = c.reopen_in.ensures.later in record { later = later_refused _ _ _ n; failed = rose_refused _ _ _ n })

pub returns-then-count_called-needed-clause-few : goal.returns-then-count_called-needed-clause-few
returns-then-count_called-needed-clause-few g c = rw (← c.self.view_is) (omega (arith, c.count_called.ensures, c.needed.ensures, c.len.ensures, c.if-count_called-needed.true))

pub invariant_of-self-2 : goal.invariant_of-self-2
invariant_of-self-2 g c = still_sound g.C.File.AppendFile.tells (seat_view g.C.Cluster.at g.C.Cluster.losses g.C.Cluster.count) _ _ _ _ _ c.self.invariant c.reopen_in.ensures.sound

pub returns-clause-no_losses : goal.returns-clause-no_losses
returns-clause-no_losses g c = rw (← c.self.view_is) c.reopen_in.ensures.losses

pub returns-clause-done : goal.returns-clause-done
returns-clause-done g c = rw (← c.self.view_is) c.reopen_in.ensures.image

pub returns-clause-cause : goal.returns-clause-cause
returns-clause-cause g c = rw (← c.self.view_is, c.done.ensures) (record { later = later_count _ _ _ _ c.reopen_in.ensures.later (omega arith); failed = tt })

pub returns-clause-enough : goal.returns-clause-enough
returns-clause-enough g c = rw (← c.self.view_is) (omega (arith, c.count_called.ensures, c.needed.ensures, c.len.ensures, c.if-count_called-needed.false))
