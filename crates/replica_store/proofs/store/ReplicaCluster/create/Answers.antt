use Rattle.std.proofs.Common.{arith}
use Rattle.replica_store.specs.Seats.{seat_view}
use Rattle.replica_store.proofs.Answering.{some_called, still_sound}
use Rattle.replica_store.proofs.Files.{later_count, later_refused, rose_refused}
use Rattle.replica_store.proofs.store.ReplicaCluster.create.Goals as goal

pub create_in-requires : goal.create_in-requires
create_in-requires g c = c.self.invariant.each

pub invariant_of-self : goal.invariant_of-self
invariant_of-self g c = still_sound g.C.File.AppendFile.tells (seat_view g.C.Cluster.at g.C.Cluster.losses g.C.Cluster.count) _ _ _ _ _ c.self.invariant c.in-Ok.ensures.rest.sound

pub returns-then-count_called-self-clause-others : goal.returns-then-count_called-self-clause-others
returns-then-count_called-self-clause-others g c = rw (← c.self.view_is) c.in-Ok.ensures.rest.others

pub returns-then-count_called-self-clause-no_losses : goal.returns-then-count_called-self-clause-no_losses
returns-then-count_called-self-clause-no_losses g c = rw (← c.self.view_is) c.in-Ok.ensures.rest.no_losses

pub returns-then-count_called-self-clause-losses : goal.returns-then-count_called-self-clause-losses
returns-then-count_called-self-clause-losses g c = rw (← c.self.view_is) c.in-Ok.ensures.guards

pub returns-then-count_called-self-clause-losses_there : goal.returns-then-count_called-self-clause-losses_there
returns-then-count_called-self-clause-losses_there g c = rw (← c.self.view_is) c.in-Ok.ensures.losses_there

pub returns-then-count_called-self-clause-failed : goal.returns-then-count_called-self-clause-failed
returns-then-count_called-self-clause-failed g c = rw (← c.self.view_is) c.in-Ok.ensures.may

pub returns-then-count_called-self-clause-later : goal.returns-then-count_called-self-clause-later
returns-then-count_called-self-clause-later g c = rw (← c.self.view_is, c.fail.ensures) (later_refused _ _ _ c.in-Ok.ensures.rest.later)

pub returns-then-count_called-self-clause-cause : goal.returns-then-count_called-self-clause-cause
returns-then-count_called-self-clause-cause g c = rw (← c.self.view_is, c.fail.ensures) (λ e. rose_refused _ _ _ c.in-Ok.ensures.rest.later)

pub returns-then-count_called-self-clause-few : goal.returns-then-count_called-self-clause-few
returns-then-count_called-self-clause-few g c = rw (← c.self.view_is) (λ e. omega (arith, c.count_called.ensures, c.if-count_called-self.true))

pub invariant_of-self-in-Ok : goal.invariant_of-self-in-Ok
invariant_of-self-in-Ok g c = still_sound g.C.File.AppendFile.tells (seat_view g.C.Cluster.at g.C.Cluster.losses g.C.Cluster.count) _ _ _ _ _ c.self.invariant c.in-Ok.ensures.rest.sound

pub returns-else-count_called-self-clause-others : goal.returns-else-count_called-self-clause-others
returns-else-count_called-self-clause-others g c = rw (← c.self.view_is) c.in-Ok.ensures.rest.others

pub returns-else-count_called-self-clause-no_losses : goal.returns-else-count_called-self-clause-no_losses
returns-else-count_called-self-clause-no_losses g c = rw (← c.self.view_is) c.in-Ok.ensures.rest.no_losses

pub returns-else-count_called-self-clause-losses : goal.returns-else-count_called-self-clause-losses
returns-else-count_called-self-clause-losses g c = rw (← c.self.view_is) c.in-Ok.ensures.guards

pub returns-else-count_called-self-clause-losses_there : goal.returns-else-count_called-self-clause-losses_there
returns-else-count_called-self-clause-losses_there g c = rw (← c.self.view_is) c.in-Ok.ensures.losses_there

pub returns-else-count_called-self-clause-done : goal.returns-else-count_called-self-clause-done
returns-else-count_called-self-clause-done g c = rw (← c.self.view_is) (λ t. c.in-Ok.ensures.done t (some_called _ _ c.self.invariant.enough (omega (arith, c.count_called.ensures, c.if-count_called-self.false))))

pub returns-else-count_called-self-clause-later : goal.returns-else-count_called-self-clause-later
returns-else-count_called-self-clause-later g c = rw (← c.self.view_is, c.done.ensures) (later_count _ _ _ _ c.in-Ok.ensures.rest.later (omega arith))

pub returns-else-count_called-self-clause-enough : goal.returns-else-count_called-self-clause-enough
returns-else-count_called-self-clause-enough g c = rw (← c.self.view_is) (omega (arith, c.count_called.ensures, c.if-count_called-self.false))

pub invariant_of-self-in-Err : goal.invariant_of-self-in-Err
invariant_of-self-in-Err g c = still_sound g.C.File.AppendFile.tells (seat_view g.C.Cluster.at g.C.Cluster.losses g.C.Cluster.count) _ _ _ _ _ c.self.invariant c.in-Err.ensures.rest.sound

pub returns-in-Err-clause-others : goal.returns-in-Err-clause-others
returns-in-Err-clause-others g c = rw (← c.self.view_is) c.in-Err.ensures.rest.others

pub returns-in-Err-clause-no_losses : goal.returns-in-Err-clause-no_losses
returns-in-Err-clause-no_losses g c = rw (← c.self.view_is) c.in-Err.ensures.rest.no_losses

pub returns-in-Err-clause-losses : goal.returns-in-Err-clause-losses
returns-in-Err-clause-losses g c = rw (← c.self.view_is) c.in-Err.ensures.guards

pub returns-in-Err-clause-losses_there : goal.returns-in-Err-clause-losses_there
returns-in-Err-clause-losses_there g c = rw (← c.self.view_is) c.in-Err.ensures.losses_there

pub returns-in-Err-clause-failed : goal.returns-in-Err-clause-failed
returns-in-Err-clause-failed g c = rw (← c.self.view_is) c.in-Err.ensures.may

pub returns-in-Err-clause-refused : goal.returns-in-Err-clause-refused
returns-in-Err-clause-refused g c = rw (← c.self.view_is) (λ e. c.in-Err.ensures.refused)

pub returns-in-Err-clause-later : goal.returns-in-Err-clause-later
returns-in-Err-clause-later g c = rw (← c.self.view_is) (later_count _ _ _ _ c.in-Err.ensures.rest.later (omega arith))
