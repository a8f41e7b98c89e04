use Rattle.std.proofs.Common.{arith, subst}
use Rattle.replica_store.specs.Seats.{seat_view}
use Rattle.replica_store.specs.Objects.{GivesIn}
use Rattle.replica_store.proofs.Answering.{carries_all, carries_own, still_sound}
use Rattle.replica_store.proofs.store.ReplicaCluster.give_file.Goals as goal

pub give_in-requires-clause-sound : goal.give_in-requires-clause-sound
give_in-requires-clause-sound g c = c.self.invariant.each

pub give_in-requires-clause-copies : goal.give_in-requires-clause-copies
give_in-requires-clause-copies g c = c.into_kept-given.ensures.copies

pub invariant_of-self : goal.invariant_of-self
invariant_of-self g c = still_sound g.C.File.AppendFile.tells (seat_view g.C.Cluster.at g.C.Cluster.losses g.C.Cluster.count) _ _ _ _ _ c.self.invariant c.give_in.ensures.rest.sound

pub returns-then-give_in-clause-others : goal.returns-then-give_in-clause-others
returns-then-give_in-clause-others g c = rw (← c.self.view_is) c.give_in.ensures.rest.others

pub returns-then-give_in-clause-no_losses : goal.returns-then-give_in-clause-no_losses
returns-then-give_in-clause-no_losses g c = rw (← c.self.view_is) c.give_in.ensures.rest.no_losses

pub returns-then-give_in-clause-losses : goal.returns-then-give_in-clause-losses
returns-then-give_in-clause-losses g c = rw (← c.self.view_is) c.give_in.ensures.losses

pub returns-then-give_in-clause-own : goal.returns-then-give_in-clause-own
returns-then-give_in-clause-own g c = rw (← c.self.view_is) ((subst (λ k. GivesIn g.C.File.AppendFile.tells (seat_view g.C.Cluster.at g.C.Cluster.losses g.C.Cluster.count) c.args.object c.self.inside.seats.items c.give_in.new.seats.items c.self.inside.known.entries c.give_in.new.known.entries k c.give_in.result) c.into_kept-given.ensures.kept c.give_in.ensures).own)

pub returns-then-give_in-clause-own_losses : goal.returns-then-give_in-clause-own_losses
returns-then-give_in-clause-own_losses g c = rw (← c.self.view_is) ((subst (λ k. GivesIn g.C.File.AppendFile.tells (seat_view g.C.Cluster.at g.C.Cluster.losses g.C.Cluster.count) c.args.object c.self.inside.seats.items c.give_in.new.seats.items c.self.inside.known.entries c.give_in.new.known.entries k c.give_in.result) c.into_kept-given.ensures.kept c.give_in.ensures).own_losses)

pub returns-then-give_in-clause-count : goal.returns-then-give_in-clause-count
returns-then-give_in-clause-count g c = rw (← c.self.view_is, c.join.ensures, c.into_kept-given.ensures.answered) (carries_own _ _ _ _ _ ((subst (λ k. GivesIn g.C.File.AppendFile.tells (seat_view g.C.Cluster.at g.C.Cluster.losses g.C.Cluster.count) c.args.object c.self.inside.seats.items c.give_in.new.seats.items c.self.inside.known.entries c.give_in.new.known.entries k c.give_in.result) c.into_kept-given.ensures.kept c.give_in.ensures).count c.if-give_in.true))

pub invariant_of-self-2 : goal.invariant_of-self-2
invariant_of-self-2 g c = still_sound g.C.File.AppendFile.tells (seat_view g.C.Cluster.at g.C.Cluster.losses g.C.Cluster.count) _ _ _ _ _ c.self.invariant c.give_in.ensures.rest.sound

pub returns-clause-others : goal.returns-clause-others
returns-clause-others g c = rw (← c.self.view_is) c.give_in.ensures.rest.others

pub returns-clause-no_losses : goal.returns-clause-no_losses
returns-clause-no_losses g c = rw (← c.self.view_is) c.give_in.ensures.rest.no_losses

pub returns-clause-losses : goal.returns-clause-losses
returns-clause-losses g c = rw (← c.self.view_is) c.give_in.ensures.losses

pub returns-clause-own : goal.returns-clause-own
returns-clause-own g c = rw (← c.self.view_is) ((subst (λ k. GivesIn g.C.File.AppendFile.tells (seat_view g.C.Cluster.at g.C.Cluster.losses g.C.Cluster.count) c.args.object c.self.inside.seats.items c.give_in.new.seats.items c.self.inside.known.entries c.give_in.new.known.entries k c.give_in.result) c.into_kept-given.ensures.kept c.give_in.ensures).own)

pub returns-clause-own_losses : goal.returns-clause-own_losses
returns-clause-own_losses g c = rw (← c.self.view_is) ((subst (λ k. GivesIn g.C.File.AppendFile.tells (seat_view g.C.Cluster.at g.C.Cluster.losses g.C.Cluster.count) c.args.object c.self.inside.seats.items c.give_in.new.seats.items c.self.inside.known.entries c.give_in.new.known.entries k c.give_in.result) c.into_kept-given.ensures.kept c.give_in.ensures).own_losses)

pub returns-clause-count : goal.returns-clause-count
returns-clause-count g c = rw (← c.self.view_is, c.join-2.ensures, c.faults-faults.ensures) (carries_all _ _ _ _ c.give_in.ensures.rest.later (omega arith))
