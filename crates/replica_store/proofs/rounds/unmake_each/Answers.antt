use Rattle.std.proofs.Common.{arith, subst, sym}
use Rattle.std.specs.List.{AllByRecursion}
use Rattle.replica_store.specs.Seats.{seat_view}
use Rattle.replica_store.specs.Steps.{IsTried}
use Rattle.replica_store.proofs.Pairs.{further, all_written, next_is}
use Rattle.replica_store.proofs.rounds.unmake_each.Goals as goal

pub unmake_one-requires : goal.unmake_one-requires
unmake_one-requires g c = next_is _ (λ s. IsTried g.C.File.AppendFile.tells c.args.object (seat_view g.C.Cluster.at g.C.Cluster.losses g.C.Cluster.count s)) _ _ _ _ c.loop-seat.invariant (subst (AllByRecursion _) (sym c.deref_mut-seat-items.ensures.value) c.requires) (omega (arith, c.loop-seat-test.true, c.loop-seat.auto.seat-items))

pub loop-seat-preserved : goal.loop-seat-preserved
loop-seat-preserved g c = further _ _ _ _ _ _ c.loop-seat.invariant (omega (arith, c.loop-seat-test.true, c.loop-seat.auto.seat-items)) c.unmake_one.ensures

pub returns : goal.returns
returns g c = all_written _ _ _ _ _ _ c.loop-seat.invariant c.deref_mut-seat-items.ensures.value c.loop-seat.auto.seat-items c.deref_mut-seat-items.ensures.len c.loop-seat-test.false
