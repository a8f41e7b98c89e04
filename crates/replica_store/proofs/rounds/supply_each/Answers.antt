use Rattle.std.proofs.Common.{arith}
use Rattle.std.proofs.lemmas.List.{length-set}
use Rattle.replica_store.proofs.Pairs.{all_written, further, rest_written, weaker, weaker_pairs}
use Rattle.replica_store.proofs.Supplying.{supplies_self}
use Rattle.replica_store.proofs.rounds.supply_each.Goals as goal

pub returns-in_err-supply_one-clause-each : goal.returns-in_err-supply_one-clause-each
returns-in_err-supply_one-clause-each g c = rest_written _ (λ s. supplies_self _ _ _) _ _ _ _ _ (further _ _ _ _ _ _ (weaker _ _ (λ x y r. r.0) _ _ _ c.loop-seat.invariant) (omega (arith, c.loop-seat-test.true, c.loop-seat.auto.seat-items)) c.supply_one.ensures.each) c.deref_mut-seat-items.ensures.value (let e = length-set c.loop-seat.seat-items c.loop-seat.seat-index c.supply_one.new.seat in omega (arith, e, c.loop-seat.auto.seat-items)) c.deref_mut-seat-items.ensures.len

pub loop-seat-preserved : goal.loop-seat-preserved
loop-seat-preserved g c = further _ _ _ _ _ _ c.loop-seat.invariant (omega (arith, c.loop-seat-test.true, c.loop-seat.auto.seat-items)) (c.in_ok-supply_one.ensures.each, c.in_ok-supply_one.ensures.done)

pub returns-clause-each : goal.returns-clause-each
returns-clause-each g c = weaker_pairs _ _ (λ x y r. r.0) _ _ (all_written _ _ _ _ _ _ c.loop-seat.invariant c.deref_mut-seat-items.ensures.value c.loop-seat.auto.seat-items c.deref_mut-seat-items.ensures.len c.loop-seat-test.false)

pub returns-clause-done : goal.returns-clause-done
returns-clause-done g c = weaker_pairs _ _ (λ x y r. r.1) _ _ (all_written _ _ _ _ _ _ c.loop-seat.invariant c.deref_mut-seat-items.ensures.value c.loop-seat.auto.seat-items c.deref_mut-seat-items.ensures.len c.loop-seat-test.false)
