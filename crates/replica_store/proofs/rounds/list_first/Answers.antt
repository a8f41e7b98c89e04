use Rattle.std.proofs.Common.{◌≡◌, true, false, arith, subst, sym, ap, Err, Vec, Global}
use Rattle.std.proofs.lemmas.List.{length-set}
use Rattle.std.specs.List.{AllByRecursion}
use Rattle.gw_model.specs.declared.object.KeptObject.{KeptObject}
use Rattle.gw_model.specs.declared.object.ObjectId.{ObjectId}
use Rattle.append_store.specs.declared.store.ListFault.{ListFault}
use Rattle.append_store.specs.State.{IsAway}
use Rattle.replica_store.specs.Seats.{seat_view}
use Rattle.replica_store.specs.Steps.{IsListedBy}
use Rattle.replica_store.proofs.Asking.{news_are, some_next, stays_self, with_ok}
use Rattle.replica_store.proofs.Pairs.{further, all_written, rest_written, next_is, weaker, weaker_pairs}
use Rattle.replica_store.proofs.rounds.list_first.Goals as goal

pub list_one-requires : goal.list_one-requires
list_one-requires g c = next_is _ (λ s. g.C.File.AppendFile.tells → s.live ≡ true → (q : ObjectId) → IsAway (g.C.Cluster.at s.cluster q) → ⊥) _ _ _ _ c.loop-seat.invariant (subst (AllByRecursion _) (sym c.deref_mut-seat-items.ensures.value) c.requires) (omega (arith, c.loop-seat-test.true, c.loop-seat.auto.seat-items))

pub returns-in-loop-seat-clause-stays : goal.returns-in-loop-seat-clause-stays
returns-in-loop-seat-clause-stays g c = rest_written _ (λ s. stays_self _ _) _ _ _ _ _ (further _ _ _ _ _ _ (weaker _ _ (λ x y r. r.0) _ _ _ c.loop-seat.invariant) (omega (arith, c.loop-seat-test.true, c.loop-seat.auto.seat-items)) c.list_one.ensures.stays) c.deref_mut-seat-items.ensures.value (let e = length-set c.loop-seat.seat-items c.loop-seat.seat-index c.list_one.new.seat in omega (arith, e, c.loop-seat.auto.seat-items)) c.deref_mut-seat-items.ensures.len

pub returns-in-loop-seat-2-clause-stays : goal.returns-in-loop-seat-2-clause-stays
returns-in-loop-seat-2-clause-stays g c = rest_written _ (λ s. stays_self _ _) _ _ _ _ _ (further _ _ _ _ _ _ (weaker _ _ (λ x y r. r.0) _ _ _ c.loop-seat.invariant) (omega (arith, c.loop-seat-test.true, c.loop-seat.auto.seat-items)) c.list_one.ensures.stays) c.deref_mut-seat-items.ensures.value (let e = length-set c.loop-seat.seat-items c.loop-seat.seat-index c.list_one.new.seat in omega (arith, e, c.loop-seat.auto.seat-items)) c.deref_mut-seat-items.ensures.len

pub returns-in-loop-seat-2-clause-listed : goal.returns-in-loop-seat-2-clause-listed
returns-in-loop-seat-2-clause-listed g c = with_ok {T = Vec KeptObject Global} {E = ListFault} _ _ _ (λ all is. some_next _ (λ s. IsListedBy g.C.File.AppendFile.tells (seat_view g.C.Cluster.at g.C.Cluster.losses g.C.Cluster.count s) all.items) _ _ _ _ _ c.loop-seat.invariant c.deref_mut-seat-items.ensures.value (omega (arith, c.loop-seat-test.true, c.loop-seat.auto.seat-items)) is) c.list_one.ensures.listed

pub loop-seat-preserved : goal.loop-seat-preserved
loop-seat-preserved g c = further _ _ _ _ _ _ c.loop-seat.invariant (omega (arith, c.loop-seat-test.true, c.loop-seat.auto.seat-items)) (c.in-Err-Fault.ensures.stays, c.in-Err-Fault.ensures.failed (ap Err c.in-Err-Fault.field-0-is))

pub returns-clause-stays : goal.returns-clause-stays
returns-clause-stays g c = weaker_pairs _ _ (λ x y r. r.0) _ _ (all_written _ _ _ _ _ _ c.loop-seat.invariant c.deref_mut-seat-items.ensures.value c.loop-seat.auto.seat-items c.deref_mut-seat-items.ensures.len c.loop-seat-test.false)

pub returns-clause-failed : goal.returns-clause-failed
returns-clause-failed g c = λ e. news_are _ (λ s. s.live ≡ false) (λ x y r. r.1) _ _ (all_written _ _ _ _ _ _ c.loop-seat.invariant c.deref_mut-seat-items.ensures.value c.loop-seat.auto.seat-items c.deref_mut-seat-items.ensures.len c.loop-seat-test.false)
