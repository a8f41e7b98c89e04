use Rattle.std.proofs.Common.{◌≡◌, true, arith, subst, sym}
use Rattle.gw_model.specs.declared.object.ObjectId.{ObjectId}
use Rattle.append_store.specs.State.{IsAway}
use Rattle.std.specs.List.{AllByRecursion}
use Rattle.replica_store.proofs.Pairs.{further, all_written, next_is}
use Rattle.replica_store.proofs.reopening.crash_each.Goals as goal

pub crash_one-requires : goal.crash_one-requires
crash_one-requires g c = next_is _ (λ s. g.C.File.AppendFile.tells → s.live ≡ true → (q : ObjectId) → IsAway (g.C.Cluster.at s.cluster q) → ⊥) _ _ _ _ c.loop-seat.invariant (subst (AllByRecursion _) (sym c.deref_mut-seat-items.ensures.value) c.requires) (omega (arith, c.loop-seat-test.true, c.loop-seat.auto.seat-items))

pub loop-seat-preserved : goal.loop-seat-preserved
loop-seat-preserved g c = further _ _ _ _ _ _ c.loop-seat.invariant (omega (arith, c.loop-seat-test.true, c.loop-seat.auto.seat-items)) c.crash_one.ensures

pub returns : goal.returns
returns g c = all_written _ _ _ _ _ _ c.loop-seat.invariant c.deref_mut-seat-items.ensures.value c.loop-seat.auto.seat-items c.deref_mut-seat-items.ensures.len c.loop-seat-test.false
