use Rattle.std.proofs.Common.{arith}
use Rattle.replica_store.proofs.Pairs.{further, all_written}
use Rattle.replica_store.proofs.copying.measure_each.Goals as goal

pub loop-part-preserved : goal.loop-part-preserved
loop-part-preserved g c = further _ _ _ _ _ _ c.loop-part.invariant (omega (arith, c.loop-part-test.true, c.loop-part.auto.part-items)) c.measure_one.ensures

pub returns : goal.returns
returns g c = all_written _ _ _ _ _ _ c.loop-part.invariant c.deref_mut-part-items.ensures.value c.loop-part.auto.part-items c.deref_mut-part-items.ensures.len c.loop-part-test.false
