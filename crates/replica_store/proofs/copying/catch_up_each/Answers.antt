use Rattle.std.proofs.Common.{arith}
use Rattle.replica_store.proofs.Pairs.{further, all_written}
use Rattle.replica_store.proofs.Serving.{catch_from, complete_from, lends_both}
use Rattle.replica_store.proofs.copying.catch_up_each.Goals as goal

pub loop-part-preserved : goal.loop-part-preserved
loop-part-preserved g c = record {
  parts = further _ _ _ _ _ _ c.loop-part.invariant.parts (omega (arith, c.loop-part-test.true, c.loop-part.auto.part-items))
      (catch_from _ _ _ _ _ c.loop-part.invariant.chief.content c.catch_up_one.ensures.part);
  whole = λ live. further _ _ _ _ _ _ (c.loop-part.invariant.whole (c.catch_up_one.ensures.chief.serves.live live)) (omega (arith, c.loop-part-test.true, c.loop-part.auto.part-items))
      (complete_from _ _ _ _ _ c.loop-part.invariant.chief.content (c.catch_up_one.ensures.whole live));
  chief = lends_both _ _ _ _ c.loop-part.invariant.chief c.catch_up_one.ensures.chief;
}

pub returns : goal.returns
returns g c = record {
  parts = all_written _ _ _ _ _ _ c.loop-part.invariant.parts c.deref_mut-part-items.ensures.value c.loop-part.auto.part-items c.deref_mut-part-items.ensures.len c.loop-part-test.false;
  whole = λ live. all_written _ _ _ _ _ _ (c.loop-part.invariant.whole live) c.deref_mut-part-items.ensures.value c.loop-part.auto.part-items c.deref_mut-part-items.ensures.len c.loop-part-test.false;
  chief = c.loop-part.invariant.chief;
}
