use Rattle.std.proofs.Common.{arith}
use Rattle.std.proofs.lemmas.List.{length-set}
use Rattle.replica_store.proofs.InTurn.{all_together, together_further}
use Rattle.replica_store.proofs.rounds.give_each.Goals as goal

pub loop-i-preserved : goal.loop-i-preserved
loop-i-preserved g c =
    let a = c.loop-i.invariant.1 in
    let b = c.loop-i.invariant.2 in (
      together_further _ _ _ _ _ _ _ _ _ _ _ _ c.loop-i.invariant.0 c.index_mut.ensures.value c.index_mut-in-loop-i.ensures.value (omega (arith, a, c.loop-i-test.true, c.len-i-end.ensures)) (omega (arith, b, c.loop-i-test.true, c.len-i-end.ensures)) c.give_one.ensures,
      let e = length-set c.loop-i.seats.items c.loop-i.i c.give_one.new.seat in omega (arith, a, e),
      let e = length-set c.loop-i.parts.items c.loop-i.i c.give_one.new.part in omega (arith, b, e),
    )

pub returns : goal.returns
returns g c =
    let a = c.loop-i.invariant.1 in
    let b = c.loop-i.invariant.2 in
    all_together _ _ _ _ _ _ c.loop-i.invariant.0 (omega (arith, a, c.loop-i-test.false, c.len-i-end.ensures)) (omega (arith, b, c.loop-i-test.false, c.len-i-end.ensures))
