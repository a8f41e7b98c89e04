use Rattle.std.proofs.Common.{◌≡◌, true, arith}
use Rattle.std.proofs.lemmas.List.{length-set}
use Rattle.append_store.specs.State.{IsThere}
use Rattle.replica_store.proofs.InTurn.{all_together, together_further, together_next}
use Rattle.replica_store.proofs.rounds.delete_each.Goals as goal

pub delete_one-requires : goal.delete_one-requires
delete_one-requires g c = together_next _ (λ s. g.C.File.AppendFile.tells → s.live ≡ true → IsThere (g.C.Cluster.at s.cluster c.args.object)) _ _ _ _ _ _ _ c.loop-i.invariant.0 c.requires.there c.index_mut.ensures.value (omega (arith, c.loop-i.invariant.1, c.loop-i-test.true, c.len-i-end.ensures))

pub loop-i-preserved : goal.loop-i-preserved
loop-i-preserved g c =
    let a = c.loop-i.invariant.1 in
    let b = c.loop-i.invariant.2 in (
      together_further _ _ _ _ _ _ _ _ _ _ _ _ c.loop-i.invariant.0 c.index_mut.ensures.value c.index_mut-in-loop-i.ensures.value (omega (arith, a, c.loop-i-test.true, c.len-i-end.ensures)) (omega (arith, b, c.loop-i-test.true, c.len-i-end.ensures)) c.delete_one.ensures,
      let e = length-set c.loop-i.seats.items c.loop-i.i c.delete_one.new.seat in omega (arith, a, e),
      let e = length-set c.loop-i.parts.items c.loop-i.i c.delete_one.new.part in omega (arith, b, e),
    )

pub returns : goal.returns
returns g c =
    let a = c.loop-i.invariant.1 in
    let b = c.loop-i.invariant.2 in
    all_together _ _ _ _ _ _ c.loop-i.invariant.0 (omega (arith, a, c.loop-i-test.false, c.len-i-end.ensures)) (omega (arith, b, c.loop-i-test.false, c.len-i-end.ensures))
