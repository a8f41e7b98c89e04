use Rattle.std.proofs.Common.{inl, arith}
use Rattle.append_store.specs.State.{IsThere}
use Rattle.replica_store.specs.Seats.{column, seat_view, state_of}
use Rattle.replica_store.proofs.Started.{at_name, left_none, left_on}
use Rattle.replica_store.proofs.Supplying.{adds_chief, adds_inside, all_adds_both, all_adds_same, introduces_both, introduces_none}
use Rattle.replica_store.proofs.starting.introduce_each.Goals as goal

pub loop-kept-init : goal.loop-kept-init
loop-kept-init g c = record { each = all_adds_same _ _ _; introduced = introduces_none _ _ _ _; supplied = c.requires.supplied; left = λ q has. inl has }

pub introduce-requires-clause-inside : goal.introduce-requires-clause-inside
introduce-requires-clause-inside g c = λ q. adds_inside _ _ q _ _ c.loop-kept.invariant.each (c.requires.inside q)

pub introduce-requires-clause-there : goal.introduce-requires-clause-there
introduce-requires-clause-there g c = λ t. adds_chief _ _ _ _ _ _ c.loop-kept.invariant.each t
    (at_name (λ k. IsThere (state_of (column (seat_view g.C.Cluster.at g.C.Cluster.losses g.C.Cluster.count) c.args.seats.now.items k.object) c.args.chief)) _ _ _ (c.requires.there t) (omega (arith, c.loop-kept-test.true, c.loop-kept.auto.kept-index-end)))

pub returns-in_err-introduce-clause-each : goal.returns-in_err-introduce-clause-each
returns-in_err-introduce-clause-each g c = all_adds_both _ _ _ _ _ c.loop-kept.invariant.each c.introduce.ensures.each

pub loop-kept-preserved : goal.loop-kept-preserved
loop-kept-preserved g c = record {
  each = all_adds_both _ _ _ _ _ c.loop-kept.invariant.each c.in_ok-introduce.ensures.each;
  introduced = introduces_both _ _ _ _ _ _ _ _ c.loop-kept.invariant.introduced c.in_ok-introduce.ensures.introduced;
  supplied = c.in_ok-introduce.ensures.supplied;
  left = λ q has. left_on c.args.all.now c.loop-kept.kept-index _ _ _ q (omega (arith, c.loop-kept-test.true, c.loop-kept.auto.kept-index-end)) (c.in_ok-introduce.ensures.introduced.before q) c.in_ok-introduce.ensures.listed (c.loop-kept.invariant.left q has);
}

pub returns-clause-listed : goal.returns-clause-listed
returns-clause-listed g c = λ q has. left_none c.args.all.now c.loop-kept.kept-index _ q (omega (arith, c.loop-kept-test.false, c.loop-kept.auto.kept-index-end)) (c.loop-kept.invariant.left q has)
