use Rattle.std.proofs.Common.{arith}
use Rattle.replica_store.specs.Seats.{seat_view}
use Rattle.replica_store.specs.Starting.{IsListedAt}
use Rattle.replica_store.proofs.Started.{listed_still, up_to}
use Rattle.replica_store.proofs.Supplying.{adds_inside, adds_many, all_adds_both, all_adds_same, introduces_both, introduces_none}
use Rattle.replica_store.proofs.starting.introduce_all.Goals as goal

pub loop-chief-init : goal.loop-chief-init
loop-chief-init g c = record { each = all_adds_same _ _ _; introduced = introduces_none _ _ _ _; supplied = c.requires.supplied; listed = λ k lt. absurd (omega (arith, lt)) }

pub introduce_of-requires-clause-place : goal.introduce_of-requires-clause-place
introduce_of-requires-clause-place g c = let e = adds_many _ _ _ _ c.loop-chief.invariant.each in omega (arith, e, c.loop-chief-test.true, c.len-chief-end.ensures)

pub introduce_of-requires-clause-inside : goal.introduce_of-requires-clause-inside
introduce_of-requires-clause-inside g c = λ q. adds_inside _ _ q _ _ c.loop-chief.invariant.each (c.requires.inside q)

pub returns-in_err-introduce_of-clause-each : goal.returns-in_err-introduce_of-clause-each
returns-in_err-introduce_of-clause-each g c = all_adds_both _ _ _ _ _ c.loop-chief.invariant.each c.introduce_of.ensures.each

pub loop-chief-preserved : goal.loop-chief-preserved
loop-chief-preserved g c = record {
  each = all_adds_both _ _ _ _ _ c.loop-chief.invariant.each c.in_ok-introduce_of.ensures.each;
  introduced = introduces_both _ _ _ _ _ _ _ _ c.loop-chief.invariant.introduced c.in_ok-introduce_of.ensures.introduced;
  supplied = c.in_ok-introduce_of.ensures.supplied;
  listed = λ k lt. up_to (IsListedAt g.C.File.AppendFile.tells (seat_view g.C.Cluster.at g.C.Cluster.losses g.C.Cluster.count) c.introduce_of.new.seats.items c.introduce_of.new.known.entries) k c.loop-chief.chief lt
      (λ m l. listed_still g.C.File.AppendFile.tells (seat_view g.C.Cluster.at g.C.Cluster.losses g.C.Cluster.count) _ _ _ _ m c.in_ok-introduce_of.ensures.introduced (c.loop-chief.invariant.listed m l)) c.in_ok-introduce_of.ensures.listed;
}

pub returns-clause-listed : goal.returns-clause-listed
returns-clause-listed g c = λ k lt. let e = adds_many _ _ _ _ c.loop-chief.invariant.each in c.loop-chief.invariant.listed k (omega (arith, e, lt, c.loop-chief-test.false, c.len-chief-end.ensures))
