use Rattle.std.proofs.Common.{◌≡◌, false, arith}
use Rattle.replica_store.specs.Seats.{seat_view}
use Rattle.replica_store.proofs.Seating.{is_called, first_all, first_further}
use Rattle.replica_store.proofs.seats.first_called.Goals as goal

pub returns-then-index-clause-some : goal.returns-then-index-clause-some
returns-then-index-clause-some g c = is_called (seat_view g.C.Cluster.at g.C.Cluster.losses g.C.Cluster.count) c.args.seats.now.items c.loop-i.i _ _ (omega (arith, c.loop-i-test.true, c.len-i-end.ensures)) c.index.ensures c.if-index.true

pub loop-i-preserved : goal.loop-i-preserved
loop-i-preserved g c = first_further (λ s. s.live ≡ false) _ _ _ _ c.loop-i.invariant c.index.ensures c.if-index.false

pub returns-clause-none : goal.returns-clause-none
returns-clause-none g c = first_all (λ s. s.live ≡ false) c.args.seats.now.items c.loop-i.i c.loop-i.invariant (omega (arith, c.loop-i-test.false, c.len-i-end.ensures))
