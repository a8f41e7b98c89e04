use Rattle.std.proofs.Common.{◌≡◌, true, arith}
use Rattle.replica_store.proofs.Seating.{first_all, first_further}
use Rattle.replica_store.proofs.rounds.any_refused.Goals as goal

pub loop-i-preserved : goal.loop-i-preserved
loop-i-preserved g c = first_further (λ s. s.live ≡ true → s.made ≡ true) _ _ _ _ c.loop-i.invariant c.index.ensures (c.was_refused.ensures c.if-was_refused.false)

pub returns : goal.returns
returns g c = λ no. first_all (λ s. s.live ≡ true → s.made ≡ true) _ c.loop-i.i c.loop-i.invariant (omega (arith, c.loop-i-test.false, c.len-i-end.ensures))
