use Rattle.std.proofs.Common.{◌≡◌, true}
use Rattle.replica_store.proofs.Seating.{FirstAre}
use Rattle.replica_store.proofs.rounds.any_refused.Given as goal

abbrev pub invariant-loop-i : goal.invariant-loop-i
invariant-loop-i g l = FirstAre (λ s. s.live ≡ true → s.made ≡ true) l.seats.items l.i
