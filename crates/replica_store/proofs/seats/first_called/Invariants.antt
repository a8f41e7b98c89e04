use Rattle.std.proofs.Common.{◌≡◌, false}
use Rattle.replica_store.proofs.Seating.{FirstAre}
use Rattle.replica_store.proofs.seats.first_called.Given as goal

abbrev pub invariant-loop-i : goal.invariant-loop-i
invariant-loop-i g l = FirstAre (λ s. s.live ≡ false) l.seats.items l.i
