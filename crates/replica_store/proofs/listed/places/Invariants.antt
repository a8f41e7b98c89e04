use Rattle.std.proofs.Common.{◌≡◌, true, length}
use Rattle.std.specs.List.{AllByRecursion}
use Rattle.replica_store.proofs.listed.places.Given as goal

abbrev pub invariant-loop-place : goal.invariant-loop-place
invariant-loop-place g l = (length l.parts.items ≡ l.place) × AllByRecursion (λ p. p.live ≡ true) l.parts.items
