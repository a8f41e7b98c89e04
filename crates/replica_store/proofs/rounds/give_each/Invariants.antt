use Rattle.std.proofs.Common.{◌≡◌, length}
use Rattle.replica_store.specs.Seats.{seat_view}
use Rattle.replica_store.specs.Steps.{GivesFile}
use Rattle.replica_store.proofs.InTurn.{TogetherTo}
use Rattle.replica_store.proofs.rounds.give_each.Given as goal

abbrev pub invariant-loop-i : goal.invariant-loop-i
invariant-loop-i g l = TogetherTo (λ s t p q. GivesFile g.C.File.AppendFile.tells l.object (seat_view g.C.Cluster.at g.C.Cluster.losses g.C.Cluster.count s) (seat_view g.C.Cluster.at g.C.Cluster.losses g.C.Cluster.count t) p q) l.i l.initial.seats.items l.seats.items l.initial.parts.items l.parts.items × (length l.seats.items ≡ length l.initial.seats.items) × (length l.parts.items ≡ length l.initial.seats.items)
