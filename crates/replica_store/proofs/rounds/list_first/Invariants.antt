use Rattle.std.proofs.Common.{◌≡◌, false}
use Rattle.replica_store.specs.Seats.{seat_view}
use Rattle.replica_store.specs.Steps.{Stays}
use Rattle.replica_store.proofs.Pairs.{UpTo}
use Rattle.replica_store.proofs.rounds.list_first.Given as goal

abbrev pub invariant-loop-seat : goal.invariant-loop-seat
invariant-loop-seat g l = UpTo (λ s t. Stays g.C.File.AppendFile.tells (seat_view g.C.Cluster.at g.C.Cluster.losses g.C.Cluster.count s) (seat_view g.C.Cluster.at g.C.Cluster.losses g.C.Cluster.count t) × (t.live ≡ false)) l.seat-index l.initial.seat-items l.seat-items
