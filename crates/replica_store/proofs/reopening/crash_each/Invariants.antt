use Rattle.replica_store.specs.Reopening.{Crashes}
use Rattle.replica_store.specs.Seats.{seat_view}
use Rattle.replica_store.proofs.Pairs.{UpTo}
use Rattle.replica_store.proofs.reopening.crash_each.Given as goal

abbrev pub invariant-loop-seat : goal.invariant-loop-seat
invariant-loop-seat g l = UpTo (λ s t. Crashes g.C.File.AppendFile.tells (seat_view g.C.Cluster.at g.C.Cluster.losses g.C.Cluster.count s) (seat_view g.C.Cluster.at g.C.Cluster.losses g.C.Cluster.count t)) l.seat-index l.initial.seat-items l.seat-items
