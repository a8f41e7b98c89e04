use Rattle.std.proofs.Common.{◌≡◌, true}
use Rattle.append_store.specs.Calls.{Creates}
use Rattle.replica_store.specs.Seats.{seat_view}
use Rattle.replica_store.specs.Starting.{Supplies}
use Rattle.replica_store.proofs.Pairs.{UpTo}
use Rattle.replica_store.proofs.rounds.supply_each.Given as goal

abbrev pub invariant-loop-seat : goal.invariant-loop-seat
invariant-loop-seat g l = UpTo (λ s t. Supplies g.C.File.AppendFile.tells l.object (seat_view g.C.Cluster.at g.C.Cluster.losses g.C.Cluster.count s) (seat_view g.C.Cluster.at g.C.Cluster.losses g.C.Cluster.count t)
    × (g.C.File.AppendFile.tells → t.live ≡ true → Creates (g.C.Cluster.at s.cluster l.object) (g.C.Cluster.at t.cluster l.object))) l.seat-index l.initial.seat-items l.seat-items
