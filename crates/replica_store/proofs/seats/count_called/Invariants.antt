use Rattle.std.proofs.Common.{◌≡◌, ◌≤◌, take}
use Rattle.replica_store.specs.Seats.{called_of, seat_view}
use Rattle.replica_store.proofs.seats.count_called.Given as goal

abbrev pub invariant-loop-seat : goal.invariant-loop-seat
invariant-loop-seat g l = (l.count ≤ l.seat-index) × (l.count ≡ called_of (seat_view g.C.Cluster.at g.C.Cluster.losses g.C.Cluster.count) (take l.seat-index l.seats.items))
