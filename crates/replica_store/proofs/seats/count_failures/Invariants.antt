use Rattle.std.proofs.Common.{◌≡◌, ◌+◌, ◌-◌, ◌^◌, min, take}
use Rattle.replica_store.specs.Seats.{counts_of, seat_view}
use Rattle.replica_store.proofs.seats.count_failures.Given as goal

abbrev pub invariant-loop-seat : goal.invariant-loop-seat
invariant-loop-seat g l = l.count ≡ min (counts_of (seat_view g.C.Cluster.at g.C.Cluster.losses g.C.Cluster.count) (take l.seat-index l.seats.items) + l.refusals) (2 ^ 64 - 1)
