use Rattle.std.specs.Map.{keys_of}
use Rattle.replica_store.specs.Seats.{seat_view}
use Rattle.replica_store.proofs.Walking.{Walk}
use Rattle.replica_store.proofs.Behind.{count_after}
use Rattle.replica_store.proofs.reopening.level_all.Given as goal

abbrev pub invariant-loop-object : goal.invariant-loop-object
invariant-loop-object g l = Walk (seat_view g.C.Cluster.at g.C.Cluster.losses g.C.Cluster.count) g.C.File.AppendFile.tells l.last l.fn.seats.items l.seats.items l.fn.known.entries l.known.entries

abbrev pub decreases-loop-object : goal.decreases-loop-object
decreases-loop-object g l = count_after l.last (keys_of l.known.entries)
