use Rattle.std.proofs.Common.{◌<◌, ℕ}
use Rattle.replica_store.specs.Seats.{seat_view}
use Rattle.replica_store.specs.Starting.{AllMayAdd, AreSupplied, Introduces, IsListedAt}
use Rattle.replica_store.proofs.starting.introduce_all.Given as goal

abbrev pub invariant-loop-chief : goal.invariant-loop-chief
invariant-loop-chief g l = record {
  each : AllMayAdd g.C.File.AppendFile.tells (seat_view g.C.Cluster.at g.C.Cluster.losses g.C.Cluster.count) l.fn.seats.items l.seats.items;
  introduced : Introduces g.C.File.AppendFile.tells (seat_view g.C.Cluster.at g.C.Cluster.losses g.C.Cluster.count) l.fn.seats.items l.seats.items l.fn.known.entries l.known.entries;
  supplied : AreSupplied g.C.File.AppendFile.tells (seat_view g.C.Cluster.at g.C.Cluster.losses g.C.Cluster.count) l.seats.items l.known.entries;
  listed : (k : ℕ) → k < l.chief → IsListedAt g.C.File.AppendFile.tells (seat_view g.C.Cluster.at g.C.Cluster.losses g.C.Cluster.count) l.seats.items l.known.entries k;
}
