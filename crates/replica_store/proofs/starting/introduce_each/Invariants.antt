use Rattle.std.proofs.Common.{◌⊎◌, IsSome, drop}
use Rattle.gw_model.specs.declared.object.ObjectId.{ObjectId}
use Rattle.append_store.specs.Calls.{Has}
use Rattle.replica_store.specs.Seats.{known_at, seat_view}
use Rattle.replica_store.specs.Starting.{AllMayAdd, AreSupplied, Introduces}
use Rattle.replica_store.proofs.starting.introduce_each.Given as goal

abbrev pub invariant-loop-kept : goal.invariant-loop-kept
invariant-loop-kept g l = record {
  each : AllMayAdd g.C.File.AppendFile.tells (seat_view g.C.Cluster.at g.C.Cluster.losses g.C.Cluster.count) l.fn.seats.items l.seats.items;
  introduced : Introduces g.C.File.AppendFile.tells (seat_view g.C.Cluster.at g.C.Cluster.losses g.C.Cluster.count) l.fn.seats.items l.seats.items l.fn.known.entries l.known.entries;
  supplied : AreSupplied g.C.File.AppendFile.tells (seat_view g.C.Cluster.at g.C.Cluster.losses g.C.Cluster.count) l.seats.items l.known.entries;
  left : (q : ObjectId) → Has l.all q → Has (drop l.kept-index l.all) q ⊎ IsSome (known_at l.known.entries q);
}
