use Rattle.std.proofs.Common.{sym, subst}
use Rattle.replica_store.specs.Seats.{IsSoundAt, known_at, seat_view}
use Rattle.replica_store.proofs.store.Replica.new.Goals as goal

-- no object is in the list
pub invariant_of-result : goal.invariant_of-result
invariant_of-result g c = record {
  enough = c.requires.quorum;
  each = λ q. subst
      (λ known. IsSoundAt g.C.File.AppendFile.tells (seat_view g.C.Cluster.at g.C.Cluster.losses g.C.Cluster.count) c.args.seats.items q (known_at known q))
      (sym c.new.ensures.empty) (c.requires.empty q);
}
