use Rattle.std.proofs.Common.{arith}
use Rattle.replica_store.specs.Seats.{seat_view}
use Rattle.replica_store.proofs.Giving.{give_count, give_later, give_losses, give_told, give_touched}
use Rattle.replica_store.proofs.Taking.{undo_part}
use Rattle.replica_store.proofs.kept.give_kept.Goals as goal

pub returns-clause-touched : goal.returns-clause-touched
returns-clause-touched g c = give_touched (seat_view g.C.Cluster.at g.C.Cluster.losses g.C.Cluster.count) g.C.File.AppendFile.tells c.args.object _ _ _ _ c.give_each.ensures

pub returns-clause-part : goal.returns-clause-part
returns-clause-part g c = undo_part (seat_view g.C.Cluster.at g.C.Cluster.losses g.C.Cluster.count) g.C.File.AppendFile.tells c.args.object _ _ _ _ c.give_each.ensures

pub returns-clause-own : goal.returns-clause-own
returns-clause-own g c = rw (← c.kept.view_is) (λ t marks are. give_told (seat_view g.C.Cluster.at g.C.Cluster.losses g.C.Cluster.count) g.C.File.AppendFile.tells c.args.object _ _ _ _ _ _ c.give_each.ensures t marks are (omega (arith, c.size_at-size.ensures.value, c.size_at-size.ensures.low)))

pub returns-clause-own_losses : goal.returns-clause-own_losses
returns-clause-own_losses g c = rw (← c.kept.view_is) (λ t marks. give_losses (seat_view g.C.Cluster.at g.C.Cluster.losses g.C.Cluster.count) g.C.File.AppendFile.tells c.args.object _ _ _ _ c.give_each.ensures t marks)

pub returns-clause-losses : goal.returns-clause-losses
returns-clause-losses g c = give_later (seat_view g.C.Cluster.at g.C.Cluster.losses g.C.Cluster.count) g.C.File.AppendFile.tells c.args.object _ _ _ _ c.give_each.ensures

pub returns-clause-count : goal.returns-clause-count
returns-clause-count g c = rw (← c.kept.view_is) (give_count (seat_view g.C.Cluster.at g.C.Cluster.losses g.C.Cluster.count) g.C.File.AppendFile.tells c.args.object _ _ _ _ c.give_each.ensures)
