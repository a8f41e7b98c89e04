use Rattle.std.proofs.Common.{◌≡◌, length, subst, sym}
use Rattle.append_store.specs.State.{IsThere}
use Rattle.replica_store.specs.Seats.{AllTakePart, seat_view}
use Rattle.replica_store.specs.Kept.{told_now}
use Rattle.replica_store.proofs.Deleting.{delete_touched, deleted_by, there_each}
use Rattle.replica_store.proofs.kept.delete_kept.Goals as goal

pub delete_each-requires-clause-there : goal.delete_each-requires-clause-there
delete_each-requires-clause-there g c = there_each (seat_view g.C.Cluster.at g.C.Cluster.losses g.C.Cluster.count) c.args.object g.C.File.AppendFile.tells _ c.args.kept.now c.requires.there c.requires.part

pub returns-clause-touched : goal.returns-clause-touched
returns-clause-touched g c = delete_touched (seat_view g.C.Cluster.at g.C.Cluster.losses g.C.Cluster.count) g.C.File.AppendFile.tells c.args.object _ _ _ _ c.delete_each.ensures

pub returns-clause-deleted : goal.returns-clause-deleted
returns-clause-deleted g c = rw (← c.kept.view_is, c.is_some.ensures) (deleted_by (seat_view g.C.Cluster.at g.C.Cluster.losses g.C.Cluster.count) g.C.File.AppendFile.tells c.args.object _ _ _ _ _ _ c.delete_each.ensures (subst (λ k. g.C.File.AppendFile.tells → IsThere (told_now (seat_view g.C.Cluster.at g.C.Cluster.losses g.C.Cluster.count) c.args.object c.args.seats.now.items k)) (sym c.kept.view_is) c.requires.there) (subst (λ k. AllTakePart (seat_view g.C.Cluster.at g.C.Cluster.losses g.C.Cluster.count) c.args.seats.now.items k.parts) (sym c.kept.view_is) c.requires.part) (subst (λ k. length k.parts ≡ length c.args.seats.now.items) (sym c.kept.view_is) c.requires.places) _ c.first_called.ensures.some c.first_called.ensures.none)
