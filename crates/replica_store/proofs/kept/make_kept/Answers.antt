use Rattle.std.proofs.Common.{arith}
use Rattle.replica_store.specs.Seats.{seat_view}
use Rattle.replica_store.proofs.Creating.{both_touched, made_told, make_losses, make_touched, make_tried, none_unused, take_part, unmake_losses, unmake_unused}
use Rattle.replica_store.proofs.kept.make_kept.Goals as goal

pub unmake_each-requires : goal.unmake_each-requires
unmake_each-requires g c = make_tried (seat_view g.C.Cluster.at g.C.Cluster.losses g.C.Cluster.count) g.C.File.AppendFile.tells c.args.object _ _ _ _ c.make_each.ensures

pub returns-then-any_refused-clause-touched : goal.returns-then-any_refused-clause-touched
returns-then-any_refused-clause-touched g c = both_touched (seat_view g.C.Cluster.at g.C.Cluster.losses g.C.Cluster.count) g.C.File.AppendFile.tells c.args.object _ _ _ (make_touched (seat_view g.C.Cluster.at g.C.Cluster.losses g.C.Cluster.count) g.C.File.AppendFile.tells c.args.object _ _ _ _ c.make_each.ensures) c.unmake_each.ensures

pub returns-then-any_refused-clause-created : goal.returns-then-any_refused-clause-created
returns-then-any_refused-clause-created g c = unmake_unused (seat_view g.C.Cluster.at g.C.Cluster.losses g.C.Cluster.count) g.C.File.AppendFile.tells c.args.object _ _ c.unmake_each.ensures

pub returns-then-any_refused-clause-losses : goal.returns-then-any_refused-clause-losses
returns-then-any_refused-clause-losses g c = λ t.
    let a = make_losses (seat_view g.C.Cluster.at g.C.Cluster.losses g.C.Cluster.count) g.C.File.AppendFile.tells c.args.object _ _ _ _ c.make_each.ensures t in
    let b = unmake_losses (seat_view g.C.Cluster.at g.C.Cluster.losses g.C.Cluster.count) g.C.File.AppendFile.tells c.args.object _ _ c.unmake_each.ensures t in
    omega (arith, a, b)

pub returns-in-Some-clause-touched : goal.returns-in-Some-clause-touched
returns-in-Some-clause-touched g c = make_touched (seat_view g.C.Cluster.at g.C.Cluster.losses g.C.Cluster.count) g.C.File.AppendFile.tells c.args.object _ _ _ _ c.make_each.ensures

pub returns-in-Some-clause-created : goal.returns-in-Some-clause-created
returns-in-Some-clause-created g c = (take_part (seat_view g.C.Cluster.at g.C.Cluster.losses g.C.Cluster.count) g.C.File.AppendFile.tells c.args.object _ _ _ _ c.make_each.ensures, λ t. made_told (seat_view g.C.Cluster.at g.C.Cluster.losses g.C.Cluster.count) g.C.File.AppendFile.tells c.args.object _ _ _ _ _ c.make_each.ensures (c.any_refused.ensures c.if-any_refused.false) c.in-Some.ensures.some t)

pub returns-in-Some-clause-losses : goal.returns-in-Some-clause-losses
returns-in-Some-clause-losses g c = make_losses (seat_view g.C.Cluster.at g.C.Cluster.losses g.C.Cluster.count) g.C.File.AppendFile.tells c.args.object _ _ _ _ c.make_each.ensures

pub returns-in-None-clause-touched : goal.returns-in-None-clause-touched
returns-in-None-clause-touched g c = make_touched (seat_view g.C.Cluster.at g.C.Cluster.losses g.C.Cluster.count) g.C.File.AppendFile.tells c.args.object _ _ _ _ c.make_each.ensures

pub returns-in-None-clause-created : goal.returns-in-None-clause-created
returns-in-None-clause-created g c = (c.in-None.ensures.none, none_unused (seat_view g.C.Cluster.at g.C.Cluster.losses g.C.Cluster.count) g.C.File.AppendFile.tells c.args.object _ c.in-None.ensures.none (make_tried (seat_view g.C.Cluster.at g.C.Cluster.losses g.C.Cluster.count) g.C.File.AppendFile.tells c.args.object _ _ _ _ c.make_each.ensures))

pub returns-in-None-clause-losses : goal.returns-in-None-clause-losses
returns-in-None-clause-losses g c = make_losses (seat_view g.C.Cluster.at g.C.Cluster.losses g.C.Cluster.count) g.C.File.AppendFile.tells c.args.object _ _ _ _ c.make_each.ensures
