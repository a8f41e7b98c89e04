use Rattle.std.proofs.Common.{sym, ap, subst}
use Rattle.replica_store.specs.Seats.{known_at, seat_view}
use Rattle.replica_store.specs.Starting.{AreSupplied}
use Rattle.replica_store.proofs.Enduring.{all_both}
use Rattle.replica_store.proofs.Started.{all_endure, listed_sound, starts_as, supplied_can}
use Rattle.replica_store.proofs.Supplying.{adds_inside}
use Rattle.replica_store.proofs.starting.start_in.Goals as goal

pub introduce_all-requires-clause-supplied : goal.introduce_all-requires-clause-supplied
introduce_all-requires-clause-supplied g c = subst (AreSupplied g.C.File.AppendFile.tells (seat_view g.C.Cluster.at g.C.Cluster.losses g.C.Cluster.count) c.args.seats.now.items) (sym c.requires.empty) (λ q. tt)

pub returns-in_err-introduce_all-clause-each : goal.returns-in_err-introduce_all-clause-each
returns-in_err-introduce_all-clause-each g c = all_endure g.C.File.AppendFile.tells (seat_view g.C.Cluster.at g.C.Cluster.losses g.C.Cluster.count) _ _ c.requires.inside c.introduce_all.ensures.each

pub level_all-requires-clause-can : goal.level_all-requires-clause-can
level_all-requires-clause-can g c = λ q. supplied_can g.C.File.AppendFile.tells (seat_view g.C.Cluster.at g.C.Cluster.losses g.C.Cluster.count) q _ _ (c.in_ok-introduce_all.ensures.supplied q)

pub level_all-requires-clause-sound : goal.level_all-requires-clause-sound
level_all-requires-clause-sound g c = listed_sound g.C.File.AppendFile.tells (seat_view g.C.Cluster.at g.C.Cluster.losses g.C.Cluster.count) _ _ c.in_ok-introduce_all.ensures.supplied c.in_ok-introduce_all.ensures.listed (λ q. adds_inside _ _ q _ _ c.in_ok-introduce_all.ensures.each (c.requires.inside q))

pub returns-clause-each : goal.returns-clause-each
returns-clause-each g c = all_both _ _ _ _ _ (all_endure g.C.File.AppendFile.tells (seat_view g.C.Cluster.at g.C.Cluster.losses g.C.Cluster.count) _ _ c.requires.inside c.in_ok-introduce_all.ensures.each) c.level_all.ensures.each

pub returns-clause-started : goal.returns-clause-started
returns-clause-started g c = λ t q bytes cut. starts_as g.C.File.AppendFile.tells (seat_view g.C.Cluster.at g.C.Cluster.losses g.C.Cluster.count) q bytes t _ _ _ _ _ _ (ap (λ es. known_at es q) c.requires.empty) c.in_ok-introduce_all.ensures.each c.in_ok-introduce_all.ensures.introduced c.in_ok-introduce_all.ensures.supplied
    (listed_sound g.C.File.AppendFile.tells (seat_view g.C.Cluster.at g.C.Cluster.losses g.C.Cluster.count) _ _ c.in_ok-introduce_all.ensures.supplied c.in_ok-introduce_all.ensures.listed (λ r. adds_inside _ _ r _ _ c.in_ok-introduce_all.ensures.each (c.requires.inside r)))
    c.level_all.ensures.each c.level_all.ensures.sound (λ before wait. c.level_all.ensures.image q before wait t) cut
