use Rattle.std.proofs.Common.{sym, subst}
use Rattle.std.specs.List.{AllByRecursion}
use Rattle.append_store.specs.Calls.{Has}
use Rattle.replica_store.specs.Seats.{seat_view}
use Rattle.replica_store.proofs.Started.{listed_now, on_both, on_ok, stay_adds, stay_untouched, told_there}
use Rattle.replica_store.proofs.Supplying.{adds_inside, all_adds_both, all_supplied, introduces_both, introduces_stay}
use Rattle.replica_store.proofs.starting.introduce_of.Goals as goal

pub introduce_each-requires-clause-inside : goal.introduce_each-requires-clause-inside
introduce_each-requires-clause-inside g c = λ q. adds_inside _ _ q _ _ (stay_adds g.C.File.AppendFile.tells (seat_view g.C.Cluster.at g.C.Cluster.losses g.C.Cluster.count) _ _ c.in-Ok.ensures.stays) (c.requires.inside q)

pub introduce_each-requires-clause-supplied : goal.introduce_each-requires-clause-supplied
introduce_each-requires-clause-supplied g c = all_supplied _ _ _ _ _ (stay_adds g.C.File.AppendFile.tells (seat_view g.C.Cluster.at g.C.Cluster.losses g.C.Cluster.count) _ _ c.in-Ok.ensures.stays) c.requires.supplied

pub introduce_each-requires-clause-there : goal.introduce_each-requires-clause-there
introduce_each-requires-clause-there g c = λ t. subst (AllByRecursion _) (sym c.deref.ensures.value) (told_there g.C.File.AppendFile.tells (seat_view g.C.Cluster.at g.C.Cluster.losses g.C.Cluster.count) _ _ _ _ c.in-Ok.ensures.stays t (c.in-Ok.ensures.listed t))

pub returns-in-Ok-clause-each : goal.returns-in-Ok-clause-each
returns-in-Ok-clause-each g c = all_adds_both _ _ _ _ _ (stay_adds g.C.File.AppendFile.tells (seat_view g.C.Cluster.at g.C.Cluster.losses g.C.Cluster.count) _ _ c.in-Ok.ensures.stays) c.introduce_each.ensures.each

pub returns-in-Ok-clause-introduced : goal.returns-in-Ok-clause-introduced
returns-in-Ok-clause-introduced g c = on_ok c.introduce_each.result (λ made. introduces_both _ _ _ _ _ _ _ _ (introduces_stay _ _ _ _ _ (λ q. stay_untouched g.C.File.AppendFile.tells (seat_view g.C.Cluster.at g.C.Cluster.losses g.C.Cluster.count) q _ _ c.in-Ok.ensures.stays)) made) c.introduce_each.ensures.introduced

pub returns-in-Ok-clause-listed : goal.returns-in-Ok-clause-listed
returns-in-Ok-clause-listed g c = on_both c.introduce_each.result (λ made entered. listed_now g.C.File.AppendFile.tells (seat_view g.C.Cluster.at g.C.Cluster.losses g.C.Cluster.count) _ _ _ _ _ _ c.in-Ok.ensures.stays c.in-Ok.ensures.listed c.requires.inside (λ q has. entered q (subst (λ all. Has all q) (sym c.deref.ensures.value) has)) made.rest) c.introduce_each.ensures.introduced c.introduce_each.ensures.listed

pub returns-in-Err-Fault-clause-each : goal.returns-in-Err-Fault-clause-each
returns-in-Err-Fault-clause-each g c = stay_adds g.C.File.AppendFile.tells (seat_view g.C.Cluster.at g.C.Cluster.losses g.C.Cluster.count) _ _ c.in-Err-Fault.ensures.stays

pub returns-in-Err-Fault-clause-introduced : goal.returns-in-Err-Fault-clause-introduced
returns-in-Err-Fault-clause-introduced g c = introduces_stay _ _ _ _ _ (λ q. stay_untouched g.C.File.AppendFile.tells (seat_view g.C.Cluster.at g.C.Cluster.losses g.C.Cluster.count) q _ _ c.in-Err-Fault.ensures.stays)

pub returns-in-Err-Fault-clause-supplied : goal.returns-in-Err-Fault-clause-supplied
returns-in-Err-Fault-clause-supplied g c = all_supplied _ _ _ _ _ (stay_adds g.C.File.AppendFile.tells (seat_view g.C.Cluster.at g.C.Cluster.losses g.C.Cluster.count) _ _ c.in-Err-Fault.ensures.stays) c.requires.supplied

pub returns-in-Err-Memory-clause-each : goal.returns-in-Err-Memory-clause-each
returns-in-Err-Memory-clause-each g c = stay_adds g.C.File.AppendFile.tells (seat_view g.C.Cluster.at g.C.Cluster.losses g.C.Cluster.count) _ _ c.in-Err-Memory.ensures.stays
