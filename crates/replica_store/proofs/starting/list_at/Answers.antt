use Rattle.append_store.specs.declared.store.ListFault.{ListFault}
use Rattle.gw_model.specs.declared.object.KeptObject.{KeptObject}
use Rattle.std.proofs.Common.{Vec, Global}
use Rattle.replica_store.specs.Seats.{seat_view}
use Rattle.replica_store.proofs.Asking.{with_ok}
use Rattle.replica_store.proofs.Started.{asked_inside, asked_lists, asked_off, asked_stay, not_on}
use Rattle.replica_store.proofs.starting.list_at.Goals as goal

pub list_one-requires : goal.list_one-requires
list_one-requires g c = λ t live q. asked_inside g.C.File.AppendFile.tells (seat_view g.C.Cluster.at g.C.Cluster.losses g.C.Cluster.count) _ _ _ _ c.requires.place c.index_mut.ensures.value c.requires.inside t q

pub returns-clause-stays : goal.returns-clause-stays
returns-clause-stays g c = asked_stay g.C.File.AppendFile.tells (seat_view g.C.Cluster.at g.C.Cluster.losses g.C.Cluster.count) _ _ _ _ _ c.requires.place c.index_mut.ensures.value c.list_one.ensures.stays

pub returns-clause-listed : goal.returns-clause-listed
returns-clause-listed g c = with_ok {T = Vec KeptObject Global} {E = ListFault} _ _ _ (λ all is. asked_lists g.C.File.AppendFile.tells (seat_view g.C.Cluster.at g.C.Cluster.losses g.C.Cluster.count) _ _ _ _ _ c.requires.place c.index_mut.ensures.value is) c.list_one.ensures.listed

pub returns-clause-failed : goal.returns-clause-failed
returns-clause-failed g c = λ fault. asked_off g.C.File.AppendFile.tells (seat_view g.C.Cluster.at g.C.Cluster.losses g.C.Cluster.count) _ _ _ c.requires.place (not_on _ (c.list_one.ensures.failed fault))
