use Rattle.std.proofs.Common.{◌∙◌, sym}
use Rattle.replica_store.specs.Seats.{seat_view}
use Rattle.replica_store.proofs.Entries.{created_before}
use Rattle.replica_store.proofs.objects.create_in.Goals as goal

pub returns-then-contains_key : goal.returns-then-contains_key
returns-then-contains_key g c = created_before (seat_view g.C.Cluster.at g.C.Cluster.losses g.C.Cluster.count) g.C.File.AppendFile.tells c.args.object _ _ _ c.requires (sym c.contains_key.ensures ∙ c.if-contains_key.true)
