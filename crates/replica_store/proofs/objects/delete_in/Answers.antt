use Rattle.std.proofs.Common.{◌≡◌, ◌≢◌, ◌∙◌, IfSome, arith, length, subst}
use Rattle.replica_store.specs.Seats.{known_at, seat_view}
use Rattle.replica_store.proofs.Entries.{deleted_gone, deleted_still, not_deleted, sound_known, there_known}
use Rattle.replica_store.proofs.objects.delete_in.Goals as goal

pub delete_kept-requires-clause-there : goal.delete_kept-requires-clause-there
delete_kept-requires-clause-there g c = there_known (seat_view g.C.Cluster.at g.C.Cluster.losses g.C.Cluster.count) g.C.File.AppendFile.tells c.args.object _ _ _ c.requires.there c.in-Some.ensures.lifted

pub delete_kept-requires-clause-part : goal.delete_kept-requires-clause-part
delete_kept-requires-clause-part g c = sound_known (seat_view g.C.Cluster.at g.C.Cluster.losses g.C.Cluster.count) g.C.File.AppendFile.tells c.args.object _ _ _ c.requires.sound c.in-Some.ensures.lifted

pub returns-then-delete_kept : goal.returns-then-delete_kept
returns-then-delete_kept g c = deleted_gone (seat_view g.C.Cluster.at g.C.Cluster.losses g.C.Cluster.count) g.C.File.AppendFile.tells c.args.object _ _ _ _ _ c.requires.sound c.in-Some.ensures.lifted (λ q other. c.strike.ensures.others q other ∙ c.in-Some.ensures.others q other) c.delete_kept.ensures.touched c.delete_kept.new.kept c.if-delete_kept.ensures.deleted c.strike.ensures.gone

pub returns-else-delete_kept : goal.returns-else-delete_kept
returns-else-delete_kept g c = deleted_still (seat_view g.C.Cluster.at g.C.Cluster.losses g.C.Cluster.count) g.C.File.AppendFile.tells c.args.object _ _ _ _ _ c.requires.sound c.in-Some.ensures.lifted (λ q other. c.put_back.ensures.others q other ∙ c.in-Some.ensures.others q other) c.delete_kept.ensures.touched _ c.if-delete_kept.ensures.deleted c.put_back.ensures.here

pub returns-in-None : goal.returns-in-None
returns-in-None g c = not_deleted (seat_view g.C.Cluster.at g.C.Cluster.losses g.C.Cluster.count) g.C.File.AppendFile.tells c.args.object _ _ _ c.requires.sound c.requires.there c.in-None.ensures.others c.in-None.ensures.same (let e : c.len.result ≡ length c.args.seats.now.items = omega (arith, c.len.ensures) in subst (λ n. IfSome (known_at c.args.known.now.entries c.args.object) (λ k. length k.parts ≢ n)) e c.in-None.ensures.none)
