use Rattle.std.proofs.Common.{◌≡◌, ◌≢◌, ◌∙◌, IfSome, arith, length, subst}
use Rattle.replica_store.specs.Seats.{known_at, seat_view}
use Rattle.replica_store.proofs.Entries.{not_taken, not_there, sound_known, taken_in, there_known}
use Rattle.replica_store.proofs.objects.take_in.Goals as goal

pub take_kept-file-requires-clause-there : goal.take_kept-file-requires-clause-there
take_kept-file-requires-clause-there g c = there_known (seat_view g.C.Cluster.at g.C.Cluster.losses g.C.Cluster.count) g.C.File.AppendFile.tells c.args.object _ _ _ c.requires.there c.in-Some.ensures.lifted

pub take_kept-file-requires-clause-part : goal.take_kept-file-requires-clause-part
take_kept-file-requires-clause-part g c = sound_known (seat_view g.C.Cluster.at g.C.Cluster.losses g.C.Cluster.count) g.C.File.AppendFile.tells c.args.object _ _ _ c.requires.sound c.in-Some.ensures.lifted

pub returns-in-Some-clause-taken : goal.returns-in-Some-clause-taken
returns-in-Some-clause-taken g c = taken_in (seat_view g.C.Cluster.at g.C.Cluster.losses g.C.Cluster.count) g.C.File.AppendFile.tells c.args.object _ _ _ _ _ c.requires.sound c.in-Some.ensures.lifted (λ q other. c.put_back.ensures.others q other ∙ c.in-Some.ensures.others q other) c.take_kept-file.ensures.touched _ _ c.put_back.ensures.here c.take_kept-file.ensures.part c.take_kept-file.ensures.losses c.take_kept-file.ensures.taken

pub returns-in-None-clause-taken : goal.returns-in-None-clause-taken
returns-in-None-clause-taken g c = not_taken (seat_view g.C.Cluster.at g.C.Cluster.losses g.C.Cluster.count) g.C.File.AppendFile.tells c.args.object _ _ _ c.requires.sound c.requires.there c.in-None.ensures.others c.in-None.ensures.same

pub returns-in-None-clause-failed : goal.returns-in-None-clause-failed
returns-in-None-clause-failed g c = λ t. absurd (not_there (seat_view g.C.Cluster.at g.C.Cluster.losses g.C.Cluster.count) g.C.File.AppendFile.tells c.args.object _ _ _ c.requires.sound c.requires.there c.in-None.ensures.others c.in-None.ensures.same (let e : c.len.result ≡ length c.args.seats.now.items = omega (arith, c.len.ensures) in subst (λ n. IfSome (known_at c.args.known.now.entries c.args.object) (λ k. length k.parts ≢ n)) e c.in-None.ensures.none) t)
