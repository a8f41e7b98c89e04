use Rattle.std.proofs.Common.{◌∙◌}
use Rattle.replica_store.specs.Seats.{seat_view}
use Rattle.replica_store.proofs.Entries.{created_made, created_none, created_refused, sound_known}
use Rattle.replica_store.proofs.objects.create_new.Goals as goal

pub make_kept-requires-clause-unused : goal.make_kept-requires-clause-unused
make_kept-requires-clause-unused g c = sound_known (seat_view g.C.Cluster.at g.C.Cluster.losses g.C.Cluster.count) g.C.File.AppendFile.tells c.args.object _ _ _ c.requires.sound c.requires.new

pub returns-in-Made : goal.returns-in-Made
returns-in-Made g c = created_made (seat_view g.C.Cluster.at g.C.Cluster.losses g.C.Cluster.count) g.C.File.AppendFile.tells c.args.object _ _ _ _ c.requires.sound c.requires.new (λ q other. c.put_back.ensures.others q other ∙ c.enter.ensures.others q other) c.make_kept.ensures.touched c.make_kept.ensures.losses _ _ c.put_back.ensures.here c.in-Made.ensures.created.0 c.in-Made.ensures.created.1

pub returns-in-Nowhere : goal.returns-in-Nowhere
returns-in-Nowhere g c = created_none (seat_view g.C.Cluster.at g.C.Cluster.losses g.C.Cluster.count) g.C.File.AppendFile.tells c.args.object _ _ _ _ c.requires.sound c.requires.new (λ q other. c.strike.ensures.others q other ∙ c.enter.ensures.others q other) c.make_kept.ensures.touched c.make_kept.ensures.losses _ c.strike.ensures.gone c.in-Nowhere.ensures.created.1 c.in-Nowhere.ensures.created.0

pub returns-in-Refused : goal.returns-in-Refused
returns-in-Refused g c = created_refused (seat_view g.C.Cluster.at g.C.Cluster.losses g.C.Cluster.count) g.C.File.AppendFile.tells c.args.object _ _ _ _ c.requires.sound c.requires.new (λ q other. c.strike-in-Refused.ensures.others q other ∙ c.enter.ensures.others q other) c.make_kept.ensures.touched c.make_kept.ensures.losses _ c.strike-in-Refused.ensures.gone c.in-Refused.ensures.created
