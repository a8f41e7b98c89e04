use Rattle.std.proofs.Common.{◌≤◌}
use Rattle.nfs_procs.specs.Contexts.{AreBodiesPlaced, LossesStay, ObjectsStay, StaysThere, file_count, store_state}
use Rattle.replay.specs.RunSteps.{Reached, outside_home, outside_of}
use Rattle.replay.proofs.run.all_lines.Given as goal

abbrev pub invariant-loop-before : goal.invariant-loop-before
invariant-loop-before g l = record {
  reached : Reached g.C.File.AppendFile.tells l.fn.gateway.kept.tracker.settings (record { state = l.gateway; grammar = l.grammar; before = l.before; pending = l.lines.pending })
      (outside_home g.C.Cluster (g.S.Source.left l.fn.source) (g.K.Sink.held l.fn.sink) l.fn.cluster)
      (outside_of g.C.Cluster l.gateway.kept (g.S.Source.left l.source) (g.K.Sink.held l.sink) l.cluster);
  events : l.gateway.kept.tracker.noted.event ≤ l.before;
  placed : AreBodiesPlaced g.C.File.AppendFile.tells (file_count l.gateway.kept) (g.C.Cluster.at l.cluster) l.gateway.kept.cells;
  others : g.C.File.AppendFile.tells → ObjectsStay (store_state g.C.Cluster l.fn.cluster) (store_state g.C.Cluster l.cluster);
  losses : g.C.File.AppendFile.tells → LossesStay (store_state g.C.Cluster l.fn.cluster) (store_state g.C.Cluster l.cluster);
  there : g.C.File.AppendFile.tells → StaysThere (store_state g.C.Cluster l.fn.cluster) (store_state g.C.Cluster l.cluster);
  source_later : g.S.Source.count l.fn.source ≤ g.S.Source.count l.source;
  sink_later : g.K.Sink.count l.fn.sink ≤ g.K.Sink.count l.sink;
}
