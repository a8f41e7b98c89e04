use Rattle.std.proofs.Common.{◌≡◌, ◌+◌, ◌++◌, length, string_bytes}
use Rattle.nfs_procs.specs.Contexts.{AreBodiesPlaced, ObjectsStay, SameLosses, StaysThere, file_count, store_state, world_scene_of}
use Rattle.gateway.specs.Links.{hearing_of}
use Rattle.gateway.proofs.GatewayPieces.{Hears}
use Rattle.gateway.proofs.gateway.serve_piece.Given as goal

abbrev pub invariant-loop-text : goal.invariant-loop-text
invariant-loop-text g l = record {
  hears : Hears g.C.File.AppendFile.tells l.fn.conn (hearing_of l.fn.conn (l.fn.stream ++ l.fn.piece)) l.stream l.rest
      (world_scene_of g.C.Cluster l.fn.world l.fn.cluster) (world_scene_of g.C.Cluster l.world l.cluster) (string_bytes l.text);
  placed : AreBodiesPlaced g.C.File.AppendFile.tells (file_count l.world) (g.C.Cluster.at l.cluster) l.world.cells;
  names : l.world.names ≡ l.fn.world.names;
  others : g.C.File.AppendFile.tells → ObjectsStay (store_state g.C.Cluster l.fn.cluster) (store_state g.C.Cluster l.cluster);
  losses : g.C.File.AppendFile.tells → SameLosses (store_state g.C.Cluster l.fn.cluster) (store_state g.C.Cluster l.cluster);
  there : g.C.File.AppendFile.tells → StaysThere (store_state g.C.Cluster l.fn.cluster) (store_state g.C.Cluster l.cluster);
  event : l.world.tracker.noted.event ≡ l.fn.world.tracker.noted.event;
}

abbrev pub decreases-loop-text : goal.decreases-loop-text
decreases-loop-text g l = length l.stream + length l.rest
