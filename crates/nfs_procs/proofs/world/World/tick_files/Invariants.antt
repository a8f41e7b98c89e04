use Rattle.std.proofs.Common.{◌≡◌, ◌≤◌, length}
use Rattle.std.specs.Vec.Iter.{into_iter_items}
use Rattle.nfs_procs.specs.Contexts.{AreBodiesPlaced, ObjectsStay, SameLosses, StaysThere, file_count, store_state, world_scene_of}
use Rattle.nfs_procs.specs.Ticks.{HavePlaces, TicksFront}
use Rattle.nfs_procs.proofs.world.World.tick_files.Given as goal

abbrev pub invariant-loop-file : goal.invariant-loop-file
invariant-loop-file g l = record {
  front : TicksFront g.C.File.AppendFile.tells l.fn.files.items (world_scene_of g.C.Cluster l.fn.self l.fn.cluster) l.text (world_scene_of g.C.Cluster l.self l.cluster) (into_iter_items l.file-iterator);
  placed : AreBodiesPlaced g.C.File.AppendFile.tells (file_count l.self) (g.C.Cluster.at l.cluster) l.self.cells;
  places : HavePlaces (into_iter_items l.file-iterator) l.self;
  noted : length (into_iter_items l.file-iterator) ≤ l.self.tracker.noted.room;
  names : l.self.names ≡ l.fn.self.names;
  others : g.C.File.AppendFile.tells → ObjectsStay (store_state g.C.Cluster l.fn.cluster) (store_state g.C.Cluster l.cluster);
  losses : g.C.File.AppendFile.tells → SameLosses (store_state g.C.Cluster l.fn.cluster) (store_state g.C.Cluster l.cluster);
  there : g.C.File.AppendFile.tells → StaysThere (store_state g.C.Cluster l.fn.cluster) (store_state g.C.Cluster l.cluster);
  event : l.self.tracker.noted.event ≡ l.fn.self.tracker.noted.event;
  settings : l.self.tracker.settings ≡ l.fn.self.tracker.settings;
}
