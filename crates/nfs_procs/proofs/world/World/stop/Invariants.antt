use Rattle.std.proofs.Common.{◌≤◌, length, OnErr}
use Rattle.gw_outside.specs.Causes.{Rose}
use Rattle.nfs_procs.specs.Contexts.{store_state}
use Rattle.nfs_procs.specs.Closing.{ClosesFront}
use Rattle.nfs_procs.proofs.world.World.stop.Given as goal

abbrev pub invariant-loop-file : goal.invariant-loop-file
invariant-loop-file g l = record {
  closing : ClosesFront g.C.File.AppendFile.tells l.fn.self.tracker.settings.limits l.fn.self.cells (g.K.Sink.held l.fn.sink) (store_state g.C.Cluster l.fn.cluster) l.written (g.K.Sink.held l.sink) (store_state g.C.Cluster l.cluster) l.cells.entries;
  later : g.K.Sink.count l.fn.sink ≤ g.K.Sink.count l.sink;
  cause : OnErr l.written (Rose (g.K.Sink.count l.fn.sink) (g.K.Sink.count l.sink));
}

abbrev pub decreases-loop-file : goal.decreases-loop-file
decreases-loop-file g l = length l.cells.entries
