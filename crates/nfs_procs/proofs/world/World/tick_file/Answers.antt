use Rattle.std.proofs.Common.{false, refl, ap}
use Rattle.file_calls.specs.Acts.{TickFile}
use Rattle.file_calls.specs.Outside.{body_id}
use Rattle.nfs_procs.specs.World.{TickOf}
use Rattle.nfs_procs.specs.Contexts.{store_state}
use Rattle.nfs_procs.proofs.ContextBodies.{ticked_placed}
use Rattle.nfs_procs.proofs.ContextParts.{part_done}
use Rattle.nfs_procs.proofs.world.World.tick_file.Goals as goal

pub returns-clause-done : goal.returns-clause-done
returns-clause-done g c =
    let e = c.tick_part.ensures in
    let s = store_state g.C.Cluster c.args.cluster.now in
    let s' = store_state g.C.Cluster c.tick_part.new.cluster in
    record {
      text = e.step.text;
      is = part_done g.C.File.AppendFile.tells (TickOf c.args.file) c.args.file (TickFile c.args.file) _ _ s s' refl e.part.names e.part.cells e.rest e.part.hulls e.others e.step.text false e.step.is;
      written = e.step.written;
    }

pub returns-clause-placed_after : goal.returns-clause-placed_after
returns-clause-placed_after g c =
    let e = c.tick_part.ensures in
    let s = store_state g.C.Cluster c.args.cluster.now in
    let s' = store_state g.C.Cluster c.tick_part.new.cluster in
    rw e.part.names (ticked_placed g.C.File.AppendFile.tells c.args.file s s' c.args.self.now.cells c.tick_part.new.self.cells e.part.cells e.others _ e.home_after
    (λ none. ((e.closed none).0, λ told. ap (λ x. g.C.Cluster.at x (body_id c.args.file)) (e.closed none).1)) c.requires.placed)
