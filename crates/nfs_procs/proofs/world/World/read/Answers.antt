use Rattle.std.proofs.Common.{sym, ◌∙◌, string_bytes}
use Rattle.file_calls.specs.Acts.{ReadFile}
use Rattle.nfs_procs.specs.Contexts.{store_state}
use Rattle.nfs_procs.proofs.ContextBodies.{objects_stay, placed_home, stays_there}
use Rattle.file_calls.proofs.Results.{with_ok, with_err}
use Rattle.nfs_procs.proofs.ContextCounts.{others_kept}
use Rattle.nfs_procs.proofs.ContextMaps.{hulls_same}
use Rattle.nfs_procs.proofs.ContextParts.{part_done, part_cut}
use Rattle.nfs_procs.proofs.world.World.read.Goals as goal

pub returns-clause-ok : goal.returns-clause-ok
returns-clause-ok g c = λ operation aim.
    let e = c.read_part.ensures in
    with_ok c.read_part.result (λ text step. part_done g.C.File.AppendFile.tells operation c.args.file (ReadFile c.args.conn c.args.call) _ _ (store_state g.C.Cluster c.args.cluster.now) (store_state g.C.Cluster c.read_part.new.cluster) aim.0 (e.part.names ∙ sym aim.1) e.part.cells (others_kept c.args.file _ _ e.part.cells e.keeps) (hulls_same c.args.file _ _ e.part.hulls) (λ told q apart. (e.same told q, e.losses told q)) (string_bytes text) _ step) e.ok

pub returns-clause-err : goal.returns-clause-err
returns-clause-err g c = λ operation aim.
    let e = c.read_part.ensures in
    with_err c.read_part.result (λ step. part_cut g.C.File.AppendFile.tells operation c.args.file (ReadFile c.args.conn c.args.call) _ _ (store_state g.C.Cluster c.args.cluster.now) (store_state g.C.Cluster c.read_part.new.cluster) aim.0 (e.part.names ∙ sym aim.1) e.part.cells (others_kept c.args.file _ _ e.part.cells e.keeps) (hulls_same c.args.file _ _ e.part.hulls) (λ told q apart. (e.same told q, e.losses told q)) step) e.err

pub returns-clause-placed_after : goal.returns-clause-placed_after
returns-clause-placed_after g c =
    let e = c.read_part.ensures in
    rw e.part.names (placed_home g.C.File.AppendFile.tells c.args.file (store_state g.C.Cluster c.args.cluster.now) (store_state g.C.Cluster c.read_part.new.cluster) _ _ e.part.cells (λ told q apart. (e.same told q, e.losses told q)) _ c.requires.in_tree e.home_after c.requires.placed)

pub returns-clause-others : goal.returns-clause-others
returns-clause-others g c = λ told. let e = c.read_part.ensures in objects_stay c.args.file (store_state g.C.Cluster c.args.cluster.now) (store_state g.C.Cluster c.read_part.new.cluster) (λ q apart. (e.same told q, e.losses told q))

pub returns-clause-losses : goal.returns-clause-losses
returns-clause-losses g c = λ told. let e = c.read_part.ensures in e.losses told

pub returns-clause-there : goal.returns-clause-there
returns-clause-there g c = λ told. let e = c.read_part.ensures in stays_there g.C.File.AppendFile.tells c.args.file (store_state g.C.Cluster c.args.cluster.now) (store_state g.C.Cluster c.read_part.new.cluster) _ told (λ q apart. (e.same told q, e.losses told q)) e.home_after
