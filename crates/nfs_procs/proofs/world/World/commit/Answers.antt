use Rattle.std.proofs.Common.{refl, sym, ◌∙◌, string_bytes}
use Rattle.file_calls.specs.Acts.{CommitFile}
use Rattle.nfs_procs.specs.Contexts.{body_store}
use Rattle.nfs_procs.proofs.ContextBodies.{kept_same, placed_same}
use Rattle.file_calls.proofs.Results.{with_ok, with_err}
use Rattle.nfs_procs.proofs.ContextCounts.{others_kept}
use Rattle.nfs_procs.proofs.ContextMaps.{hulls_same}
use Rattle.nfs_procs.proofs.ContextParts.{part_done, part_cut}
use Rattle.nfs_procs.proofs.world.World.commit.Goals as goal

pub returns-clause-ok : goal.returns-clause-ok
returns-clause-ok g c = λ operation aim s.
    let e = c.commit_part.ensures in
    with_ok c.commit_part.result (λ text step. part_done g.C.File.AppendFile.tells operation c.args.file (CommitFile c.args.conn c.args.call) _ _ s s aim.0 (e.part.names ∙ sym aim.1) e.part.cells (others_kept c.args.file _ _ e.part.cells (kept_same _ _ e.same)) (hulls_same c.args.file _ _ e.part.hulls) (λ told q apart. (refl, refl)) (string_bytes text) _ step) (e.ok (body_store c.args.file s))

pub returns-clause-err : goal.returns-clause-err
returns-clause-err g c = λ operation aim s.
    let e = c.commit_part.ensures in
    with_err c.commit_part.result (λ step. part_cut g.C.File.AppendFile.tells operation c.args.file (CommitFile c.args.conn c.args.call) _ _ s s aim.0 (e.part.names ∙ sym aim.1) e.part.cells (others_kept c.args.file _ _ e.part.cells (kept_same _ _ e.same)) (hulls_same c.args.file _ _ e.part.hulls) (λ told q apart. (refl, refl)) step) (e.err (body_store c.args.file s))

pub returns-clause-placed : goal.returns-clause-placed
returns-clause-placed g c = λ at h.
    let e = c.commit_part.ensures in
    rw e.part.names (placed_same g.C.File.AppendFile.tells _ c.args.file at _ _ e.part.cells e.same h)
