use Rattle.std.proofs.Common.{refl, ◌∙◌, sym}
use Rattle.nfs_procs.specs.World.{Serve}
use Rattle.nfs_procs.specs.Contexts.{store_state}
use Rattle.file_calls.proofs.Results.{always_err, with_ok}
use Rattle.nfs_procs.proofs.world.World.serve.Goals as goal

pub returns-in-Ok-clause-ok : goal.returns-in-Ok-clause-ok
returns-in-Ok-clause-ok g c =
    let e = c.in-Ok.ensures in
    with_ok c.serve_request.result (λ s t. (t.0 ∙ e.ending, t.1)) (c.serve_request.ensures.ok (Serve c.args.conn c.args.message) (e.target c.args.conn))

pub returns-in-Ok-clause-err : goal.returns-in-Ok-clause-err
returns-in-Ok-clause-err g c = c.serve_request.ensures.err (Serve c.args.conn c.args.message) (c.in-Ok.ensures.target c.args.conn)

pub returns-in_ok-text-in-Err-clause-ok : goal.returns-in_ok-text-in-Err-clause-ok
returns-in_ok-text-in-Err-clause-ok g c =
    (sym c.in-Err.ensures.goes_on, c.in_ok-text-in-Err.ensures.ok (Serve c.args.conn c.args.message) (c.in-Err.ensures.refused c.args.conn) refl (store_state g.C.Cluster c.args.cluster.now))

pub returns-in_err-text-in-Err-clause-err : goal.returns-in_err-text-in-Err-clause-err
returns-in_err-text-in-Err-clause-err g c =
    always_err c.from_residual.result (c.in_err-text-in-Err.ensures.err (Serve c.args.conn c.args.message) (c.in-Err.ensures.refused c.args.conn) refl (store_state g.C.Cluster c.args.cluster.now))
