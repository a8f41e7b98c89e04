use Rattle.std.proofs.Common.{sym, ap, subst}
use Rattle.file_calls.specs.Acts.{CloseConnection, CommitFile, Reply}
use Rattle.file_requests.specs.Targets.{OnDesk, OnFile, is_ending, request_target}
use Rattle.nfs_procs.specs.Contexts.{HasTarget, store_state}
use Rattle.file_calls.proofs.Results.{always_err}
use Rattle.nfs_procs.proofs.world.World.serve_request.Goals as goal

pub returns-in_ok-text-in-Close-clause-ok : goal.returns-in_ok-text-in-Close-clause-ok
returns-in_ok-text-in-Close-clause-ok g c = λ operation aim.
    let at : HasTarget c.args.self.now operation (OnDesk (CloseConnection c.args.conn)) = subst (λ r. HasTarget c.args.self.now operation (request_target c.args.conn r)) c.in-Close.is aim in
    (sym (ap is_ending c.in-Close.is), c.in_ok-text-in-Close.ensures.ok operation at (store_state g.C.Cluster c.args.cluster.now))

pub returns-in_err-text-in-Close-clause-err : goal.returns-in_err-text-in-Close-clause-err
returns-in_err-text-in-Close-clause-err g c = λ operation aim.
    let at : HasTarget c.args.self.now operation (OnDesk (CloseConnection c.args.conn)) = subst (λ r. HasTarget c.args.self.now operation (request_target c.args.conn r)) c.in-Close.is aim in
    always_err c.from_residual.result (c.in_err-text-in-Close.ensures.err operation at (store_state g.C.Cluster c.args.cluster.now))

pub returns-in_ok-text-in-Reply-clause-ok : goal.returns-in_ok-text-in-Reply-clause-ok
returns-in_ok-text-in-Reply-clause-ok g c = λ operation aim.
    let asked : HasTarget c.args.self.now operation (OnDesk (Reply c.args.conn c.in-Reply.xid c.in-Reply.reply)) = subst (λ r. HasTarget c.args.self.now operation (request_target c.args.conn r)) c.in-Reply.is aim in
    let at : HasTarget c.args.self.now operation (OnDesk (Reply c.args.conn c.in-Reply.xid c.as_slice.result.now)) = subst (λ x. HasTarget c.args.self.now operation (OnDesk (Reply c.args.conn c.in-Reply.xid x))) (sym c.as_slice.ensures) asked in
    (sym (ap is_ending c.in-Reply.is), c.in_ok-text-in-Reply.ensures.ok operation at (store_state g.C.Cluster c.args.cluster.now))

pub returns-in_err-text-in-Reply-clause-err : goal.returns-in_err-text-in-Reply-clause-err
returns-in_err-text-in-Reply-clause-err g c = λ operation aim.
    let asked : HasTarget c.args.self.now operation (OnDesk (Reply c.args.conn c.in-Reply.xid c.in-Reply.reply)) = subst (λ r. HasTarget c.args.self.now operation (request_target c.args.conn r)) c.in-Reply.is aim in
    let at : HasTarget c.args.self.now operation (OnDesk (Reply c.args.conn c.in-Reply.xid c.as_slice.result.now)) = subst (λ x. HasTarget c.args.self.now operation (OnDesk (Reply c.args.conn c.in-Reply.xid x))) (sym c.as_slice.ensures) asked in
    always_err c.from_residual-in_err-text-in-Reply.result (c.in_err-text-in-Reply.ensures.err operation at (store_state g.C.Cluster c.args.cluster.now))

pub returns-in_ok-text-in-Commit-clause-ok : goal.returns-in_ok-text-in-Commit-clause-ok
returns-in_ok-text-in-Commit-clause-ok g c = λ operation aim.
    let at : HasTarget c.args.self.now operation (OnFile c.in-Commit.file (CommitFile c.args.conn c.in-Commit.call)) = subst (λ r. HasTarget c.args.self.now operation (request_target c.args.conn r)) c.in-Commit.is aim in
    (sym (ap is_ending c.in-Commit.is), c.in_ok-text-in-Commit.ensures.ok operation at (store_state g.C.Cluster c.args.cluster.now))

pub returns-in_err-text-in-Commit-clause-err : goal.returns-in_err-text-in-Commit-clause-err
returns-in_err-text-in-Commit-clause-err g c = λ operation aim.
    let at : HasTarget c.args.self.now operation (OnFile c.in-Commit.file (CommitFile c.args.conn c.in-Commit.call)) = subst (λ r. HasTarget c.args.self.now operation (request_target c.args.conn r)) c.in-Commit.is aim in
    always_err c.from_residual-in_err-text-in-Commit.result (c.in_err-text-in-Commit.ensures.err operation at (store_state g.C.Cluster c.args.cluster.now))
