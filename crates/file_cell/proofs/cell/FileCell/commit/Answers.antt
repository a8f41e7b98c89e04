use Rattle.std.proofs.Common.{ap}
use Rattle.file_cell.specs.State.{AdmitSideState}
use Rattle.file_cell.proofs.Cells.{still_joined, tells_on, tells_commit}
use Rattle.file_cell.proofs.Files.{commits}
use Rattle.admit.specs.Calls.{commit_request}
use Rattle.file_cell.proofs.Hearing.{knows_after, commit_knows}
use Rattle.file_cell.proofs.cell.FileCell.commit.Goals as goal

pub invariant_of-self : goal.invariant_of-self
invariant_of-self g c =
    let a = c.self.inside.admit in
    let b = c.commit.new.self in
    let on = tells_on c.commit.result c.args.request.ticket a.admit b.admit _ c.commit.ensures.step in
    let failed = c.self.inside.writer.writer.failed in
    let knows = knows_after c.commit.result c.args.request.ticket a.admit b.admit _ failed c.commit.ensures.step (commit_knows a.admit.limits a.admit.side (commit_request c.args.request) failed) c.self.invariant.failed in
    still_joined a b c.self.inside.writer on.0 on.1 knows c.self.invariant

pub returns-clause-step : goal.returns-clause-step
returns-clause-step g c =
    let s = c.self.inside in
    tells_commit c.commit.result c.args.request s.admit c.commit.new.self s.writer c.args.self.now c.self.view_is c.commit.ensures.rest c.commit.ensures.step

pub returns-clause-stands : goal.returns-clause-stands
returns-clause-stands g c =
    let s = c.self.inside in
    let b = c.commit.new.self in
    commits c.commit.result c.args.request s.admit b s.writer c.args.self.now c.self.view_is (ap (λ (x : AdmitSideState). x.base) c.commit.ensures.rest) c.commit.ensures.stands
