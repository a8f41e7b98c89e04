use Rattle.std.proofs.Common.{length, ap, sym, ◌∙◌}
use Rattle.job_line.specs.Ends.{base_sent, jobs_sent}
use Rattle.admit.specs.State.{AdmitState}
use Rattle.admit.proofs.Lines.{length-last}
use Rattle.admit.proofs.admit.Admit.in_line.Goals as goal

pub returns : goal.returns
returns g c =
    let here = c.self.inside.queue.line in
    sym (length-last (base_sent here.input) here.in_line (jobs_sent here.input) here.sent) ∙ ap (λ (s : AdmitState). length s.side.held.line) c.self.view_is
