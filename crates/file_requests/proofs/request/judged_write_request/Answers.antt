use Rattle.std.proofs.Common.{◌≡◌, false, Ok, Err, sym, ◌∙◌, ap, subst}
use Rattle.std.specs.Prelude.{◌==◌, if◌then◌else◌}
use Rattle.gw_model.specs.File.{Wrote, NotWritten}
use Rattle.tickets.specs.declared.answer.Body.{Body}
use Rattle.tickets.specs.Answers.{body_of, level_of}
use Rattle.gw_config.specs.Seen.{settings_in}
use Rattle.file_requests.specs.Messages.{write_file}
use Rattle.file_requests.specs.Targets.{judged_write, reply_target}
use Rattle.file_calls.proofs.Results.{with_ok}
use Rattle.file_requests.proofs.MessageHandles.{IsJudged, judged_write_file}
use Rattle.file_requests.proofs.request.judged_write_request.Goals as goal

pub returns-in-Err-clause-target : goal.returns-in-Err-clause-target
returns-in-Err-clause-target c =
    let is : Err c.in-Err.status ≡ write_file (settings_in c.args.config.now) c.args.files c.args.args = sym c.in-Err.is ∙ c.write_file.ensures in
    let refused : (c.in-Err.status == 0) ≡ false = subst (IsJudged c.args.files) (sym is) (judged_write_file (settings_in c.args.config.now) c.args.files c.args.args) in
    with_ok c.answer.result (λ r t conn.
    t conn
    ∙ ap (λ (b : Body). reply_target conn c.args.xid (body_of b)) c.refused_write.ensures
    ∙ ap (λ b. reply_target conn c.args.xid (if b then Wrote 0 (level_of 0) else NotWritten c.in-Err.status)) refused
    ∙ ap (λ r. judged_write r conn c.args.xid c.args.args) is) c.answer.ensures.target

pub returns-in-Ok-clause-fits : goal.returns-in-Ok-clause-fits
returns-in-Ok-clause-fits c =
    let is : Ok c.in-Ok.file ≡ write_file (settings_in c.args.config.now) c.args.files c.args.args = sym c.in-Ok.is ∙ c.write_file.ensures in
    with_ok c.write_request.result (λ r fits. fits c.args.files (subst (IsJudged c.args.files) (sym is) (judged_write_file (settings_in c.args.config.now) c.args.files c.args.args))) c.write_request.ensures.fits
