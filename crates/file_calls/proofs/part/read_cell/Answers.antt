use Rattle.std.proofs.Common.{None, Some, refl, sym, ◌∙◌, ap, arith, string_bytes}
use Rattle.admit.specs.declared.request.ReadReq.{ReadReq}
use Rattle.file_calls.specs.Terms.{Terms}
use Rattle.file_calls.specs.Outside.{part_state}
use Rattle.file_calls.specs.Acts.{ReadFile}
use Rattle.file_calls.proofs.PartRequests.{cut_room, step_ok, step_err, read_acts}
use Rattle.file_calls.proofs.Results.{always_err}
use Rattle.file_calls.proofs.part.read_cell.Goals as goal

pub returns-in_err-ticket-clause-err : goal.returns-in_err-ticket-clause-err
returns-in_err-ticket-clause-err g c = λ lost s. always_err c.from_residual.result (cut_room g.F.AppendFile.tells (ReadFile c.args.conn c.args.call) _ _ s (c.in_err-ticket.ensures.err (Some c.args.cell.now) lost))

pub send_verdict-requires-clause-room : goal.send_verdict-requires-clause-room
send_verdict-requires-clause-room g c = let r = (c.in_ok-ticket.ensures.ok (Some c.args.cell.now) None).room in omega (arith, r)

pub returns-clause-ok : goal.returns-clause-ok
returns-clause-ok g c = λ lost s.
    let o = Some c.args.cell.now in
    rw c.send_verdict.ensures.kept
    (step_ok string_bytes c.send_verdict.result _ _ _ _ _
    (read_acts g.F.AppendFile.tells c.args.conn 9 c.in_ok-ticket.ticket (part_state lost o c.args.tracker.now) (part_state lost o c.begin_request.new.self) s c.args.cell.now c.read-verdict.new.self c.read-verdict.result _ refl (c.requires.limits ∙ ap (λ (x : Terms). x.settings.limits) (sym (c.in_ok-ticket.ensures.ok o lost).terms)) c.args.call _ (c.in_ok-ticket.ensures.ok o lost) (ap (λ n. let r : ReadReq = record { offset = c.args.call.offset; count = c.args.call.count; ticket = c.in_ok-ticket.ticket; moment = n } in r) c.moment.ensures) c.read-verdict.ensures.step c.read-verdict.ensures.stands)
    c.send_verdict.ensures.text)

pub returns-clause-err : goal.returns-clause-err
returns-clause-err g c = λ lost s.
    let o = Some c.args.cell.now in
    rw c.send_verdict.ensures.kept
    (step_err c.send_verdict.result _ _ _ _ _
    (read_acts g.F.AppendFile.tells c.args.conn 9 c.in_ok-ticket.ticket (part_state lost o c.args.tracker.now) (part_state lost o c.begin_request.new.self) s c.args.cell.now c.read-verdict.new.self c.read-verdict.result _ refl (c.requires.limits ∙ ap (λ (x : Terms). x.settings.limits) (sym (c.in_ok-ticket.ensures.ok o lost).terms)) c.args.call _ (c.in_ok-ticket.ensures.ok o lost) (ap (λ n. let r : ReadReq = record { offset = c.args.call.offset; count = c.args.call.count; ticket = c.in_ok-ticket.ticket; moment = n } in r) c.moment.ensures) c.read-verdict.ensures.step c.read-verdict.ensures.stands))
