use Rattle.std.proofs.Common.{None, arith, refl, ap, string_bytes}
use Rattle.file_calls.specs.Outside.{part_state}
use Rattle.file_calls.proofs.PartRequests.{cut_room, step_ok, step_err, refuses, said_step}
use Rattle.file_calls.proofs.Results.{always_err}
use Rattle.file_calls.proofs.tracker.RequestTracker.reply_now.Goals as goal

pub returns-in_err-ticket-clause-err : goal.returns-in_err-ticket-clause-err
returns-in_err-ticket-clause-err c = λ o lost s. always_err c.from_residual.result (cut_room (Unit {0}) _ _ _ s (c.in_err-ticket.ensures.err o lost))

pub returns-in_default-clause-ok : goal.returns-in_default-clause-ok
returns-in_default-clause-ok c = λ o lost s.
    step_ok string_bytes c.refuse.result _ _ _ _ _ (refuses (Unit {0}) _ c.args.conn c.args.xid 9 c.in_ok-ticket.ticket (part_state lost o c.args.self.now) (part_state lost o c.begin_request.new.self) _ s (c.in_ok-ticket.ensures.ok o lost) (refl, refl) (ap (part_state lost o) c.refuse.ensures.kept)) c.refuse.ensures.text

pub returns-in_default-clause-err : goal.returns-in_default-clause-err
returns-in_default-clause-err c = λ o lost s.
    step_err c.refuse.result _ _ _ _ _ (refuses (Unit {0}) _ c.args.conn c.args.xid 9 c.in_ok-ticket.ticket (part_state lost o c.args.self.now) (part_state lost o c.begin_request.new.self) _ s (c.in_ok-ticket.ensures.ok o lost) (refl, refl) (ap (part_state lost o) c.refuse.ensures.kept))

pub returns-clause-ok : goal.returns-clause-ok
returns-clause-ok c = λ o lost s.
    step_ok string_bytes c.send_text.result _ _ _ _ _ (said_step (Unit {0}) c.args.conn c.args.xid 9 c.in_ok-ticket.ticket (part_state lost o c.args.self.now) (part_state lost o c.begin_request.new.self) s c.args.reply.now (c.in_ok-ticket.ensures.ok o lost) _ (ap (part_state lost o) c.send_text.ensures.kept)) (rw c.in-Ok.ensures.items at c.send_text.ensures.line)

pub returns-clause-err : goal.returns-clause-err
returns-clause-err c = λ o lost s.
    step_err c.send_text.result _ _ _ _ _ (said_step (Unit {0}) c.args.conn c.args.xid 9 c.in_ok-ticket.ticket (part_state lost o c.args.self.now) (part_state lost o c.begin_request.new.self) s c.args.reply.now (c.in_ok-ticket.ensures.ok o lost) _ (ap (part_state lost o) c.send_text.ensures.kept))

pub refuse-requires : goal.refuse-requires
refuse-requires c = let r = (c.in_ok-ticket.ensures.ok None None).room in omega (arith, r)
