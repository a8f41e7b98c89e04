use Rattle.std.proofs.Common.{true, sym, ◌∙◌, ap}
use Rattle.rpc_msg.specs.Numbers.{system_error}
use Rattle.rpc_msg.specs.Replies.{accepted_text}
use Rattle.portmap.specs.Answers.{Replied}
use Rattle.portmap.proofs.MessageReplies.{written_served}
use Rattle.portmap.proofs.session.serve_message.Goals as goal

pub returns-in-Refused-clause-served : goal.returns-in-Refused-clause-served
returns-in-Refused-clause-served g c =
    let refused = c.in-Refused.ensures in
    let reply = accepted_text c.in-Refused.xid system_error in
    written_served c.args.client c.args.ports.now c.args.message true reply c.answer_message.new.ports (refused.0 ∙ ap (Replied reply) (sym refused.1))
    c.starved_record.result c.starved_record.ensures _ _ c.write_record-in-Refused.result c.write_record-in-Refused.ensures.written
