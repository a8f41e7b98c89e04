-- What a message is answered with, by what became of its reply.
use Rattle.std.proofs.Common.{◌≡◌, ℕ, Bool, true, false, Option, List, Result, refl, sym, ◌∙◌, ap, subst}
use Rattle.gw_outside.specs.Writing.{IsPrefix}
use Rattle.rpc_msg.specs.declared.fault.CallFault.{CallFault}
use Rattle.rpc_msg.specs.Numbers.{system_error}
use Rattle.rpc_msg.specs.Calls.{CallText}
use Rattle.rpc_msg.specs.Replies.{accepted_text}
use Rattle.portmap.specs.declared.ports.Mapping.{Mapping}
use Rattle.portmap.specs.declared.message.MessageReply.{MessageReply}
use Rattle.portmap.specs.declared.message.MessageReply.TheVariants as said
use Rattle.portmap.specs.declared.session.MessageEnd.{MessageEnd}
use Rattle.portmap.specs.declared.session.MessageEnd.TheVariants as message_end
use Rattle.portmap.specs.Answers.{Replied, replied_or_refused, message_result_by, message_result, reply_record}
use Rattle.portmap.specs.Links.{IsMessageReply, IsReplyOf, IsRecordWritten, IsMessageAnswered}

pub fault_answered : (r : MessageReply) (xid : ℕ) (reply : List ℕ) (client : ℕ) (table : List Mapping) (call : Result CallText CallFault)
    → ((refused : Bool) → message_result_by refused client table call ≡ replied_or_refused refused table xid reply table)
    → IsReplyOf r xid reply → IsMessageReply r client table call table
fault_answered said.NoCall xid reply client table call e is = absurd is
fault_answered (said.Record bytes) xid reply client table call e is = (reply, e false, is)
fault_answered (said.Refused number) xid reply client table call e is = (e true ∙ ap (λ (n : ℕ). Replied (accepted_text n system_error) table) (sym is), refl)

-- the record of a reply went out, whole or in part
module _ (client : ℕ) (old : List Mapping) (message : List ℕ) (refused : Bool) (reply : List ℕ) (new : List Mapping)
    (e : message_result refused client old message ≡ Replied reply new) (bytes : List ℕ) (is : bytes ≡ reply_record reply) (held held' : Option (List ℕ)) where
  pub written_served : (end : MessageEnd) → IsRecordWritten end bytes held held' → IsMessageAnswered end client old message new held held'
  written_served message_end.Goes w = record { refused = refused; text = bytes; writes = w; ends = (reply, e, is) }
  written_served message_end.Closes w = absurd w
  written_served message_end.WriteFault w = record { refused = refused; text = w.0; writes = w.1; ends = (reply, e, subst (IsPrefix w.0) is w.2) }
