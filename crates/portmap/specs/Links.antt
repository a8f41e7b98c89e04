-- How the bytes of a link are answered in parts: piece by piece, and message by message.
use Rattle.std.specs.Prelude.{◌≡◌, ℕ, Bool, true, false, List, [], ◌++◌, Option, Result}
use Rattle.std.specs.Io.KnownBytes.{Appends}
use Rattle.gw_outside.specs.Writing.{IsPrefix, AppendsPrefix}
use Rattle.rpc_record.specs.Records.{Open, front}
use Rattle.rpc_msg.specs.declared.fault.CallFault.{CallFault}
use Rattle.rpc_msg.specs.Numbers.{system_error}
use Rattle.rpc_msg.specs.Calls.{CallText}
use Rattle.rpc_msg.specs.Replies.{accepted_text}
use Rattle.portmap.specs.declared.ports.Mapping.{Mapping}
use Rattle.portmap.specs.declared.message.MessageReply.{MessageReply}
use Rattle.portmap.specs.declared.message.MessageReply.TheVariants as said
use Rattle.portmap.specs.declared.session.MessageEnd.{MessageEnd}
use Rattle.portmap.specs.declared.session.MessageEnd.TheVariants as message_end
use Rattle.portmap.specs.declared.session.PieceEnd.{PieceEnd}
use Rattle.portmap.specs.declared.session.PieceEnd.TheVariants as piece_end
use Rattle.portmap.specs.Answers.{MessageResult, NoCall, Replied, message_result_by, message_result, reply_record, behind_text, answers}

-- The record of a message's reply and the table after it, or want of memory, which leaves the table.
abbrev pub IsMessageReply : MessageReply → ℕ → List Mapping → Result CallText CallFault → List Mapping → Type 0
IsMessageReply said.NoCall client old call new = (message_result_by false client old call ≡ NoCall) × (new ≡ old)
IsMessageReply (said.Record bytes) client old call new =
    (reply : List ℕ) × (message_result_by false client old call ≡ Replied reply new) × (bytes.items ≡ reply_record reply)
IsMessageReply (said.Refused xid) client old call new =
    (message_result_by true client old call ≡ Replied (accepted_text xid system_error) old) × (new ≡ old)

-- the record of this reply, or want of memory for its request
abbrev pub IsReplyOf : MessageReply → ℕ → List ℕ → Type 0
IsReplyOf said.NoCall xid reply = ⊥
IsReplyOf (said.Record bytes) xid reply = bytes.items ≡ reply_record reply
IsReplyOf (said.Refused number) xid reply = number ≡ xid

-- a record went out whole, or a front of it
abbrev pub IsRecordWritten : MessageEnd → List ℕ → Option (List ℕ) → Option (List ℕ) → Type 0
IsRecordWritten message_end.Goes bytes held held' = Appends held held' bytes
IsRecordWritten message_end.Closes bytes held held' = ⊥
IsRecordWritten message_end.WriteFault bytes held held' = AppendsPrefix held held' bytes

-- A message was answered, or it is no call, or its reply went out in part.
abbrev pub IsMessageEnd : MessageEnd → MessageResult → List Mapping → List ℕ → List Mapping → Type 0
IsMessageEnd message_end.Goes result old text new = (reply : List ℕ) × (result ≡ Replied reply new) × (text ≡ reply_record reply)
IsMessageEnd message_end.Closes result old text new = (result ≡ NoCall) × (text ≡ []) × (new ≡ old)
IsMessageEnd message_end.WriteFault result old text new = (reply : List ℕ) × (result ≡ Replied reply new) × IsPrefix text (reply_record reply)

pub record IsMessageAnswered (end : MessageEnd) (client : ℕ) (old : List Mapping) (message : List ℕ) (new : List Mapping) (held held' : Option (List ℕ)) : Type 0 where
  pub refused : Bool
  pub text : List ℕ
  pub writes : Appends held held' text
  pub ends : IsMessageEnd end (message_result refused client old message) old text new

-- a link between two pieces: the bytes since its last whole record, and the table
pub record LinkState : Type 0 where
  pub held : List ℕ
  pub table : List Mapping

abbrev pub link_state : List ℕ → List Mapping → LinkState
link_state held table = record { held = held; table = table }

-- These bytes are answered by this text and lead from one state to the other, whatever bytes and refusals come later.
pub record Leads (client : ℕ) (refused : List Bool) (from : LinkState) (bytes text : List ℕ) (to : LinkState) : Type 0 where
  pub all : (later : List Bool) (more : List ℕ)
      → answers (refused ++ later) client from.table (from.held ++ (bytes ++ more)) ≡ behind_text text (answers later client to.table (to.held ++ more))

-- These bytes are answered by this text and close their link, whatever comes later.
pub record ClosesLink (client : ℕ) (refused : List Bool) (from : LinkState) (bytes text : List ℕ) (table : List Mapping) : Type 0 where
  pub all : (later : List Bool) (more : List ℕ)
      → answers (refused ++ later) client from.table (from.held ++ (bytes ++ more)) ≡ record { text = text; table = table; closes = true }

-- A front of these bytes was served, and a front of its replies written.
pub record BreaksOff (client : ℕ) (refused : List Bool) (from : LinkState) (bytes text : List ℕ) (table : List Mapping) : Type 0 where
  pub served : List ℕ
  pub whole : List ℕ
  pub to : LinkState
  pub front_of : IsPrefix served bytes
  pub leads : Leads client refused from served whole to
  pub at_rest : front to.held ≡ Open
  pub part : IsPrefix text whole
  pub table_is : table ≡ to.table

abbrev pub IsPieceEnd : PieceEnd → ℕ → List Bool → LinkState → List ℕ → List ℕ → LinkState → Type 0
IsPieceEnd piece_end.Goes client refused from piece text to = Leads client refused from piece text to
IsPieceEnd piece_end.Closed client refused from piece text to = ClosesLink client refused from piece text to.table
IsPieceEnd piece_end.WriteFault client refused from piece text to = BreaksOff client refused from piece text to.table
IsPieceEnd piece_end.Memory client refused from piece text to = BreaksOff client refused from piece text to.table

pub record IsPieceAnswered (end : PieceEnd) (client : ℕ) (from : LinkState) (piece : List ℕ) (to : LinkState) (held held' : Option (List ℕ)) : Type 0 where
  pub refused : List Bool
  pub text : List ℕ
  pub writes : Appends held held' text
  pub ends : IsPieceEnd end client refused from piece text to
