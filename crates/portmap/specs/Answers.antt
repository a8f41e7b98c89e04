-- What the bytes of a link are answered with (RFC 1833 section 3; RFC 5531 sections 9 and 11).
use Rattle.std.specs.Prelude.{ℕ, Bool, true, false, List, [], ◌∷◌, ◌++◌, length, Result, Ok, Err}
use Rattle.rpc_record.specs.Records.{End, Rest, Broken, records, mark_text}
use Rattle.rpc_msg.specs.declared.fault.CallFault.{CallFault}
use Rattle.rpc_msg.specs.declared.fault.CallFault.TheVariants.{RpcMismatch, BadCred, RejectedCred}
use Rattle.rpc_msg.specs.Numbers.{system_error, auth_bad_cred, auth_rejected_cred}
use Rattle.rpc_msg.specs.Calls.{CallText, call_of}
use Rattle.rpc_msg.specs.Replies.{accepted_text, rpc_mismatch_text, denial_text}
use Rattle.portmap.specs.declared.ports.Mapping.{Mapping}
use Rattle.portmap.specs.Requests.{request_of, call_reply, table_after_call}

-- what a message comes to: it is no call, which ends its link, or a request with its reply and the table after it
pub data MessageResult : Type 0 where
  NoCall : MessageResult
  Replied : (reply : List ℕ) (table : List Mapping) → MessageResult

-- a request for which memory was refused is answered SYSTEM_ERR, and does nothing
abbrev pub replied_or_refused : Bool → List Mapping → ℕ → List ℕ → List Mapping → MessageResult
replied_or_refused true table xid reply after = Replied (accepted_text xid system_error) table
replied_or_refused false table xid reply after = Replied reply after

-- a message from a client, by how it reads as a call, where memory is refused for it or not
abbrev pub message_result_by : Bool → ℕ → List Mapping → Result CallText CallFault → MessageResult
message_result_by refused client table (Ok call) =
    let request = request_of call in
    replied_or_refused refused table call.xid (call_reply table client call.xid request) (table_after_call table client request)
message_result_by refused client table (Err (RpcMismatch xid)) = replied_or_refused refused table xid (rpc_mismatch_text xid) table
message_result_by refused client table (Err (BadCred xid)) = replied_or_refused refused table xid (denial_text xid auth_bad_cred) table
message_result_by refused client table (Err (RejectedCred xid)) = replied_or_refused refused table xid (denial_text xid auth_rejected_cred) table
message_result_by refused client table (Err _) = NoCall

abbrev pub message_result : Bool → ℕ → List Mapping → List ℕ → MessageResult
message_result refused client table message = message_result_by refused client table (call_of message)

-- the replies, each as a record of one fragment, the table after them, and whether the link is closed
pub record Answers : Type 0 where
  pub text : List ℕ
  pub table : List Mapping
  pub closes : Bool

abbrev pub reply_record : List ℕ → List ℕ
reply_record reply = mark_text (length reply) ++ reply

-- a text that goes out before
abbrev pub behind_text : List ℕ → Answers → Answers
behind_text text later = record later { text = text ++ later.text }

abbrev pub silent : List Mapping → Bool → Answers
silent table closes = record { text = []; table = table; closes = closes }

-- a link is closed at a message that is no call, and at a header at fault
abbrev pub answers_at_end : List Mapping → End → Answers
answers_at_end table (Rest held) = silent table false
answers_at_end table (Broken fault) = silent table true

abbrev pub answers_then : List Mapping → MessageResult → (List Mapping → Answers) → Answers
answers_then table NoCall later = silent table true
answers_then table (Replied reply after) later = behind_text (reply_record reply) (later after)

-- for each message in order, whether memory is refused for it: for none, where the list ends
abbrev pub is_next_refused : List Bool → Bool
is_next_refused [] = false
is_next_refused (refused ∷ later) = refused

abbrev pub later_refused : List Bool → List Bool
later_refused [] = []
later_refused (refused ∷ later) = later

unfoldable pub answers_from : List Bool → ℕ → List Mapping → List (List ℕ) → End → Answers
answers_from refused client table [] end = answers_at_end table end
answers_from refused client table (message ∷ messages) end =
    answers_then table (message_result (is_next_refused refused) client table message) (λ after. answers_from (later_refused refused) client after messages end)

-- the bytes of a link with a client
unfoldable pub answers : List Bool → ℕ → List Mapping → List ℕ → Answers
answers refused client table bytes = let r = records bytes in answers_from refused client table r.whole r.end
