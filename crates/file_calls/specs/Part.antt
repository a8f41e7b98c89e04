-- The sequential definition, cut to one file's part: what each act leaves of it, and what it writes.
use Rattle.std.specs.Prelude.{ℕ, ◌+◌, ◌^◌, min, nat_le, not, Bool, true, false, List, [], ◌∷◌, ◌++◌, length, Option, Some, None}
use Rattle.gw_model.specs.Ahead.{Outcomes, CallResult, Good, Bad, next_call, is_refused, past_refusal}
use Rattle.gw_model.specs.File.{Body, NotWritten, Gave, NotGiven, SystemErr, Silence, Answer, File, Step, opened_file, content, is_empty, side_of}
use Rattle.gw_model.specs.Admission.{write_step, WriteRequest, read_step, ReadRequest, commit_step, CommitRequest, limit_of, pump_step}
use Rattle.gw_model.specs.Ending.{Closed, Closing, TickJudgement, Stays, GivesUp, Closes, closing_of, give_up_step, history_of, tick_judgement}
use Rattle.gw_model.specs.Statuses.{io}
use Rattle.gw_model.specs.Views.{raised}
use Rattle.gw_model.specs.Writer.{turn_step, sync_step, range_of}
use Rattle.tickets.specs.Desk.{TicketId, DeskState, waiting_ticket, with_issued, with_dropped, with_answered, with_cancelled}
use Rattle.file_cell.specs.History.{history_text}
use Rattle.file_calls.specs.Replies.{reply_bytes, reply_line, closed_line}
use Rattle.file_calls.specs.declared.call.CommitCall.{CommitCall}
use Rattle.file_calls.specs.declared.call.ReadCall.{ReadCall}
use Rattle.file_calls.specs.declared.call.WriteCall.{WriteCall}
use Rattle.file_calls.specs.Acts.{Act, CreateFile, BeginEvent, Reply, WriteFile, ReadFile, CommitFile, CloseConnection, HangUp, TurnFile, PumpFile, SyncFile, BeginTick, TickFile}
use Rattle.file_calls.specs.Terms.{Terms, closed_commit_body, closed_hull, later_terms, opening_hull}

-- One file's part of the world, with the tickets, the settings and the moment, which all files share.
pub record Part : Type 0 where
  -- what the file's body holds while the file has no context
  pub body : List ℕ
  pub opened : Option File
  -- the tickets issued, and those that wait for an answer
  pub desk : DeskState
  pub terms : Terms

-- what the body holds
abbrev pub body_in : List ℕ → Option File → List ℕ
body_in body None = body
body_in body (Some f) = content f

abbrev pub part_body : Part → List ℕ
part_body w = body_in w.body w.opened

-- what an act leaves, the text that it writes, whether it ends the run, and the outcomes that are left
pub record PartResult : Type 0 where
  pub part : Part
  pub text : List ℕ
  pub stopped : Bool
  pub ahead : Outcomes

abbrev pub act_result : Part → List ℕ → Outcomes → PartResult
act_result w text t = record { part = w; text = text; stopped = false; ahead = t }

-- answers: each is a reply where its ticket waits, which then waits no more

-- the reply's line, by the ticket that waits
abbrev pub answer_line : Option TicketId → Body → List ℕ
answer_line None body = []
answer_line (Some t) Silence = []
answer_line (Some t) body = reply_line t.conn (reply_bytes t.xid body)

abbrev pub desk_after : Body → ℕ → DeskState → DeskState
desk_after Silence n d = with_dropped n d
desk_after body n d = with_answered n d

-- what answers leave of a desk, and the lines that they write
pub record SendResult : Type 0 where
  pub desk : DeskState
  pub text : List ℕ

abbrev pub send_result : DeskState → List Answer → SendResult
send_result d [] = record { desk = d; text = [] }
send_result d (a ∷ rest) = let s = send_result (desk_after a.body a.ticket d) rest in record { desk = s.desk; text = answer_line (waiting_ticket a.ticket d) a.body ++ s.text }

abbrev pub answers_result : Part → List Answer → Outcomes → PartResult
answers_result w answers t = let s = send_result w.desk answers in act_result (record w { desk = s.desk }) s.text t

abbrev pub answer_result : Part → ℕ → Body → Outcomes → PartResult
answer_result w ticket body t = answers_result w (record { ticket = ticket; body = body } ∷ []) t

-- what a step of the open file leaves
abbrev pub file_step_result : Part → Step → PartResult
file_step_result w s = answers_result (record w { opened = Some s.file }) s.answers s.ahead

-- a request

-- the next request of the event begins, and the next event; both are numbered from 1, up to the greatest u64
abbrev pub at_request : Outcomes → Outcomes
at_request t = record t { request = raised t.request }

abbrev pub at_event : Outcomes → Outcomes
at_event t = record t { event = raised t.event; request = 0 }

-- it gets a ticket
abbrev pub with_request : ℕ → ℕ → Part → Part
with_request conn xid w = record w { desk = with_issued conn xid w.desk }

-- memory is refused for a request: the note of that is taken up (RFC 5531 section 9, SYSTEM_ERR)
abbrev pub refusal_result : Part → ℕ → Outcomes → PartResult
refusal_result w ticket t = answer_result w ticket SystemErr (past_refusal t)

-- by whether memory is refused as it begins, which takes the ticket of its number
abbrev pub unless_refused : Bool → Part → ℕ → Outcomes → PartResult → PartResult
unless_refused true w ticket t goes = refusal_result w ticket t
unless_refused false w ticket t goes = goes

-- one that has the last ticket goes on so, unless memory is refused
abbrev pub request_result : (Part → Outcomes → PartResult) → Part → Outcomes → PartResult
request_result go w t = unless_refused (is_refused t) w w.desk.last t (go w t)

-- a request of this connection and number begins, and goes on so
abbrev pub new_request_result : ℕ → ℕ → (Part → Outcomes → PartResult) → Part → Outcomes → PartResult
new_request_result conn xid go w t = request_result go (with_request conn xid w) (at_request t)

-- a reply that is made at once

abbrev pub text_to : Option TicketId → List ℕ → List ℕ
text_to None reply = []
text_to (Some t) reply = reply_line t.conn reply

abbrev pub reply_result : List ℕ → Part → Outcomes → PartResult
reply_result reply w t = act_result (record w { desk = with_answered w.desk.last w.desk }) (text_to (waiting_ticket w.desk.last w.desk) reply) t

-- WRITE

abbrev pub call_write_request : WriteCall → ℕ → ℕ → WriteRequest
call_write_request call ticket moment = record { offset = call.offset; bytes = call.content; level = call.stable; ticket = ticket; moment = moment }

-- by what the call did that takes the body from the store, and whether memory is refused then
abbrev pub first_write_result : CallResult → Bool → Part → WriteRequest → Outcomes → PartResult
first_write_result (Bad kept) refusal w q t = answer_result w q.ticket (NotWritten io) t
first_write_result Good true w q t = refusal_result w q.ticket t
first_write_result Good false w q t = file_step_result w (write_step w.terms.settings.limits (opened_file w.body (opening_hull w.terms.lost) w.terms.moment) q t)

-- the first write opens the file
abbrev pub write_act_result : Option File → Part → WriteRequest → Outcomes → PartResult
write_act_result (Some f) w q t = file_step_result w (write_step w.terms.settings.limits f q t)
write_act_result None w q t = let c = next_call t in first_write_result c.called (is_refused c.ahead) w q c.ahead

-- READ

abbrev pub call_read_request : ReadCall → ℕ → ℕ → ReadRequest
call_read_request call ticket moment = record { offset = call.offset; count = call.count; ticket = ticket; moment = moment }

-- what is stored of a range, and whether it ends at the stored length or behind it
abbrev pub stored_range : ℕ → ℕ → List ℕ → Body
stored_range offset count bytes = Gave (range_of offset count bytes) (nat_le (length bytes) (offset + count))

-- by what the read of the body did, and whether memory is refused then
abbrev pub stored_read_result : CallResult → Bool → Part → ReadRequest → Outcomes → PartResult
stored_read_result (Bad kept) refusal w q t = answer_result w q.ticket (NotGiven io) t
stored_read_result Good true w q t = refusal_result w q.ticket t
stored_read_result Good false w q t = answer_result w q.ticket (stored_range q.offset (min q.count (2 ^ 20)) w.body) t

-- one that finds the file closed reads what is stored
abbrev pub read_act_result : Option File → Part → ReadRequest → Outcomes → PartResult
read_act_result (Some f) w q t = file_step_result w (read_step w.terms.settings.limits f q t)
read_act_result None w q t = let c = next_call t in stored_read_result c.called (is_refused c.ahead) w q c.ahead

-- COMMIT

abbrev pub call_commit_request : CommitCall → ℕ → ℕ → CommitRequest
call_commit_request call ticket moment = record { limit = limit_of call.offset call.count; ticket = ticket; moment = moment }

-- one that finds the file closed is answered at once
abbrev pub commit_act_result : Option File → Part → CommitRequest → Outcomes → PartResult
commit_act_result (Some f) w q t = file_step_result w (commit_step w.terms.settings.limits f q t)
commit_act_result None w q t = answer_result w q.ticket (closed_commit_body w.terms.lost q.limit) t

-- steps of the file

-- the `file` line creates the body, and the run ends where that fails
abbrev pub creation_result : CallResult → Part → Outcomes → PartResult
creation_result Good w t = act_result w [] t
creation_result (Bad kept) w t = record (act_result w [] t) { stopped = true }

-- a turn, a pump and a sync are events of their own
abbrev pub turn_act_result : Option File → Part → Outcomes → PartResult
turn_act_result None w t = act_result w [] t
turn_act_result (Some f) w t = file_step_result w (turn_step f t)

abbrev pub pump_act_result : Option File → Part → Outcomes → PartResult
pump_act_result None w t = act_result w [] t
pump_act_result (Some f) w t = file_step_result w (pump_step w.terms.settings.limits f t)

abbrev pub sync_act_result : Option File → Part → Outcomes → PartResult
sync_act_result None w t = act_result w [] t
sync_act_result (Some f) w t = file_step_result w (sync_step f t)

-- a tick

-- An idle file is closed: its history is written, and what was lost of it is kept. It stays where its sync failed.
abbrev pub file_closing_by : Bool → ℕ → Part → File → Outcomes → PartResult
file_closing_by true file w f t =
    act_result (record w { body = content f; opened = None; terms = record w.terms { lost = closed_hull f.held.hull f.writer.stored } }) (history_text file (history_of f Closed)) t
file_closing_by false file w f t = act_result (record w { opened = Some f }) [] t

abbrev pub file_closing_result : ℕ → Part → Closing → PartResult
file_closing_result file w c = file_closing_by c.closed file w c.file c.ahead

-- what the tick judges of the file
abbrev pub judgement_at : Terms → File → TickJudgement
judgement_at terms f = tick_judgement terms.settings.limits (side_of f) (not (is_empty f.writer.owed)) terms.moment

abbrev pub tick_result_by : TickJudgement → ℕ → Part → File → Outcomes → PartResult
tick_result_by Stays file w f t = act_result w [] t
tick_result_by GivesUp file w f t = file_step_result w (give_up_step w.terms.moment f t)
tick_result_by Closes file w f t = file_closing_result file w (closing_of f t)

-- a file that isn't open is passed over
abbrev pub tick_act_result : ℕ → Option File → Part → Outcomes → PartResult
tick_act_result file None w t = act_result w [] t
tick_act_result file (Some f) w t = tick_result_by (judgement_at w.terms f) file w f t

-- a connection ends: none of its requests is answered any more
abbrev pub closing_result : Part → ℕ → Outcomes → PartResult
closing_result w conn t = act_result (record w { desk = with_cancelled conn w.desk }) (closed_line conn) t

abbrev pub reply_action : List ℕ → Part → Outcomes → PartResult
reply_action reply w t = reply_result reply w t

abbrev pub write_action : WriteCall → Part → Outcomes → PartResult
write_action call w t = write_act_result w.opened w (call_write_request call w.desk.last w.terms.moment) t

abbrev pub read_action : ReadCall → Part → Outcomes → PartResult
read_action call w t = read_act_result w.opened w (call_read_request call w.desk.last w.terms.moment) t

abbrev pub commit_action : CommitCall → Part → Outcomes → PartResult
commit_action call w t = commit_act_result w.opened w (call_commit_request call w.desk.last w.terms.moment) t

-- it hangs up: so too, and nothing is written
abbrev pub hang_up_result : Part → ℕ → Outcomes → PartResult
hang_up_result w conn t = act_result (record w { desk = with_cancelled conn w.desk }) [] t

unfoldable pub next_part : Part → Act → Outcomes → PartResult
next_part w CreateFile t = let c = next_call t in creation_result c.called w c.ahead
next_part w BeginEvent t = act_result w [] (at_event t)
next_part w (Reply conn xid reply) t = new_request_result conn xid (reply_action reply) w t
next_part w (WriteFile conn call) t = new_request_result conn call.xid (write_action call) w t
next_part w (ReadFile conn call) t = new_request_result conn call.xid (read_action call) w t
next_part w (CommitFile conn call) t = new_request_result conn call.xid (commit_action call) w t
next_part w (HangUp conn) t = hang_up_result w conn (at_event t)
next_part w (CloseConnection conn) t = closing_result w conn t
next_part w TurnFile t = turn_act_result w.opened w (at_event t)
next_part w PumpFile t = pump_act_result w.opened w (at_event t)
next_part w SyncFile t = sync_act_result w.opened w (at_event t)
next_part w (BeginTick milliseconds) t = act_result (record w { terms = later_terms milliseconds w.terms }) [] (at_event t)
next_part w (TickFile file) t = tick_act_result file w.opened w t
