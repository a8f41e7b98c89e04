-- What a request takes as it begins, what the desk sends, and what a context that is closed leaves.
use Rattle.std.specs.Prelude.{◌≡◌, ℕ, ◌-◌, ◌^◌, ◌<◌, ◌≤◌, ◌⊎◌, Bool, true, false, List, [], ◌∷◌, ◌++◌, Option, None, Some, Result, Ok, Err}
use Rattle.std.specs.Io.KnownBytes.{Appends}
use Rattle.gw_outside.specs.Writing.{AppendsPrefix}
use Rattle.gw_model.specs.declared.limits.Limits.{Limits}
use Rattle.gw_model.specs.Ahead.{Outcome, NoMemory}
use Rattle.gw_model.specs.File.{Answer, File, Step, SystemErr}
use Rattle.gw_model.specs.Writer.{turn_step}
use Rattle.gw_model.specs.Ending.{Ended, History, history_of}
use Rattle.gw_model.specs.Views.{TraceState, next_request, with_note}
use Rattle.tickets.specs.Desk.{TicketId, with_issued, next_ticket}
use Rattle.tickets.specs.declared.answer.Answer.{Answer as Sendable}
use Rattle.tickets.specs.Answers.{IsPlain, answer_of}
use Rattle.writeback.specs.Steps.{is_want}
use Rattle.file_cell.specs.Files.{StandsFor}
use Rattle.file_calls.specs.Counts.{IsCounted, file_counts}
use Rattle.admit.specs.Calls.{verdict_answers, is_refusal}
use Rattle.admit.specs.declared.request.Verdict.{Verdict}
use Rattle.admit.specs.declared.request.Verdict.TheVariants as verdict
use Rattle.file_cell.specs.State.{CellState}
use Rattle.file_cell.specs.History.{history_text}
use Rattle.file_calls.specs.Part.{send_result}
use Rattle.file_calls.specs.Outside.{TrackerState, PartState, Scene, Action, StepsFrom, IsAfter, ahead_at}

-- a context of this file that is held to these limits, with no answer left
abbrev pub IsCellReady : Limits → ℕ → CellState → Type 0
IsCellReady limits file c = (c.left ≡ []) × (c.limits ≡ limits) × (c.id.0 ≡ file)

abbrev pub IsReadyIn : Limits → ℕ → Option CellState → Type 0
IsReadyIn limits file None = Unit {0}
IsReadyIn limits file (Some c) = IsCellReady limits file c

-- A request has the next number of its event, and the next ticket; there is room for the notes that it may make. What the
-- file is judged by stays.
pub record IsAsked (conn xid notes : ℕ) (ticket : TicketId) (old new : PartState) : Type 0 where
  pub opened : new.opened ≡ old.opened
  pub desk : new.desk ≡ with_issued conn xid old.desk
  pub noted : new.noted ≡ record (next_request old.noted) { room = new.noted.room }
  pub ticket_is : ticket ≡ next_ticket conn xid old.desk
  pub room : notes ≤ new.noted.room
  pub counted : old.noted.request < 2 ^ 64 - 1
  pub terms : new.terms ≡ old.terms

-- only the room may have grown
abbrev pub SameButRoom : PartState → PartState → Type 0
SameButRoom old new = new ≡ record old { noted = record old.noted { room = new.noted.room } }

-- answers are sent

abbrev pub with_sent : List Answer → TrackerState → TrackerState
with_sent answers t = record t { desk = (send_result t.desk answers).desk }

abbrev pub part_with_sent : List Answer → PartState → PartState
part_with_sent answers k = record k { desk = (send_result k.desk answers).desk }

-- memory is refused for a request
abbrev pub refusal_answers : ℕ → List Answer
refusal_answers ticket = record { ticket = ticket; body = SystemErr } ∷ []

abbrev pub with_refusal : ℕ → TrackerState → TrackerState
with_refusal ticket t = record (with_sent (refusal_answers ticket) t) { noted = with_note (NoMemory t.noted.event t.noted.request) t.noted }

abbrev pub part_with_refusal : ℕ → PartState → PartState
part_with_refusal ticket k = record (part_with_sent (refusal_answers ticket) k) { noted = with_note (NoMemory k.noted.event k.noted.request) k.noted }

-- answers of a verdict can be sent
abbrev pub IsPlainVerdict : Verdict → Type 0
IsPlainVerdict (verdict.Reply a) = IsPlain a.body
IsPlainVerdict _ = Unit {0}

-- the trace, by whether memory was refused
abbrev pub noted_after : Bool → TraceState → TraceState
noted_after true n = with_note (NoMemory n.event n.request) n
noted_after false n = n

-- what a request of the open file leaves, by its verdict

abbrev pub with_verdict : Verdict → TrackerState → TrackerState
with_verdict v t = record (with_sent (verdict_answers v) t) { noted = noted_after (is_refusal v) t.noted }

abbrev pub part_with_verdict : Verdict → PartState → PartState
part_with_verdict v k = record (part_with_sent (verdict_answers v) k) { noted = noted_after (is_refusal v) k.noted }

-- the same file is out, or none
abbrev pub SameFile : Option CellState → Option CellState → Type 0
SameFile None None = Unit {0}
SameFile (Some c) (Some d) = d.file.mark ≡ c.file.mark
SameFile _ _ = ⊥

-- the settings and the moment are the same
abbrev pub SameTerms : TrackerState → TrackerState → Type 0
SameTerms old new = (new.settings ≡ old.settings) × (new.moment ≡ old.moment)

-- so are the event and the request that stand now
abbrev pub SameNumbers : TrackerState → TrackerState → Type 0
SameNumbers old new = (new.noted.event ≡ old.noted.event) × (new.noted.request ≡ old.noted.request) × SameTerms old new

-- these outcomes don't begin with a refusal of memory for an event and request before this
abbrev pub are_from : ℕ → ℕ → List Outcome → Type 0
are_from event request (NoMemory event' request' ∷ outcomes) = (event < event') ⊎ ((event ≡ event') × (request ≤ request'))
are_from event request _ = Unit {0}

abbrev pub IsFrom : TraceState → List Outcome → Type 0
IsFrom n outcomes = are_from n.event n.request outcomes

-- What a request that has its ticket comes to, whose text was made or not.
pub record Tries (tells : Type 0) (go : Action) (old new : Scene) (made : List ℕ → Type 0) : Type 0 where
  pub text : List ℕ
  pub step : StepsFrom tells (IsFrom old.kept.noted) go old new text false
  pub is : made text

-- a turn

-- an answer says that memory was wanting
abbrev pub is_want_in : Option Sendable → Bool
is_want_in None = false
is_want_in (Some a) = is_want (answer_of a ∷ [])

-- the first answer
abbrev pub first_answers : Option Sendable → List Answer
first_answers None = []
first_answers (Some a) = answer_of a ∷ []

abbrev pub IsPlainAnswer : Option Sendable → Type 0
IsPlainAnswer None = Unit {0}
IsPlainAnswer (Some a) = IsPlain a.body

abbrev pub SameSettings : CellState → CellState → Type 0
SameSettings c d = (d.limits ≡ c.limits) × (d.id ≡ c.id) × (d.file.mark ≡ c.file.mark)

-- The file after stands for the file after a turn, whose answers are the one that was handed out and those that are left.
pub record IsTurnOf (c : CellState) (answer : Option Sendable) (noted : TraceState) (later : List Outcome) (step : Step) : Type 0 where
  pub stands : StandsFor c step.file
  pub answers : step.answers ≡ first_answers answer ++ c.left
  pub ahead : step.ahead ≡ ahead_at noted later

-- A turn of an open file, with what was noted.
pub record IsJob (tells : Type 0) (old new : CellState) (answer : Option Sendable) (noted noted' : TraceState) : Type 0 where
  pub outcomes : List Outcome
  pub put : List ℕ
  pub plain : IsPlainAnswer answer
  pub event : noted'.event ≡ noted.event
  pub request : noted'.request ≡ noted.request
  pub notes : noted'.outcomes ≡ noted.outcomes ++ outcomes
  pub from : (later : List Outcome) → IsAfter noted' later → IsFrom noted (outcomes ++ later)
  pub content : tells → new.file.content ≡ old.file.content ++ put
  pub counts : IsCounted outcomes (file_counts old.file) (file_counts new.file)
  pub next : tells → (f : File) → StandsFor old f → (later : List Outcome) → IsAfter noted' later → IsTurnOf new answer noted' later (turn_step f (ahead_at noted (outcomes ++ later)))

-- a context is closed

-- how a writer goes on after earlier texts, the first of which may have failed
abbrev pub Continues : {T E : Type 0} → Result T E → Result T E → List ℕ → Option (List ℕ) → Option (List ℕ) → Type 0
Continues (Ok x) (Ok y) text held held' = Appends held held' text
Continues (Ok x) (Err y) text held held' = AppendsPrefix held held' text
Continues (Err x) (Err y) text held held' = held' ≡ held
Continues (Err x) (Ok y) text held held' = ⊥

-- The history of a context that was closed is written, for each file that the context stands for.
pub record IsClosedBy {T E : Type 0} (written result : Result T E) (file : ℕ) (c : CellState) (held held' : Option (List ℕ)) : Type 0 where
  pub text : List ℕ
  pub history : History
  pub spelled : text ≡ history_text file history
  pub text_is : (f : File) → StandsFor c f → text ≡ history_text file (history_of f Ended)
  pub by : Continues written result text held held'
