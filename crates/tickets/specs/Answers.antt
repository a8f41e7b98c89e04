-- Answers of the program, as those of the definitions.
use Rattle.std.specs.Prelude.{◌≡◌, ℕ, ◌≤◌, ◌==◌, false, List, [], ◌∷◌, Option, Some, None, if◌then◌else◌}
use Rattle.std.specs.Bool.{MatchBool}
use Rattle.gw_model.specs.declared.Stable.{Stable}
use Rattle.gw_model.specs.declared.Stable.TheVariants.{Unstable, DataSync, FileSync}
use Rattle.gw_model.specs.File as model
use Rattle.gw_model.specs.File.{Wrote, NotWritten, Committed, NotCommitted, Gave, NotGiven, SystemErr, Silence}
use Rattle.gw_model.specs.Statuses.{ok}
use Rattle.tickets.specs.Desk.{TicketId}
use Rattle.tickets.specs.declared.answer.Answer.{Answer}
use Rattle.tickets.specs.declared.answer.Body.{Body}
use Rattle.tickets.specs.declared.answer.Body.TheVariants as body

-- the stability that a `stable_how` means (RFC 1813 section 3.3.7)
abbrev pub level_of : ℕ → Stable
level_of committed = if committed == 0 then Unstable else if committed == 1 then DataSync else FileSync

abbrev pub body_of : Body → model.Body
body_of (body.Write status count committed) = if status == ok then Wrote count (level_of committed) else NotWritten status
body_of (body.Commit status) = if status == ok then Committed else NotCommitted status
body_of (body.Read status eof bytes) = if status == ok then Gave bytes.items eof else NotGiven status
body_of (body.Text bytes) = Silence
body_of body.SystemErr = SystemErr

abbrev pub answer_of : Answer → model.Answer
answer_of a = record { ticket = a.ticket.number; body = body_of a.body }

abbrev pub answers_of : Option Answer → List model.Answer
answers_of None = []
answers_of (Some a) = answer_of a ∷ []

-- A refusal tells its status alone, and what is committed is a `stable_how`. So the body is told by its meaning.
abbrev pub IsPlain : Body → Type 0
IsPlain (body.Write status count committed) = MatchBool (status == ok) (committed ≤ 2) ((count ≡ 0) × (committed ≡ 0))
IsPlain (body.Commit status) = Unit {0}
IsPlain (body.Read status eof bytes) = MatchBool (status == ok) (Unit {0}) ((eof ≡ false) × (bytes.items ≡ []))
IsPlain (body.Text bytes) = ⊥
IsPlain body.SystemErr = Unit {0}

abbrev pub ArePlain : Option Answer → Type 0
ArePlain None = Unit {0}
ArePlain (Some a) = IsPlain a.body

-- the answer spends the ticket and says this
abbrev pub Says : Answer → TicketId → model.Body → Type 0
Says a ticket what = (a.ticket ≡ ticket) × IsPlain a.body × (body_of a.body ≡ what)
