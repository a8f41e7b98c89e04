-- What is written to connections, whatever a store tells: each line is what one call of the desk gave, so a request gets at
-- most one reply. Beside them stand the histories of files that were closed.
use Rattle.std.specs.Prelude.{◌≡◌, ◌⊎◌, ℕ, List, [], ◌∷◌, ◌++◌, map, Option, Some, None}
use Rattle.tickets.specs.Desk.{TicketId, DeskState, waiting_ticket}
use Rattle.gw_model.specs.File.{Body, Silence, Answer}
use Rattle.gw_model.specs.Ending.{History}
use Rattle.file_cell.specs.History.{history_text}
use Rattle.tickets.specs.Laws.{DeskCall, Issue, Refused, Send, DropTicket, CancelConn, after_call, after_calls}
use Rattle.file_calls.specs.Replies.{reply_line, closed_line}
use Rattle.file_calls.specs.Part.{send_result}

-- a line to the one who waits, if anybody does
abbrev pub IsLineTo : Option TicketId → List ℕ → Type 0
IsLineTo None line = line ≡ []
IsLineTo (Some t) line = (reply : List ℕ) × (line ≡ reply_line t.conn reply)

-- What is written for a call of a desk: for a reply its line, and for a connection that ends the line that says so, unless it
-- hung up.
abbrev pub IsDeskLine : DeskCall → DeskState → List ℕ → Type 0
IsDeskLine (Send number) d line = IsLineTo (waiting_ticket number d) line
IsDeskLine (CancelConn conn) d line = (line ≡ closed_line conn) ⊎ (line ≡ [])
IsDeskLine (Issue conn xid) d line = line ≡ []
IsDeskLine Refused d line = line ≡ []
IsDeskLine (DropTicket number) d line = line ≡ []

-- histories of closed files, one after another
abbrev pub histories_text : List (ℕ × History) → List ℕ
histories_text [] = []
histories_text (h ∷ hs) = history_text h.0 h.1 ++ histories_text hs

abbrev pub AreHistories : List ℕ → Type 0
AreHistories text = (histories : List (ℕ × History)) × (text ≡ histories_text histories)

-- of calls, one after another, with histories between them
abbrev pub AreDeskLines : List DeskCall → DeskState → List ℕ → Type 0
AreDeskLines [] d text = AreHistories text
AreDeskLines (call ∷ calls) d text =
    (before line rest : List ℕ) × (text ≡ before ++ (line ++ rest)) × AreHistories before × IsDeskLine call d line
    × AreDeskLines calls (after_call call d) rest

-- Calls that led from one desk to another, with what was written for them.
pub record Speaks (old new : DeskState) (text : List ℕ) : Type 0 where
  pub calls : List DeskCall
  pub desk : new ≡ after_calls calls old
  pub lines : AreDeskLines calls old text

-- the call by which an answer is sent: a reply, or none and the ticket is dropped
abbrev pub sending_call : ℕ → Body → DeskCall
sending_call number Silence = DropTicket number
sending_call number body = Send number

abbrev pub sending_calls : List Answer → List DeskCall
sending_calls answers = map (λ a. sending_call a.ticket a.body) answers

-- What the definition leaves of a desk and writes for answers is what these calls leave, and lines for them.
abbrev pub SendsByCalls : Type 0
SendsByCalls = (answers : List Answer) (d : DeskState)
    → ((send_result d answers).desk ≡ after_calls (sending_calls answers) d)
    × AreDeskLines (sending_calls answers) d (send_result d answers).text
