-- What a desk promises over any list of calls.
use Rattle.std.specs.Prelude.{◌≡◌, ◌≢◌, ℕ, ◌+◌, ◌≤◌, ◌==◌, Option, Some, None, List, [], ◌∷◌, ◌++◌, length, filter, All, Contains}
use Rattle.std.specs.List.{cons_option}
use Rattle.tickets.specs.Desk.{TicketId, DeskState, new_desk, waiting_ticket, next_ticket, with_issued, with_answered, with_dropped, with_cancelled, RiseFrom, IsSound}

-- A call of a desk. Refused is an issue that was refused.
pub data DeskCall : Type 0 where
  Issue : (conn xid : ℕ) → DeskCall
  Refused : DeskCall
  Send : (number : ℕ) → DeskCall
  DropTicket : (number : ℕ) → DeskCall
  CancelConn : (conn : ℕ) → DeskCall

-- what a call leaves of a desk
abbrev pub after_call : DeskCall → DeskState → DeskState
after_call (Issue conn xid) d = with_issued conn xid d
after_call Refused d = d
after_call (Send number) d = with_answered number d
after_call (DropTicket number) d = with_dropped number d
after_call (CancelConn conn) d = with_cancelled conn d

-- what calls, one after another, leave of a desk
abbrev pub after_calls : List DeskCall → DeskState → DeskState
after_calls [] d = d
after_calls (call ∷ calls) d = after_calls calls (after_call call d)

-- the ticket that a call issues
abbrev pub issue_of : DeskCall → DeskState → Option TicketId
issue_of (Issue conn xid) d = Some (next_ticket conn xid d)
issue_of _ d = None

-- the ticket that a call replies to
abbrev pub reply_of : DeskCall → DeskState → Option TicketId
reply_of (Send number) d = waiting_ticket number d
reply_of _ d = None

-- the tickets that calls issue, in order
abbrev pub issued_tickets : List DeskCall → DeskState → List TicketId
issued_tickets [] d = []
issued_tickets (call ∷ calls) d = cons_option (issue_of call d) (issued_tickets calls (after_call call d))

-- the tickets that calls reply to, in order
abbrev pub replied_tickets : List DeskCall → DeskState → List TicketId
replied_tickets [] d = []
replied_tickets (call ∷ calls) d = cons_option (reply_of call d) (replied_tickets calls (after_call call d))

-- the replies under one number
abbrev pub replies_to : ℕ → List DeskCall → DeskState → List TicketId
replies_to n calls d = filter (λ t. t.number == n) (replied_tickets calls d)

-- A new desk is sound, and calls leave a sound one sound.
abbrev pub StaysSound : Type 0
StaysSound = IsSound new_desk × ((calls : List DeskCall) (d : DeskState) → IsSound d → IsSound (after_calls calls d))

-- Each number gets at most one reply, whatever a desk is asked for.
abbrev pub AtMostOneReply : Type 0
AtMostOneReply = (n : ℕ) (calls : List DeskCall) (d : DeskState) → IsSound d → length (replies_to n calls d) ≤ 1

-- A number that was issued and doesn't wait never waits again, and gets no reply any more.
abbrev pub NeverWaitsAgain : Type 0
NeverWaitsAgain = (n : ℕ) (calls : List DeskCall) (d : DeskState) → n ≤ d.last → waiting_ticket n d ≡ None
    → (waiting_ticket n (after_calls calls d) ≡ None) × (replies_to n calls d ≡ [])

-- After its reply, and after its ticket was dropped, a number doesn't wait.
abbrev pub WaitsNoMore : Type 0
WaitsNoMore = (n : ℕ) (d : DeskState) → (waiting_ticket n (with_answered n d) ≡ None) × (waiting_ticket n (with_dropped n d) ≡ None)

-- No number of a connection that was cancelled waits.
abbrev pub CancelsAll : Type 0
CancelsAll = (conn : ℕ) (d : DeskState) → All (λ t. t.conn ≢ conn) (with_cancelled conn d).waiting

-- Numbers are issued in rising order, each greater than all before, and no call takes one back.
abbrev pub NumbersRise : Type 0
NumbersRise = (calls : List DeskCall) (d : DeskState) → RiseFrom d.last (issued_tickets calls d) × (d.last ≤ (after_calls calls d).last)

-- Each reply goes to a ticket that waited or was issued since: to the connection that asked, with its xid.
abbrev pub RepliesToAskers : Type 0
RepliesToAskers = (calls : List DeskCall) (d : DeskState) → All (Contains (d.waiting ++ issued_tickets calls d)) (replied_tickets calls d)

-- The count of replies is how many were sent.
abbrev pub CountsReplies : Type 0
CountsReplies = (calls : List DeskCall) (d : DeskState) → (after_calls calls d).sent ≡ d.sent + length (replied_tickets calls d)

-- A ticket that waits is the one that its number finds.
abbrev pub FindsItsTicket : Type 0
FindsItsTicket = (t : TicketId) (d : DeskState) → IsSound d → Contains d.waiting t → waiting_ticket t.number d ≡ Some t
