-- What contracts see of a ticket and of a desk, and what each call leaves of a desk.
use Rattle.std.specs.Prelude.{ℕ, ◌+◌, ◌<◌, ◌≤◌, ◌==◌, not, if◌then◌else◌, Option, is_some, List, [], ◌∷◌, ◌++◌, length, filter, find}

-- who asked, the number of the reply that is owed, and the number that the asker gave its request
pub record TicketId : Type 0 where
  pub conn : ℕ
  pub number : ℕ
  pub xid : ℕ

-- the last number issued (0 before the first), the tickets that wait, by rising number, and how many replies were sent
pub record DeskState : Type 0 where
  pub last : ℕ
  pub waiting : List TicketId
  pub sent : ℕ

-- a desk that issued nothing
abbrev pub new_desk : DeskState
new_desk = record { last = 0; waiting = []; sent = 0 }

-- the ticket of this number that waits
abbrev pub waiting_ticket : ℕ → DeskState → Option TicketId
waiting_ticket n d = find (λ t. t.number == n) d.waiting

-- the ticket that is issued next
abbrev pub next_ticket : ℕ → ℕ → DeskState → TicketId
next_ticket conn xid d = record { conn = conn; number = d.last + 1; xid = xid }

-- the next number joins those that wait
abbrev pub with_issued : ℕ → ℕ → DeskState → DeskState
with_issued conn xid d = record d { last = d.last + 1; waiting = d.waiting ++ next_ticket conn xid d ∷ [] }

-- this number waits no more
abbrev pub with_dropped : ℕ → DeskState → DeskState
with_dropped n d = record d { waiting = filter (λ t. not (t.number == n)) d.waiting }

-- where this number waits it is sent its reply, and waits no more
abbrev pub with_answered : ℕ → DeskState → DeskState
with_answered n d = record (with_dropped n d) { sent = d.sent + (if is_some (waiting_ticket n d) then 1 else 0) }

-- no number of this connection waits
abbrev pub with_cancelled : ℕ → DeskState → DeskState
with_cancelled conn d = record d { waiting = filter (λ t. not (t.conn == conn)) d.waiting }

-- each number is greater than the one before it, the first than `low`
abbrev pub RiseFrom : ℕ → List TicketId → Type 0
RiseFrom low [] = Unit {0}
RiseFrom low (t ∷ ts) = (low < t.number) × RiseFrom t.number ts

-- none of these numbers is greater than `high`
abbrev pub AreUpTo : ℕ → List TicketId → Type 0
AreUpTo high [] = Unit {0}
AreUpTo high (t ∷ ts) = (t.number ≤ high) × AreUpTo high ts

-- What each desk keeps: the numbers that wait rise, so they are distinct, none is greater than the last one issued, and
-- at most as many replies were sent and are owed as numbers were issued.
pub record IsSound (d : DeskState) : Type 0 where
  pub rising : RiseFrom 0 d.waiting
  pub issued_before : AreUpTo d.last d.waiting
  pub counted : d.sent + length d.waiting ≤ d.last
