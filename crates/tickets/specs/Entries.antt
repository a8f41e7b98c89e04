-- The desk's fields as what contracts see of it.
use Rattle.std.specs.Prelude.{ℕ, List, map}
use Rattle.tickets.specs.declared.desk.Asker.{Asker}
use Rattle.tickets.specs.Desk.{TicketId, DeskState}

-- the ticket that was issued under a number to an asker
abbrev pub ticket_of : ℕ → Asker → TicketId
ticket_of n a = record { conn = a.conn; number = n; xid = a.xid }

-- the entries of the map as the tickets that wait
abbrev pub tickets_of : List (ℕ × Asker) → List TicketId
tickets_of es = map (λ e. ticket_of e.0 e.1) es

-- the last number, the entries of the map, and the replies sent
abbrev pub desk_of : ℕ → List (ℕ × Asker) → ℕ → DeskState
desk_of last es sent = record { last = last; waiting = tickets_of es; sent = sent }
