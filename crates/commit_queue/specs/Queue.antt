-- What contracts see of the COMMITs that wait.
use Rattle.std.specs.Prelude.{ℕ, ◌-◌, ◌≤◌, Bool, nat_le, if◌then◌else◌, List, [], ◌∷◌, ◌++◌}
use Rattle.tickets.specs.Desk.{TicketId}

-- a COMMIT that waits: the goal that reach has to come to, and who is owed the reply
pub record Commit : Type 0 where
  pub goal : ℕ
  pub ticket : TicketId

-- those that wait, in the order in which they were added, and for how many more there is room
pub record QueueState : Type 0 where
  pub commits : List Commit
  pub room : ℕ

-- one more waits, in the room that there is
abbrev pub with_commit : ℕ → TicketId → QueueState → QueueState
with_commit goal ticket q = record { commits = q.commits ++ record { goal = goal; ticket = ticket } ∷ []; room = q.room - 1 }

-- whether reach has come to the goal
abbrev pub is_ready : ℕ → Commit → Bool
is_ready reach c = nat_le c.goal reach

-- without the first that is ready
abbrev pub without_ready : ℕ → List Commit → List Commit
without_ready reach [] = []
without_ready reach (c ∷ cs) = if is_ready reach c then cs else c ∷ without_ready reach cs

-- no goal is below this
abbrev pub GoalsFrom : ℕ → List Commit → Type 0
GoalsFrom least [] = Unit {0}
GoalsFrom least (c ∷ cs) = (least ≤ c.goal) × GoalsFrom least cs
