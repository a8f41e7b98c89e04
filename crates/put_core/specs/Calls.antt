-- What the caller of an upload can rely on.
use Rattle.std.specs.Prelude.{◌≡◌, ℕ, ◌+◌, ◌<◌, ◌≤◌, true, length}
use Rattle.put_core.specs.declared.call.Next.{Next}
use Rattle.put_core.specs.declared.call.Next.TheVariants.{Write, Wait}
use Rattle.put_core.specs.declared.call.PutAnswer.{PutAnswer}
use Rattle.put_core.specs.Steps.{PutState, after_broken, after_next, after_reply, is_finished, next_of}
use Rattle.put_core.specs.Kept.{commit_count}

-- A WRITE is of bytes of the source, at least one.
abbrev pub IsInSource : ℕ → Next → Type 0
IsInSource size (Write xid offset count) = (1 ≤ count) × (offset + count ≤ size)
IsInSource size _ = Unit {0}

-- how many calls are outstanding
abbrev pub outstanding_calls : PutState → ℕ
outstanding_calls s = length s.writes + commit_count s.commit

-- Where there is nothing to do a reply is owed.
abbrev pub WaitsForReply : Next → PutState → Type 0
WaitsForReply Wait s = 0 < outstanding_calls s
WaitsForReply _ s = Unit {0}

-- The source, the lengths of chunks and windows, and the count of broken links stay.
pub record KeepsSource (s t : PutState) : Type 0 where
  pub size : t.size ≡ s.size
  pub chunk : t.chunk ≡ s.chunk
  pub window : t.window ≡ s.window
  pub breaks : t.breaks ≡ s.breaks

abbrev pub NextKeepsSource : Type 0
NextKeepsSource = (s : PutState) → KeepsSource s (after_next s)

abbrev pub ReplyKeepsSource : Type 0
ReplyKeepsSource = (xid : ℕ) (answer : PutAnswer) (s : PutState) → KeepsSource s (after_reply xid answer s)

-- What ended an upload, or has it given up, stays: then neither asking nor a reply changes anything, and a broken link leaves
-- what is answered.
pub record StaysFinished (s : PutState) : Type 0 where
  pub asked : after_next s ≡ s
  pub replied : (xid : ℕ) (answer : PutAnswer) → after_reply xid answer s ≡ s
  pub broken : next_of (after_broken s) ≡ next_of s

abbrev pub FinishedStays : Type 0
FinishedStays = (s : PutState) → is_finished s ≡ true → StaysFinished s
