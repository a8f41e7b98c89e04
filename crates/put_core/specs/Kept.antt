-- What an upload keeps true of its fields.
use Rattle.std.specs.Prelude.{◌≡◌, ◌≢◌, ℕ, ◌+◌, ◌*◌, ◌<◌, ◌≤◌, not, if◌then◌else◌, Option, is_some, List, [], ◌∷◌, length, drop, get_or, count_by}
use Rattle.gw_model.specs.Bounds.{max_transfer}
use Rattle.put_core.specs.declared.call.ChunkState.{ChunkState}
use Rattle.put_core.specs.declared.call.ChunkState.TheVariants.{Idle, Sent}
use Rattle.put_core.specs.declared.call.SentWrite.{SentWrite}
use Rattle.put_core.specs.Steps.{PutState, chunk_count, first_unheld, is_unsent, is_sent, most_beginnings, most_breaks, most_chunks, most_retries, most_window, window_end}

-- no WRITE of these is of chunk c
abbrev pub AreOthers : ℕ → List SentWrite → Type 0
AreOthers c [] = Unit {0}
AreOthers c (w ∷ ws) = (w.chunk ≢ c) × AreOthers c ws

-- each outstanding WRITE is of a chunk of its own, which is told as sent
abbrev pub AreSent : List ChunkState → List SentWrite → Type 0
AreSent chunks [] = Unit {0}
AreSent chunks (w ∷ ws) = (w.chunk < length chunks) × (get_or chunks w.chunk Idle ≡ Sent) × AreOthers w.chunk ws × AreSent chunks ws

-- how many chunks are outstanding or held
abbrev pub busy_chunks : List ChunkState → ℕ
busy_chunks chunks = count_by (λ m. not (is_unsent m)) chunks

abbrev pub commit_count : Option ℕ → ℕ
commit_count commit = if is_some commit then 1 else 0

-- Each call that was ever sent is outstanding, has its chunk held, or is told by a count: of the calls that had to be sent
-- again, or of new beginnings and broken links, each of which is worth more calls than there are chunks.
abbrev pub xid_bound : PutState → ℕ
xid_bound s = busy_chunks s.chunks + commit_count s.commit + s.retries + (most_chunks + 2) * (s.beginnings + s.breaks)

-- `first` is the least chunk that isn't held, and `room` the capacity for outstanding WRITEs. Behind the present window are
-- just those that new beginnings left there, at most a window's by each.
pub record IsKept (s : PutState) (first room : ℕ) : Type 0 where
  pub number : length s.chunks ≡ chunk_count s.size s.chunk
  pub few : length s.chunks ≤ most_chunks
  pub chunk_least : 1 ≤ s.chunk
  pub chunk_most : s.chunk ≤ max_transfer
  pub window_least : 1 ≤ s.window
  pub window_most : s.window ≤ most_window
  pub least : first ≡ first_unheld s.chunks
  pub outstanding : AreSent s.chunks s.writes
  pub counted : length s.writes ≡ count_by is_sent s.chunks
  pub ahead : count_by is_sent (drop (window_end s) s.chunks) ≤ s.beginnings * s.window
  pub fit : length s.writes ≤ most_beginnings * s.window
  pub spare : most_beginnings * s.window ≤ room
  pub numbers : s.last ≤ xid_bound s
  pub beginnings : s.beginnings ≤ most_beginnings
  pub retries : s.retries ≤ most_retries
  pub breaks : s.breaks ≤ most_breaks
