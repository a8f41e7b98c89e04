-- What an upload keeps, and what each of its calls leaves of that (RFC 1813 sections 3.3.7 and 3.3.21).
use Rattle.std.specs.Prelude.{ℕ, ◌+◌, ◌-◌, ◌*◌, ◌%◌, min, Bool, true, false, ◌&&◌, ◌||◌, ◌==◌, nat_lt, nat_le, if◌then◌else◌, Option, Some, None, is_some, is_none, option_map, List, [], ◌∷◌, ◌++◌, length, map, set, get_or, remove, replicate, position, slice_range}
use Rattle.std.specs.List.{position_or_len}
use Rattle.std.specs.Int.{div_ceil}
use Rattle.gw_model.specs.Statuses as status
use Rattle.put_core.specs.declared.call.Next.{Next}
use Rattle.put_core.specs.declared.call.Next.TheVariants as next
use Rattle.put_core.specs.declared.call.PutAnswer.{PutAnswer}
use Rattle.put_core.specs.declared.call.PutAnswer.TheVariants.{Written, Committed, Failed}
use Rattle.put_core.specs.declared.call.ChunkState.{ChunkState}
use Rattle.put_core.specs.declared.call.ChunkState.TheVariants.{Idle, Sent, Held}
use Rattle.put_core.specs.declared.call.SentWrite.{SentWrite}
use Rattle.put_core.specs.declared.call.PutEnding.{PutEnding}
use Rattle.put_core.specs.declared.call.PutEnding.TheVariants.{Durable, Rejected}
use Rattle.put_core.specs.declared.call.Choice.{Choice}
use Rattle.put_core.specs.declared.call.Choice.TheVariants.{Sends, Commits, Waits, Ends}

-- The source's bytes, how many a chunk has, how many chunks a window has, and whether a window is sent from its last chunk
-- on. How far each chunk is, the outstanding WRITEs in the order in which they were sent, the xid of an outstanding COMMIT,
-- the last xid given out (0 before the first), and the verifier of the chunks that are held. How often the upload was begun
-- anew, a call had to be sent again, and the link broke. How it ended, if a reply ended it.
pub record PutState : Type 0 where
  pub size : ℕ
  pub chunk : ℕ
  pub window : ℕ
  pub backward : Bool
  pub chunks : List ChunkState
  pub writes : List SentWrite
  pub commit : Option ℕ
  pub last : ℕ
  pub verifier : Option ℕ
  pub beginnings : ℕ
  pub retries : ℕ
  pub breaks : ℕ
  pub ending : Option PutEnding

-- the most chunks of a source, and of a window
abbrev pub most_chunks : ℕ
most_chunks = 1048576

abbrev pub most_window : ℕ
most_window = 64

-- so many new beginnings, or calls that had to be sent again, end an upload; and a link may break so often
abbrev pub most_beginnings : ℕ
most_beginnings = 16

abbrev pub most_retries : ℕ
most_retries = 1024

abbrev pub most_breaks : ℕ
most_breaks = 16

-- how many chunks a source has; the last one may be shorter
abbrev pub chunk_count : ℕ → ℕ → ℕ
chunk_count size chunk = div_ceil size chunk

-- an upload that has sent nothing
abbrev pub new_put : ℕ → ℕ → ℕ → Bool → PutState
new_put size chunk window backward = record {
  size = size;
  chunk = chunk;
  window = window;
  backward = backward;
  chunks = replicate (chunk_count size chunk) Idle;
  writes = [];
  commit = None;
  last = 0;
  verifier = None;
  beginnings = 0;
  retries = 0;
  breaks = 0;
  ending = None;
}

-- where a chunk begins, and how many bytes it has
abbrev pub offset_of : PutState → ℕ → ℕ
offset_of s c = c * s.chunk

abbrev pub count_of : PutState → ℕ → ℕ
count_of s c = min s.chunk (s.size - offset_of s c)

abbrev pub is_unsent : ChunkState → Bool
is_unsent Idle = true
is_unsent Sent = false
is_unsent Held = false

abbrev pub is_sent : ChunkState → Bool
is_sent Idle = false
is_sent Sent = true
is_sent Held = false

abbrev pub is_unheld : ChunkState → Bool
is_unheld Idle = true
is_unheld Sent = true
is_unheld Held = false

-- the least chunk that isn't held, or the number of chunks
abbrev pub first_unheld : List ChunkState → ℕ
first_unheld chunks = position_or_len is_unheld chunks

-- the last place that passes
abbrev pub place_behind : Bool → Option ℕ → Option ℕ
place_behind here (Some k) = Some (k + 1)
place_behind true None = Some 0
place_behind false None = None

abbrev pub last_place : (ChunkState → Bool) → List ChunkState → Option ℕ
last_place p [] = None
last_place p (m ∷ ms) = place_behind (p m) (last_place p ms)

-- The present window is the one of the least chunk that isn't held: from here to there. Windows are counted from the first
-- chunk on.
abbrev pub window_start : PutState → ℕ
window_start s = first_unheld s.chunks - first_unheld s.chunks % s.window

abbrev pub window_end : PutState → ℕ
window_end s = min (window_start s + s.window) (length s.chunks)

abbrev pub present_window : PutState → List ChunkState
present_window s = slice_range s.chunks (window_start s) (window_end s)

-- the first of these that is to be sent, or the last
abbrev pub idle_place : Bool → List ChunkState → Option ℕ
idle_place backward chunks = if backward then last_place is_unsent chunks else position is_unsent chunks

-- the chunk of the present window that is sent next
abbrev pub next_chunk : PutState → Option ℕ
next_chunk s = option_map (λ k. window_start s + k) (idle_place s.backward (present_window s))

-- the new beginnings, or the calls that had to be sent again, have come to their bounds
abbrev pub is_spent : PutState → Bool
is_spent s = nat_le most_beginnings s.beginnings || nat_le most_retries s.retries

abbrev pub ending_next : PutEnding → Next
ending_next (Durable verifier) = next.Done verifier
ending_next (Rejected status) = next.Refused status

abbrev pub chunk_choice : Option ℕ → Choice
chunk_choice (Some c) = Sends c
chunk_choice None = Waits

-- no WRITE is outstanding
abbrev pub is_none_sent : List SentWrite → Bool
is_none_sent [] = true
is_none_sent (w ∷ ws) = false

-- The COMMIT is sent when all chunks are held and no call is outstanding.
abbrev pub running_choice : PutState → Choice
running_choice s =
    if nat_lt (first_unheld s.chunks) (length s.chunks) then chunk_choice (next_chunk s)
    else if is_none s.commit && is_none_sent s.writes then Commits else Waits

abbrev pub choice_by : Option PutEnding → PutState → Choice
choice_by (Some e) s = Ends (ending_next e)
choice_by None s = if is_spent s then Ends (next.Spent s.beginnings s.retries) else running_choice s

-- what is to be done next
abbrev pub choice_of : PutState → Choice
choice_of s = choice_by s.ending s

abbrev pub next_by : Choice → PutState → Next
next_by (Sends c) s = next.Write (s.last + 1) (offset_of s c) (count_of s c)
next_by Commits s = next.Commit (s.last + 1)
next_by Waits s = next.Wait
next_by (Ends answer) s = answer

abbrev pub sent_write : ℕ → ℕ → SentWrite
sent_write xid c = record { xid = xid; chunk = c }

abbrev pub after_choice : Choice → PutState → PutState
after_choice (Sends c) s =
    record s { chunks = set s.chunks c Sent; writes = s.writes ++ sent_write (s.last + 1) c ∷ []; last = s.last + 1 }
after_choice Commits s = record s { commit = Some (s.last + 1); last = s.last + 1 }
after_choice Waits s = s
after_choice (Ends answer) s = s

-- what `next_call` answers, and what it leaves
abbrev pub next_of : PutState → Next
next_of s = next_by (choice_of s) s

abbrev pub after_next : PutState → PutState
after_next s = after_choice (choice_of s) s

-- a chunk that was held isn't any more; a chunk whose call was outstanding is to be sent again
abbrev pub unheld_chunk : ChunkState → ChunkState
unheld_chunk Idle = Idle
unheld_chunk Sent = Sent
unheld_chunk Held = Idle

abbrev pub unsent_chunk : ChunkState → ChunkState
unsent_chunk Idle = Idle
unsent_chunk Sent = Idle
unsent_chunk Held = Held

-- a new beginning: no chunk is held, and what was outstanding stays so
abbrev pub after_beginning : PutState → PutState
after_beginning s = record s { chunks = map unheld_chunk s.chunks; verifier = None; beginnings = s.beginnings + 1 }

-- one more call has to be sent again
abbrev pub after_retry : PutState → PutState
after_retry s = record s { retries = s.retries + 1 }

-- the WRITE at this place isn't outstanding any more, and its chunk is so far
abbrev pub without_write : ℕ → ℕ → ChunkState → PutState → PutState
without_write place c state s = record s { chunks = set s.chunks c state; writes = remove s.writes place }

-- no COMMIT is outstanding
abbrev pub without_commit : PutState → PutState
without_commit s = record s { commit = None }

-- an upload that is refused
abbrev pub after_rejection : ℕ → PutState → PutState
after_rejection status s = record s { ending = Some (Rejected status) }

-- the chunk of the WRITE at this place is held under this verifier
abbrev pub after_hold : ℕ → ℕ → ℕ → PutState → PutState
after_hold place c v s = record (without_write place c Held s) { verifier = Some v }

-- whether a verifier is that of the chunks that are held, or none is
abbrev pub may_hold : ℕ → Option ℕ → Bool
may_hold v None = true
may_hold v (Some u) = u == v

-- another verifier than that of the chunks that are held is a new beginning
abbrev pub after_verifier : ℕ → PutState → PutState
after_verifier v s = if may_hold v s.verifier then s else after_beginning s

-- NFS3ERR_JUKEBOX has the call sent again; NFS3ERR_IO and NFS3ERR_STALE are a new beginning
abbrev pub is_delay : ℕ → Bool
is_delay answered = answered == status.jukebox

abbrev pub is_loss : ℕ → Bool
is_loss answered = answered == status.io || answered == status.stale

-- A reply to the outstanding WRITE of chunk c, at this place. The chunk is held where its whole count was written.
abbrev pub after_write_reply : ℕ → ℕ → PutAnswer → PutState → PutState
after_write_reply place c (Written count v) s =
    if count == count_of s c then after_hold place c v (after_verifier v s)
    else without_write place c Idle (after_retry (after_verifier v s))
after_write_reply place c (Committed v) s = s
after_write_reply place c (Failed answered) s =
    if is_delay answered then without_write place c Idle (after_retry s)
    else if is_loss answered then without_write place c Idle (after_beginning s)
    else after_rejection answered s

-- A reply to the outstanding COMMIT. The file is durable where it has the verifier of all chunks.
abbrev pub after_commit_reply : PutAnswer → PutState → PutState
after_commit_reply (Written count v) s = s
after_commit_reply (Committed v) s =
    if may_hold v s.verifier then record s { ending = Some (Durable v) } else without_commit (after_beginning s)
after_commit_reply (Failed answered) s =
    if is_delay answered then without_commit (after_retry s)
    else if is_loss answered then without_commit (after_beginning s)
    else after_rejection answered s

abbrev pub is_commit_xid : ℕ → Option ℕ → Bool
is_commit_xid xid None = false
is_commit_xid xid (Some n) = n == xid

abbrev pub no_write : SentWrite
no_write = sent_write 0 0

-- the place of the outstanding WRITE of this xid
abbrev pub write_place : ℕ → List SentWrite → Option ℕ
write_place xid writes = position (λ w. w.xid == xid) writes

abbrev pub after_write_reply_at : Option ℕ → PutAnswer → PutState → PutState
after_write_reply_at None answer s = s
after_write_reply_at (Some place) answer s = after_write_reply place (get_or s.writes place no_write).chunk answer s

abbrev pub is_finished : PutState → Bool
is_finished s = is_some s.ending || is_spent s

-- what `reply` leaves
abbrev pub after_reply : ℕ → PutAnswer → PutState → PutState
after_reply xid answer s =
    if is_finished s then s
    else if is_commit_xid xid s.commit then after_commit_reply answer s
    else after_write_reply_at (write_place xid s.writes) answer s

-- what `broken` leaves
abbrev pub after_broken : PutState → PutState
after_broken s = record s { chunks = map unsent_chunk s.chunks; writes = []; commit = None; breaks = s.breaks + 1 }
