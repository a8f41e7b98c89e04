-- The admission side of an open file: WRITE, COMMIT, READ, the spill step and the pump.
use Rattle.std.specs.Prelude.{ℕ, ◌+◌, ◌-◌, ◌/◌, max, min, Bool, true, false, not, ◌&&◌, ◌||◌, List, [], ◌∷◌, ◌++◌, map, length, drop, Option, Some, None, is_none, is_some, nat_lt, nat_le, ◌==◌, if◌then◌else◌}
use Rattle.std.specs.List.{filter, flat_map}
use Rattle.std.specs.Str.{bytes_eq}
use Rattle.gw_model.specs.declared.Stable.{Stable}
use Rattle.gw_model.specs.declared.Stable.TheVariants.{Unstable}
use Rattle.gw_model.specs.declared.Hull.{Hull}
use Rattle.gw_model.specs.Order.{Accepted, end_of, Piece, pieces, reach, kept_write, with_let_go_above, walk, with_write, writes_beyond, reach_past}
use Rattle.gw_model.specs.Ahead.{CallResult, Outcomes, Good, Bad, next_call, is_refused, past_refusal}
use Rattle.gw_model.specs.declared.limits.Limits.{Limits}
use Rattle.gw_model.specs.Statuses.{io, inval, jukebox}
use Rattle.gw_model.specs.Bounds.{base_weight, end_limit, max_transfer}
use Rattle.gw_model.specs.File.{Task, Put, Compare, Fetch, Settle, Job, Waiting, Body, Wrote, NotWritten, NotCommitted, NotGiven, SystemErr, Silence, Answer, Failure, Cause, Append, Spill, Phase, Live, Stale, AdmissionState, File, Side, side_of, entry_of, Step, reach_of, pending_writes, top_of, is_spilled, ready_weight, memory_weight, settle_count, is_fetch, is_stale, is_empty}

pub record WriteRequest : Type 0 where
  pub offset : ℕ
  pub bytes : List ℕ
  pub level : Stable
  pub ticket : ℕ
  pub moment : ℕ

pub record CommitRequest : Type 0 where
  pub limit : ℕ
  pub ticket : ℕ
  pub moment : ℕ

pub record ReadRequest : Type 0 where
  pub offset : ℕ
  pub count : ℕ
  pub ticket : ℕ
  pub moment : ℕ

abbrev pub is_unstable : Stable → Bool
is_unstable Unstable = true
is_unstable _ = false

-- equal lists of numbers
abbrev pub same_bytes : List ℕ → List ℕ → Bool
same_bytes xs ys = bytes_eq xs ys

-- the joined hull; an empty range changes nothing
abbrev pub joined_hull : Option Hull → ℕ → ℕ → Option Hull
joined_hull None low high = if nat_lt low high then Some (record { low = low; high = high }) else None
joined_hull (Some h) low high = if nat_lt low high then Some (record { low = min h.low low; high = max h.high high }) else Some h

-- forgotten where reach has come to its end
abbrev pub hull_after : Option Hull → ℕ → Option Hull
hull_after None reach = None
hull_after (Some h) reach = if nat_le h.high reach then None else Some h

-- jobs are sent, in order, as long as fewer than so many are in the line, up to a spilled one
pub record JobLists : Type 0 where
  pub line : List Job
  pub ready : List Job

abbrev pub sent_lists : ℕ → List Job → List Job → JobLists
sent_lists slots line [] = record { line = line; ready = [] }
sent_lists slots line (j ∷ js) =
    if nat_lt (length line) slots && not (is_spilled j)
    then sent_lists slots (line ++ j ∷ []) js
    else record { line = line; ready = j ∷ js }

abbrev pub with_lists : JobLists → AdmissionState → AdmissionState
with_lists l h = record h { line = l.line; ready = l.ready }

unfoldable pub with_ready_sent : Limits → AdmissionState → AdmissionState
with_ready_sent limits h = with_lists (sent_lists limits.line_slots h.line h.ready) h

-- the file was used, and its ready jobs are sent
unfoldable pub with_use : Limits → ℕ → AdmissionState → AdmissionState
with_use limits moment h = with_ready_sent limits (record h { used = moment })

abbrev pub with_jobs : List Job → AdmissionState → AdmissionState
with_jobs js h = record h { ready = h.ready ++ js }

abbrev pub with_held : File → AdmissionState → File
with_held f h = record f { held = h }

abbrev pub file_with_use : Limits → ℕ → File → File
file_with_use limits moment f = with_held f (with_use limits moment f.held)

abbrev pub job : Task → Option ℕ → Job
job task ticket = record { task = task; ticket = ticket }

-- the jobs that requests become
abbrev pub compare_for : WriteRequest → Job
compare_for q = job (Compare q.offset q.bytes q.level) (Some q.ticket)

abbrev pub settle_for : CommitRequest → Job
settle_for q = job Settle (Some q.ticket)

abbrev pub fetch_for : ReadRequest → Job
fetch_for q = job (Fetch q.offset (min q.count max_transfer)) (Some q.ticket)

-- one more COMMIT waits
abbrev pub with_waiting : ℕ → ℕ → AdmissionState → AdmissionState
with_waiting goal ticket h = record h { waiting = h.waiting ++ record { goal = goal; ticket = ticket } ∷ [] }

abbrev pub put_of : Piece → Job
put_of p = job (Put p.number p.start p.bytes p.asked p.stable p.place) p.ticket

-- the Puts of the writes that hang no more or never hung, in order
abbrev pub new_puts : List ℕ → List Accepted → List Accepted → List Job
new_puts base before after = map put_of (drop (length (pieces base before)) (pieces base after))

abbrev pub settle_of : Waiting → Job
settle_of c = job Settle (Some c.ticket)

-- the Settles of the COMMITs whose goal is reached, in queue order, and the COMMITs that go on waiting
abbrev pub settles_at : ℕ → List Waiting → List Job
settles_at n [] = []
settles_at n (c ∷ cs) = if nat_le c.goal n then settle_of c ∷ settles_at n cs else settles_at n cs

abbrev pub waiting_above : ℕ → List Waiting → List Waiting
waiting_above n [] = []
waiting_above n (c ∷ cs) = if nat_le c.goal n then waiting_above n cs else c ∷ waiting_above n cs

-- reach grows from one length to another: Puts are issued, and then the Settles of the COMMITs whose goal is reached
abbrev pub with_growth : ℕ → ℕ → List Job → AdmissionState → AdmissionState
with_growth from to puts h = record h {
  ready = h.ready ++ puts ++ settles_at to h.waiting;
  waiting = waiting_above to h.waiting;
  hull = if nat_lt from to then hull_after h.hull to else h.hull;
}

-- the accepted writes grow by one
unfoldable pub with_accepted : ℕ → File → Accepted → File
with_accepted moment f w =
    let after = f.accepted ++ w ∷ [] in
    let puts = new_puts f.base f.accepted after in record f {
      accepted = after;
      held = record (with_growth (reach_of f) (reach f.base after) puts f.held) { changed = Some moment };
    }

-- the same on what the admission side sees: the write goes among the pending ones, and a walk from reach takes those in front
unfoldable pub side_with_accepted : ℕ → Side → Accepted → Side
side_with_accepted moment s w =
    let all = with_write w s.seen.pending in
    let to = reach_past s.seen.reach all in record {
      seen = record {
        reach = to;
        top = max s.seen.top (end_of w);
        pending = writes_beyond s.seen.reach all;
        entries = s.seen.entries ++ entry_of [] w ∷ [];
      };
      held = record (with_growth s.seen.reach to (map put_of (walk s.seen.reach all)) s.held) { changed = Some moment };
    }

-- What a WRITE meets in an open file.
pub data WriteJudgement : Type 0 where
  -- the file is stale
  Barred : WriteJudgement
  Busy : WriteJudgement
  Compared : WriteJudgement
  -- an entry that hangs has this offset and count
  Again : (entry : Accepted) → WriteJudgement
  Taken : WriteJudgement

abbrev pub same_range : ℕ → ℕ → List Accepted → Option Accepted
same_range offset count [] = None
same_range offset count (w ∷ ws) = if (w.offset == offset) && (length w.bytes == count) then Some w else same_range offset count ws

-- no entry has the range
abbrev pub new_write_judgement : Limits → Side → WriteRequest → Option Accepted → WriteJudgement
new_write_judgement limits s q (Some entry) = Again entry
new_write_judgement limits s q None =
    let above = nat_lt s.seen.reach q.offset in
    let weight = base_weight + length q.bytes in
    let in_last_part = nat_le (limits.history - limits.history / 16) (length s.seen.entries) in
    if nat_le limits.history (length s.seen.entries) then Busy
    else if above && (nat_le limits.pending_max (length s.seen.pending) || in_last_part) then Busy
    else if above && nat_lt limits.memory_cap (memory_weight s.seen.pending + weight) then Busy
    else if not above && nat_lt limits.ready_cap (ready_weight s.held.ready + weight) then Busy
    else Taken

unfoldable pub write_judgement : Limits → Side → WriteRequest → WriteJudgement
write_judgement limits s q =
    if is_stale s.held.phase then Barred
    else if nat_le (q.offset + length q.bytes) s.seen.reach
    then (if nat_lt limits.ready_cap (ready_weight s.held.ready + (base_weight + length q.bytes)) then Busy else Compared)
    else new_write_judgement limits s q (same_range q.offset (length q.bytes) s.seen.pending)

abbrev pub answer_step : File → ℕ → Body → Outcomes → Step
answer_step f ticket body t = record { file = f; answers = record { ticket = ticket; body = body } ∷ []; ahead = t; uses = true }

abbrev pub silent_step : File → Outcomes → Step
silent_step f t = record { file = f; answers = []; ahead = t; uses = true }

-- the file wasn't used
abbrev pub without_use : Step → Step
without_use s = record s { uses = false }

-- no memory: nothing changes
abbrev pub no_memory_step : File → ℕ → Outcomes → Step
no_memory_step f ticket t = without_use (answer_step f ticket SystemErr (past_refusal t))

-- an entry takes the ticket and the stability
abbrev pub with_ticket_of : ℕ → Stable → ℕ → Accepted → Accepted
with_ticket_of n level ticket w = if w.number == n then record w { stable = level; ticket = Some ticket } else w

abbrev pub writes_with_ticket : ℕ → Stable → ℕ → List Accepted → List Accepted
writes_with_ticket n level ticket ws = map (with_ticket_of n level ticket) ws

-- How an entry's repeat is met.
pub data Repeat : Type 0 where
  Differs : Repeat
  Unanswered : Repeat
  Answered : Repeat
  Takes : Repeat

abbrev pub repeat_of : WriteRequest → Accepted → Repeat
repeat_of q entry =
    if not (same_bytes entry.bytes q.bytes) then Differs
    else if is_some entry.ticket then Unanswered
    else if is_unstable q.level then Answered
    else Takes

-- the entry's bytes are known
abbrev pub repeat_step_by : Repeat → Limits → File → WriteRequest → Accepted → Outcomes → Step
repeat_step_by Differs limits f q entry t = answer_step (file_with_use limits q.moment f) q.ticket (NotWritten inval) t
repeat_step_by Unanswered limits f q entry t = answer_step (file_with_use limits q.moment f) q.ticket Silence t
repeat_step_by Answered limits f q entry t = answer_step (file_with_use limits q.moment f) q.ticket (Wrote (length q.bytes) q.level) t
repeat_step_by Takes limits f q entry t =
    let taken = record f { accepted = writes_with_ticket entry.number q.level q.ticket f.accepted } in
    silent_step (file_with_use limits q.moment taken) t

abbrev pub repeat_step : Limits → File → WriteRequest → Accepted → Outcomes → Step
repeat_step limits f q entry t = repeat_step_by (repeat_of q entry) limits f q entry t

abbrev pub repeat_step_if : Bool → Limits → File → WriteRequest → Accepted → Outcomes → Step
repeat_step_if true limits f q entry t = no_memory_step f q.ticket t
repeat_step_if false limits f q entry t = repeat_step limits f q entry t

-- by what the read did, and whether memory is refused then
abbrev pub repeat_step_read : CallResult → Bool → Limits → File → WriteRequest → Accepted → Outcomes → Step
repeat_step_read (Bad kept) refusal limits f q entry t = answer_step (file_with_use limits q.moment f) q.ticket (NotWritten io) t
repeat_step_read Good refusal limits f q entry t = repeat_step_if refusal limits f q entry t

-- by whether the entry is on the device
abbrev pub repeat_step_at : Bool → Limits → File → WriteRequest → Accepted → Outcomes → Step
repeat_step_at true limits f q entry t = let c = next_call t in repeat_step_read c.called (is_refused c.ahead) limits f q entry c.ahead
repeat_step_at false limits f q entry t = repeat_step limits f q entry t

-- whether the request is answered when it is accepted
abbrev pub is_early : ℕ → WriteRequest → Bool
is_early n q = nat_lt n q.offset && is_unstable q.level

-- the write that a request becomes, from its number and reach
abbrev pub write_from : ℕ → ℕ → WriteRequest → Accepted
write_from number n q = kept_write n (record {
  number = number;
  offset = q.offset;
  bytes = q.bytes;
  asked = length q.bytes;
  stable = q.level;
  ticket = if is_early n q then None else Some q.ticket;
  place = None;
  let_go = false;
})

abbrev pub early_answers : Bool → WriteRequest → List Answer
early_answers true q = record { ticket = q.ticket; body = Wrote (length q.bytes) q.level } ∷ []
early_answers false q = []

abbrev pub accept_step : Limits → File → WriteRequest → Outcomes → Step
accept_step limits f q t =
    let g = with_accepted q.moment f (write_from (length f.accepted + 1) (reach_of f) q) in
    record { file = file_with_use limits q.moment g; answers = early_answers (is_early (reach_of f) q) q; ahead = t; uses = true }

abbrev pub write_step_by : WriteJudgement → Limits → File → WriteRequest → Outcomes → Step
write_step_by Barred limits f q t = without_use (answer_step f q.ticket (NotWritten io) t)
write_step_by Busy limits f q t = answer_step (file_with_use limits q.moment f) q.ticket (NotWritten jukebox) t
write_step_by Compared limits f q t = silent_step (with_held f (with_use limits q.moment (with_jobs (compare_for q ∷ []) f.held))) t
write_step_by (Again entry) limits f q t = repeat_step_at (is_some entry.place) limits f q entry t
write_step_by Taken limits f q t = accept_step limits f q t

-- by whether memory is refused
abbrev pub write_step_if : Bool → Limits → File → WriteRequest → Outcomes → Step
write_step_if true limits f q t = no_memory_step f q.ticket t
write_step_if false limits f q t = write_step_by (write_judgement limits (side_of f) q) limits f q t

-- A WRITE (RFC 1813 section 3.3.7) of an open file, of 1 to 1,048,576 bytes and with an end below 2 ^ 63.
unfoldable pub write_step : Limits → File → WriteRequest → Outcomes → Step
write_step limits f q t = write_step_if (is_refused t) limits f q t

-- the limit of a COMMIT: its end, or the greatest end where its count is 0
abbrev pub limit_of : ℕ → ℕ → ℕ
limit_of offset count = if count == 0 then end_limit - 1 else min (offset + count) (end_limit - 1)

-- the greatest end below the limit, of the entries that begin below it
abbrev pub goal_of : ℕ → List Accepted → ℕ
goal_of limit [] = 0
goal_of limit (w ∷ ws) = if nat_lt w.offset limit then max (min (end_of w) limit) (goal_of limit ws) else goal_of limit ws

-- What a COMMIT meets.
pub data CommitJudgement : Type 0 where
  CommitBarred : CommitJudgement
  CommitBusy : CommitJudgement
  Waits : (goal : ℕ) → CommitJudgement
  Settles : CommitJudgement

-- the hull has a part below the limit that isn't below n
abbrev pub hull_bars : Option Hull → ℕ → ℕ → Bool
hull_bars None limit n = false
hull_bars (Some h) limit n = nat_lt h.low limit && nat_lt n h.high

unfoldable pub commit_judgement : Limits → Side → ℕ → CommitJudgement
commit_judgement limits s limit =
    if is_stale s.held.phase || hull_bars s.held.hull limit s.seen.reach then CommitBarred
    else if nat_le limits.commits (length s.held.waiting + settle_count s.held.ready) then CommitBusy
    else if nat_le (goal_of limit s.seen.pending) s.seen.reach then Settles
    else Waits (goal_of limit s.seen.pending)

abbrev pub commit_step_by : CommitJudgement → Limits → File → CommitRequest → Outcomes → Step
commit_step_by CommitBarred limits f q t = without_use (answer_step f q.ticket (NotCommitted io) t)
commit_step_by CommitBusy limits f q t = answer_step (file_with_use limits q.moment f) q.ticket (NotCommitted jukebox) t
commit_step_by (Waits goal) limits f q t = silent_step (with_held f (with_use limits q.moment (with_waiting goal q.ticket f.held))) t
commit_step_by Settles limits f q t = silent_step (with_held f (with_use limits q.moment (with_jobs (settle_for q ∷ []) f.held))) t

abbrev pub commit_step_if : Bool → Limits → File → CommitRequest → Outcomes → Step
commit_step_if true limits f q t = no_memory_step f q.ticket t
commit_step_if false limits f q t = commit_step_by (commit_judgement limits (side_of f) q.limit) limits f q t

-- A COMMIT (RFC 1813 section 3.3.21) of an open file.
unfoldable pub commit_step : Limits → File → CommitRequest → Outcomes → Step
commit_step limits f q t = commit_step_if (is_refused t) limits f q t

-- by whether memory is refused, and whether the ready list has no room
abbrev pub read_step_if : Bool → Bool → Limits → File → ReadRequest → Outcomes → Step
read_step_if true busy limits f q t = no_memory_step f q.ticket t
read_step_if false true limits f q t = answer_step (file_with_use limits q.moment f) q.ticket (NotGiven jukebox) t
read_step_if false false limits f q t = silent_step (with_held f (with_use limits q.moment (with_jobs (fetch_for q ∷ []) f.held))) t

-- A READ (RFC 1813 section 3.3.6) of an open file.
unfoldable pub read_step : Limits → File → ReadRequest → Outcomes → Step
read_step limits f q t = read_step_if (is_refused t) (nat_lt limits.ready_cap (ready_weight f.held.ready + base_weight)) limits f q t

-- giving up

-- what a job that is given up is answered with a status
abbrev pub refusal : Task → ℕ → Body
refusal (Put number start bytes asked level place) status = NotWritten status
refusal (Compare offset bytes level) status = NotWritten status
refusal (Fetch offset count) status = NotGiven status
refusal Settle status = NotCommitted status

abbrev pub answer_if : Option ℕ → Body → List Answer
answer_if None body = []
answer_if (Some ticket) body = record { ticket = ticket; body = body } ∷ []

abbrev pub entry_refusals : ℕ → List Accepted → List Answer
entry_refusals status ws = flat_map (λ w. answer_if w.ticket (NotWritten status)) ws

abbrev pub waiting_refusals : ℕ → List Waiting → List Answer
waiting_refusals status cs = map (λ c. record { ticket = c.ticket; body = NotCommitted status }) cs

abbrev pub job_refusals : ℕ → List Job → List Answer
job_refusals status js = flat_map (λ j. answer_if j.ticket (refusal j.task status)) js

abbrev pub with_pending_let_go : File → File
with_pending_let_go f = record f { accepted = with_let_go_above (reach_of f) f.accepted; held = record f.held { waiting = [] } }

abbrev pub struck_jobs : List Job → List Job
struck_jobs js = filter (λ j. not (is_fetch j)) js

-- the ready jobs but for each Fetch are struck
unfoldable pub stale_step : Cause → File → Outcomes → Step
stale_step cause f t = record {
  file = record (with_pending_let_go f) {
    struck = f.struck ++ struck_jobs f.held.ready;
    held = record f.held { waiting = []; ready = filter is_fetch f.held.ready; phase = Stale cause };
  };
  answers = entry_refusals io (pending_writes f) ++ waiting_refusals io f.held.waiting ++ job_refusals io (struck_jobs f.held.ready);
  ahead = t;
  uses = true;
}

abbrev pub with_hull_to_top : ℕ → File → File
with_hull_to_top low f = with_held f (record f.held { hull = joined_hull f.held.hull low (top_of f.base f.accepted) })

-- news of the writer is heard: where it failed and the file isn't stale yet, the file turns stale
abbrev pub hearing_step_in : Option Failure → Phase → File → Outcomes → Step
hearing_step_in (Some e) Live f t = stale_step (Append e.stored e.kept) (with_hull_to_top e.stored f) t
hearing_step_in _ _ f t = silent_step f t

unfoldable pub hearing_step : Option Failure → File → Outcomes → Step
hearing_step news f t = hearing_step_in news f.held.phase f t

-- what stands in front of the ready list
pub data PumpFront : Type 0 where
  Full : PumpFront
  Plain : PumpFront
  -- a spilled Put, with its number and where its bytes begin
  Loads : (number start : ℕ) → PumpFront

abbrev pub task_front : Task → PumpFront
task_front (Put number start (b ∷ bytes) asked level (Some place)) = Loads number start
task_front _ = Plain

abbrev pub pump_front : ℕ → List Job → Job → PumpFront
pump_front slots line j = if nat_le slots (length line) then Full else task_front j.task

-- How far a pump goes, and whether a load failed there.
pub data PumpStop : Type 0 where
  Rests : PumpStop
  Breaks : (number start : ℕ) → PumpStop

pub record PumpWalk : Type 0 where
  pub lists : JobLists
  pub ahead : Outcomes
  pub stop : PumpStop

abbrev pub pump_rest : List Job → List Job → Outcomes → PumpWalk
pump_rest line ready t = record { lists = record { line = line; ready = ready }; ahead = t; stop = Rests }

-- a load that was read, by whether memory is refused then
abbrev pub load_kept : Bool → List Job → List Job → Outcomes → (Outcomes → PumpWalk) → PumpWalk
load_kept true line ready t go = pump_rest line ready (past_refusal t)
load_kept false line ready t go = go t

abbrev pub load_done : CallResult → ℕ → ℕ → List Job → List Job → Outcomes → (Outcomes → PumpWalk) → PumpWalk
load_done Good number start line ready t go = load_kept (is_refused t) line ready t go
load_done (Bad kept) number start line ready t go = record (pump_rest line ready t) { stop = Breaks number start }

-- a load, by whether memory is refused before it
abbrev pub load_step : Bool → ℕ → ℕ → List Job → List Job → Outcomes → (Outcomes → PumpWalk) → PumpWalk
load_step true number start line ready t go = pump_rest line ready (past_refusal t)
load_step false number start line ready t go = load_done (next_call t).called number start line ready (next_call t).ahead go

abbrev pub pump_one : PumpFront → List Job → List Job → Outcomes → (Outcomes → PumpWalk) → PumpWalk
pump_one Full line ready t go = pump_rest line ready t
pump_one Plain line ready t go = go t
pump_one (Loads number start) line ready t go = load_step (is_refused t) number start line ready t go

abbrev pub task_in_line : Task → Task
task_in_line (Put number start bytes asked level place) = Put number start bytes asked level None
task_in_line (Compare offset bytes level) = Compare offset bytes level
task_in_line (Fetch offset count) = Fetch offset count
task_in_line Settle = Settle

-- the job as it stands in the line: a Put's bytes were loaded, and it has no place
abbrev pub job_in_line : Job → Job
job_in_line j = record j { task = task_in_line j.task }

abbrev pub pump_lists : ℕ → List Job → List Job → Outcomes → PumpWalk
pump_lists slots line [] t = pump_rest line [] t
pump_lists slots line (j ∷ js) t =
    pump_one (pump_front slots line j) line (j ∷ js) t (λ u. pump_lists slots (line ++ job_in_line j ∷ []) js u)

abbrev pub with_fetches_sent : Limits → Step → Step
with_fetches_sent limits s = record s { file = with_held s.file (with_ready_sent limits s.file.held) }

abbrev pub pump_end : PumpStop → Limits → File → Outcomes → Step
pump_end Rests limits f t = silent_step f t
pump_end (Breaks number start) limits f t = with_fetches_sent limits (stale_step (Spill number) (with_hull_to_top start f) t)

abbrev pub pump_result : PumpWalk → Limits → File → Step
pump_result p limits f = pump_end p.stop limits (with_held f (with_lists p.lists f.held)) p.ahead

abbrev pub with_answers_before : List Answer → Step → Step
with_answers_before answers s = record s { answers = answers ++ s.answers }

-- a pump with news of the writer, and one that asks the writer
unfoldable pub pump_step_with : Limits → Option Failure → File → Outcomes → Step
pump_step_with limits news f t =
    let h = hearing_step news f t in
    let p = pump_lists limits.line_slots h.file.held.line h.file.held.ready h.ahead in
    with_answers_before h.answers (pump_result p limits h.file)

unfoldable pub pump_step : Limits → File → Outcomes → Step
pump_step limits f t = pump_step_with limits f.writer.failed f t

-- the spill step

-- the extents that hold bytes: those of entries that hang and those of ready Puts
abbrev extent_at : Option ℕ → ℕ → List (ℕ × ℕ)
extent_at None count = []
extent_at (Some start) count = (start, count) ∷ []

abbrev job_extent : Task → List (ℕ × ℕ)
job_extent (Put number start bytes asked level place) = extent_at place asked
job_extent _ = []

abbrev pub extents : Side → List (ℕ × ℕ)
extents s = flat_map (λ w. extent_at w.place w.asked) s.seen.pending ++ flat_map (λ j. job_extent j.task) s.held.ready

-- extents lie behind one another: a new one begins where the last one ended that was placed since the region was last empty
abbrev pub place_for : Limits → Side → ℕ → Option ℕ
place_for limits s len =
    let start = if is_empty (extents s) then 0 else s.held.placed in
    if nat_le (start + len) limits.spill_size then Some start else None

abbrev pub last_in : List Accepted → Option Accepted
last_in [] = None
last_in (w ∷ ws) = elim (last_in ws) [ None ↦ (if is_none w.place then Some w else None) | Some x ↦ Some x ]

abbrev pub with_place : ℕ → Accepted → Accepted
with_place start w = record w { place = Some start }

abbrev pub with_place_of : ℕ → ℕ → Accepted → Accepted
with_place_of n start w = if w.number == n then with_place start w else w

abbrev pub writes_with_place : ℕ → ℕ → List Accepted → List Accepted
writes_with_place n start ws = map (with_place_of n start) ws

abbrev pub with_placed_end : ℕ → File → File
with_placed_end n f = with_held f (record f.held { placed = n })

-- a write to the device, by what it did and whether memory is refused then
abbrev pub spill_call_step : CallResult → Bool → Accepted → ℕ → File → Outcomes → Step
spill_call_step (Bad n) refusal_comes w start f t = silent_step (with_placed_end (start + length w.bytes) f) t
spill_call_step Good true w start f t = silent_step (with_placed_end (start + length w.bytes) f) (past_refusal t)
spill_call_step Good false w start f t =
    let placed = with_placed_end (start + length w.bytes) f in
    silent_step (record placed { accepted = writes_with_place w.number start f.accepted }) t

-- What a spill step does: nothing, or it moves an entry.
pub data SpillJudgement : Type 0 where
  Leaves : SpillJudgement
  Moves : (entry : Accepted) (start : ℕ) → SpillJudgement

abbrev pub spill_place_judgement : Accepted → Option ℕ → SpillJudgement
spill_place_judgement w None = Leaves
spill_place_judgement w (Some start) = Moves w start

abbrev pub spill_entry_judgement : Limits → Side → Option Accepted → SpillJudgement
spill_entry_judgement limits s None = Leaves
spill_entry_judgement limits s (Some w) = spill_place_judgement w (place_for limits s (length w.bytes))

unfoldable pub spill_judgement : Limits → Side → SpillJudgement
spill_judgement limits s =
    if nat_le (memory_weight s.seen.pending) limits.memory_mark
    then Leaves
    else spill_entry_judgement limits s (last_in s.seen.pending)

abbrev pub spill_step_by : SpillJudgement → File → Outcomes → Step
spill_step_by Leaves f t = silent_step f t
spill_step_by (Moves w start) f t = spill_call_step (next_call t).called (is_refused (next_call t).ahead) w start f (next_call t).ahead

-- by whether memory is refused
abbrev pub spill_step_if : Bool → Limits → File → Outcomes → Step
spill_step_if true limits f t = silent_step f (past_refusal t)
spill_step_if false limits f t = spill_step_by (spill_judgement limits (side_of f)) f t

-- A spill step: the last entry in memory goes to the device where the memory weight is above the mark.
unfoldable pub spill_step : Limits → File → Outcomes → Step
spill_step limits f t = spill_step_if (is_refused t) limits f t
