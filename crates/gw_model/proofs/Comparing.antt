-- Each event keeps that a comparison reads below where the Puts before it end.
use Rattle.std.proofs.Common.{◌≡◌, ℕ, ◌+◌, ◌<◌, ◌≤◌, ◌⊎◌, Bool, true, false, not, List, [], ◌∷◌, ◌++◌, map, length, drop, Option, None, Some, is_some, nat_le, nat_lt, refl, sym, ◌∙◌, ap, subst, inl, inr, append_assoc, append-nil, length-append, arith}
use Rattle.std.specs.Prelude.{◌-◌, ◌/◌, ◌^◌, min, ◌&&◌, ◌||◌, if◌then◌else◌}
use Rattle.std.specs.List.{filter}
use Rattle.std.proofs.lemmas.Bool.Decides.{leb_tells}
use Rattle.std.proofs.lemmas.Grind.{flat_map-append}
use Rattle.gw_model.specs.Bounds.{max_waiting}
use Rattle.gw_model.specs.declared.limits.Limits.{Limits}
use Rattle.gw_model.specs.Order.{Accepted, Piece, pieces, joined_bytes, reach}
use Rattle.gw_model.specs.Ahead.{Outcomes, CallResult, Good, Bad, next_call, is_refused}
use Rattle.gw_model.specs.File.{Task, Put, Compare, Fetch, Settle, Job, Waiting, File, Side, Failure, Phase, Live, Stale, Append, Spill, Cause, side_of, reach_of, is_stale, is_fetch, ready_weight, memory_weight}
use Rattle.gw_model.specs.Admission.{job_in_line, JobLists, with_lists, with_held, sent_lists, with_ready_sent, with_use, with_jobs, job, put_of, new_puts, settle_of, settles_at, with_accepted, same_range, WriteRequest, CommitRequest, ReadRequest, WriteJudgement, Barred, Busy, Compared, Again, Taken, new_write_judgement, write_judgement, Repeat, Differs, Unanswered, Answered, Takes, repeat_of, writes_with_ticket, repeat_step_by, repeat_step_if, repeat_step_read, repeat_step_at, write_from, write_step, write_step_if, write_step_by, CommitJudgement, CommitBarred, CommitBusy, Waits, Settles, commit_judgement, commit_step, commit_step_if, commit_step_by, read_step, read_step_if, SpillJudgement, Leaves, Moves, spill_judgement, spill_step, spill_step_if, spill_step_by, spill_call_step, stale_step, hearing_step, hearing_step_in, with_hull_to_top, PumpStop, Rests, Breaks, pump_lists, pump_end, pump_step_with}
use Rattle.gw_model.specs.Writer.{turn_step, turn_step_in, turn_step_if}
use Rattle.gw_model.specs.Sound.{piece_of, pieces_of, issued_jobs, IsIssued, AreBelow}
use Rattle.gw_model.proofs.Storing.{joined_plain}
use Rattle.gw_model.proofs.Keeping.{Moved, send_moves, pump_moves}

-- lists of jobs

added_by : (j : Job) (js : List Job) → length (joined_bytes (pieces_of (j ∷ js))) ≡ length (joined_bytes (piece_of j.task)) + length (joined_bytes (pieces_of js))
added_by j js = ap length (flat_map-append (λ p. p.bytes) (piece_of j.task) (pieces_of js)) ∙ length-append (joined_bytes (piece_of j.task)) (joined_bytes (pieces_of js))

-- where the Puts of a longer list end
ends_after : (n : ℕ) (j : Job) (js : List Job) → n + length (joined_bytes (pieces_of (j ∷ js))) ≡ n + length (joined_bytes (piece_of j.task)) + length (joined_bytes (pieces_of js))
ends_after n j js = let sum = added_by j js in omega (arith, sum)

pub below_append : (n : ℕ) (xs ys : List Job) → AreBelow n xs → AreBelow (n + length (joined_bytes (pieces_of xs))) ys → AreBelow n (xs ++ ys)
below_append n [] ys h k = subst (λ m. AreBelow m ys) (omega arith) k
below_append n (x ∷ xs) ys h k = (h.0, below_append (n + length (joined_bytes (piece_of x.task))) xs ys h.1 (subst (λ m. AreBelow m ys) (ends_after n x xs) k))

pub below_front : (n : ℕ) (xs ys : List Job) → AreBelow n (xs ++ ys) → AreBelow n xs
below_front n [] ys h = tt
below_front n (x ∷ xs) ys h = (h.0, below_front (n + length (joined_bytes (piece_of x.task))) xs ys h.1)

pub below_rest : (n : ℕ) (xs ys : List Job) → AreBelow n (xs ++ ys) → AreBelow (n + length (joined_bytes (pieces_of xs))) ys
below_rest n [] ys h = subst (λ m. AreBelow m ys) (omega arith) h
below_rest n (x ∷ xs) ys h = subst (λ m. AreBelow m ys) (sym (ends_after n x xs)) (below_rest (n + length (joined_bytes (piece_of x.task))) xs ys h.1)

-- jobs without a comparison

puts_below : (n : ℕ) (ps : List Piece) → AreBelow n (map put_of ps)
puts_below n [] = tt
puts_below n (p ∷ ps) = (tt, puts_below (n + length (p.bytes ++ [])) ps)

settles_below : (n to : ℕ) (cs : List Waiting) → AreBelow n (settles_at to cs)
settles_below n to [] = tt
settles_below n to (c ∷ cs) = elim (nat_le c.goal to) as (λ b. AreBelow n (if b then settle_of c ∷ settles_at to cs else settles_at to cs)) [
  | true ↦ (tt, settles_below (n + 0) to cs)
  | false ↦ settles_below n to cs
]

fetches_below : (n : ℕ) (js : List Job) → AreBelow n (filter is_fetch js)
fetches_below n [] = tt
fetches_below n (j ∷ js) = go j.task (λ m. fetches_below m js)
  where
    go : (task : Task) → ((m : ℕ) → AreBelow m (filter is_fetch js)) → AreBelow n (filter is_fetch (record j { task = task } ∷ js))
    go (Put number start bytes asked level place) rest = rest n
    go (Compare offset bytes level) rest = rest n
    go (Fetch offset count) rest = (tt, rest (n + 0))
    go Settle rest = rest n

-- a job in the line reads what it did before

map_below : (n : ℕ) (js : List Job) → AreBelow n js → AreBelow n (map job_in_line js)
map_below n [] h = tt
map_below n (j ∷ js) h = go j.task h (λ m. map_below m js)
  where
    go : (task : Task) → AreBelow n (record j { task = task } ∷ js) → ((m : ℕ) → AreBelow m js → AreBelow m (map job_in_line js)) → AreBelow n (job_in_line (record j { task = task }) ∷ map job_in_line js)
    go (Put number start bytes asked level place) h rest = (h.0, rest _ h.1)
    go (Compare offset bytes level) h rest = (h.0, rest _ h.1)
    go (Fetch offset count) h rest = (h.0, rest _ h.1)
    go Settle h rest = (h.0, rest _ h.1)

unmap_below : (n : ℕ) (js : List Job) → AreBelow n (map job_in_line js) → AreBelow n js
unmap_below n [] h = tt
unmap_below n (j ∷ js) h = go j.task h (λ m. unmap_below m js)
  where
    go : (task : Task) → AreBelow n (job_in_line (record j { task = task }) ∷ map job_in_line js) → ((m : ℕ) → AreBelow m (map job_in_line js) → AreBelow m js) → AreBelow n (record j { task = task } ∷ js)
    go (Put number start bytes asked level place) h rest = (h.0, rest _ h.1)
    go (Compare offset bytes level) h rest = (h.0, rest _ h.1)
    go (Fetch offset count) h rest = (h.0, rest _ h.1)
    go Settle h rest = (h.0, rest _ h.1)

-- files

-- the comparisons of the jobs that were issued and not given up
abbrev pub Compares : File → Type 0
Compares f = AreBelow (length f.base) (f.done ++ (f.held.line ++ f.held.ready))

moved_compares : (l : JobLists) (f : File) → Moved f.held.line f.held.ready l → Compares f → Compares (with_held f (with_lists l f.held))
unfolding Moved
moved_compares l f moved is =
    let n = length f.base in
    let sent = map_below _ (f.held.line ++ f.held.ready) (below_rest n f.done (f.held.line ++ f.held.ready) is) in
    below_append n f.done (l.line ++ l.ready) (below_front n f.done (f.held.line ++ f.held.ready) is) (unmap_below _ (l.line ++ l.ready) (subst (λ js. AreBelow (n + length (joined_bytes (pieces_of f.done))) js) (sym moved.0) sent))

sent_compares : (limits : Limits) (f : File) → Compares f → Compares (with_held f (with_ready_sent limits f.held))
unfolding with_ready_sent
sent_compares limits f is = moved_compares (sent_lists limits.line_slots f.held.line f.held.ready) f (send_moves limits.line_slots f.held.line f.held.ready) is

used_compares : (limits : Limits) (moment : ℕ) (f : File) → Compares f → Compares (with_held f (with_use limits moment f.held))
unfolding with_use
used_compares limits moment f is = sent_compares limits (with_held f (record f.held { used = moment })) is

-- more jobs behind the ready ones
behind : (f : File) (js : List Job) → Compares f → AreBelow (length f.base + length (joined_bytes (pieces_of (f.done ++ (f.held.line ++ f.held.ready))))) js → AreBelow (length f.base) (f.done ++ (f.held.line ++ (f.held.ready ++ js)))
behind f js is more =
    let shut : (f.done ++ (f.held.line ++ f.held.ready)) ++ js ≡ f.done ++ (f.held.line ++ (f.held.ready ++ js)) = append_assoc f.done (f.held.line ++ f.held.ready) js ∙ ap (λ xs. f.done ++ xs) (append_assoc f.held.line f.held.ready js) in
    subst (AreBelow (length f.base)) shut (below_append (length f.base) (f.done ++ (f.held.line ++ f.held.ready)) js is more)

-- Turning stale keeps it.
pub stale_compares : (cause : Cause) (f : File) (t : Outcomes) → Compares f → Compares (stale_step cause f t).file
unfolding stale_step
stale_compares cause f t is =
    let front = f.done ++ f.held.line in
    let sent : AreBelow (length f.base) front = below_front (length f.base) front f.held.ready (subst (AreBelow (length f.base)) (sym (append_assoc f.done f.held.line f.held.ready)) is) in
    subst (AreBelow (length f.base)) (append_assoc f.done f.held.line (filter is_fetch f.held.ready)) (below_append (length f.base) front (filter is_fetch f.held.ready) sent (fetches_below _ f.held.ready))

-- a WRITE

-- where the Puts issued end, before a file is stale
reach_is : (f : File) → IsIssued f → f.struck ≡ [] → reach_of f ≡ length f.base + length (joined_bytes (pieces_of (f.done ++ (f.held.line ++ f.held.ready))))
reach_is f is none =
    let all : issued_jobs f ≡ f.done ++ (f.held.line ++ f.held.ready) = ap (λ js. f.done ++ (f.held.line ++ (f.held.ready ++ js))) none ∙ ap (λ js. f.done ++ (f.held.line ++ js)) (append-nil f.held.ready) in
    let bytes : length (joined_bytes (pieces f.base f.accepted)) ≡ length (joined_bytes (pieces_of (f.done ++ (f.held.line ++ f.held.ready))))
    = ap length (sym (joined_plain (pieces f.base f.accepted)) ∙ ap joined_bytes (sym is.order ∙ ap pieces_of all)) in
    let len = length-append f.base (joined_bytes (pieces f.base f.accepted)) in
    omega (arith, bytes, len)

-- a comparison is issued by a file that isn't stale, of a range below reach
Fits : Side → WriteRequest → WriteJudgement → Type 0
Fits s q Barred = Unit {0}
Fits s q Busy = Unit {0}
Fits s q Compared = (is_stale s.held.phase ≡ false) × (q.offset + length q.bytes ≤ s.seen.reach)
Fits s q (Again entry) = Unit {0}
Fits s q Taken = Unit {0}

taken_fits : (s : Side) (q : WriteRequest) → Fits s q Taken
unfolding Fits
taken_fits s q = tt

again_fits : (s : Side) (q : WriteRequest) (entry : Accepted) → Fits s q (Again entry)
unfolding Fits
again_fits s q entry = tt

busy_if : (s : Side) (q : WriteRequest) (b : Bool) (v : WriteJudgement) → Fits s q v → Fits s q (if b then Busy else v)
unfolding Fits
busy_if s q true v fits = tt
busy_if s q false v fits = fits

new_fits : (limits : Limits) (s : Side) (q : WriteRequest) (found : Option Accepted) → Fits s q (new_write_judgement limits s q found)
new_fits limits s q (Some entry) = again_fits s q entry
new_fits limits s q None =
    let above = nat_lt s.seen.reach q.offset in
    let weight = 1024 + length q.bytes in
    let full = nat_le limits.history (length s.seen.entries) in
    let no_room = above && (nat_le limits.pending_max (length s.seen.pending) || nat_le (limits.history - limits.history / 16) (length s.seen.entries)) in
    let heavy = above && nat_lt limits.memory_cap (memory_weight s.seen.pending + weight) in
    let unsent = not above && nat_lt limits.ready_cap (ready_weight s.held.ready + weight) in
    busy_if s q full _ (busy_if s q no_room _ (busy_if s q heavy _ (busy_if s q unsent _ (taken_fits s q))))

judge_fits : (limits : Limits) (s : Side) (q : WriteRequest) → Fits s q (write_judgement limits s q)
unfolding Fits write_judgement
judge_fits limits s q = go (is_stale s.held.phase) refl (leb_tells (q.offset + length q.bytes) s.seen.reach)
  where
    low : WriteJudgement
    low = if nat_lt limits.ready_cap (ready_weight s.held.ready + (1024 + length q.bytes)) then Busy else Compared

    high : WriteJudgement
    high = new_write_judgement limits s q (same_range q.offset (length q.bytes) s.seen.pending)

    go : (b : Bool) → is_stale s.held.phase ≡ b → ((nat_le (q.offset + length q.bytes) s.seen.reach ≡ true) × (q.offset + length q.bytes ≤ s.seen.reach)) ⊎ ((nat_le (q.offset + length q.bytes) s.seen.reach ≡ false) × (s.seen.reach < q.offset + length q.bytes))
        → Fits s q (if b then Barred else if nat_le (q.offset + length q.bytes) s.seen.reach then low else high)
    go true e d = tt
    go false e (inl (d, le)) = subst (λ c. Fits s q (if c then low else high)) (sym d) (max_waiting (nat_lt limits.ready_cap (ready_weight s.held.ready + (1024 + length q.bytes))))
      where
        max_waiting : (c : Bool) → Fits s q (if c then Busy else Compared)
        max_waiting true = tt
        max_waiting false = (e, le)
    go false e (inr (d, lt)) = subst (λ c. Fits s q (if c then low else high)) (sym d) (new_fits limits s q (same_range q.offset (length q.bytes) s.seen.pending))

again_by_compares : (r : Repeat) (limits : Limits) (f : File) (q : WriteRequest) (entry : Accepted) (t : Outcomes) → Compares f → Compares (repeat_step_by r limits f q entry t).file
again_by_compares Differs limits f q entry t is = used_compares limits q.moment f is
again_by_compares Unanswered limits f q entry t is = used_compares limits q.moment f is
again_by_compares Answered limits f q entry t is = used_compares limits q.moment f is
again_by_compares Takes limits f q entry t is = used_compares limits q.moment (record f { accepted = writes_with_ticket entry.number q.level q.ticket f.accepted }) is

again_at_compares : (b : Bool) (limits : Limits) (f : File) (q : WriteRequest) (entry : Accepted) (t : Outcomes) → Compares f → Compares (repeat_step_at b limits f q entry t).file
again_at_compares false limits f q entry t is = again_by_compares (repeat_of q entry) limits f q entry t is
again_at_compares true limits f q entry t is = go (next_call t).called (is_refused (next_call t).ahead) (next_call t).ahead
  where
    by : (b : Bool) (u : Outcomes) → Compares (repeat_step_if b limits f q entry u).file
    by true u = is
    by false u = again_by_compares (repeat_of q entry) limits f q entry u is

    go : (c : CallResult) (b : Bool) (u : Outcomes) → Compares (repeat_step_read c b limits f q entry u).file
    go (Bad n) b u = used_compares limits q.moment f is
    go Good b u = by b u

accept_compares : (moment : ℕ) (f : File) (w : Accepted) → Compares f → Compares (with_accepted moment f w)
unfolding with_accepted
accept_compares moment f w is =
    let after = f.accepted ++ w ∷ [] in
    let puts = new_puts f.base f.accepted after in
    let settles = settles_at (reach f.base after) f.held.waiting in
    let n = length f.base + length (joined_bytes (pieces_of (f.done ++ (f.held.line ++ f.held.ready)))) in
    let more : AreBelow n (puts ++ settles) = below_append n puts settles (puts_below n (drop (length (pieces f.base f.accepted)) (pieces f.base after))) (settles_below _ (reach f.base after) f.held.waiting) in
    subst (λ js. AreBelow (length f.base) (f.done ++ (f.held.line ++ js))) (sym (append_assoc f.held.ready puts settles)) (behind f (puts ++ settles) is more)

write_by_compares : (v : WriteJudgement) (limits : Limits) (f : File) (q : WriteRequest) (t : Outcomes) → Fits (side_of f) q v → IsIssued f → Compares f → Compares (write_step_by v limits f q t).file
unfolding Fits
write_by_compares Barred limits f q t fits issues is = is
write_by_compares Busy limits f q t fits issues is = used_compares limits q.moment f is
write_by_compares Compared limits f q t fits issues is =
    let compare = job (Compare q.offset q.bytes q.level) (Some q.ticket) in
    let end = reach_is f issues (issues.fresh fits.0) in
    let low = fits.1 in
    used_compares limits q.moment (with_held f (with_jobs (compare ∷ []) f.held)) (behind f (compare ∷ []) is (omega (arith, end, low), tt))
write_by_compares (Again entry) limits f q t fits issues is = again_at_compares (is_some entry.place) limits f q entry t is
write_by_compares Taken limits f q t fits issues is =
    let w = write_from (length f.accepted + 1) (reach_of f) q in
    used_compares limits q.moment (with_accepted q.moment f w) (accept_compares q.moment f w is)

-- A WRITE keeps it.
pub write_compares : (limits : Limits) (f : File) (q : WriteRequest) (t : Outcomes) → IsIssued f → Compares f → Compares (write_step limits f q t).file
unfolding write_step
write_compares limits f q t issues is = go (is_refused t)
  where
    go : (b : Bool) → Compares (write_step_if b limits f q t).file
    go true = is
    go false = write_by_compares (write_judgement limits (side_of f) q) limits f q t (judge_fits limits (side_of f) q) issues is

-- A COMMIT keeps it.
pub commit_compares : (limits : Limits) (f : File) (q : CommitRequest) (t : Outcomes) → Compares f → Compares (commit_step limits f q t).file
unfolding commit_step
commit_compares limits f q t is = go (is_refused t)
  where
    settle : Job
    settle = job Settle (Some q.ticket)

    by : (v : CommitJudgement) → Compares (commit_step_by v limits f q t).file
    by CommitBarred = is
    by CommitBusy = used_compares limits q.moment f is
    by (Waits goal) = used_compares limits q.moment (with_held f (record f.held { waiting = f.held.waiting ++ record { goal = goal; ticket = q.ticket } ∷ [] })) is
    by Settles = used_compares limits q.moment (with_held f (with_jobs (settle ∷ []) f.held)) (behind f (settle ∷ []) is (tt, tt))

    go : (b : Bool) → Compares (commit_step_if b limits f q t).file
    go true = is
    go false = by (commit_judgement limits (side_of f) q.limit)

-- A READ keeps it.
pub read_compares : (limits : Limits) (f : File) (q : ReadRequest) (t : Outcomes) → Compares f → Compares (read_step limits f q t).file
unfolding read_step
read_compares limits f q t is = go (is_refused t) (nat_lt limits.ready_cap (ready_weight f.held.ready + 1024))
  where
    fetch : Job
    fetch = job (Fetch q.offset (min q.count (2 ^ 20))) (Some q.ticket)

    go : (b c : Bool) → Compares (read_step_if b c limits f q t).file
    go true c = is
    go false true = used_compares limits q.moment f is
    go false false = used_compares limits q.moment (with_held f (with_jobs (fetch ∷ []) f.held)) (behind f (fetch ∷ []) is (tt, tt))

-- A turn keeps it.
turn_in_compares : (js : List Job) (f : File) (t : Outcomes) → f.held.line ≡ js → Compares f → Compares (turn_step_in js f t).file
turn_in_compares [] f t e is = is
turn_in_compares (j ∷ js) f t e is = subst (AreBelow (length f.base)) (ap (λ ks. f.done ++ (ks ++ f.held.ready)) e ∙ sym (append_assoc f.done (j ∷ []) (js ++ f.held.ready))) is

pub turn_compares : (f : File) (t : Outcomes) → Compares f → Compares (turn_step f t).file
unfolding turn_step
turn_compares f t is = go (nat_lt (length f.writer.owed) max_waiting)
  where
    go : (b : Bool) → Compares (turn_step_if b f t).file
    go true = turn_in_compares f.held.line f t refl is
    go false = is

-- A spill step keeps it.
pub spill_compares : (limits : Limits) (f : File) (t : Outcomes) → Compares f → Compares (spill_step limits f t).file
unfolding spill_step
spill_compares limits f t is = go (is_refused t)
  where
    call : (c : CallResult) (b : Bool) (w : Accepted) (start : ℕ) (u : Outcomes) → Compares (spill_call_step c b w start f u).file
    call (Bad n) b w start u = is
    call Good true w start u = is
    call Good false w start u = is

    by : (v : SpillJudgement) → Compares (spill_step_by v f t).file
    by Leaves = is
    by (Moves w start) = call (next_call t).called (is_refused (next_call t).ahead) w start (next_call t).ahead

    go : (b : Bool) → Compares (spill_step_if b limits f t).file
    go true = is
    go false = by (spill_judgement limits (side_of f))

hear_compares : (news : Option Failure) (p : Phase) (f : File) (t : Outcomes) → Compares f → Compares (hearing_step_in news p f t).file
hear_compares None p f t is = is
hear_compares (Some e) Live f t is = stale_compares (Append e.stored e.kept) (with_hull_to_top e.stored f) t is
hear_compares (Some e) (Stale cause) f t is = is

pump_end_compares : (s : PumpStop) (limits : Limits) (f : File) (t : Outcomes) → Compares f → Compares (pump_end s limits f t).file
pump_end_compares Rests limits f t is = is
pump_end_compares (Breaks number start) limits f t is = sent_compares limits (stale_step (Spill number) (with_hull_to_top start f) t).file (stale_compares (Spill number) (with_hull_to_top start f) t is)

-- A pump keeps it, whatever news it hears.
pub pump_compares : (limits : Limits) (news : Option Failure) (f : File) (t : Outcomes) → Compares f → Compares (pump_step_with limits news f t).file
unfolding pump_step_with hearing_step
pump_compares limits news f t is =
    let h = hearing_step news f t in
    let g = h.file in
    let p = pump_lists limits.line_slots g.held.line g.held.ready h.ahead in
    pump_end_compares p.stop limits (with_held g (with_lists p.lists g.held)) p.ahead (moved_compares p.lists g (pump_moves limits.line_slots g.held.line g.held.ready h.ahead) (hear_compares news f.held.phase f t is))
