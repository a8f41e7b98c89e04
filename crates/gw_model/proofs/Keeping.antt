-- Each event keeps that the Puts issued are the pieces of the fold.
use Rattle.std.proofs.Common.{Option, ◌≡◌, ℕ, ◌+◌, ◌-◌, Bool, true, false, not, cond, List, [], ◌∷◌, ◌++◌, map, length, drop, None, Some, nat_le, nat_lt, refl, sym, ◌∙◌, ap, append-nil, append_assoc, arith}
use Rattle.std.specs.Prelude.{min, ◌^◌, ◌==◌, ◌&&◌, if◌then◌else◌, is_some}
use Rattle.std.specs.List.{filter}
use Rattle.std.proofs.lemmas.List.{map-append}
use Rattle.gw_model.specs.Bounds.{max_waiting}
use Rattle.gw_model.specs.declared.Stable.{Stable}
use Rattle.gw_model.specs.declared.Stable.TheVariants.{Unstable}
use Rattle.gw_model.specs.Order.{Accepted, Piece, walk, pieces, reach, ordered_writes, standing_writes, piece_at, with_write, with_writes}
use Rattle.gw_model.specs.Ahead.{Outcomes, CallResult, Good, Bad, is_refused, next_call}
use Rattle.gw_model.specs.declared.limits.Limits.{Limits}
use Rattle.gw_model.specs.File.{place_of, Task, Put, Settle, Fetch, Compare, Job, File, side_of, is_spilled, is_fetch, is_stale, Cause, Failure, Phase, Live, Stale, Append, Spill, ready_weight, opened_file}
use Rattle.gw_model.specs.declared.Hull.{Hull}
use Rattle.gw_model.specs.Admission.{task_in_line, job_in_line, WriteRequest, write_step, write_step_if, write_step_by, WriteJudgement, Barred, Busy, Compared, Again, Taken, write_judgement, with_accepted, with_use, with_ready_sent, sent_lists, with_lists, JobLists, with_held, stale_step, writes_with_place, writes_with_ticket, Repeat, Differs, Unanswered, Answered, Takes, repeat_of, repeat_step, repeat_step_by, repeat_step_if, repeat_step_read, repeat_step_at, write_from, with_jobs, job, CommitJudgement, CommitBarred, CommitBusy, Waits, Settles, CommitRequest, ReadRequest, commit_step, commit_step_if, commit_step_by, commit_judgement, read_step, read_step_if, SpillJudgement, Leaves, Moves, spill_judgement, spill_step, spill_step_if, spill_step_by, spill_call_step, with_placed_end, PumpFront, Full, Plain, Loads, pump_front, PumpStop, Rests, Breaks, PumpWalk, pump_lists, pump_one, load_step, load_done, load_kept, pump_end, pump_step_with, hearing_step, hearing_step_in, with_hull_to_top}
use Rattle.gw_model.specs.Writer.{turn_step, turn_step_in, turn_step_if, sync_step}
use Rattle.gw_model.specs.Ending.{give_up_step}
use Rattle.gw_model.specs.Sound.{plain_piece, pieces_of, piece_of, IsIssued}
use Rattle.gw_model.proofs.Fold.{pieces_let_go}
use Rattle.gw_model.proofs.Putting.{accept_issues, pieces_of-append}

-- a write without what the fold doesn't look at
unfoldable pub bare : Accepted → Accepted
bare w = record w { asked = 0; stable = Unstable; ticket = None; place = None }

bare-put_in : (w : Accepted) (xs : List Accepted) → with_write (bare w) (map bare xs) ≡ map bare (with_write w xs)
unfolding bare
bare-put_in w [] = refl
bare-put_in w (x ∷ xs) = go (nat_le x.offset w.offset) (bare-put_in w xs)
  where
    go : (b : Bool) → with_write (bare w) (map bare xs) ≡ map bare (with_write w xs) → cond b (bare x ∷ with_write (bare w) (map bare xs)) (bare w ∷ bare x ∷ map bare xs) ≡ map bare (cond b (x ∷ with_write w xs) (w ∷ x ∷ xs))
    go true rest = ap (λ ys. bare x ∷ ys) rest
    go false rest = refl

bare-put_all : (sorted ws : List Accepted) → with_writes (map bare sorted) (map bare ws) ≡ map bare (with_writes sorted ws)
bare-put_all sorted [] = refl
bare-put_all sorted (w ∷ ws) = ap (λ ys. with_writes ys (map bare ws)) (bare-put_in w sorted) ∙ bare-put_all (with_write w sorted) ws

bare-standing : (ws : List Accepted) → standing_writes (map bare ws) ≡ map bare (standing_writes ws)
unfolding bare
bare-standing [] = refl
bare-standing (w ∷ ws) = go (not w.let_go) (bare-standing ws)
  where
    go : (b : Bool) → standing_writes (map bare ws) ≡ map bare (standing_writes ws) → cond b (bare w ∷ standing_writes (map bare ws)) (standing_writes (map bare ws)) ≡ map bare (cond b (w ∷ standing_writes ws) (standing_writes ws))
    go true rest = ap (λ ys. bare w ∷ ys) rest
    go false rest = rest

bare-walk : (n : ℕ) (xs : List Accepted) → walk n (map bare xs) ≡ map plain_piece (walk n xs)
unfolding bare plain_piece
bare-walk n [] = refl
bare-walk n (x ∷ xs) = go (nat_le x.offset n) (bare-walk (n + length (drop (n - x.offset) x.bytes)) xs)
  where
    later : ℕ
    later = n + length (drop (n - x.offset) x.bytes)

    go : (b : Bool) → walk later (map bare xs) ≡ map plain_piece (walk later xs) → cond b (piece_at n (bare x) ∷ walk later (map bare xs)) [] ≡ map plain_piece (cond b (piece_at n x ∷ walk later xs) [])
    go true rest = ap (λ ps. piece_at n (bare x) ∷ ps) rest
    go false rest = refl

-- Pieces look at number, offset, bytes and whether a write was let go.
pub pieces_bare : (base : List ℕ) (ws vs : List Accepted) → map bare ws ≡ map bare vs → map plain_piece (pieces base ws) ≡ map plain_piece (pieces base vs)
pieces_bare base ws vs same = sym (to_bare ws) ∙ ap (pieces base) same ∙ to_bare vs
  where
    to_bare : (us : List Accepted) → pieces base (map bare us) ≡ map plain_piece (pieces base us)
    to_bare us = ap (λ ys. walk (length base) (ordered_writes ys)) (bare-standing us) ∙ ap (walk (length base)) (bare-put_all [] (standing_writes us)) ∙ bare-walk (length base) (ordered_writes (standing_writes us))

bare-set_place : (n start : ℕ) (ws : List Accepted) → map bare (writes_with_place n start ws) ≡ map bare ws
unfolding bare
bare-set_place n start [] = refl
bare-set_place n start (w ∷ ws) = go (w.number == n) (bare-set_place n start ws)
  where
    go : (b : Bool) → map bare (writes_with_place n start ws) ≡ map bare ws → bare (cond b (record w { place = Some start }) w) ∷ map bare (writes_with_place n start ws) ≡ bare w ∷ map bare ws
    go true rest = ap (λ ys. bare w ∷ ys) rest
    go false rest = ap (λ ys. bare w ∷ ys) rest

bare-give_ticket : (n : ℕ) (level : Stable) (ticket : ℕ) (ws : List Accepted) → map bare (writes_with_ticket n level ticket ws) ≡ map bare ws
unfolding bare
bare-give_ticket n level ticket [] = refl
bare-give_ticket n level ticket (w ∷ ws) = go (w.number == n) (bare-give_ticket n level ticket ws)
  where
    go : (b : Bool) → map bare (writes_with_ticket n level ticket ws) ≡ map bare ws → bare (cond b (record w { stable = level; ticket = Some ticket }) w) ∷ map bare (writes_with_ticket n level ticket ws) ≡ bare w ∷ map bare ws
    go true rest = ap (λ ys. bare w ∷ ys) rest
    go false rest = ap (λ ys. bare w ∷ ys) rest

-- the four parts of the issued jobs
parts : (a b c d : List Job) → pieces_of (a ++ (b ++ (c ++ d))) ≡ pieces_of a ++ (pieces_of b ++ (pieces_of c ++ pieces_of d))
parts a b c d = pieces_of-append a (b ++ (c ++ d)) ∙ ap (λ ps. pieces_of a ++ ps) (pieces_of-append b (c ++ d) ∙ ap (λ ps. pieces_of b ++ ps) (pieces_of-append c d))

fetches-empty : (js : List Job) → pieces_of (filter is_fetch js) ≡ []
fetches-empty [] = refl
fetches-empty (j ∷ js) = go j.task (fetches-empty js)
  where
    go : (task : Task) → pieces_of (filter is_fetch js) ≡ [] → pieces_of (filter is_fetch (record j { task = task } ∷ js)) ≡ []
    go (Put number start bytes asked level place) rest = rest
    go (Compare offset bytes level) rest = rest
    go (Fetch offset count) rest = rest
    go Settle rest = rest

others-pieces : (js : List Job) → pieces_of (filter (λ j. not (is_fetch j)) js) ≡ pieces_of js
others-pieces [] = refl
others-pieces (j ∷ js) = go j.task (others-pieces js)
  where
    go : (task : Task) → pieces_of (filter (λ i. not (is_fetch i)) js) ≡ pieces_of js → pieces_of (filter (λ i. not (is_fetch i)) (record j { task = task } ∷ js)) ≡ pieces_of (record j { task = task } ∷ js)
    go (Put number start bytes asked level place) rest = ap (λ ps. record { number = number; start = start; bytes = bytes; asked = 0; stable = Unstable; ticket = None; place = None } ∷ ps) rest
    go (Compare offset bytes level) rest = rest
    go (Fetch offset count) rest = rest
    go Settle rest = rest

-- given up before or none to give up
swapped : (f : File) → IsIssued f → pieces_of f.struck ++ pieces_of f.held.ready ≡ pieces_of f.held.ready ++ pieces_of f.struck
swapped f is = go (is_stale f.held.phase) is.fresh is.none_left
  where
    go : (b : Bool) → (b ≡ false → f.struck ≡ []) → (b ≡ true → pieces_of f.held.ready ≡ []) → pieces_of f.struck ++ pieces_of f.held.ready ≡ pieces_of f.held.ready ++ pieces_of f.struck
    go true fresh none = ap (λ ps. pieces_of f.struck ++ ps) (none refl) ∙ append-nil (pieces_of f.struck) ∙ sym (ap (λ ps. ps ++ pieces_of f.struck) (none refl))
    go false fresh none = ap (λ js. pieces_of js ++ pieces_of f.held.ready) (fresh refl) ∙ sym (append-nil (pieces_of f.held.ready)) ∙ sym (ap (λ js. pieces_of f.held.ready ++ pieces_of js) (fresh refl))

-- It holds of a file that is opened.
pub opened_issues : (base : List ℕ) (hull : Option Hull) (moment : ℕ) → IsIssued (opened_file base hull moment)
opened_issues base hull moment = record { order = refl; fresh = λ live. refl; none_left = λ stale. refl }

-- Turning stale keeps it.
pub stale_issues : (cause : Cause) (f : File) (t : Outcomes) → IsIssued f → IsIssued (stale_step cause f t).file
unfolding stale_step
stale_issues cause f t is =
    let fetches = filter is_fetch f.held.ready in
    let others = filter (λ j. not (is_fetch j)) f.held.ready in
    let struck : pieces_of (f.struck ++ others) ≡ pieces_of f.held.ready ++ pieces_of f.struck = pieces_of-append f.struck others ∙ ap (λ ps. pieces_of f.struck ++ ps) (others-pieces f.held.ready) ∙ swapped f is in
    record {
      order = parts f.done f.held.line fetches (f.struck ++ others) ∙ ap (λ ps. pieces_of f.done ++ (pieces_of f.held.line ++ (ps ++ pieces_of (f.struck ++ others)))) (fetches-empty f.held.ready) ∙ ap (λ ps. pieces_of f.done ++ (pieces_of f.held.line ++ ps)) struck ∙ sym (parts f.done f.held.line f.held.ready f.struck) ∙ is.order ∙ ap (map plain_piece) (sym (pieces_let_go f.base f.accepted (reach f.base f.accepted) (omega arith)));
      fresh = λ live. absurd (cc live);
      none_left = λ stale. fetches-empty f.held.ready;
    }

-- A tick that gives up keeps it.
pub give_up_issues : (moment : ℕ) (f : File) (t : Outcomes) → IsIssued f → IsIssued (give_up_step moment f t).file
unfolding give_up_step
give_up_issues moment f t is = record { order = is.order ∙ ap (map plain_piece) (sym (pieces_let_go f.base f.accepted (reach f.base f.accepted) (omega arith))); fresh = is.fresh; none_left = is.none_left }

no_front : (xs ys : List Piece) → xs ++ ys ≡ [] → ys ≡ []
no_front [] ys e = e
no_front (x ∷ xs) ys e = absurd (cc e)

-- a job in the line appends what it did before

piece_in_line : (task : Task) → piece_of (task_in_line task) ≡ piece_of task
piece_in_line (Put number start bytes asked level place) = refl
piece_in_line (Compare offset bytes level) = refl
piece_in_line (Fetch offset count) = refl
piece_in_line Settle = refl

pieces_in_line : (js : List Job) → pieces_of (map job_in_line js) ≡ pieces_of js
pieces_in_line [] = refl
pieces_in_line (j ∷ js) = ap (λ ps. ps ++ pieces_of (map job_in_line js)) (piece_in_line j.task) ∙ ap (λ ps. piece_of j.task ++ ps) (pieces_in_line js)

pub place_gone : (j : Job) → place_of j.task ≡ None → job_in_line j ≡ j
place_gone j e = go j.task e
  where
    go : (task : Task) → place_of task ≡ None → record j { task = task_in_line task } ≡ record j { task = task }
    go (Put number start bytes asked level place) e = ap (λ p. let k : Job = record j { task = Put number start bytes asked level p } in k) (sym e)
    go (Compare offset bytes level) e = refl
    go (Fetch offset count) e = refl
    go Settle e = refl

in_line_twice : (j : Job) → job_in_line (job_in_line j) ≡ job_in_line j
in_line_twice j = place_gone (job_in_line j) (go j.task)
  where
    go : (task : Task) → place_of (task_in_line task) ≡ None
    go (Put number start bytes asked level place) = refl
    go (Compare offset bytes level) = refl
    go (Fetch offset count) = refl
    go Settle = refl

-- jobs that are sent stay in order, and lose their places
unfoldable pub Moved : List Job → List Job → JobLists → Type 0
Moved line ready l = (map job_in_line (l.line ++ l.ready) ≡ map job_in_line (line ++ ready)) × (pieces_of ready ≡ [] → pieces_of l.ready ≡ [])

-- one more job in the line, as it was or without its place
one_moved : (line : List Job) (j : Job) (js : List Job) → map job_in_line ((line ++ job_in_line j ∷ []) ++ js) ≡ map job_in_line (line ++ j ∷ js)
one_moved line j js = ap (map job_in_line) (append_assoc line (job_in_line j ∷ []) js)
    ∙ map-append job_in_line line (job_in_line j ∷ js)
    ∙ ap (λ k. map job_in_line line ++ k ∷ map job_in_line js) (in_line_twice j)
    ∙ sym (map-append job_in_line line (j ∷ js))

pub send_moves : (slots : ℕ) (line ready : List Job) → Moved line ready (sent_lists slots line ready)
unfolding Moved
send_moves slots line [] = (refl, λ e. e)
send_moves slots line (j ∷ js) = go (nat_lt (length line) slots && not (is_spilled j)) (send_moves slots (line ++ j ∷ []) js)
  where
    go : (b : Bool) → Moved (line ++ j ∷ []) js (sent_lists slots (line ++ j ∷ []) js) → Moved line (j ∷ js) (if b then sent_lists slots (line ++ j ∷ []) js else record { line = line; ready = j ∷ js })
    go true rest = (rest.0 ∙ ap (map job_in_line) (append_assoc line (j ∷ []) js), λ e. rest.1 (no_front (piece_of j.task) (pieces_of js) e))
    go false rest = (refl, λ e. e)

moved_issues : (l : JobLists) (f : File) → Moved f.held.line f.held.ready l → IsIssued f → IsIssued (with_held f (with_lists l f.held))
unfolding Moved
moved_issues l f moved is = record {
  order = ap (λ js. pieces_of (f.done ++ js)) (sym (append_assoc l.line l.ready f.struck))
      ∙ around (l.line ++ l.ready)
      ∙ ap (λ ps. pieces_of f.done ++ (ps ++ pieces_of f.struck)) (sym (pieces_in_line (l.line ++ l.ready)) ∙ ap pieces_of moved.0 ∙ pieces_in_line (f.held.line ++ f.held.ready))
      ∙ sym (around (f.held.line ++ f.held.ready))
      ∙ ap (λ js. pieces_of (f.done ++ js)) (append_assoc f.held.line f.held.ready f.struck)
      ∙ is.order;
  fresh = is.fresh;
  none_left = λ stale. moved.1 (is.none_left stale);
}
  where
    around : (js : List Job) → pieces_of (f.done ++ (js ++ f.struck)) ≡ pieces_of f.done ++ (pieces_of js ++ pieces_of f.struck)
    around js = pieces_of-append f.done (js ++ f.struck) ∙ ap (λ ps. pieces_of f.done ++ ps) (pieces_of-append js f.struck)

sent_issues : (limits : Limits) (f : File) → IsIssued f → IsIssued (with_held f (with_ready_sent limits f.held))
unfolding with_ready_sent
sent_issues limits f is = moved_issues (sent_lists limits.line_slots f.held.line f.held.ready) f (send_moves limits.line_slots f.held.line f.held.ready) is

used_issues : (limits : Limits) (moment : ℕ) (f : File) → IsIssued f → IsIssued (with_held f (with_use limits moment f.held))
unfolding with_use
used_issues limits moment f is = sent_issues limits (with_held f (record f.held { used = moment })) (record { order = is.order; fresh = is.fresh; none_left = is.none_left })

-- one more job that is no Put
one_more_job : (f : File) (j : Job) → piece_of j.task ≡ [] → IsIssued f → IsIssued (with_held f (with_jobs (j ∷ []) f.held))
one_more_job f j none is =
    let more : pieces_of (f.held.ready ++ j ∷ []) ≡ pieces_of f.held.ready = pieces_of-append f.held.ready (j ∷ []) ∙ ap (λ ps. pieces_of f.held.ready ++ (ps ++ [])) none ∙ append-nil (pieces_of f.held.ready) in
    record {
      order = parts f.done f.held.line (f.held.ready ++ j ∷ []) f.struck ∙ ap (λ ps. pieces_of f.done ++ (pieces_of f.held.line ++ (ps ++ pieces_of f.struck))) more ∙ sym (parts f.done f.held.line f.held.ready f.struck) ∙ is.order;
      fresh = is.fresh;
      none_left = λ stale. more ∙ is.none_left stale;
    }

-- the writes are marked, and nothing else is changed
marked_issues : (f : File) (ws : List Accepted) → map bare ws ≡ map bare f.accepted → IsIssued f → IsIssued (record f { accepted = ws })
marked_issues f ws same is = record { order = is.order ∙ sym (pieces_bare f.base ws f.accepted same); fresh = is.fresh; none_left = is.none_left }

again_by_issues : (r : Repeat) (limits : Limits) (f : File) (q : WriteRequest) (entry : Accepted) (t : Outcomes) → IsIssued f → IsIssued (repeat_step_by r limits f q entry t).file
again_by_issues Differs limits f q entry t is = used_issues limits q.moment f is
again_by_issues Unanswered limits f q entry t is = used_issues limits q.moment f is
again_by_issues Answered limits f q entry t is = used_issues limits q.moment f is
again_by_issues Takes limits f q entry t is = used_issues limits q.moment (record f { accepted = writes_with_ticket entry.number q.level q.ticket f.accepted }) (marked_issues f (writes_with_ticket entry.number q.level q.ticket f.accepted) (bare-give_ticket entry.number q.level q.ticket f.accepted) is)

again_issues : (limits : Limits) (f : File) (q : WriteRequest) (entry : Accepted) (t : Outcomes) → IsIssued f → IsIssued (repeat_step limits f q entry t).file
again_issues limits f q entry t is = again_by_issues (repeat_of q entry) limits f q entry t is

again_at_issues : (b : Bool) (limits : Limits) (f : File) (q : WriteRequest) (entry : Accepted) (t : Outcomes) → IsIssued f → IsIssued (repeat_step_at b limits f q entry t).file
again_at_issues false limits f q entry t is = again_issues limits f q entry t is
again_at_issues true limits f q entry t is = go (next_call t).called (is_refused (next_call t).ahead) (next_call t).ahead
  where
    by : (b : Bool) (u : Outcomes) → IsIssued (repeat_step_if b limits f q entry u).file
    by true u = is
    by false u = again_issues limits f q entry u is

    go : (c : CallResult) (b : Bool) (u : Outcomes) → IsIssued (repeat_step_read c b limits f q entry u).file
    go (Bad n) b u = used_issues limits q.moment f is
    go Good b u = by b u

write_by_issues : (v : WriteJudgement) (limits : Limits) (f : File) (q : WriteRequest) (t : Outcomes) → is_stale f.held.phase ≡ false → IsIssued f → IsIssued (write_step_by v limits f q t).file
write_by_issues Barred limits f q t live is = is
write_by_issues Busy limits f q t live is = used_issues limits q.moment f is
write_by_issues Compared limits f q t live is = used_issues limits q.moment (with_held f (with_jobs (job (Compare q.offset q.bytes q.level) (Some q.ticket) ∷ []) f.held)) (one_more_job f (job (Compare q.offset q.bytes q.level) (Some q.ticket)) refl is)
write_by_issues (Again entry) limits f q t live is = again_at_issues (is_some entry.place) limits f q entry t is
write_by_issues Taken limits f q t live is =
    let w = write_from (length f.accepted + 1) (reach f.base f.accepted) q in
    used_issues limits q.moment (with_accepted q.moment f w) (accept_issues q.moment f w is live refl (omega arith))

-- A WRITE keeps it.
pub write_issues : (limits : Limits) (f : File) (q : WriteRequest) (t : Outcomes) → IsIssued f → IsIssued (write_step limits f q t).file
unfolding write_step write_judgement
write_issues limits f q t is = go (is_refused t)
  where
    by : (b : Bool) → is_stale f.held.phase ≡ b → IsIssued (write_step_by (write_judgement limits (side_of f) q) limits f q t).file
    by true stale = rw stale is
    by false live = write_by_issues (write_judgement limits (side_of f) q) limits f q t live is

    go : (b : Bool) → IsIssued (write_step_if b limits f q t).file
    go true = is
    go false = by (is_stale f.held.phase) refl

commit_by_issues : (v : CommitJudgement) (limits : Limits) (f : File) (q : CommitRequest) (t : Outcomes) → IsIssued f → IsIssued (commit_step_by v limits f q t).file
commit_by_issues CommitBarred limits f q t is = is
commit_by_issues CommitBusy limits f q t is = used_issues limits q.moment f is
commit_by_issues (Waits goal) limits f q t is = used_issues limits q.moment (with_held f (record f.held { waiting = f.held.waiting ++ record { goal = goal; ticket = q.ticket } ∷ [] })) (record { order = is.order; fresh = is.fresh; none_left = is.none_left })
commit_by_issues Settles limits f q t is = used_issues limits q.moment (with_held f (with_jobs (job Settle (Some q.ticket) ∷ []) f.held)) (one_more_job f (job Settle (Some q.ticket)) refl is)

-- A COMMIT keeps it.
pub commit_issues : (limits : Limits) (f : File) (q : CommitRequest) (t : Outcomes) → IsIssued f → IsIssued (commit_step limits f q t).file
unfolding commit_step
commit_issues limits f q t is = go (is_refused t)
  where
    go : (b : Bool) → IsIssued (commit_step_if b limits f q t).file
    go true = is
    go false = commit_by_issues (commit_judgement limits (side_of f) q.limit) limits f q t is

-- A READ keeps it.
pub read_issues : (limits : Limits) (f : File) (q : ReadRequest) (t : Outcomes) → IsIssued f → IsIssued (read_step limits f q t).file
unfolding read_step
read_issues limits f q t is = go (is_refused t) (nat_lt limits.ready_cap (ready_weight f.held.ready + 1024))
  where
    fetch : Job
    fetch = job (Fetch q.offset (min q.count (2 ^ 20))) (Some q.ticket)

    go : (b c : Bool) → IsIssued (read_step_if b c limits f q t).file
    go true c = is
    go false true = used_issues limits q.moment f is
    go false false = used_issues limits q.moment (with_held f (with_jobs (fetch ∷ []) f.held)) (one_more_job f fetch refl is)

-- A turn and a sync keep it.
turn_in_issues : (js : List Job) (f : File) (t : Outcomes) → f.held.line ≡ js → IsIssued f → IsIssued (turn_step_in js f t).file
turn_in_issues [] f t e is = is
turn_in_issues (j ∷ js) f t e is = record {
  order = ap pieces_of (append_assoc f.done (j ∷ []) (js ++ (f.held.ready ++ f.struck)) ∙ sym (ap (λ ks. f.done ++ (ks ++ (f.held.ready ++ f.struck))) e)) ∙ is.order;
  fresh = is.fresh;
  none_left = is.none_left;
}

pub turn_issues : (f : File) (t : Outcomes) → IsIssued f → IsIssued (turn_step f t).file
unfolding turn_step
turn_issues f t is = go (nat_lt (length f.writer.owed) max_waiting)
  where
    go : (b : Bool) → IsIssued (turn_step_if b f t).file
    go true = turn_in_issues f.held.line f t refl is
    go false = is

pub sync_issues : (f : File) (t : Outcomes) → IsIssued f → IsIssued (sync_step f t).file
unfolding sync_step
sync_issues f t is = record { order = is.order; fresh = is.fresh; none_left = is.none_left }

placed_issues : (n : ℕ) (f : File) → IsIssued f → IsIssued (with_placed_end n f)
placed_issues n f is = record { order = is.order; fresh = is.fresh; none_left = is.none_left }

-- A spill step keeps it.
pub spill_issues : (limits : Limits) (f : File) (t : Outcomes) → IsIssued f → IsIssued (spill_step limits f t).file
unfolding spill_step
spill_issues limits f t is = go (is_refused t)
  where
    call : (c : CallResult) (b : Bool) (w : Accepted) (start : ℕ) (u : Outcomes) → IsIssued (spill_call_step c b w start f u).file
    call (Bad n) b w start u = placed_issues (start + length w.bytes) f is
    call Good true w start u = placed_issues (start + length w.bytes) f is
    call Good false w start u = marked_issues (with_placed_end (start + length w.bytes) f) (writes_with_place w.number start f.accepted) (bare-set_place w.number start f.accepted) (placed_issues (start + length w.bytes) f is)

    by : (v : SpillJudgement) → IsIssued (spill_step_by v f t).file
    by Leaves = is
    by (Moves w start) = call (next_call t).called (is_refused (next_call t).ahead) w start (next_call t).ahead

    go : (b : Bool) → IsIssued (spill_step_if b limits f t).file
    go true = is
    go false = by (spill_judgement limits (side_of f))

-- a way on that moves jobs
Moves_on : List Job → List Job → (Outcomes → PumpWalk) → Type 0
Moves_on line ready go = (t : Outcomes) → Moved line ready (go t).lists

loaded_moves : (c : CallResult) (number start : ℕ) (line ready : List Job) (t : Outcomes) (go : Outcomes → PumpWalk) → Moves_on line ready go → Moved line ready (load_done c number start line ready t go).lists
unfolding Moves_on Moved
loaded_moves (Bad n) number start line ready t go moves = (refl, λ e. e)
loaded_moves Good number start line ready t go moves = by (is_refused t)
  where
    by : (b : Bool) → Moved line ready (load_kept b line ready t go).lists
    by true = (refl, λ e. e)
    by false = moves t

pump_one_moves : (v : PumpFront) (line ready : List Job) (t : Outcomes) (go : Outcomes → PumpWalk) → Moves_on line ready go → Moved line ready (pump_one v line ready t go).lists
unfolding Moves_on Moved
pump_one_moves Full line ready t go moves = (refl, λ e. e)
pump_one_moves Plain line ready t go moves = moves t
pump_one_moves (Loads number start) line ready t go moves = by (is_refused t)
  where
    by : (b : Bool) → Moved line ready (load_step b number start line ready t go).lists
    by true = (refl, λ e. e)
    by false = loaded_moves (next_call t).called number start line ready (next_call t).ahead go moves

pub pump_moves : (slots : ℕ) (line ready : List Job) (t : Outcomes) → Moved line ready (pump_lists slots line ready t).lists
unfolding Moves_on Moved
pump_moves slots line [] t = (refl, λ e. e)
pump_moves slots line (j ∷ js) t = pump_one_moves (pump_front slots line j) line (j ∷ js) t (λ u. pump_lists slots (line ++ job_in_line j ∷ []) js u) (λ u. let rest = pump_moves slots (line ++ job_in_line j ∷ []) js u in (rest.0 ∙ one_moved line j js, λ e. rest.1 (no_front (piece_of j.task) (pieces_of js) e)))

joined_issues : (low : ℕ) (f : File) → IsIssued f → IsIssued (with_hull_to_top low f)
joined_issues low f is = record { order = is.order; fresh = is.fresh; none_left = is.none_left }

pump_end_issues : (s : PumpStop) (limits : Limits) (f : File) (t : Outcomes) → IsIssued f → IsIssued (pump_end s limits f t).file
pump_end_issues Rests limits f t is = is
pump_end_issues (Breaks number start) limits f t is = sent_issues limits (stale_step (Spill number) (with_hull_to_top start f) t).file (stale_issues (Spill number) (with_hull_to_top start f) t (joined_issues start f is))

hear_issues : (news : Option Failure) (f : File) (t : Outcomes) → IsIssued f → IsIssued (hearing_step news f t).file
unfolding hearing_step
hear_issues news f t is = go news f.held.phase
  where
    go : (n : Option Failure) (p : Phase) → IsIssued (hearing_step_in n p f t).file
    go None p = is
    go (Some e) Live = stale_issues (Append e.stored e.kept) (with_hull_to_top e.stored f) t (joined_issues e.stored f is)
    go (Some e) (Stale cause) = is

-- A pump keeps it, whatever news it hears.
pub pump_issues : (limits : Limits) (news : Option Failure) (f : File) (t : Outcomes) → IsIssued f → IsIssued (pump_step_with limits news f t).file
unfolding pump_step_with
pump_issues limits news f t is =
    let h = hearing_step news f t in
    let g = h.file in
    let p = pump_lists limits.line_slots g.held.line g.held.ready h.ahead in
    pump_end_issues p.stop limits (with_held g (with_lists p.lists g.held)) p.ahead (moved_issues p.lists g (pump_moves limits.line_slots g.held.line g.held.ready h.ahead) (hear_issues news f t is))
