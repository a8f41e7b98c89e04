-- The jobs that were sent and those that are ready.
use Rattle.std.specs.Prelude.{ℕ, List, [], ◌∷◌, ◌++◌, ◌+◌, map, max, length}
use Rattle.std.specs.VecDeque.{deque_len}
use Rattle.gw_model.specs.Order.{Accepted, end_of, reach_past, walk, with_write, writes_beyond}
use Rattle.gw_model.specs.File as model
use Rattle.gw_model.specs.File.{Seen, entry_of}
use Rattle.gw_model.specs.Admission.{JobLists, sent_lists, put_of}
use Rattle.admit.specs.Line.{end_after, last_jobs}
use Rattle.admit.specs.Queue.{ready_jobs}
use Rattle.admit.specs.declared.line.Queue.{Queue}

abbrev pub ready_of : Queue → List model.Job
ready_of q = ready_jobs q.ready.items

abbrev pub lists_of : Queue → JobLists
lists_of q = record { line = last_jobs q.line.in_line q.line.input; ready = ready_jobs q.ready.items }

-- the lists once ready jobs are sent, as long as fewer than so many are in the line
abbrev pub lists_after : ℕ → Queue → JobLists
lists_after slots q = sent_lists slots (last_jobs q.line.in_line q.line.input) (ready_jobs q.ready.items)

-- where the bytes of all Puts end
abbrev pub queue_end : Queue → ℕ
queue_end q = end_after q.line.input q.ready.items

-- what is seen once a write was accepted, before reach is looked at
abbrev pub seen_with : Accepted → Seen → Seen
seen_with w s = record s { top = max s.top (end_of w); pending = with_write w s.pending; entries = s.entries ++ entry_of [] w ∷ [] }

-- what is seen once a walk from reach on has taken the pending writes in front
abbrev pub seen_released : Seen → Seen
seen_released s = record s { reach = reach_past s.reach s.pending; pending = writes_beyond s.reach s.pending }

-- the ready jobs, and the Puts of the pending writes that the walk takes
abbrev pub jobs_ahead : Queue → Seen → List model.Job
jobs_ahead q s = ready_jobs q.ready.items ++ map put_of (walk s.reach s.pending)

-- how many jobs are ready once all pending writes are
abbrev pub load_with : Queue → Seen → ℕ
load_with q s = deque_len q.ready + length s.pending
