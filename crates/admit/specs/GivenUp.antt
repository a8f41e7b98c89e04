-- The answers that a call left.
use Rattle.std.specs.Prelude.{◌≡◌, ℕ, List, [], ◌∷◌, Option, Some, None}
use Rattle.gw_model.specs.File as model
use Rattle.gw_model.specs.Admission.{entry_refusals, waiting_refusals, job_refusals}
use Rattle.range_map.specs.declared.entry.Entry.{Entry}
use Rattle.commit_queue.specs.Queue.{Commit}
use Rattle.tickets.specs.declared.answer.Answer.{Answer}
use Rattle.admit.specs.declared.job.Job.{Job}
use Rattle.tickets.specs.Answers.{IsPlain, answer_of}
use Rattle.admit.specs.Parts.{writes_of, all_waiting}
use Rattle.admit.specs.Queue.{ready_jobs}

-- those that are left to be handed out, and for how many more there is room
pub record RefusalsState : Type 0 where
  pub answers : List model.Answer
  pub room : ℕ

-- what is answered to entries, COMMITs and jobs that were given up, with a status
abbrev pub entry_answers : ℕ → List Entry → List model.Answer
entry_answers status es = entry_refusals status (writes_of es)

abbrev pub waiting_answers : ℕ → List Commit → List model.Answer
waiting_answers status cs = waiting_refusals status (all_waiting cs)

abbrev pub job_answers : ℕ → List Job → List model.Answer
job_answers status js = job_refusals status (ready_jobs js)

-- the first of what was left is handed out
abbrev pub Hands : Option Answer → List model.Answer → List model.Answer → Type 0
Hands None old new = (old ≡ []) × (new ≡ [])
Hands (Some a) old new = (old ≡ answer_of a ∷ new) × IsPlain a.body
