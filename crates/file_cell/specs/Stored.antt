-- What a writer side stored since the mark of its line.
use Rattle.std.specs.Prelude.{◌≡◌, ℕ, ◌+◌, ◌≤◌, List, [], ◌∷◌, ◌++◌, length, take, Option, Some, None}
use Rattle.gw_model.specs.File.{Failure, Writer}
use Rattle.job_line.specs.Ends.{base_taken, jobs_taken}
use Rattle.job_line.specs.declared.items.Job.{Job}
use Rattle.job_line.specs.declared.ends.LineOut.{LineOut}
use Rattle.writeback.specs.Steps.{put_data}

-- the bytes of the Puts among jobs, in order
abbrev pub puts_data : List Job → List ℕ
puts_data [] = []
puts_data (j ∷ js) = put_data j ++ puts_data js

-- An append failed. What was added is the bytes of the Puts before it, and of its own those that it kept.
pub record StopsAt (e : Failure) (base : ℕ) (jobs : List Job) (added : List ℕ) : Type 0 where
  pub before : List Job
  pub job : Job
  pub behind : List Job
  pub are : jobs ≡ before ++ job ∷ behind
  pub few : e.kept ≤ length (put_data job)
  pub is : added ≡ puts_data before ++ take e.kept (put_data job)
  pub stored : e.stored ≡ base + length added

-- What these jobs added: while no append failed, the bytes of all Puts.
abbrev pub HaveAdded : Option Failure → ℕ → List Job → List ℕ → Type 0
HaveAdded None base jobs added = added ≡ puts_data jobs
HaveAdded (Some e) base jobs added = StopsAt e base jobs added

-- these bytes stand behind the first `base` ones
pub record StandsBehind (base : ℕ) (content added : List ℕ) : Type 0 where
  pub first : List ℕ
  pub long : length first ≡ base
  pub is : content ≡ first ++ added

-- What the jobs that were taken since the mark added stands behind what the file had then, and is counted as stored.
pub record IsWritten (tells : Type 0) (w : Writer) (content : List ℕ) (o : LineOut) : Type 0 where
  pub added : List ℕ
  pub have : HaveAdded w.failed (base_taken o) (jobs_taken o) added
  pub stored : w.stored ≡ base_taken o + length added
  pub behind : tells → StandsBehind (base_taken o) content added
