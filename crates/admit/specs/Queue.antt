-- What is kept of the ready jobs.
use Rattle.std.specs.Prelude.{ℕ, ◌^◌, Bool, true, ◌&&◌, nat_lt, List, [], ◌∷◌, map}
use Rattle.std.specs.List.{filter}
use Rattle.gw_model.specs.File as model
use Rattle.gw_model.specs.File.{ready_weight, settle_count, is_fetch, task_weight}
use Rattle.gw_model.specs.Admission.{struck_jobs}
use Rattle.admit.specs.declared.job.Job.{Job}
use Rattle.admit.specs.Jobs.{ready_job}

abbrev pub ready_jobs : List Job → List model.Job
ready_jobs js = map ready_job js

abbrev pub job_weight : Job → ℕ
job_weight j = task_weight (ready_job j).task

abbrev pub weight_of : List Job → ℕ
weight_of js = ready_weight (map ready_job js)

-- each weighs less than 2 ^ 64
abbrev pub are_light : List Job → Bool
are_light [] = true
are_light (j ∷ js) = nat_lt (job_weight j) (2 ^ 64) && are_light js

-- how many are Settles
abbrev pub settles_in : List Job → ℕ
settles_in js = settle_count (map ready_job js)

abbrev pub fetches_of : List Job → List model.Job
fetches_of js = filter is_fetch (map ready_job js)

abbrev pub others_of : List Job → List model.Job
others_of js = struck_jobs (map ready_job js)
