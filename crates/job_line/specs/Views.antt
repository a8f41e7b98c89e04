-- Jobs of a line, as those of the definitions.
use Rattle.std.specs.Prelude.{ℕ, ◌+◌, List, [], ◌∷◌, length, Option, Some, None}
use Rattle.std.specs.Option.{option_map}
use Rattle.gw_model.specs.File as model
use Rattle.tickets.specs.Desk.{TicketId}
use Rattle.job_line.specs.declared.items.Job.{Job}
use Rattle.job_line.specs.declared.items.Job.TheVariants.{Put, Compare, Fetch, Settle}
use Rattle.job_line.specs.Items.{put_size}

-- the number under which a reply is owed
abbrev pub ticket_number : Option TicketId → Option ℕ
ticket_number ticket = option_map (λ (t : TicketId). t.number) ticket

abbrev pub job_ticket : Job → Option ℕ
job_ticket (Put number bytes level count ticket) = ticket_number ticket
job_ticket (Compare offset bytes level ticket) = Some ticket.number
job_ticket (Fetch offset count ticket) = Some ticket.number
job_ticket (Settle ticket) = Some ticket.number

-- What a job does. Where a Put's bytes begin, and where they were spilled, the definition alone knows.
abbrev pub task_of : ℕ → Option ℕ → Job → model.Task
task_of start place (Put number bytes level count ticket) = model.Put number start bytes count level place
task_of start place (Compare offset bytes level ticket) = model.Compare offset bytes level
task_of start place (Fetch offset count ticket) = model.Fetch offset count
task_of start place (Settle ticket) = model.Settle

abbrev pub job_of : ℕ → Option ℕ → Job → model.Job
job_of start place j = record { task = task_of start place j; ticket = job_ticket j }

-- Jobs in memory: each Put begins where the Puts before it end, and the first at n.
abbrev pub jobs_of : ℕ → List Job → List model.Job
jobs_of n [] = []
jobs_of n (j ∷ js) = job_of n None j ∷ jobs_of (n + put_size j) js

-- how many bytes a job brings
abbrev pub data_size : Job → ℕ
data_size (Put number bytes level count ticket) = length bytes
data_size (Compare offset bytes level ticket) = length bytes
data_size (Fetch offset count ticket) = 0
data_size (Settle ticket) = 0
