-- A turn of the writer side.
use Rattle.std.proofs.Common.{◌≡◌, ℕ, ◌+◌, ◌≤◌, List, [], ◌∷◌, ◌++◌, length, arith, length-take}
use Rattle.gw_model.specs.Ahead.{CallResult, Good, Bad}
use Rattle.gw_model.specs.File.{Writer}
use Rattle.job_line.specs.Items.{MayFollow, put_size}
use Rattle.job_line.specs.Ends.{base_taken, jobs_taken, mark_taken}
use Rattle.job_line.specs.declared.items.Job.{Job}
use Rattle.job_line.specs.declared.items.Job.TheVariants.{Put, Compare, Fetch, Settle}
use Rattle.job_line.specs.declared.ends.LineOut.{LineOut}
use Rattle.writeback.specs.Steps.{appended_bytes, put_bytes}
use Rattle.file_cell.specs.State.{IsWithinTaken}
use Rattle.file_cell.proofs.State.{end_after, end_within}

few_added : (calls : List CallResult) (bytes : List ℕ) → length (appended_bytes calls bytes) ≤ length bytes
few_added [] bytes = omega arith
few_added (Good ∷ calls) bytes = omega arith
few_added (Bad kept ∷ calls) bytes = omega (arith, length-take kept bytes)

-- calls append no more than their job brings
few_put : (calls : List CallResult) (j : Job) → length (put_bytes calls j) ≤ put_size j
few_put calls (Put number bytes level count ticket) = few_added calls bytes
few_put calls (Compare offset bytes level ticket) = omega arith
few_put calls (Fetch offset count ticket) = omega arith
few_put calls (Settle ticket) = omega arith

pub turn_within : (w v : Writer) (o p : LineOut) (j : Job) (calls : List CallResult) → IsWithinTaken w o → mark_taken p ≡ mark_taken o → jobs_taken p ≡ jobs_taken o ++ j ∷ []
    → MayFollow (base_taken o) (jobs_taken o) j → v.stored ≡ w.stored + length (put_bytes calls j) → IsWithinTaken v p
turn_within w v o p j calls is mark taken fits stored =
    let end = end_after o p j mark taken in
    let low = end_within (base_taken o) (jobs_taken o) j is.low fits in
    let few = few_put calls j in
    record { stored = omega (arith, end, few, stored, is.stored); low = omega (arith, end, low) }
