-- What the calls of a start come to, as they are noted.
use Rattle.std.specs.Prelude.{◌≡◌, ℕ, ◌+◌, ◌/◌, ◌≤◌, List, [], ◌∷◌, ◌++◌, replicate}
use Rattle.gw_model.specs.declared.object.KeptObject.{KeptObject}
use Rattle.gw_model.specs.declared.object.ObjectId.{ObjectId}
use Rattle.gw_model.specs.declared.object.ObjectId.TheVariants.{Log, Body}
use Rattle.gw_model.specs.Ahead.{Outcome, Done, Failed, call_count, failure_count}
use Rattle.gw_model.specs.Views.{TraceState}
use Rattle.gw_outside.specs.Tally.{calls_tally}
use Rattle.gw_outside.specs.declared.tally.Tally.{Tally}
use Rattle.edit_log.specs.declared.fault.StartFault.{StartFault}
use Rattle.edit_log.specs.declared.fault.StartFault.TheVariants as fault

-- these outcomes were noted behind those that stood there
pub record Notes (old new : TraceState) (outcomes : List Outcome) : Type 0 where
  pub noted : new.outcomes ≡ old.outcomes ++ outcomes
  pub event : new.event ≡ old.event
  pub request : new.request ≡ old.request

-- Just the calls that were noted were counted.
pub record AreCounted (old new : TraceState) (before after : Tally) : Type 0 where
  pub outcomes : List Outcome
  pub noted : new.outcomes ≡ old.outcomes ++ outcomes
  pub tally : after ≡ calls_tally (call_count outcomes) (failure_count outcomes) before

-- so many calls that were done
abbrev pub done_calls : ℕ → List Outcome
done_calls n = replicate n Done

-- in how many pieces so many bytes are read
abbrev pub piece_count : ℕ → ℕ
piece_count n = (n + 1048575) / 1048576

abbrev pub reads_in : ObjectId → ℕ → ℕ
reads_in (Log generation) size = piece_count size
reads_in (Body file version) size = 0

-- how many reads all logs take
abbrev pub read_count : List KeptObject → ℕ
read_count [] = 0
read_count (k ∷ ks) = reads_in k.object k.length + read_count ks

-- the call that failed and kept so many bytes, where it is why a start ends
abbrev pub failed_call : StartFault → ℕ → List Outcome
failed_call fault.Store kept = Failed kept ∷ []
failed_call (fault.Damaged generation place) kept = []
failed_call (fault.MissingBody file) kept = []
failed_call fault.LastGeneration kept = []
failed_call fault.Memory kept = []

-- At most so many calls were done, and then one failed where that is why a start ends.
pub record EndsAfter (most kept : ℕ) (fault : StartFault) (old new : TraceState) : Type 0 where
  pub done : ℕ
  pub few : done ≤ most
  pub notes : Notes old new (done_calls done ++ failed_call fault kept)

-- the store or memory
abbrev pub IsOutside : StartFault → Type 0
IsOutside fault.Store = Unit {0}
IsOutside (fault.Damaged generation place) = ⊥
IsOutside (fault.MissingBody file) = ⊥
IsOutside fault.LastGeneration = ⊥
IsOutside fault.Memory = Unit {0}
