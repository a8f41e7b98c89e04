-- A store in memory, as contracts see it, and what its calls do with the planned failures.
use Rattle.std.specs.Prelude.{◌≡◌, ◌+◌, ◌-◌, ◌^◌, min, ℕ, Bool, true, false, List, is_some, is_err, OnErr, IsSome, IsNone, Option, Some, None, Result, Ok, Err}
use Rattle.gw_model.specs.declared.object.ObjectId.{ObjectId}
use Rattle.gw_outside.specs.Causes.{next_count, count_after}
use Rattle.gw_outside.specs.Tally.{no_calls}
use Rattle.gw_outside.specs.declared.tally.Tally.{Tally}
use Rattle.append_store.specs.Plan.{plan_for, is_store_call_named}
use Rattle.append_store.specs.State.{ObjectState, Missing}
use Rattle.append_store.specs.File.{FileState}
use Rattle.append_store.specs.Slots.{Slot, slot_due, slot_in, OnlyCounts, CountsCreate, IsDeleted, cut_slot}
use Rattle.append_store.specs.declared.mem_cluster.MemCluster.{MemCluster}
use Rattle.append_store.specs.declared.mem_file.Planned.{Planned}
use Rattle.append_store.specs.declared.store.CreateFault.{CreateFault}
use Rattle.append_store.specs.declared.store.CreateFault.TheVariants.{Fault, Memory}
use Rattle.append_store.specs.declared.store.ListFault.{ListFault}
use Rattle.append_store.specs.declared.store.ListFault.TheVariants.{Fault as ListFails, Memory as ListStarves}

-- what is kept under each name, the calls that are to fail, how many calls on the store as a whole
-- were counted, the two numbers of faults, and the calls that were made
pub record StoreState : Type 0 where
  pub slots : ObjectId → Slot
  pub failing : List Planned
  pub calls : ℕ
  pub planned : ℕ
  pub starved : ℕ
  pub tally : Tally

abbrev pub store_of : MemCluster → StoreState
store_of c = record {
  slots = slot_in c.failing.items c.entries;
  failing = c.failing.items;
  calls = c.calls;
  planned = c.planned;
  starved = c.starved;
  tally = c.tally;
}

abbrev pub slot_at : MemCluster → ObjectId → Slot
slot_at c q = (store_of c).slots q

abbrev pub state_at : MemCluster → ObjectId → ObjectState
state_at c q = (slot_at c q).state

abbrev pub losses_at : MemCluster → ObjectId → ℕ
losses_at c q = (slot_at c q).losses

-- the faults of a store in memory: both numbers together, up to the greatest u64
abbrev pub store_count : MemCluster → ℕ
store_count c = min (c.planned + c.starved) (2 ^ 64 - 1)

-- nothing is there, and all planned calls are to come
pub record IsNewStore (store : StoreState) (entries : List Planned) : Type 0 where
  pub slots : (q : ObjectId) → store.slots q ≡ record { state = Missing; losses = 0; calls = 0; plan = plan_for q entries }
  pub failing : store.failing ≡ entries
  pub calls : store.calls ≡ 0
  pub planned : store.planned ≡ 0
  pub starved : store.starved ≡ 0
  pub tally : store.tally ≡ no_calls

-- a create that is named fails; another is done, unless the making of an entry finds no memory
abbrev pub CreateOutcome : {T : Type 0} → StoreState → StoreState → ObjectId → Result T CreateFault → Type 0
CreateOutcome old new object (Ok x) =
    IsNone (slot_due (old.slots object)) × (new.planned ≡ old.planned) × (new.starved ≡ old.starved)
    × CountsCreate (old.slots object) (new.slots object)
CreateOutcome old new object (Err Fault) =
    IsSome (slot_due (old.slots object)) × (new.planned ≡ next_count old.planned) × (new.starved ≡ old.starved)
    × CountsCreate (old.slots object) (new.slots object)
CreateOutcome old new object (Err Memory) =
    ((old.slots object).state ≡ Missing) × (new.planned ≡ old.planned) × (new.starved ≡ next_count old.starved)
    × (new.slots object ≡ old.slots object)

pub record CreatesAsPlanned {T : Type 0} (old new : StoreState) (object : ObjectId) (result : Result T CreateFault) : Type 0 where
  pub failing : new.failing ≡ old.failing
  pub calls : new.calls ≡ old.calls
  pub outcome : CreateOutcome old new object result

-- a taking fails exactly where it is named
pub record TakesAsPlanned {T E : Type 0} (old new : StoreState) (object : ObjectId) (result : Result T E) : Type 0 where
  pub failing : new.failing ≡ old.failing
  pub calls : new.calls ≡ old.calls
  pub failed : is_err result ≡ is_some (slot_due (old.slots object))
  pub planned : new.planned ≡ count_after old.planned (is_err result)
  pub starved : new.starved ≡ old.starved
  pub slot : OnErr result (OnlyCounts (old.slots object) (new.slots object))

-- a read fails exactly where it is named, and changes nothing but the counts
pub record ReadsClosedAsPlanned {T E : Type 0} (old new : StoreState) (object : ObjectId) (result : Result T E) : Type 0 where
  pub failing : new.failing ≡ old.failing
  pub calls : new.calls ≡ old.calls
  pub failed : is_err result ≡ is_some (slot_due (old.slots object))
  pub planned : new.planned ≡ count_after old.planned (is_err result)
  pub starved : new.starved ≡ old.starved
  pub slot : OnlyCounts (old.slots object) (new.slots object)

-- a deletion is done where its call isn't named, unless the losses stand at the greatest u64
abbrev pub DeleteOutcome : {T E : Type 0} → Option ℕ → Slot → Slot → ℕ → ℕ → Result T E → Type 0
DeleteOutcome None old new starved starved' (Ok x) = IsDeleted old new × (starved' ≡ starved)
DeleteOutcome None old new starved starved' (Err e) = OnlyCounts old new × (old.losses ≡ 2 ^ 64 - 1) × (starved' ≡ next_count starved)
DeleteOutcome (Some kept) old new starved starved' (Ok x) = ⊥
DeleteOutcome (Some kept) old new starved starved' (Err e) = OnlyCounts old new × (starved' ≡ starved)

pub record DeletesAsPlanned {T E : Type 0} (old new : StoreState) (object : ObjectId) (result : Result T E) : Type 0 where
  pub failing : new.failing ≡ old.failing
  pub calls : new.calls ≡ old.calls
  pub planned : new.planned ≡ count_after old.planned (is_some (slot_due (old.slots object)))
  pub outcome : DeleteOutcome (slot_due (old.slots object)) (old.slots object) (new.slots object) old.starved new.starved result

-- whether the next call on the store as a whole is to fail
abbrev pub store_due : StoreState → Bool
store_due s = is_store_call_named s.failing (next_count s.calls)

-- a listing that isn't named is done, unless it finds no memory
abbrev pub ListOutcome : {T : Type 0} → Bool → ℕ → ℕ → Result T ListFault → Type 0
ListOutcome false starved starved' (Ok x) = starved' ≡ starved
ListOutcome false starved starved' (Err ListFails) = ⊥
ListOutcome false starved starved' (Err ListStarves) = starved' ≡ next_count starved
ListOutcome true starved starved' (Ok x) = ⊥
ListOutcome true starved starved' (Err ListFails) = starved' ≡ starved
ListOutcome true starved starved' (Err ListStarves) = ⊥

-- a listing is counted, and changes nothing but the counts
pub record ListsAsPlanned {T : Type 0} (old new : StoreState) (result : Result T ListFault) : Type 0 where
  pub failing : new.failing ≡ old.failing
  pub calls : new.calls ≡ next_count old.calls
  pub planned : new.planned ≡ count_after old.planned (store_due old)
  pub outcome : ListOutcome (store_due old) old.starved new.starved result

-- a slot after a reopening that kept so many bytes more than were durable, or failed
abbrev pub reopened_slot : ℕ → Bool → Slot → Slot
reopened_slot pick true slot = slot
reopened_slot pick false slot = cut_slot pick slot

-- a reopening fails exactly where it is named, and changes nothing but the counts then
pub record ReopensAsPlanned {T E : Type 0} (old new : StoreState) (pick : ℕ) (result : Result T E) : Type 0 where
  pub failing : new.failing ≡ old.failing
  pub calls : new.calls ≡ next_count old.calls
  pub failed : is_err result ≡ store_due old
  pub planned : new.planned ≡ count_after old.planned (is_err result)
  pub starved : new.starved ≡ old.starved
  pub slots : (q : ObjectId) → new.slots q ≡ reopened_slot pick (is_err result) (old.slots q)

-- the file's two numbers are added
pub record AddsFaults (old new : StoreState) (file : FileState) : Type 0 where
  pub failing : new.failing ≡ old.failing
  pub calls : new.calls ≡ old.calls
  pub planned : new.planned ≡ min (old.planned + file.planned) (2 ^ 64 - 1)
  pub starved : new.starved ≡ min (old.starved + file.starved) (2 ^ 64 - 1)
