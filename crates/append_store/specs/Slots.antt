-- What a store in memory has under a name, and what one call does there.
use Rattle.std.specs.Prelude.{◌≡◌, ◌≢◌, ◌+◌, ◌-◌, ◌^◌, ℕ, Bool, true, false, is_none, IsNone, IsSome, List, [], ◌∷◌, length, Option, Some, None}
use Rattle.std.specs.BTreeMap.{BTreeMap, get}
use Rattle.gw_model.specs.declared.object.KeptObject.{KeptObject}
use Rattle.gw_model.specs.declared.object.ObjectId.{ObjectId}
use Rattle.gw_outside.specs.Causes.{next_count}
use Rattle.gw_outside.specs.Tally.{no_calls}
use Rattle.append_store.specs.Plan.{plan_for, due_of}
use Rattle.append_store.specs.Calls.{Creates, object_cmp}
use Rattle.append_store.specs.State.{ObjectState, Missing, Kept, Lent, IsCrashImage, cut_state}
use Rattle.append_store.specs.File.{FileState, kept_file}
use Rattle.append_store.specs.declared.mem_file.Planned.{Planned}
use Rattle.append_store.specs.declared.slots.Deletion.{Deletion}
use Rattle.append_store.specs.declared.slots.Deletion.TheVariants.{Done, Planned as PlannedFault, Full}
use Rattle.append_store.specs.declared.slots.Entry.{Entry}
use Rattle.append_store.specs.declared.slots.Spot.{Spot}
use Rattle.append_store.specs.declared.slots.Spot.TheVariants.{Gone, Here, Out}

-- the object, its losses, how many of its calls were counted, and those that are to fail. While
-- the file is out, it has the last two.
pub record Slot : Type 0 where
  pub state : ObjectState
  pub losses : ℕ
  pub calls : ℕ
  pub plan : List Planned

abbrev pub spot_slot : ObjectId → Spot → ℕ → Slot
spot_slot object (Gone f) losses = record { state = Missing; losses = losses; calls = f.calls; plan = f.plan.items }
spot_slot object (Here f) losses = record { state = Kept f.bytes.items f.durable; losses = losses; calls = f.calls; plan = f.plan.items }
spot_slot object Out losses = record { state = Lent (object ∷ []); losses = losses; calls = 0; plan = [] }

abbrev pub entry_slot : ObjectId → Entry → Slot
entry_slot object entry = spot_slot object entry.spot entry.losses

-- a name that was never used has all its planned calls to come
abbrev pub slot_of : List Planned → ObjectId → Option Entry → Slot
slot_of failing object None = record { state = Missing; losses = 0; calls = 0; plan = plan_for object failing }
slot_of failing object (Some entry) = entry_slot object entry

-- the same by the entries of a store
abbrev pub slot_in : List Planned → BTreeMap ObjectId Entry → ObjectId → Slot
slot_in failing entries q = slot_of failing q (get object_cmp entries q)

-- an object that is there, with its length
abbrev pub entry_listing : ObjectId → Spot → List KeptObject → List KeptObject
entry_listing object (Gone f) rest = rest
entry_listing object (Here f) rest = record { object = object; length = length f.bytes.items } ∷ rest
entry_listing object Out rest = rest

-- the entries that are there, with their lengths, in order
abbrev pub entries_listing : List (ObjectId × Entry) → List KeptObject
entries_listing [] = []
entries_listing (e ∷ es) = entry_listing e.0 e.1.spot (entries_listing es)

-- a create is counted, but of an object that is out
abbrev pub calls_after_create : ObjectState → ℕ → ℕ
calls_after_create Missing calls = next_count calls
calls_after_create (Kept bytes durable) calls = next_count calls
calls_after_create (Lent mark) calls = calls

pub record CountsCreate (old new : Slot) : Type 0 where
  pub losses : new.losses ≡ old.losses
  pub calls : new.calls ≡ calls_after_create old.state old.calls
  pub plan : new.plan ≡ old.plan

-- what is planned for the next counted call on this object
abbrev pub slot_due : Slot → Option ℕ
slot_due slot = due_of slot.plan (next_count slot.calls)

-- a create is done exactly where its call isn't named, and changes nothing else
pub record CreatesSlot (old new : Slot) (made : Bool) : Type 0 where
  pub due : made ≡ is_none (slot_due old)
  pub done : made ≡ true → Creates old.state new.state
  pub failed : made ≡ false → new.state ≡ old.state
  pub counted : CountsCreate old new

-- the file was taken of this object, which is out
abbrev pub IsLentAs : Slot → FileState → Type 0
IsLentAs slot file = slot.state ≡ Lent (file.object ∷ [])

-- the object isn't out, or the file was taken of another one
abbrev pub IsForeign : Slot → FileState → Type 0
IsForeign slot file = slot.state ≢ Lent (file.object ∷ [])

-- the file has what the object had, and its call was counted
pub record IsTakenOf (old : Slot) (name : ObjectId) (file : FileState) : Type 0 where
  pub object : file.object ≡ name
  pub kept : old.state ≡ kept_file file
  pub plan : file.plan ≡ old.plan
  pub calls : file.calls ≡ next_count old.calls
  pub planned : file.planned ≡ 0
  pub starved : file.starved ≡ 0
  pub tally : file.tally ≡ no_calls

pub record IsOut (old new : Slot) (name : ObjectId) : Type 0 where
  pub state : new.state ≡ Lent (name ∷ [])
  pub losses : new.losses ≡ old.losses

-- the call was counted, and nothing else changed
pub record OnlyCounts (old new : Slot) : Type 0 where
  pub state : new.state ≡ old.state
  pub losses : new.losses ≡ old.losses
  pub calls : new.calls ≡ next_count old.calls
  pub plan : new.plan ≡ old.plan

-- the object is gone, which is a loss, and the call was counted
pub record IsDeleted (old new : Slot) : Type 0 where
  pub state : new.state ≡ Missing
  pub losses : new.losses ≡ old.losses + 1
  pub calls : new.calls ≡ next_count old.calls
  pub plan : new.plan ≡ old.plan

-- a deletion is done where its call isn't named, unless the losses stand at the greatest u64
abbrev pub DeletesSlot : Slot → Slot → Deletion → Type 0
DeletesSlot old new Done = IsNone (slot_due old) × IsDeleted old new
DeletesSlot old new PlannedFault = IsSome (slot_due old) × OnlyCounts old new
DeletesSlot old new Full = IsNone (slot_due old) × (old.losses ≡ 2 ^ 64 - 1) × OnlyCounts old new

-- after a crash that kept so many bytes more than were durable; the counts go on
abbrev pub cut_slot : ℕ → Slot → Slot
cut_slot pick slot = record slot { state = cut_state pick slot.state }

-- the same of an entry, whatever its name
pub record IsCut (pick : ℕ) (old new : Entry) : Type 0 where
  pub image : (object : ObjectId) → IsCrashImage (entry_slot object old).state (entry_slot object new).state
  pub cut : (object : ObjectId) → entry_slot object new ≡ cut_slot pick (entry_slot object old)

-- both are there and related, or neither is there
abbrev pub Related : {X : Type 0} → (X → X → Type 0) → Option X → Option X → Type 0
Related R None new = new ≡ None
Related R (Some old) None = ⊥
Related R (Some old) (Some new) = R old new

-- the object has what the file had
pub record IsBackAs (old new : Slot) (file : FileState) : Type 0 where
  pub state : new.state ≡ kept_file file
  pub losses : new.losses ≡ old.losses
  pub calls : new.calls ≡ file.calls
  pub plan : new.plan ≡ file.plan
