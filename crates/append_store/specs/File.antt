-- A file in memory, as contracts see it, and what its calls do.
use Rattle.std.specs.Prelude.{◌≡◌, ◌⊎◌, ◌+◌, ◌-◌, ◌^◌, min, ℕ, Bool, true, false, List, [], length, take, Option, Some, None, is_some, is_err, Result, Ok, Err}
use Rattle.gw_model.specs.declared.object.ObjectId.{ObjectId}
use Rattle.gw_outside.specs.Causes.{next_count, count_after}
use Rattle.gw_outside.specs.Tally.{no_calls, one_call}
use Rattle.gw_outside.specs.declared.tally.Tally.{Tally}
use Rattle.append_store.specs.Plan.{due_of}
use Rattle.append_store.specs.State.{ObjectState, Kept, kept_length}
use Rattle.append_store.specs.declared.mem_file.MemFile.{MemFile}
use Rattle.append_store.specs.declared.mem_file.Planned.{Planned}
use Rattle.append_store.specs.declared.store.AppendFault.{AppendFault}

-- the object and its bytes, how many of them are durable, the calls of the object that are to
-- fail, how many of its calls were counted, the two numbers of faults, and the calls since it was
-- taken
pub record FileState : Type 0 where
  pub object : ObjectId
  pub content : List ℕ
  pub durable : ℕ
  pub plan : List Planned
  pub calls : ℕ
  pub planned : ℕ
  pub starved : ℕ
  pub tally : Tally

abbrev pub file_state : MemFile → FileState
file_state f = record {
  object = f.object;
  content = f.bytes.items;
  durable = f.durable;
  plan = f.plan.items;
  calls = f.calls;
  planned = f.planned;
  starved = f.starved;
  tally = f.tally;
}

-- the object that has what a file has
abbrev pub kept_file : FileState → ObjectState
kept_file f = Kept f.content f.durable

-- the faults of a file in memory: both numbers together, up to the greatest u64
abbrev pub file_count : FileState → ℕ
file_count f = min (f.planned + f.starved) (2 ^ 64 - 1)

-- what is planned for the next counted call
abbrev pub next_due : FileState → Option ℕ
next_due f = due_of f.plan (next_count f.calls)

-- a growth found no memory, and nothing is kept
abbrev pub IsStarved : ℕ → ℕ → ℕ → Type 0
IsStarved starved starved' kept = (starved' ≡ next_count starved) × (kept ≡ 0)

-- a named append keeps the lesser of what its entry says and the piece; a growth that finds no
-- memory keeps nothing, and makes any append fail; another one is done
abbrev pub AppendOutcome : {T : Type 0} → Option ℕ → ℕ → ℕ → ℕ → Result T AppendFault → Type 0
AppendOutcome None size starved starved' (Ok x) = starved' ≡ starved
AppendOutcome None size starved starved' (Err e) = IsStarved starved starved' e.kept
AppendOutcome (Some kept) size starved starved' (Ok x) = ⊥
AppendOutcome (Some kept) size starved starved' (Err e) =
    ((starved' ≡ starved) × (e.kept ≡ min kept size)) ⊎ IsStarved starved starved' e.kept

-- an append of so many bytes is counted, and makes nothing durable
pub record FileAppendsAsPlanned {T : Type 0} (old new : FileState) (size : ℕ) (result : Result T AppendFault) : Type 0 where
  pub durable : new.durable ≡ old.durable
  pub plan : new.plan ≡ old.plan
  pub calls : new.calls ≡ next_count old.calls
  pub planned : new.planned ≡ count_after old.planned (is_some (next_due old))
  pub outcome : AppendOutcome (next_due old) size old.starved new.starved result

-- the file after a counted call that changed nothing else
abbrev pub counted_call : FileState → Bool → FileState
counted_call f failed = record f { calls = next_count f.calls; planned = count_after f.planned failed; tally = one_call failed f.tally }

-- the file after a counted hsync
abbrev pub synced_file : FileState → Bool → FileState
synced_file f true = counted_call f true
synced_file f false = record (counted_call f false) { durable = length f.content }

-- a read fails exactly where it is named, and changes nothing but the counts
pub record FileReadsAsPlanned {T E : Type 0} (old new : FileState) (result : Result T E) : Type 0 where
  pub failed : is_err result ≡ is_some (next_due old)
  pub counted : new ≡ counted_call old (is_err result)

-- an hsync fails exactly where it is named, and changes nothing but the counts then
pub record FileSyncsAsPlanned {T E : Type 0} (old new : FileState) (result : Result T E) : Type 0 where
  pub failed : is_err result ≡ is_some (next_due old)
  pub counted : new ≡ synced_file old (is_err result)

-- a call was counted, with its planned failure
pub record IsDue (old new : MemFile) (kept : Option ℕ) : Type 0 where
  pub object : new.object ≡ old.object
  pub bytes : new.bytes ≡ old.bytes
  pub durable : new.durable ≡ old.durable
  pub plan : new.plan ≡ old.plan
  pub calls : new.calls ≡ next_count old.calls
  pub due : kept ≡ next_due (file_state old)
  pub planned : new.planned ≡ count_after old.planned (is_some kept)
  pub starved : new.starved ≡ old.starved
  pub tally : new.tally ≡ old.tally

-- nothing is there, and no call was counted
pub record IsFresh (file : FileState) (entries : List Planned) : Type 0 where
  pub content : file.content ≡ []
  pub durable : file.durable ≡ 0
  pub plan : file.plan ≡ entries
  pub calls : file.calls ≡ 0

pub record IsEmptied (old new : FileState) : Type 0 where
  pub content : new.content ≡ []
  pub durable : new.durable ≡ 0
  pub plan : new.plan ≡ old.plan
  pub calls : new.calls ≡ old.calls

pub record IsHandedOut (old new : FileState) (name : ObjectId) : Type 0 where
  pub object : new.object ≡ name
  pub content : new.content ≡ old.content
  pub durable : new.durable ≡ old.durable
  pub plan : new.plan ≡ old.plan
  pub calls : new.calls ≡ old.calls
  pub planned : new.planned ≡ 0
  pub starved : new.starved ≡ 0
  pub tally : new.tally ≡ no_calls

-- the file after a crash that kept so many bytes more than were durable
abbrev pub cut_file : ℕ → FileState → FileState
cut_file pick f = record f {
  content = take (kept_length pick (length f.content) f.durable) f.content;
  durable = kept_length pick (length f.content) f.durable;
}
