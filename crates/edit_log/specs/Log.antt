-- A log's file, what is put into it, and what a crash may leave of it.
use Rattle.std.specs.Prelude.{◌≡◌, ℕ, ◌+◌, ◌≤◌, Bool, true, false, List, [], ◌∷◌, ◌++◌, map, length, take, Option, None, Result, Ok, Err, is_ok, min, ◌-◌, ◌^◌}
use Rattle.gw_outside.specs.Tally.{calls_tally}
use Rattle.gw_outside.specs.declared.tally.Tally.{Tally}
use Rattle.gw_model.specs.Ahead.{CallResult, Good, Bad, failures_among, outcome_of}
use Rattle.gw_model.specs.Views.{TraceState}
use Rattle.edit_log.specs.Notes.{Notes}

-- what a file tells, and the calls that it counted
pub record LogFile : Type 0 where
  pub content : List ℕ
  pub durable : ℕ
  pub tally : Tally

abbrev pub log_file : {F : Type 0} → (F → List ℕ) → (F → ℕ) → (F → Tally) → F → LogFile
log_file content durable tally f = record { content = content f; durable = durable f; tally = tally f }

-- What it came to that bytes were put into a file and made durable.
pub data Putting : Type 0 where
  -- the append failed, and kept so many bytes
  Unappended : (kept : ℕ) → Putting
  -- the append was done, and the sync failed
  Unsynced : Putting
  Durable : Putting

abbrev pub put_calls : Putting → List CallResult
put_calls (Unappended kept) = Bad kept ∷ []
put_calls Unsynced = Good ∷ Bad 0 ∷ []
put_calls Durable = Good ∷ Good ∷ []

-- how many of so many bytes were added
abbrev pub put_count : Putting → ℕ → ℕ
put_count (Unappended kept) n = kept
put_count Unsynced n = n
put_count Durable n = n

abbrev pub is_durable : Putting → Bool
is_durable (Unappended kept) = false
is_durable Unsynced = false
is_durable Durable = true

-- Bytes were put into a file: the calls that were made were noted and counted, and what they kept of the bytes was added.
pub record Puts {T E : Type 0} (tells : Type 0) (bytes : List ℕ) (result : Result T E) (old new : LogFile)
    (noted noted' : TraceState) : Type 0 where
  pub putting : Putting
  pub ok : is_ok result ≡ is_durable putting
  pub few : put_count putting (length bytes) ≤ length bytes
  pub notes : Notes noted noted' (map outcome_of (put_calls putting))
  pub tally : new.tally ≡ calls_tally (length (put_calls putting)) (failures_among (put_calls putting)) old.tally
  pub content : tells → new.content ≡ old.content ++ take (put_count putting (length bytes)) bytes
  pub durable : tells → old.durable ≤ new.durable
  pub synced : tells → is_durable putting ≡ true → new.durable ≡ length new.content

-- The file holds what was answered, all of it durable, and behind it what an add that failed left.
pub record Holds (content : List ℕ) (durable : ℕ) (failed : Option ℕ) (answered rest : List ℕ) : Type 0 where
  pub bytes : content ≡ answered ++ rest
  pub safe : length answered ≤ durable
  pub whole : failed ≡ None → rest ≡ []

-- After an add: the text is answered too, or some of it stands behind what was.
abbrev pub HoldsAfter : {T E : Type 0} → Result T E → List ℕ → ℕ → Option ℕ → List ℕ → List ℕ → Type 0
HoldsAfter (Ok x) content durable failed answered text = Holds content durable failed (answered ++ text) []
HoldsAfter (Err e) content durable failed answered text = (n : ℕ) × (n ≤ length text) × Holds content durable failed answered (take n text)

-- how many edits were added, up to the greatest u64
abbrev pub added_after : {T E : Type 0} → Result T E → ℕ → ℕ
added_after (Ok x) added = min (added + 1) (2 ^ 64 - 1)
added_after (Err e) added = added
