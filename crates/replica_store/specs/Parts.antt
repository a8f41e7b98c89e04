-- The files of one object in the members, as contracts see them, and what the calls do to them.
use Rattle.std.specs.Prelude.{slice_index_or, sum_by, ◌≡◌, ℕ, ◌+◌, ◌-◌, ◌^◌, ◌<◌, ◌≤◌, ◌++◌, min, not, Bool, true, false, List, [], length, map, take, is_some, Option, Some, None}
use Rattle.std.specs.List.{AllByRecursion, AllZip}
use Rattle.gw_model.specs.declared.object.ObjectId.{ObjectId}
use Rattle.gw_outside.specs.Tally.{no_calls, one_call}
use Rattle.gw_outside.specs.declared.tally.Tally.{Tally}
use Rattle.replica_store.specs.Marks.{joined}
use Rattle.replica_store.specs.declared.calls.Answered.{Answered}

-- a member's file, if the member gave one; whether it is still written, and how many bytes the last
-- append kept
pub record PartView : Type 0 where
  pub mark : Option (List ObjectId)
  pub content : List ℕ
  pub durable : ℕ
  pub count : ℕ
  pub tally : Tally
  pub live : Bool
  pub kept : ℕ

-- a part whose member gave no file
abbrev pub empty_part : Bool → ℕ → PartView
empty_part live kept = record { mark = None; content = []; durable = 0; count = 0; tally = no_calls; live = live; kept = kept }

-- a part by what its file tells
abbrev pub part_view : {F : Type 0} → (F → List ObjectId) → (F → List ℕ) → (F → ℕ) → (F → ℕ) → (F → Tally) → Option F → Bool → ℕ
    → PartView
part_view mark content durable count tally None live kept = empty_part live kept
part_view mark content durable count tally (Some f) live kept =
    record { mark = Some (mark f); content = content f; durable = durable f; count = count f; tally = tally f; live = live; kept = kept }

-- how often the members' files have failed, together
abbrev pub counts : List PartView → ℕ
counts ps = sum_by (λ p. p.count) ps

abbrev pub one_if : Bool → ℕ
one_if true = 1
one_if false = 0

-- how many are still written
abbrev pub live_of : List PartView → ℕ
live_of ps = sum_by (λ p. one_if p.live) ps

abbrev pub part_of : List PartView → ℕ → PartView
part_of ps k = slice_index_or ps k (empty_part false 0)

-- all that are still written have these bytes
abbrev pub HaveBytes : List ℕ → List PartView → Type 0
HaveBytes bytes ps = AllByRecursion (λ p. p.live ≡ true → p.content ≡ bytes) ps

-- a call on a file that is written
abbrev pub IsCalled : PartView → Type 0
IsCalled p = (p.live ≡ true) × (is_some p.mark ≡ true)

-- a call on a file that is written and is dropped failed
abbrev pub DropsFailed : PartView → PartView → Type 0
DropsFailed old new = IsCalled old → new.live ≡ false → new.tally ≡ one_call true old.tally

-- what an append, done or failed, does to a member's file; one that isn't written any more stays as it is
pub record Appends (told : Type 0) (bytes : List ℕ) (old new : PartView) : Type 0 where
  pub live : new.live ≡ old.live
  pub mark : new.mark ≡ old.mark
  pub kept : new.kept ≤ length bytes
  pub content : old.live ≡ true → told → new.content ≡ old.content ++ take new.kept bytes
  pub idle : old.live ≡ false → new.content ≡ old.content
  pub durable : told → old.durable ≤ new.durable
  pub later : old.count ≤ new.count
  pub failed : IsCalled old → new.kept < length bytes → new.tally ≡ one_call true old.tally

-- those that kept less are dropped
pub record DropsShort (most : ℕ) (old new : PartView) : Type 0 where
  pub live : new.live ≡ true → (old.live ≡ true) × (most ≤ old.kept)
  pub dropped : old.live ≡ true → new.live ≡ false → old.kept < most
  pub mark : new.mark ≡ old.mark
  pub content : new.content ≡ old.content
  pub durable : new.durable ≡ old.durable
  pub count : new.count ≡ old.count
  pub tally : new.tally ≡ old.tally

-- what an hsync does to a member's file: it is dropped exactly where it fails
pub record Syncs (told : Type 0) (old new : PartView) : Type 0 where
  pub live : new.live ≡ true → (old.live ≡ true) × (told → new.durable ≡ length new.content)
  pub mark : new.mark ≡ old.mark
  pub content : told → new.content ≡ old.content
  pub durable : told → old.durable ≤ new.durable
  pub later : old.count ≤ new.count
  pub called : IsCalled old → new.tally ≡ one_call (not new.live) old.tally
  pub failing : old.tally.failed ≤ new.tally.failed

-- what a read does to a member's file: one that fails is dropped
pub record ReadsFile (told : Type 0) (old new : PartView) : Type 0 where
  pub live : new.live ≡ true → old.live ≡ true
  pub mark : new.mark ≡ old.mark
  pub content : told → new.content ≡ old.content
  pub durable : told → new.durable ≡ old.durable
  pub later : old.count ≤ new.count
  pub dropped : DropsFailed old new

-- a read that gave nothing: where the file has the length that is looked for, its call failed
pub record FailsToRead (told : Type 0) (size : ℕ) (old new : PartView) : Type 0 where
  pub reads : ReadsFile told old new
  pub failed : IsCalled old → length old.content ≡ size → new.tally ≡ one_call true old.tally

-- the files of one object: which of them tells its bytes, how many bytes of each that is written
-- are durable at least, and the calls that were answered
pub record FilesState : Type 0 where
  pub parts : List PartView
  pub chief : ℕ
  pub quorum : ℕ
  pub synced : ℕ
  pub answered : Answered

-- no call was answered yet
abbrev pub fresh_files : List PartView → ℕ → ℕ → ℕ → FilesState
fresh_files parts chief quorum synced =
    record { parts = parts; chief = chief; quorum = quorum; synced = synced; answered = record { refusals = 0; tally = no_calls } }

abbrev pub bytes_in : FilesState → List ℕ
bytes_in f = (part_of f.parts f.chief).content

-- what the members' files are marked by, one after another
abbrev pub file_mark : FilesState → List ObjectId
file_mark f = joined (map (λ p. p.mark) f.parts)

abbrev pub durable_in : FilesState → ℕ
durable_in f = min f.synced (length (bytes_in f))

abbrev pub count_in : FilesState → ℕ
count_in f = min (counts f.parts + f.answered.refusals) (2 ^ 64 - 1)

-- a file that is still written is there, has these bytes, and so many of them are durable at least
pub record IsCopy (told : Type 0) (bytes : List ℕ) (synced : ℕ) (p : PartView) : Type 0 where
  pub there : p.live ≡ true → is_some p.mark ≡ true
  pub content : p.live ≡ true → told → p.content ≡ bytes
  pub durable : p.live ≡ true → told → synced ≤ p.durable

-- all that are still written are copies of the chief, which is there
pub record AreCopies (told : Type 0) (parts : List PartView) (chief synced : ℕ) : Type 0 where
  pub there : chief < length parts
  pub held : is_some (part_of parts chief).mark ≡ true
  pub copies : AllByRecursion (IsCopy told (part_of parts chief).content synced) parts

-- one that is still written and kept the most of the last append
pub record IsLead (parts : List PartView) (lead : ℕ) : Type 0 where
  pub there : lead < length parts
  pub live : (part_of parts lead).live ≡ true
  pub most : AllByRecursion (λ p. p.live ≡ true → p.kept ≤ (part_of parts lead).kept) parts

-- what an append that kept so many bytes makes of a member's file: one that kept fewer is dropped
pub record Grows (told : Type 0) (bytes : List ℕ) (kept : ℕ) (old new : PartView) : Type 0 where
  pub live : new.live ≡ true → old.live ≡ true
  pub mark : new.mark ≡ old.mark
  pub content : new.live ≡ true → told → new.content ≡ old.content ++ take kept bytes
  pub durable : told → old.durable ≤ new.durable
  pub later : old.count ≤ new.count
  pub failed : IsCalled old → kept < length bytes → new.tally ≡ one_call true old.tally
  pub dropped : DropsFailed old new

-- an append that kept so many bytes, by the one that leads
pub record LeadsAppend (told : Type 0) (bytes : List ℕ) (olds news : List PartView) (lead kept : ℕ) : Type 0 where
  pub few : kept ≤ length bytes
  pub there : lead < length news
  pub live : (part_of olds lead).live ≡ true
  pub content : told → (part_of news lead).content ≡ (part_of olds lead).content ++ take kept bytes
  pub pairs : AllZip (Grows told bytes kept) olds news

-- an append where none is written any more
pub record IsIdle (told : Type 0) (bytes : List ℕ) (olds news : List PartView) : Type 0 where
  pub pairs : AllZip (Appends told bytes) olds news
  pub none : AllByRecursion (λ p. p.live ≡ false) news

-- each file that was written was called, and failed
abbrev pub AllFailed : List PartView → List PartView → Type 0
AllFailed olds news = AllZip (λ p q. p.live ≡ true → q.tally ≡ one_call true p.tally) olds news

-- each file that was dropped was called, and failed
abbrev pub OnlyFailedDropped : List PartView → List PartView → Type 0
OnlyFailedDropped olds news = AllZip (λ p q. p.live ≡ true → q.live ≡ false → q.tally ≡ one_call true p.tally) olds news
