-- What the calls of a writer do: the step of the definitions, the outcomes noted, and what is left of the file.
use Rattle.std.specs.Prelude.{◌≡◌, ℕ, zero, suc, ◌<◌, ◌+◌, ◌-◌, ◌^◌, ◌≤◌, ◌&&◌, min, Bool, true, false, ◌⊎◌, List, [], ◌∷◌, ◌++◌, map, length, take, Option, None, Some, Result, Ok, Err}
use Rattle.gw_outside.specs.Tally.{calls_tally}
use Rattle.gw_model.specs.Ahead.{Outcomes, CallResult, Good, Bad, failures_among, is_refused, outcome_of, past_refusal}
use Rattle.gw_model.specs.declared.Stable.{Stable}
use Rattle.gw_model.specs.File as model
use Rattle.gw_model.specs.File.{Put, Answer, Body, Wrote, NotWritten, Committed, NotCommitted, Gave, NotGiven, SystemErr, Silence, Writer}
use Rattle.gw_model.specs.Admission.{answer_if, is_unstable, same_bytes}
use Rattle.gw_model.specs.Statuses.{io, inval}
use Rattle.gw_model.specs.Writer.{WriterStep, writer_step, job_step, range_of, store_step}
use Rattle.gw_model.specs.Views.{TraceState}
use Rattle.append_store.specs.declared.store.AppendFault.{AppendFault}
use Rattle.job_line.specs.declared.items.Job.{Job}
use Rattle.job_line.specs.declared.items.Job.TheVariants as job
use Rattle.job_line.specs.Views.{job_of}
use Rattle.writeback.specs.State.{FileSeen, WriterSeen}
use Rattle.writeback.specs.declared.writer.Appended.{Appended}
use Rattle.writeback.specs.declared.writer.Appended.TheVariants as appended
use Rattle.writeback.specs.declared.writer.Compared.{Compared}
use Rattle.writeback.specs.declared.writer.Compared.TheVariants as compared
use Rattle.writeback.specs.declared.owed.Fate.{Fate}
use Rattle.writeback.specs.declared.owed.Fate.TheVariants.{Durable, Fault}
use Rattle.writeback.specs.declared.owed.Synced.{Synced}
use Rattle.writeback.specs.declared.owed.Synced.TheVariants as synced
use Rattle.writeback.specs.declared.writer.Found.{Found}
use Rattle.writeback.specs.declared.writer.Found.TheVariants as found

-- calls on the file

-- the outcomes of these calls come before those that are left
abbrev pub with_calls_ahead : List CallResult → Outcomes → Outcomes
with_calls_ahead calls t = record t { left = map outcome_of calls ++ t.left }

-- these calls are noted, each in the room that there is
abbrev pub with_calls : List CallResult → TraceState → TraceState
with_calls calls n = record n { outcomes = n.outcomes ++ map outcome_of calls; room = n.room - length calls }

-- what calls left of a file: where it tells what it holds, it grew by these bytes; it counted exactly these calls; its
-- count of faults rose by at least as many as failed, or stands at its last value
pub record Leaves (tells : Type 0) (put : List ℕ) (calls : List CallResult) (old new : FileSeen) : Type 0 where
  pub mark : new.mark ≡ old.mark
  pub content : tells → new.content ≡ old.content ++ put
  pub durable : tells → old.durable ≤ new.durable
  pub tally : new.tally ≡ calls_tally (length calls) (failures_among calls) old.tally
  pub later : old.faults ≤ new.faults
  pub fails : min (old.faults + failures_among calls) (2 ^ 64 - 1) ≤ new.faults

-- a call that answered so
abbrev pub append_call : {T : Type 0} → Result T AppendFault → CallResult
append_call (Ok x) = Good
append_call (Err e) = Bad e.kept

abbrev pub plain_call : {T E : Type 0} → Result T E → CallResult
plain_call (Ok x) = Good
plain_call (Err e) = Bad 0

-- what an append keeps
abbrev pub kept_bytes : CallResult → List ℕ → List ℕ
kept_bytes Good bytes = bytes
kept_bytes (Bad kept) bytes = take kept bytes

-- what calls add to the file, of which the first is an append of these bytes
abbrev pub appended_bytes : List CallResult → List ℕ → List ℕ
appended_bytes [] bytes = []
appended_bytes (c ∷ calls) bytes = kept_bytes c bytes

-- what a job adds to the file
abbrev pub put_bytes : List CallResult → Job → List ℕ
put_bytes calls (job.Put number bytes level count ticket) = appended_bytes calls bytes
put_bytes calls (job.Compare offset bytes level ticket) = []
put_bytes calls (job.Fetch offset count ticket) = []
put_bytes calls (job.Settle ticket) = []

-- the bytes that a job appends, where it is done whole
abbrev pub put_data : Job → List ℕ
put_data (job.Put number bytes level count ticket) = bytes
put_data (job.Compare offset bytes level ticket) = []
put_data (job.Fetch offset count ticket) = []
put_data (job.Settle ticket) = []

-- a turn

-- a Put begins where the stored bytes of a working writer end
abbrev pub IsNextPut : Writer → ℕ → Type 0
IsNextPut w start = w.failed ≡ None → start ≡ w.stored

-- The file tells what it holds, and has these bytes where the job reads.
abbrev pub Reads : Type 0 → Job → Writer → List ℕ → List ℕ → Type 0
Reads tells (job.Put number bytes level count ticket) w content all = Unit {0}
Reads tells (job.Compare offset bytes level ticket) w content all =
    tells × (range_of offset (length bytes) all ≡ range_of offset (length bytes) content)
Reads tells (job.Fetch offset count ticket) w content all = tells × (take w.stored all ≡ take w.stored content)
Reads tells (job.Settle ticket) w content all = Unit {0}

-- only a Fetch takes memory
abbrev pub takes_memory : Job → Bool
takes_memory (job.Put number bytes level count ticket) = false
takes_memory (job.Compare offset bytes level ticket) = false
takes_memory (job.Fetch offset count ticket) = true
takes_memory (job.Settle ticket) = false

abbrev pub is_want : List Answer → Bool
is_want [] = false
is_want (a ∷ answers) = wants a.body
  where
    wants : Body → Bool
    wants SystemErr = true
    wants _ = false

-- the note of a refusal of memory is taken up
abbrev pub past_refusal_if : Bool → Outcomes → Outcomes
past_refusal_if true t = past_refusal t
past_refusal_if false t = t

-- Want of memory: nothing was called and nothing changed.
pub record IsWant (j : Job) (calls : List CallResult) (old new : WriterSeen) : Type 0 where
  pub takes : takes_memory j ≡ true
  pub none : calls ≡ []
  pub same : new ≡ old

-- the writer works on, and stored these bytes whole
pub record WorksOn (bytes put : List ℕ) (old new : Writer) : Type 0 where
  pub before : old.failed ≡ None
  pub now : new.failed ≡ None
  pub whole : put ≡ bytes

-- an append failed, and a front of these bytes is stored
pub record FailsNow (bytes put : List ℕ) (calls : List CallResult) (old new : Writer) : Type 0 where
  pub kept : ℕ
  pub before : old.failed ≡ None
  pub now : new.failed ≡ Some (record { stored = new.stored; kept = kept })
  pub call : calls ≡ Bad kept ∷ []
  pub few : kept ≤ length bytes
  pub front : put ≡ take kept bytes

-- an append had failed before, and nothing is stored any more
pub record StaysFailed (put : List ℕ) (old new : Writer) : Type 0 where
  pub failure : model.Failure
  pub before : old.failed ≡ Some failure
  pub now : new.failed ≡ Some failure
  pub none : put ≡ []

-- by what became of the bytes
abbrev pub FailsBy : Appended → List ℕ → List ℕ → List CallResult → Writer → Writer → Type 0
FailsBy appended.Whole bytes put calls old new = WorksOn bytes put old new
FailsBy appended.Failed bytes put calls old new = FailsNow bytes put calls old new ⊎ StaysFailed put old new

abbrev pub is_compare : Job → Bool
is_compare (job.Put number bytes level count ticket) = false
is_compare (job.Compare offset bytes level ticket) = true
is_compare (job.Fetch offset count ticket) = false
is_compare (job.Settle ticket) = false

-- the writer works, and no call failed; a comparison was made
pub record IsDone (j : Job) (calls : List CallResult) (failed : Option model.Failure) : Type 0 where
  pub works : failed ≡ None
  pub good : failures_among calls ≡ 0
  pub compared : is_compare j ≡ true → calls ≡ Good ∷ []

-- an append failed before, or a call failed now
abbrev pub HasFailure : List CallResult → Option model.Failure → Type 0
HasFailure calls failed = ((e : model.Failure) × (failed ≡ Some e)) ⊎ (failures_among calls ≡ 1)

-- What an answer of a turn rests on, also where the file doesn't tell what it holds. IO means a failed writer or a
-- failed call, and INVAL a comparison that was made; no other refusal is given.
abbrev pub BodyCause : Body → Job → List CallResult → Option model.Failure → Type 0
BodyCause (Wrote count level) j calls failed = IsDone j calls failed
BodyCause (NotWritten status) j calls failed =
    ((status ≡ io) × HasFailure calls failed) ⊎ ((status ≡ inval) × (is_compare j ≡ true) × IsDone j calls failed)
BodyCause Committed j calls failed = ⊥
BodyCause (NotCommitted status) j calls failed = (status ≡ io) × ((e : model.Failure) × (failed ≡ Some e))
BodyCause (Gave bytes eof) j calls failed = failures_among calls ≡ 0
BodyCause (NotGiven status) j calls failed = (status ≡ io) × (failures_among calls ≡ 1)
BodyCause SystemErr j calls failed = (takes_memory j ≡ true) × (calls ≡ [])
BodyCause Silence j calls failed = ⊥

-- a Compare that isn't answered waits for a sync
abbrev pub AnswerCause : Job → List CallResult → Option model.Failure → List Answer → Type 0
AnswerCause j calls failed [] = is_compare j ≡ true → IsDone j calls failed
AnswerCause j calls failed (a ∷ answers) = BodyCause a.body j calls failed

-- What a turn did with a job. Whatever outcomes are left behind those of its calls, where memory is refused exactly
-- where it was, the definition's writer does the same.
pub record Works (tells : Type 0) (j : Job) (answers : List Answer) (old new : WriterSeen) (noted noted' : TraceState) : Type 0 where
  pub calls : List CallResult
  pub next : (start : ℕ) (place : Option ℕ) → IsNextPut old.writer start
      → (all : List ℕ) → Reads tells j old.writer old.file.content all
      → (t : Outcomes) → (takes_memory j && is_refused t) ≡ is_want answers
      → job_step (job_of start place j) all old.writer (with_calls_ahead calls t)
      ≡ writer_step new.writer answers (past_refusal_if (is_want answers) t)
  pub notes : noted' ≡ with_calls calls noted
  pub file : Leaves tells (put_bytes calls j) calls old.file new.file
  pub stored : new.writer.stored ≡ old.writer.stored + length (put_bytes calls j)
  pub left : new.left ≡ old.left
  pub want : is_want answers ≡ true → IsWant j calls old new
  pub few : length calls ≤ 1
  pub failed : (ended : Appended) × FailsBy ended (put_data j) (put_bytes calls j) calls old.writer new.writer
  pub cause : AnswerCause j calls old.writer.failed answers

-- parts of a turn

-- the write of a job is stored, and answered or not, whatever outcomes are ahead
abbrev pub IsAnswered : Option ℕ → ℕ → Stable → Writer → Writer → List Answer → Type 0
IsAnswered ticket count level old new answers = (t : Outcomes)
    → store_step (is_unstable level) ticket count level old t ≡ writer_step new answers t

-- what follows an append, by how it ended
abbrev pub put_step : Appended → Option ℕ → ℕ → Stable → Writer → Outcomes → WriterStep
put_step appended.Whole ticket count level w t = store_step (is_unstable level) ticket count level w t
put_step appended.Failed ticket count level w t = writer_step w (answer_if ticket (NotWritten io)) t

-- bytes, perhaps none, were put, or not
pub record Puts (tells : Type 0) (bytes : List ℕ) (ended : Appended) (old new : WriterSeen) (noted noted' : TraceState) : Type 0 where
  pub calls : List CallResult
  pub next : (number start count : ℕ) (level : Stable) (place ticket : Option ℕ) → IsNextPut old.writer start
      → (all : List ℕ) (t : Outcomes)
      → job_step (record { task = Put number start bytes count level place; ticket = ticket }) all old.writer (with_calls_ahead calls t)
      ≡ put_step ended ticket count level new.writer t
  pub notes : noted' ≡ with_calls calls noted
  pub file : Leaves tells (appended_bytes calls bytes) calls old.file new.file
  pub stored : new.writer.stored ≡ old.writer.stored + length (appended_bytes calls bytes)
  pub owed : new.writer.owed ≡ old.writer.owed
  pub few : length calls ≤ 1
  pub good : ended ≡ appended.Whole → failures_among calls ≡ 0
  pub failed : FailsBy ended bytes (appended_bytes calls bytes) calls old.writer new.writer
  pub left : new.left ≡ old.left

-- Whether the range has the bytes, where the file tells it.
abbrev pub IsSame : Type 0 → List ℕ → List ℕ → Compared → Type 0
IsSame tells bytes range compared.Same = tells → same_bytes bytes range ≡ true
IsSame tells bytes range compared.Differs = tells → same_bytes bytes range ≡ false
IsSame tells bytes range compared.ReadFault = Unit {0}

abbrev pub compare_call : Compared → CallResult
compare_call compared.Same = Good
compare_call compared.Differs = Good
compare_call compared.ReadFault = Bad 0

-- a read of no bytes needs no call
abbrev pub read_calls : ℕ → CallResult → List CallResult
read_calls zero called = []
read_calls (suc n) called = called ∷ []

-- a read of so many bytes, and what was called
pub record IsRead (tells : Type 0) (count : ℕ) (called : CallResult) (old new : WriterSeen) (noted noted' : TraceState) : Type 0 where
  pub same : new ≡ record old { file = new.file }
  pub notes : noted' ≡ with_calls (read_calls count called) noted
  pub file : Leaves tells [] (read_calls count called) old.file new.file

-- What a read of a range came to. Want of memory changes nothing.
abbrev pub IsRangeFound : Type 0 → ℕ → ℕ → Found → WriterSeen → WriterSeen → TraceState → TraceState → Type 0
IsRangeFound tells offset count (found.Bytes bytes) old new noted noted' =
    (tells → bytes.items ≡ range_of offset count old.file.content) × IsRead tells count Good old new noted noted'
IsRangeFound tells offset count found.ReadFault old new noted noted' = (0 < count) × IsRead tells count (Bad 0) old new noted noted'
IsRangeFound tells offset count found.NoMemory old new noted noted' = (new ≡ old) × (noted' ≡ noted)

abbrev pub found_body : Found → Bool → Body
found_body (found.Bytes bytes) eof = Gave bytes.items eof
found_body found.ReadFault eof = NotGiven io
found_body found.NoMemory eof = SystemErr

-- a sync

abbrev pub sync_call : Synced → CallResult
sync_call synced.Done = Good
sync_call synced.Failed = Bad 0

-- A step of the definition's writer whose answers are handed out later, in order.
pub record AnswersLater (s : WriterStep) (old new : WriterSeen) (t : Outcomes) : Type 0 where
  pub writer : new.writer ≡ s.writer
  pub left : new.left ≡ old.left ++ s.answers
  pub ahead : s.ahead ≡ t

-- after an hsync that was done the whole file is durable
abbrev pub IsDurable : Type 0 → Synced → FileSeen → Type 0
IsDurable tells synced.Done file = tells → file.durable ≡ length file.content
IsDurable tells synced.Failed file = Unit {0}

-- what an hsync makes of the synced length
abbrev pub writer_after_sync : Synced → Writer → Writer
writer_after_sync synced.Done w = record w { synced = w.stored }
writer_after_sync synced.Failed w = w

-- what becomes of those that waited
abbrev pub fate_after : Synced → Fate
fate_after synced.Done = Durable
fate_after synced.Failed = Fault
