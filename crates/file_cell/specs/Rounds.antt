-- Turns of a writer side by itself, and rounds of them.
use Rattle.std.specs.Prelude.{◌≡◌, ℕ, ◌<◌, ◌≤◌, List, [], ◌∷◌, ◌++◌, length, Option, Some, None, slice_get}
use Rattle.gw_model.specs.Bounds.{max_waiting}
use Rattle.gw_model.specs.Views.{TraceState}
use Rattle.job_line.specs.Ends.{SameContextOut, jobs_known, jobs_taken}
use Rattle.job_line.specs.declared.items.Job.{Job}
use Rattle.tickets.specs.Answers.{ArePlain, answers_of}
use Rattle.tickets.specs.declared.answer.Answer as spent
use Rattle.writeback.specs.Steps.{Works}
use Rattle.file_cell.specs.State.{WriterSideState}
use Rattle.file_cell.specs.Steps.{SideSteps, side_writer}
use Rattle.file_cell.specs.declared.sides.Round.{Round}
use Rattle.file_cell.specs.declared.writer_side.Stepped.{Stepped}
use Rattle.file_cell.specs.declared.writer_side.Stepped.TheVariants as stepped
use Rattle.file_cell.specs.declared.writer_side.Turned.{Turned}
use Rattle.file_cell.specs.declared.writer_side.Turned.TheVariants as turned

-- A writer side took the next job off the line, and did it, with this answer. None is left.
pub record SideTurned (tells : Type 0) (answer : Option spent.Answer) (old new : WriterSideState) (noted noted' : TraceState) : Type 0 where
  pub job : Job
  pub room : length old.writer.owed < max_waiting
  pub same : SameContextOut old.output new.output
  pub taken : jobs_taken new.output ≡ jobs_taken old.output ++ job ∷ []
  pub next : 0 < length (jobs_known old.output) → Some job ≡ slice_get (jobs_known old.output) 0
  pub works : Works tells job (answers_of answer) (side_writer old) (side_writer new) noted noted'
  pub plain : ArePlain answer
  pub none_left : new.left ≡ []

abbrev pub DoesNext : Type 0 → Turned → WriterSideState → WriterSideState → TraceState → TraceState → Type 0
DoesNext tells turned.SyncFirst old new noted noted' = SideSteps tells stepped.SyncFirst old new noted noted'
DoesNext tells turned.Nothing old new noted noted' = SideSteps tells stepped.Nothing old new noted noted'
DoesNext tells (turned.Did answer) old new noted noted' = SideTurned tells answer old new noted noted'

-- A turn of a round: its answer, the side behind it, and what was noted until then.
pub record TurnSeen : Type 0 where
  pub answer : Option spent.Answer
  pub side : WriterSideState
  pub noted : TraceState

-- the side behind turns, of which the last stands first, and what was noted until then
abbrev pub side_after : WriterSideState → List TurnSeen → WriterSideState
side_after side [] = side
side_after side (t ∷ before) = t.side

abbrev pub noted_after : TraceState → List TurnSeen → TraceState
noted_after noted [] = noted
noted_after noted (t ∷ before) = t.noted

abbrev pub with_answer : List spent.Answer → Option spent.Answer → List spent.Answer
with_answer answers None = answers
with_answer answers (Some a) = answers ++ a ∷ []

-- the answers of turns, in order, behind those that are held
abbrev pub answers_after : List spent.Answer → List TurnSeen → List spent.Answer
answers_after held [] = held
answers_after held (t ∷ before) = with_answer (answers_after held before) t.answer

-- each is a turn of the side that the ones before it left
abbrev pub AreTurns : Type 0 → WriterSideState → TraceState → List TurnSeen → Type 0
AreTurns tells side noted [] = Unit {0}
AreTurns tells side noted (t ∷ before) =
    AreTurns tells side noted before × SideTurned tells t.answer (side_after side before) t.side (noted_after noted before) t.noted

-- So many turns were done, whose answers stand behind those that were held.
pub record HasTurned (tells : Type 0) (many : ℕ) (old new : WriterSideState) (noted noted' : TraceState) (held held' : List spent.Answer) : Type 0 where
  pub turns : List TurnSeen
  pub are : AreTurns tells old noted turns
  pub count : many ≡ length turns
  pub side : new ≡ side_after old turns
  pub notes : noted' ≡ noted_after noted turns
  pub answers : held' ≡ answers_after held turns

-- how a round ends: as many jobs were done as were asked for, or the next one isn't known or has no room
abbrev pub EndsBy : Type 0 → Stepped → ℕ → ℕ → WriterSideState → WriterSideState → TraceState → Type 0
EndsBy tells stepped.Did most done side new noted = (new ≡ side) × (done ≡ most)
EndsBy tells how most done side new noted = SideSteps tells how side new noted noted

-- A round did turns, and then it ended.
pub record IsRound (tells : Type 0) (r : Round) (most : ℕ) (old new : WriterSideState) (noted noted' : TraceState) (held held' : List spent.Answer) : Type 0 where
  pub side : WriterSideState
  pub turned : HasTurned tells r.done old side noted noted' held held'
  pub few : r.done ≤ most
  pub ends : EndsBy tells r.ended most r.done side new noted'
