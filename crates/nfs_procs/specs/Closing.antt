-- What is left when a run ends: histories, and bodies that were given back.
use Rattle.std.specs.Prelude.{◌≡◌, ℕ, ◌-◌, ◌^◌, ◌≤◌, min, List, ◌++◌, Option, Result, Ok, Err}
use Rattle.std.specs.Io.KnownBytes.{Appends}
use Rattle.gw_model.specs.declared.limits.Limits.{Limits}
use Rattle.gw_model.specs.File.{File}
use Rattle.gw_model.specs.Ending.{History}
use Rattle.gw_outside.specs.Writing.{AppendsPrefix}
use Rattle.file_cell.specs.State.{CellState}
use Rattle.file_cell.specs.Files.{StandsFor}
use Rattle.file_calls.specs.Counts.{Counts}
use Rattle.file_calls.specs.OneReply.{histories_text}
use Rattle.nfs_procs.specs.World.{end_texts}
use Rattle.nfs_procs.specs.Contexts.{AllSame, AreBodiesSafe, AreCellsReady, ObjectsStay, SameLosses, StoreState, bodies_at, total_counts}

-- what a writer of a text says that it did
abbrev pub IsWritten : {T E : Type 0} → Result T E → List ℕ → Option (List ℕ) → Option (List ℕ) → Type 0
IsWritten (Ok x) text held held' = Appends held held' text
IsWritten (Err x) text held held' = AppendsPrefix held held' text

-- The histories of all contexts, by rising number.
pub record WritesHistories {T E : Type 0} (result : Result T E) (cells : List (ℕ × CellState)) (held held' : Option (List ℕ)) : Type 0 where
  pub text : List ℕ
  pub histories : List (ℕ × History)
  pub spelled : text ≡ histories_text histories
  pub is : (opens : List (ℕ × File)) → AllSame StandsFor cells opens → text ≡ end_texts opens
  pub written : IsWritten result text held held'

-- what a store counts after it got all files back that were out
pub record GivesAllBack (cells : List (ℕ × CellState)) (before now : Counts) : Type 0 where
  pub later : before.faults ≤ now.faults
  pub faults : min (total_counts cells before).faults (2 ^ 64 - 1) ≤ now.faults
  pub tally : now.tally ≡ (total_counts cells before).tally

-- the histories that are still to be written
pub record HistoriesLeft (cells : List (ℕ × CellState)) (text all : List ℕ) : Type 0 where
  pub rest : List (ℕ × File)
  pub same : AllSame StandsFor cells rest
  pub is : all ≡ text ++ end_texts rest

-- Some first contexts were closed, and these are left.
pub record ClosesFront {T E : Type 0} (tells : Type 0) (limits : Limits) (all : List (ℕ × CellState)) (held : Option (List ℕ)) (before : StoreState) (written : Result T E) (held' : Option (List ℕ)) (now : StoreState) (cells : List (ℕ × CellState)) : Type 0 where
  pub text : List ℕ
  pub histories : List (ℕ × History)
  pub spelled : text ≡ histories_text histories
  pub wrote : IsWritten written text held held'
  pub left : (opens : List (ℕ × File)) → AllSame StandsFor all opens → HistoriesLeft cells text (end_texts opens)
  pub bodies : tells → (k : ℕ) → bodies_at now.at cells k ≡ bodies_at before.at all k
  pub safe : AreBodiesSafe tells now.at cells
  pub ready : AreCellsReady limits cells
  pub others : tells → ObjectsStay before now
  pub losses : tells → SameLosses before now
  pub later : before.counts.faults ≤ now.counts.faults
  pub carried : min (total_counts all before.counts).faults (2 ^ 64 - 1) ≤ (total_counts cells now.counts).faults
  pub tally : (total_counts cells now.counts).tally ≡ (total_counts all before.counts).tally
