-- What a tick leaves of an open file, and what is left of one that it closed.
use Rattle.std.specs.Prelude.{◌≡◌, ℕ, false, not, IfOk, List, [], ◌∷◌, Option, Some, Result, String, string_bytes}
use Rattle.std.specs.Global.{Global}
use Rattle.gw_model.specs.Ahead.{Outcomes, Good}
use Rattle.gw_model.specs.Ending.{Closed, Closes, History, closing_of, history_of}
use Rattle.gw_model.specs.File.{File}
use Rattle.writeback.specs.Steps.{Leaves, with_calls, with_calls_ahead}
use Rattle.writeback.specs.declared.owed.Synced.TheVariants as synced
use Rattle.file_cell.specs.Files.{CellCloses, StandsFor}
use Rattle.file_cell.specs.History.{history_text}
use Rattle.file_cell.specs.State.{CellState}
use Rattle.file_calls.specs.Acts.{TickFile}
use Rattle.file_calls.specs.Outside.{Store, TrackerState, IsStep, part_state, scene, terms_at}
use Rattle.file_calls.specs.Part.{judgement_at}
use Rattle.file_calls.specs.declared.closing.Visit.{Visit}
use Rattle.file_calls.specs.declared.closing.Visit.TheVariants as visit
use Rattle.file_calls.specs.declared.hull.ClosedHull.{ClosedHull}

-- A file is to be closed, and its sync was done: only its parts are still to be given back.
pub record IsLeaving (tells : Type 0) (c : CellState) (t : TrackerState) (d : CellState) (u : TrackerState) : Type 0 where
  pub tracker : u ≡ record t { noted = with_calls (Good ∷ []) t.noted }
  pub file : Leaves tells [] (Good ∷ []) c.file d.file
  pub judged : (f : File) (lost : Option ClosedHull) → StandsFor c f → judgement_at (terms_at t lost) f ≡ Closes
  pub closes : tells → (f : File) (ahead : Outcomes) → StandsFor c f → CellCloses synced.Done (closing_of f (with_calls_ahead (Good ∷ []) ahead)) d ahead

-- A text that was made or not, of which this holds.
pub record Makes {E : Type 0} (made : Result (String Global) E) (holds : List ℕ → Type 0) : Type 0 where
  pub text : List ℕ
  pub is : holds text
  pub written : IfOk made (λ t. string_bytes t ≡ text)

-- What a tick came to for a file of any number.
abbrev pub IsVisit : Type 0 → Visit → CellState → TrackerState → CellState → TrackerState → Type 0
IsVisit tells (visit.Stays made) c t d u = (file : ℕ) (lost : Option ClosedHull) (s : Store)
    → Makes made (λ text. IsStep tells (TickFile file) (scene (part_state lost (Some c) t) s) (scene (part_state lost (Some d) u) s) text false)
IsVisit tells visit.Closes c t d u = IsLeaving tells c t d u

-- The history of a closed file, for each file that its context stands for.
pub record IsClosedText (file : ℕ) (c : CellState) (text : List ℕ) : Type 0 where
  pub history : History
  pub spelled : text ≡ history_text file history
  pub is : (f : File) → StandsFor c f → text ≡ history_text file (history_of f Closed)
