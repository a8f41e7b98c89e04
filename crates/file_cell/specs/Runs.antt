-- What the turns of a writer side by itself mean for the file, and what a meeting does.
use Rattle.std.specs.Prelude.{◌≡◌, List, [], ◌∷◌, Option, drop, length}
use mathlib.Core.List.{IsPrefix}
use Rattle.gw_model.specs.Ahead.{Outcomes}
use Rattle.gw_model.specs.File.{File}
use Rattle.gw_model.specs.Views.{TraceState}
use Rattle.gw_model.specs.Writer.{turn_step}
use Rattle.job_line.specs.Ends.{jobs_sent, jobs_taken, mark_sent, mark_taken}
use Rattle.admit.specs.Calls.{with_heard}
use Rattle.admit.specs.Line.{sent_jobs}
use Rattle.tickets.specs.Answers.{answers_of}
use Rattle.tickets.specs.declared.answer.Answer as spent
use Rattle.file_cell.specs.Files.{StandsFor}
use Rattle.file_cell.specs.Rounds.{AreTurns, TurnSeen, side_after}
use Rattle.file_cell.specs.State.{AdmitSideState, CellState, IsJoined, WriterSideState, cell_of}
use Rattle.file_cell.specs.Steps.{IsLooked, counted_admit}

-- the cell of two sides if the admission side had heard of all jobs that were taken
abbrev pub cell_heard : AdmitSideState → WriterSideState → CellState
cell_heard a w =
    let heard = length (jobs_taken w.output) in
    cell_of (record a { admit = with_heard (drop heard (sent_jobs a.admit.line)) a.admit.line heard a.admit }) w

-- what was taken are the first of the jobs that were sent at the same mark
abbrev pub TakesOf : AdmitSideState → WriterSideState → Type 0
TakesOf a w = (mark_taken w.output ≡ mark_sent a.admit.line) × IsPrefix (jobs_taken w.output) (jobs_sent a.admit.line)

-- A turn leads from one file to another, with this answer.
pub record TurnLeads (answer : Option spent.Answer) (f g : File) : Type 0 where
  pub ahead : Outcomes
  pub file : g ≡ (turn_step f ahead).file
  pub answers : (turn_step f ahead).answers ≡ answers_of answer

-- the last of several turns
pub record LastTurn (Earlier : File → Type 0) (answer : Option spent.Answer) (g : File) : Type 0 where
  pub before : File
  pub earlier : Earlier before
  pub leads : TurnLeads answer before g

-- as many turns lead from one file to another, with these answers
abbrev pub AreFileTurns : List TurnSeen → File → File → Type 0
AreFileTurns [] f g = g ≡ f
AreFileTurns (t ∷ before) f g = LastTurn (AreFileTurns before f) t.answer g

-- The sides stand for a file to which these turns lead.
pub record TurnsFrom (f : File) (turns : List TurnSeen) (a : AdmitSideState) (w : WriterSideState) : Type 0 where
  pub file : File
  pub run : AreFileTurns turns f file
  pub stands : StandsFor (cell_heard a w) file

-- Turns of a writer side, whatever of them the admission side heard, are turns of the file, where the body tells what it holds.
abbrev pub TurnsLaw : Type 0 → Type 0
TurnsLaw tells = tells → (a : AdmitSideState) (w : WriterSideState) (turns : List TurnSeen) (noted : TraceState) (f : File)
    → AreTurns tells w noted turns → TakesOf a (side_after w turns) → StandsFor (cell_heard a w) f → TurnsFrom f turns a (side_after w turns)

-- A file that both sides stand for apart is that of the cell once they met, and that of a cell is one of its sides apart.
abbrev pub MeetLaw : Type 0
MeetLaw = (a b : AdmitSideState) (w v : WriterSideState) (f : File) → IsLooked a.admit.line w.output b.admit.line v.output
    → b ≡ record a { admit = counted_admit b.admit.line v.output a.admit } → v ≡ record w { output = v.output }
    → StandsFor (cell_heard a w) f → StandsFor (cell_of b v) f

abbrev pub SplitLaw : Type 0
SplitLaw = (a : AdmitSideState) (w : WriterSideState) (f : File) → IsJoined a w
    → a.admit.side.held.line ≡ drop a.admit.heard (sent_jobs a.admit.line) → StandsFor (cell_of a w) f → StandsFor (cell_heard a w) f
