-- The two sides of an open file apart, each under a lock of its own.
use Rattle.std.specs.Prelude.{◌≡◌, ℕ, false, List, [], length, None}
use mathlib.Core.List.{IsPrefix}
use Rattle.gw_model.specs.File.{File, is_stale}
use Rattle.gw_model.specs.Order.{fold}
use Rattle.gw_model.specs.Sides.{IsSideOf}
use Rattle.job_line.specs.Ends.{IsOneContext}
use Rattle.file_cell.specs.State.{AdmitSideState, KnowsFailure, WriterSideState}

-- Both sides have the ends of one line, at one mark, and a stale admission side heard of the failure of this writer.
pub record AreOneFile (a : AdmitSideState) (w : WriterSideState) : Type 0 where
  pub one : IsOneContext a.admit.line w.output
  pub failed : KnowsFailure a.admit.side w.writer.failed

-- The body has as many bytes as are stored, and they are the front of a fold: of what the body had when the file was opened, with
-- the writes that the admission side accepted. They are the whole fold where nothing is in the line or ready, and nothing failed.
pub record HoldsFront (a : AdmitSideState) (w : WriterSideState) : Type 0 where
  pub first : List ℕ
  pub file : File
  pub opened : length first ≡ a.base
  pub side : IsSideOf a.admit.side file
  pub many : length w.file.content ≡ w.writer.stored
  pub front : IsPrefix w.file.content (fold first file.accepted)
  pub whole : w.writer.failed ≡ None → is_stale a.admit.side.held.phase ≡ false → a.admit.side.held.line ≡ [] → a.admit.side.held.ready ≡ []
      → w.file.content ≡ fold first file.accepted
