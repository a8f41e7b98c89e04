-- What an admission side sent and has ready of the writes that it accepted.
use Rattle.std.specs.Prelude.{◌≡◌, ℕ, List, ◌++◌, length, map, take}
use Rattle.gw_model.specs.File.{File}
use Rattle.gw_model.specs.Order.{pieces}
use Rattle.gw_model.specs.Sides.{IsSideOf}
use Rattle.gw_model.specs.Sound.{IsIssued, pieces_of, plain_piece}
use Rattle.admit.specs.Line.{sent_jobs}
use Rattle.file_cell.specs.State.{AdmitSideState, IsMarked, KnowsFailure, failure_by}

-- The mark of the line names the file. The side is that of a file of the definitions that was opened with so many bytes, whose Puts
-- issued are the pieces of its fold, and whose jobs done are those of which the side heard that they were taken.
pub record IssuesFold (a : AdmitSideState) : Type 0 where
  pub file : File
  pub mark : IsMarked a
  pub side : IsSideOf a.admit.side file
  pub issued : IsIssued file
  pub base : a.base ≡ length file.base
  pub done : take a.admit.heard (sent_jobs a.admit.line) ≡ file.done
  -- where it is stale, it heard of the failure that it turned stale by
  pub knows : KnowsFailure a.admit.side (failure_by a.admit.side.held.phase)

-- Whatever bytes the file was opened with, of that length: the Puts sent, those ready, and those given up, are the pieces of the fold
-- of these bytes with the writes that were accepted.
pub record SendsFold (a : AdmitSideState) (base : List ℕ) : Type 0 where
  pub file : File
  pub side : IsSideOf a.admit.side file
  pub opened : length file.base ≡ length base
  pub order : pieces_of (sent_jobs a.admit.line ++ (a.admit.side.held.ready ++ file.struck)) ≡ map plain_piece (pieces base file.accepted)
