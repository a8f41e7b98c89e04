-- What the calls on the store come to by which a file is opened, and read while it is closed.
use Rattle.std.specs.Prelude.{◌≡◌, ℕ, ◌+◌, ◌⊎◌, nat_le, List, [], ◌∷◌, length, map, Option}
use Rattle.gw_model.specs.Ahead.{CallResult, Good, Bad, outcome_of}
use Rattle.gw_model.specs.declared.Hull.{Hull}
use Rattle.gw_model.specs.declared.limits.Limits.{Limits}
use Rattle.gw_model.specs.Sides.{opened_side}
use Rattle.gw_model.specs.Views.{TraceState}
use Rattle.gw_model.specs.Writer.{range_of}
use Rattle.gw_outside.specs.Tally.{no_calls}
use Rattle.append_store.specs.State.{Lent, IsThere, bytes_of}
use Rattle.writeback.specs.State.{fresh_writer}
use Rattle.writeback.specs.Steps.{with_calls}
use Rattle.file_cell.specs.State.{CellState}
use Rattle.file_calls.specs.Counts.{IsCounted}
use Rattle.file_calls.specs.Outside.{Store}
use Rattle.file_calls.specs.declared.opening.Failure.{Failure}
use Rattle.file_calls.specs.declared.opening.Failure.TheVariants as failure
use Rattle.file_calls.specs.declared.opening.StoredRange.{StoredRange}

-- A cell that was just opened, with a hull and at a moment, is held to these limits and has all bytes of the body, and its file
-- is out.
pub record IsOpened (tells : Type 0) (limits : Limits) (hull : Option Hull) (moment : ℕ) (file : ℕ) (c : CellState) (before after : Store) (noted noted' : TraceState) : Type 0 where
  pub out : tells → after.body ≡ Lent c.file.mark
  pub content : tells → c.file.content ≡ bytes_of before.body
  pub faults : c.file.faults ≡ 0
  pub no_calls : c.file.tally ≡ no_calls
  pub id : c.id.0 ≡ file
  pub base : c.base ≡ length c.file.content
  pub side : c.side ≡ opened_side (length c.file.content) hull moment
  pub writer : c.writer ≡ fresh_writer (length c.file.content)
  pub limits_are : c.limits ≡ limits
  pub left : c.left ≡ []
  pub noted_is : noted' ≡ with_calls (Good ∷ []) noted
  pub counts : IsCounted (map outcome_of (Good ∷ [])) before.counts after.counts

-- what was called: the call failed, or it was done or not made where memory was refused
abbrev pub IsFailure : Failure → List CallResult → Type 0
IsFailure failure.Store calls = calls ≡ Bad 0 ∷ []
IsFailure failure.Memory calls = (calls ≡ []) ⊎ (calls ≡ Good ∷ [])

-- Nothing was done, and the body is where it was.
pub record FailsClosed (tells : Type 0) (f : Failure) (before after : Store) (noted noted' : TraceState) : Type 0 where
  pub there : tells → IsThere after.body
  pub same : tells → bytes_of after.body ≡ bytes_of before.body
  pub calls : List CallResult
  pub is : IsFailure f calls
  pub noted_is : noted' ≡ with_calls calls noted
  pub counts : IsCounted (map outcome_of calls) before.counts after.counts

-- The bytes of a range.
pub record IsStoredRange (tells : Type 0) (p : StoredRange) (offset count : ℕ) (before after : Store) (noted noted' : TraceState) : Type 0 where
  pub bytes_are : tells → p.bytes.items ≡ range_of offset count (bytes_of before.body)
  pub eof_is : tells → p.eof ≡ nat_le (length (bytes_of before.body)) (offset + count)
  pub noted_is : noted' ≡ with_calls (Good ∷ []) noted
  pub counts : IsCounted (map outcome_of (Good ∷ [])) before.counts after.counts
