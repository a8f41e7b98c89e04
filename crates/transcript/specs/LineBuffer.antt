-- What a line assembler is seen as.
use Rattle.std.specs.Prelude.{ℕ, List, []}

-- the line that it lends, and the bytes that were read and not handed out
pub record LineBuffer : Type 0 where
  pub line : List ℕ
  pub pending : List ℕ

abbrev pub empty_buffer : LineBuffer
empty_buffer = record { line = []; pending = [] }
