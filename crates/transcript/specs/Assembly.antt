-- What the line assembler answers, by the bytes that it holds before and after.
use Rattle.std.specs.Prelude.{◌≡◌, ℕ, ◌<◌, List, [], ◌++◌, length, Option}
use Rattle.std.specs.Io.KnownBytes.{IsAtEnd}
use Rattle.transcript.specs.Script.{BeginsTooLong, IsPart, TakesLine}
use Rattle.transcript.specs.declared.lines.Cut.{Cut}
use Rattle.transcript.specs.declared.lines.Cut.TheVariants as cut
use Rattle.transcript.specs.declared.lines.Fill.{Fill}
use Rattle.transcript.specs.declared.lines.Fill.TheVariants as fill
use Rattle.transcript.specs.declared.lines.Next.{Next}
use Rattle.transcript.specs.declared.lines.Next.TheVariants as next

-- a cut: the line that it found, and the bytes that were held before and after
abbrev pub IsLineCut : Cut → List ℕ → List ℕ → List ℕ → Type 0
IsLineCut cut.Line line old new = TakesLine line old new
IsLineCut cut.TooLong line old new = (new ≡ old) × BeginsTooLong old
IsLineCut cut.Part line old new = (new ≡ old) × IsPart old

-- one read, in which `taken` was read
abbrev pub IsFilled : Fill → List ℕ → List ℕ → List ℕ → Option (List ℕ) → Type 0
IsFilled fill.More old new taken left = (new ≡ old ++ taken) × (0 < length taken)
IsFilled fill.AtEnd old new taken left = (new ≡ old) × (taken ≡ []) × IsAtEnd left
IsFilled fill.ReadFault old new taken left = (new ≡ old) × (taken ≡ [])
IsFilled fill.NoMemory old new taken left = (new ≡ old) × (taken ≡ [])

-- the next line, where `taken` was read for it and `left` is what the source has left
abbrev pub IsNextLine : Next → List ℕ → List ℕ → List ℕ → List ℕ → Option (List ℕ) → Type 0
IsNextLine next.Line line old new taken left = TakesLine line (old ++ taken) new
IsNextLine next.TooLong line old new taken left = (new ≡ old ++ taken) × BeginsTooLong (old ++ taken)
IsNextLine next.AtEnd line old new taken left = (new ≡ old ++ taken) × IsPart (old ++ taken) × IsAtEnd left
IsNextLine next.ReadFault line old new taken left = (new ≡ old ++ taken) × IsPart (old ++ taken)
IsNextLine next.NoMemory line old new taken left = (new ≡ old ++ taken) × IsPart (old ++ taken)
