use Rattle.std.proofs.Common.{◌≡◌, length}
use Rattle.replica_store.specs.Parts.{FailsToRead}
use Rattle.replica_store.proofs.Pairs.{UpTo}
use Rattle.replica_store.proofs.parts.read_first.Given as goal

abbrev pub invariant-loop-part : goal.invariant-loop-part
invariant-loop-part g l = UpTo (FailsToRead g.F.AppendFile.tells l.size) l.part-index l.initial.part-items l.part-items × (length l.out ≡ length l.initial.out)
