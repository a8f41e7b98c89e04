use Rattle.std.proofs.Common.{ℕ, List}
use Rattle.std.specs.List.{AllZip}
use Rattle.replica_store.specs.Levels.{AreFronts, Serves, StayFronts}
use Rattle.replica_store.specs.Parts.{live_of}
use Rattle.replica_store.proofs.copying.level.Given as goal

abbrev pub invariant-loop-lead : goal.invariant-loop-lead
invariant-loop-lead g l = record {
  pairs : AllZip (Serves g.F.AppendFile.tells) l.fn.parts.items l.parts.items;
  fronts : (bytes : List ℕ) (least : ℕ) → AreFronts g.F.AppendFile.tells bytes least l.fn.parts.items → StayFronts g.F.AppendFile.tells bytes least l.fn.parts.items l.parts.items;
}

abbrev pub decreases-loop-lead : goal.decreases-loop-lead
decreases-loop-lead g l = live_of l.parts.items
