use Rattle.replica_store.specs.Levels.{Measures}
use Rattle.replica_store.proofs.Pairs.{UpTo}
use Rattle.replica_store.proofs.copying.measure_each.Given as goal

abbrev pub invariant-loop-part : goal.invariant-loop-part
invariant-loop-part g l = UpTo Measures l.part-index l.initial.part-items l.part-items
