use Rattle.std.proofs.Common.{◌≡◌, true}
use Rattle.replica_store.specs.Levels.{CatchesUp, Completes, Lends}
use Rattle.replica_store.proofs.Pairs.{UpTo}
use Rattle.replica_store.proofs.copying.catch_up_each.Given as goal

abbrev pub invariant-loop-part : goal.invariant-loop-part
invariant-loop-part g l = record {
  parts : UpTo (CatchesUp g.F.AppendFile.tells l.initial.chief.content) l.part-index l.initial.part-items l.part-items;
  whole : l.chief.live ≡ true → UpTo (Completes g.F.AppendFile.tells l.initial.chief.content) l.part-index l.initial.part-items l.part-items;
  chief : Lends g.F.AppendFile.tells l.initial.chief l.chief;
}
