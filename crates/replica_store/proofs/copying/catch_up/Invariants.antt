use Rattle.std.proofs.Common.{◌≡◌, ◌≤◌, ◌-◌, length}
use Rattle.replica_store.specs.Copying.{Extends}
use Rattle.replica_store.specs.Levels.{FailsOn}
use Rattle.replica_store.proofs.copying.catch_up.Given as goal

abbrev pub invariant-loop-at : goal.invariant-loop-at
invariant-loop-at g l = record {
  at : g.F.AppendFile.tells → l.at ≡ length (g.F.AppendFile.content l.target);
  content : g.F.AppendFile.tells → Extends (g.F.AppendFile.content l.fn.source) (g.F.AppendFile.content l.fn.target) (g.F.AppendFile.content l.target);
  durable : g.F.AppendFile.tells → g.F.AppendFile.durable l.fn.target ≤ g.F.AppendFile.durable l.target;
  same : g.F.AppendFile.mark l.target ≡ g.F.AppendFile.mark l.fn.target;
  later : FailsOn (g.F.AppendFile.tally l.fn.target) (g.F.AppendFile.tally l.target);
  source_content : g.F.AppendFile.tells → g.F.AppendFile.content l.source ≡ g.F.AppendFile.content l.fn.source;
  source_durable : g.F.AppendFile.tells → g.F.AppendFile.durable l.source ≡ g.F.AppendFile.durable l.fn.source;
  source_same : g.F.AppendFile.mark l.source ≡ g.F.AppendFile.mark l.fn.source;
  source_later : FailsOn (g.F.AppendFile.tally l.fn.source) (g.F.AppendFile.tally l.source);
}

abbrev pub decreases-loop-at : goal.decreases-loop-at
decreases-loop-at g l = l.size - l.at
