use Rattle.std.proofs.Common.{◌≡◌, ◌≤◌, ◌+◌, ℕ, drop}
use Rattle.gw_model.specs.declared.object.ObjectId.{ObjectId}
use Rattle.edit_log.specs.Notes.{AreCounted, Notes, done_calls, read_count}
use Rattle.edit_log.specs.Start.{tree_after_logs, logs_of, last_generation}
use Rattle.edit_log.proofs.starting.read_all.Given as goal

abbrev pub invariant-loop-listed : goal.invariant-loop-listed
invariant-loop-listed g l = record {
  tree : g.C.File.AppendFile.tells → tree_after_logs (logs_of (g.C.Cluster.at l.fn.cluster) (drop l.listed-index l.all)) l.tree.tree ≡ tree_after_logs (logs_of (g.C.Cluster.at l.fn.cluster) l.all) l.fn.tree.tree;
  last : last_generation l.last (drop l.listed-index l.all) ≡ last_generation 0 l.all;
  same : g.C.File.AppendFile.tells → (q : ObjectId) → g.C.Cluster.at l.cluster q ≡ g.C.Cluster.at l.fn.cluster q;
  later : g.C.Cluster.count l.fn.cluster ≤ g.C.Cluster.count l.cluster;
  counted : AreCounted l.fn.trace l.trace (g.C.Cluster.tally l.fn.cluster) (g.C.Cluster.tally l.cluster);
  notes : (n : ℕ) × (n + read_count (drop l.listed-index l.all) ≡ read_count l.all) × Notes l.fn.trace l.trace (done_calls n);
}
