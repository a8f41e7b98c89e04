use Rattle.std.proofs.Common.{◌≡◌, ◌≤◌, ◌<◌, ◌+◌, ◌-◌, ◌/◌, ◌%◌, length, take}
use Rattle.std.specs.Prelude.{min}
use Rattle.gw_model.specs.declared.object.ObjectId.{ObjectId}
use Rattle.gw_model.specs.declared.object.ObjectId.TheVariants.{Log}
use Rattle.append_store.specs.State.{bytes_of}
use Rattle.edit_log.specs.Notes.{AreCounted, Notes, done_calls}
use Rattle.edit_log.proofs.fetching.fetch.Given as goal

abbrev pub invariant-loop-at : goal.invariant-loop-at
invariant-loop-at g l = record {
  read : g.C.File.AppendFile.tells → l.bytes.items ≡ take l.at (bytes_of (g.C.Cluster.at l.fn.cluster (Log l.generation)));
  most : length l.bytes.items ≤ l.at;
  piece : min (l.size - l.at) 1048576 ≤ length l.piece.items;
  whole : l.at % 1048576 ≡ 0;
  within : l.at < l.size + 1048576;
  same : g.C.File.AppendFile.tells → (q : ObjectId) → g.C.Cluster.at l.cluster q ≡ g.C.Cluster.at l.fn.cluster q;
  later : g.C.Cluster.count l.fn.cluster ≤ g.C.Cluster.count l.cluster;
  counted : AreCounted l.fn.trace l.trace (g.C.Cluster.tally l.fn.cluster) (g.C.Cluster.tally l.cluster);
  notes : Notes l.fn.trace l.trace (done_calls (l.at / 1048576));
}

abbrev pub decreases-loop-at : goal.decreases-loop-at
decreases-loop-at g l = l.size - l.at
