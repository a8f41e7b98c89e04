use Rattle.std.proofs.Common.{◌≡◌, length, map, drop}
use Rattle.std.specs.Prelude.{count_by}
use Rattle.put_core.specs.Steps.{is_sent, unsent_chunk}
use Rattle.put_core.specs.Kept.{AreSent}
use Rattle.put_core.proofs.chunks.release_all.Given as goal

-- the writes that are left are outstanding, and no other
abbrev pub invariant-loop-write : goal.invariant-loop-write
invariant-loop-write l = record {
  sent : AreSent l.chunks (drop l.write-index l.writes);
  counted : length (drop l.write-index l.writes) ≡ count_by is_sent l.chunks;
  same : map unsent_chunk l.chunks ≡ map unsent_chunk l.fn.chunks;
}
