use Rattle.std.proofs.Common.{◌≡◌, ℕ, true, take}
use Rattle.std.specs.List.{All}
use Rattle.nfs_procs.specs.Contexts.{has_place, lost_at}
use Rattle.nfs_procs.proofs.hulls.make_places.Given as goal

abbrev pub invariant-loop-file : goal.invariant-loop-file
invariant-loop-file l = record {
  made : All (λ k. has_place k l.hulls.entries ≡ true) (take l.file-index l.files);
  lost : (k : ℕ) → lost_at k l.hulls.entries ≡ lost_at k l.fn.hulls.entries;
}
