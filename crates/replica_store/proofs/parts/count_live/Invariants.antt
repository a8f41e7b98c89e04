use Rattle.std.proofs.Common.{◌≡◌, ◌≤◌, take}
use Rattle.replica_store.specs.Parts.{live_of}
use Rattle.replica_store.proofs.parts.count_live.Given as goal

abbrev pub invariant-loop-part : goal.invariant-loop-part
invariant-loop-part g l = (l.count ≤ l.part-index) × (l.count ≡ live_of (take l.part-index l.parts.items))
