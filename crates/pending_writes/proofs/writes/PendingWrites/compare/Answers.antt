use Rattle.std.proofs.Common.{◌≡◌, find, length, subst}
use Rattle.range_map.specs.Entries.{has_range}
use Rattle.pending_writes.proofs.SameBytes.{sound-compared}
use Rattle.pending_writes.specs.Bytes.{pending_bytes}
use Rattle.pending_writes.specs.Writes.{PendingState, pending_state}
use Rattle.pending_writes.proofs.BytesStay.{bytes_compared}
use Rattle.pending_writes.proofs.writes.PendingWrites.compare.Goals as goal

pub invariant_of-self : goal.invariant_of-self
invariant_of-self g c =
    let es = g.M.PendingMap.entries c.self.inside.map in
    let bytes = c.args.bytes.now in
    sound-compared g.D.SpillDevice.tells (find (has_range c.args.offset (length bytes)) es) bytes c.compare_range.result es c.self.inside.spill c.compare_range.new.spill
    c.self.invariant c.compare_range.ensures

pub returns-clause-bytes : goal.returns-clause-bytes
returns-clause-bytes g c =
    let es = g.M.PendingMap.entries c.self.inside.map in
    let bytes = c.args.bytes.now in
    let new = pending_state es c.compare_range.new.spill in
    subst (λ (p : PendingState). g.D.SpillDevice.tells → pending_bytes new ≡ pending_bytes p) c.self.view_is
    (bytes_compared g.D.SpillDevice.tells (find (has_range c.args.offset (length bytes)) es) bytes c.compare_range.result es c.self.inside.spill c.compare_range.new.spill
    c.self.invariant c.compare_range.ensures)
