use Rattle.std.proofs.Common.{◌≡◌, ◌+◌, subst}
use Rattle.pending_writes.proofs.SpillMoves.{sound-moved}
use Rattle.pending_writes.specs.Bytes.{pending_bytes}
use Rattle.pending_writes.specs.Writes.{PendingState, pending_state}
use Rattle.pending_writes.proofs.BytesStay.{bytes_moved}
use Rattle.pending_writes.specs.Weights.{entries_weight, moved_weight}
use Rattle.pending_writes.proofs.EntryWeights.{weight_moved}
use Rattle.pending_writes.specs.Taken.{KeepsTaken}
use Rattle.pending_writes.proofs.StayTaken.{taken_moved}
use Rattle.pending_writes.proofs.writes.PendingWrites.spill_one.Goals as goal

pub invariant_of-self : goal.invariant_of-self
invariant_of-self g c = sound-moved _ _ _ _ (g.met.M.PendingMap.ordered c.self.inside.map) c.self.invariant c.move_last.ensures

pub returns-clause-bytes : goal.returns-clause-bytes
returns-clause-bytes g c =
    let new = pending_state (g.M.PendingMap.entries c.move_last.new.map) c.move_last.new.spill in
    subst (λ (p : PendingState). g.D.SpillDevice.tells → pending_bytes new ≡ pending_bytes p) c.self.view_is
    (bytes_moved _ _ _ _ (g.met.M.PendingMap.ordered c.self.inside.map) c.self.invariant c.move_last.ensures)

pub returns-clause-weight : goal.returns-clause-weight
returns-clause-weight g c =
    let new = g.M.PendingMap.entries c.move_last.new.map in
    subst (λ (p : PendingState). entries_weight p.entries ≡ moved_weight c.move_last.result + entries_weight new) c.self.view_is
    (weight_moved _ _ _ _ (g.met.M.PendingMap.ordered c.self.inside.map) c.move_last.ensures)

pub returns-clause-taken : goal.returns-clause-taken
returns-clause-taken g c =
    let old = pending_state (g.M.PendingMap.entries c.self.inside.map) c.self.inside.spill in
    let new = pending_state (g.M.PendingMap.entries c.move_last.new.map) c.move_last.new.spill in
    subst (λ (p : PendingState). KeepsTaken p new) c.self.view_is (taken_moved g.D.SpillDevice.tells c.move_last.result old new (g.met.M.PendingMap.ordered c.self.inside.map) c.move_last.ensures)
