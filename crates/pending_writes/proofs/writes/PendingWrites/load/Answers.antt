use Rattle.std.proofs.Common.{◌≡◌, true, [], ◌∷◌, sym, subst}
use Rattle.pending_writes.specs.Taken.{are_taken}
use Rattle.pending_writes.specs.Writes.{PendingState, pending_state}
use Rattle.pending_writes.proofs.Reading.{sound-loaded}
use Rattle.pending_writes.specs.Bytes.{pending_bytes}
use Rattle.pending_writes.proofs.BytesStay.{bytes_loaded}
use Rattle.pending_writes.proofs.writes.PendingWrites.load.Goals as goal

pub invariant_of-self : goal.invariant_of-self
invariant_of-self g c =
    let es = g.M.PendingMap.entries c.self.inside.map in
    let e = c.args.extent in
    let taken = subst (λ (p : PendingState). are_taken (e ∷ []) p ≡ true) (sym c.self.view_is) c.requires.taken in
    sound-loaded g.D.SpillDevice.tells e c.load_extent.result es c.self.inside.spill c.load_extent.new.spill c.self.invariant taken c.load_extent.ensures

pub returns-clause-bytes : goal.returns-clause-bytes
returns-clause-bytes g c =
    let es = g.M.PendingMap.entries c.self.inside.map in
    let e = c.args.extent in
    let new = pending_state es c.load_extent.new.spill in
    let taken = subst (λ (p : PendingState). are_taken (e ∷ []) p ≡ true) (sym c.self.view_is) c.requires.taken in
    subst (λ (p : PendingState). g.D.SpillDevice.tells → pending_bytes new ≡ pending_bytes p) c.self.view_is
    (bytes_loaded g.D.SpillDevice.tells e c.load_extent.result es c.self.inside.spill c.load_extent.new.spill c.self.invariant taken c.load_extent.ensures)
