use Rattle.std.proofs.Common.{◌≡◌, true, sym, ◌∙◌, ap, subst}
use Rattle.spill.specs.Kept.{SpillState, extents_of}
use Rattle.pending_writes.specs.Extents.{live_without, place_extents}
use Rattle.pending_writes.specs.Taken.{are_taken}
use Rattle.pending_writes.specs.Writes.{AreSoundEntries, PendingState, pending_state}
use Rattle.pending_writes.proofs.Freed.{live_of_freed, sound-freed}
use Rattle.pending_writes.specs.Bytes.{pending_bytes}
use Rattle.pending_writes.proofs.KeptBytes.{entries_freed}
use Rattle.pending_writes.proofs.writes.PendingWrites.let_go.Goals as goal

pub invariant_of-self : goal.invariant_of-self
invariant_of-self g c =
    let es = g.M.PendingMap.entries c.self.inside.map in
    let taken = subst (λ (p : PendingState). are_taken (place_extents c.args.place) p ≡ true) (sym c.self.view_is) c.requires.taken in
    subst (λ (s : SpillState). AreSoundEntries (pending_state es s)) (sym c.free_place.ensures) (sound-freed (place_extents c.args.place) es c.self.inside.spill c.self.invariant taken)

pub returns-clause-live : goal.returns-clause-live
returns-clause-live g c =
    let new = c.free_place.new.spill in
    let freed = ap (λ (s : SpillState). extents_of s.kept) c.free_place.ensures ∙ live_of_freed (place_extents c.args.place) c.self.inside.spill in
    subst (λ (p : PendingState). extents_of new.kept ≡ live_without (place_extents c.args.place) (extents_of p.spill.kept)) c.self.view_is freed

pub returns-clause-bytes : goal.returns-clause-bytes
returns-clause-bytes g c =
    let es = g.M.PendingMap.entries c.self.inside.map in
    let new = pending_state es c.free_place.new.spill in
    let taken = subst (λ (p : PendingState). are_taken (place_extents c.args.place) p ≡ true) (sym c.self.view_is) c.requires.taken in
    subst (λ (p : PendingState). pending_bytes new ≡ pending_bytes p) c.self.view_is
    (ap (λ (s : SpillState). pending_bytes (pending_state es s)) c.free_place.ensures ∙ entries_freed (place_extents c.args.place) es c.self.inside.spill taken)
