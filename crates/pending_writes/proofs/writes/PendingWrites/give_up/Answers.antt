use Rattle.std.proofs.Common.{◌≡◌, true, [], ◌∙◌, ap, subst}
use Rattle.spill.specs.Kept.{SpillState, extents_of}
use Rattle.pending_writes.specs.Extents.{are_all_held, held_extents, live_without}
use Rattle.pending_writes.specs.Writes.{PendingState}
use Rattle.pending_writes.proofs.Freed.{gone, live_of_freed}
use Rattle.pending_writes.proofs.writes.PendingWrites.give_up.Goals as goal

pub returns-clause-live : goal.returns-clause-live
returns-clause-live g c =
    let new = c.free_all.new.spill in
    let es = g.M.PendingMap.entries c.self.inside.map in
    let freed = ap (λ (s : SpillState). extents_of s.kept) c.free_all.ensures.freed ∙ live_of_freed (held_extents es) c.self.inside.spill in
    subst (λ (p : PendingState). extents_of new.kept ≡ live_without (held_extents p.entries) (extents_of p.spill.kept)) c.self.view_is freed

pub returns-clause-none : goal.returns-clause-none
returns-clause-none g c =
    let new = c.free_all.new.spill in
    let es = g.M.PendingMap.entries c.self.inside.map in
    subst (λ (p : PendingState). are_all_held (held_extents p.entries) (extents_of p.spill.kept) ≡ true → new.kept ≡ []) c.self.view_is
    (λ all. ap (λ (s : SpillState). s.kept) c.free_all.ensures.freed ∙ gone (held_extents es) c.self.inside.spill all)
