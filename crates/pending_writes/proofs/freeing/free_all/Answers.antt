use Rattle.std.proofs.Common.{sym, ◌∙◌}
use Rattle.pending_writes.proofs.Freed.{freed_step}
use Rattle.pending_writes.proofs.freeing.free_all.Goals as goal

pub loop-entry-preserved : goal.loop-entry-preserved
loop-entry-preserved g c =
    let l = c.loop-entry in
    let es = g.M.PendingMap.entries in
    let next = freed_step (es l.map) (es c.pop_first.new.self) c.in-Some.entry l.spill c.free_place.new.spill
    (sym c.pop_first.ensures.first ∙ c.in-Some.is) c.pop_first.ensures.rest c.free_place.ensures l.invariant.live in
    record { live = next.0; rest = next.1 ∙ l.invariant.rest }
