use Rattle.std.proofs.Common.{List, sym, subst}
use Rattle.range_map.specs.declared.entry.Entry.{Entry}
use Rattle.pending_writes.specs.Writes.{AreSoundEntries, pending_state}
use Rattle.pending_writes.proofs.SoundEntries.{sound-dropped}
use Rattle.pending_writes.proofs.writes.PendingWrites.take_first.Goals as goal

pub invariant_of-self : goal.invariant_of-self
invariant_of-self g c =
    subst (λ (es : List Entry). AreSoundEntries (pending_state es c.self.inside.spill)) (sym c.pop_first.ensures.rest) (sound-dropped _ _ c.self.invariant)
