use Rattle.std.proofs.Common.{◌≡◌, true, [], ◌∷◌, subst}
use Rattle.range_map.specs.declared.entry.Place.{Place}
use Rattle.spill.specs.Kept.{extents_of}
use Rattle.pending_writes.specs.Extents.{are_live, is_live, place_extents}
use Rattle.range_map.proofs.SortedEntries.{and_true}
use Rattle.pending_writes.proofs.Freed.{live_contains}
use Rattle.pending_writes.proofs.freeing.free_place.Goals as goal

pub free-requires : goal.free-requires
free-requires g c =
    let live = extents_of c.args.spill.now.kept in
    let e = c.in-Spilled.extent in
    let held : are_live (e ∷ []) live ≡ true = subst (λ (p : Place). are_live (place_extents p) live ≡ true) c.in-Spilled.is c.requires in
    record { live = live_contains e live (and_true (is_live e live) true held).0 }
