-- A comparison with a pending write.
use Rattle.std.proofs.Common.{◌≡◌, ℕ, Bool, true, false, cond, Option, Some, None, List, [], ◌∷◌, find, sym, ◌∙◌, subst}
use Rattle.spill_region.specs.Extents.{Span}
use Rattle.spill.specs.Kept.{SpillState}
use Rattle.range_map.specs.declared.entry.Entry.{Entry}
use Rattle.range_map.specs.declared.entry.Place.{Place}
use Rattle.range_map.specs.declared.entry.Place.TheVariants as place
use Rattle.pending_writes.specs.declared.reports.Comparison.{Comparison}
use Rattle.pending_writes.specs.declared.reports.Comparison.TheVariants as comparison
use Rattle.pending_writes.specs.Comparisons.{Compares, ComparesAt, ComparesHere, ComparesThere}
use Rattle.pending_writes.specs.Extents.{are_live, held_extents, place_extents}
use Rattle.pending_writes.specs.Reads.{IsBytesOf, IsRead}
use Rattle.pending_writes.specs.Writes.{AreSoundEntries, pending_state}
use Rattle.pending_writes.proofs.Freed.{live_before}
use Rattle.pending_writes.proofs.Reading.{sound-read}
use Rattle.pending_writes.proofs.SoundEntries.{behind_live}

-- the extent of an entry that is found is live
pub found_live : (t : Entry → Bool) (es : List Entry) (e : Entry) (live : List Span) → find t es ≡ Some e → are_live (held_extents es) live ≡ true → are_live (place_extents e.place) live ≡ true
found_live t [] e live found all = absurd (cc)
found_live t (x ∷ xs) e live found all =
    let rest = λ (h : find t xs ≡ Some e). found_live t xs e live h (behind_live x.place (held_extents xs) live all) in
    let go : (b : Bool) → cond b (Some x) (find t xs) ≡ Some e → are_live (place_extents e.place) live ≡ true = elim [
      | true ↦ λ h. let same : x ≡ e = cc in subst (λ (y : Entry). are_live (place_extents y.place) live ≡ true) same (live_before (place_extents x.place) (held_extents xs) live all)
      | false ↦ λ h. rest h
    ] in
    go (t x) found

-- bytes that were read are compared
pub compared_there : (tells : Type 0) (e : Span) (held bytes : List ℕ) (r : Comparison) (old new : SpillState) → IsBytesOf tells e old.kept held
    → IsRead tells false [] old new → ComparesHere held bytes r → ComparesThere tells e bytes r old new
compared_there tells e held bytes comparison.Same old new of read is = (λ told. sym (of.told told) ∙ is, read)
compared_there tells e held bytes comparison.Differs old new of read is = (λ told h. is (of.told told ∙ h), read)
compared_there tells e held bytes comparison.Fault old new of read is = absurd is
compared_there tells e held bytes comparison.Memory old new of read is = absurd is
compared_there tells e held bytes comparison.NotThere old new of read is = absurd is

-- the entries stay sound
sound-compared_there : (tells : Type 0) (x : Span) (bytes : List ℕ) (r : Comparison) (es : List Entry) (old new : SpillState) → AreSoundEntries (pending_state es old)
    → ComparesThere tells x bytes r old new → AreSoundEntries (pending_state es new)
sound-compared_there tells x bytes comparison.Same es old new sound h = sound-read tells false [] es old new sound sound.live h.1
sound-compared_there tells x bytes comparison.Differs es old new sound h = sound-read tells false [] es old new sound sound.live h.1
sound-compared_there tells x bytes comparison.Fault es old new sound h = sound-read tells true [] es old new sound sound.live h
sound-compared_there tells x bytes comparison.Memory es old new sound h = subst (λ (s : SpillState). AreSoundEntries (pending_state es s)) (sym h) sound
sound-compared_there tells x bytes comparison.NotThere es old new sound h = absurd h

sound-compared_at : (tells : Type 0) (p : Place) (bytes : List ℕ) (r : Comparison) (es : List Entry) (old new : SpillState) → AreSoundEntries (pending_state es old)
    → ComparesAt tells p bytes r old new → AreSoundEntries (pending_state es new)
sound-compared_at tells (place.Memory held) bytes r es old new sound h = subst (λ (s : SpillState). AreSoundEntries (pending_state es s)) (sym h.1) sound
sound-compared_at tells (place.Spilled x) bytes r es old new sound h = sound-compared_there tells x bytes r es old new sound h

pub sound-compared : (tells : Type 0) (o : Option Entry) (bytes : List ℕ) (r : Comparison) (es : List Entry) (old new : SpillState) → AreSoundEntries (pending_state es old)
    → Compares tells o bytes r old new → AreSoundEntries (pending_state es new)
sound-compared tells None bytes r es old new sound h = subst (λ (s : SpillState). AreSoundEntries (pending_state es s)) (sym h.1) sound
sound-compared tells (Some e) bytes r es old new sound h = sound-compared_at tells e.place bytes r es old new sound h
