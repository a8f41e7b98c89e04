-- No step changes the bytes of a pending write.
use Rattle.std.proofs.Common.{◌≡◌, ℕ, Bool, true, false, Option, Some, None, List, [], ◌∷◌, ◌++◌, map, length, refl, sym, ◌∙◌, ap, subst}
use Rattle.std.specs.Prelude.{IsSomeAnd}
use Rattle.std.proofs.lemmas.List.{map-append}
use Rattle.spill_region.specs.Extents.{Span}
use Rattle.spill.specs.Kept.{KeptExtent, SpillState, bytes_at, extents_of}
use Rattle.range_map.specs.declared.entry.Entry.{Entry}
use Rattle.range_map.specs.declared.entry.Place.{Place}
use Rattle.range_map.specs.declared.entry.Place.TheVariants as place
use Rattle.range_map.specs.Entries.{is_in_order, is_in_memory, with_place_at}
use Rattle.pending_writes.specs.declared.reports.Comparison.{Comparison}
use Rattle.pending_writes.specs.declared.reports.Comparison.TheVariants as comparison
use Rattle.pending_writes.specs.declared.reports.Load.{Load}
use Rattle.pending_writes.specs.declared.reports.Load.TheVariants as load
use Rattle.pending_writes.specs.declared.reports.SpillMove.{SpillMove}
use Rattle.pending_writes.specs.declared.reports.SpillMove.TheVariants as move
use Rattle.pending_writes.specs.Bytes.{entry_bytes, pending_bytes}
use Rattle.pending_writes.specs.Comparisons.{Compares, ComparesAt, ComparesThere}
use Rattle.pending_writes.specs.Extents.{are_live, extent_bytes, filled_up, held_extents, place_bytes}
use Rattle.pending_writes.specs.Moves.{FitsBehindLast, IsMoved, IsNotMoved, MovesLast, last_of_memory, next_extent}
use Rattle.pending_writes.specs.Reads.{IsRead, Loads}
use Rattle.pending_writes.specs.Taken.{are_taken}
use Rattle.pending_writes.specs.Writes.{AreSoundEntries, PendingState, pending_state}
use Rattle.pending_writes.proofs.Freed.{live_before}
use Rattle.pending_writes.proofs.KeptBytes.{bytes_last, entries_freed, entries_more, live_suffix}
use Rattle.pending_writes.proofs.LastEntries.{between_placed, last_between}
use Rattle.pending_writes.proofs.Reading.{filled_whole}
use Rattle.pending_writes.proofs.SoundEntries.{behind_live}
use Rattle.pending_writes.proofs.SpillMoves.{held-append, last_is_here, last_sized, on_device}

-- a read, and frees of what was taken off
pub bytes_read : (tells : Type 0) (failed : Bool) (freed : List Span) (es : List Entry) (old new : SpillState) → are_taken freed (pending_state es old) ≡ true
    → IsRead tells failed freed old new → tells → pending_bytes (pending_state es new) ≡ pending_bytes (pending_state es old)
bytes_read tells failed freed es old new taken read told = ap (λ (ks : List KeptExtent). map (entry_bytes ks) es) (read.kept told) ∙ entries_freed freed es old taken

pub bytes_loaded : (tells : Type 0) (e : Span) (r : Load) (es : List Entry) (old new : SpillState) → AreSoundEntries (pending_state es old) → are_taken (e ∷ []) (pending_state es old) ≡ true
    → Loads tells e r old new → tells → pending_bytes (pending_state es new) ≡ pending_bytes (pending_state es old)
bytes_loaded tells e (load.Loaded bytes) es old new sound taken h told = bytes_read tells false (e ∷ []) es old new taken h.1 told
bytes_loaded tells e load.Fault es old new sound taken h told = bytes_read tells true (e ∷ []) es old new taken h told
bytes_loaded tells e (load.Memory x) es old new sound taken h told = ap (λ (s : SpillState). pending_bytes (pending_state es s)) h.1
bytes_loaded tells e (load.MemoryAfterRead x) es old new sound taken h told = bytes_read tells false [] es old new sound.live h.1 told

bytes_compared_there : (tells : Type 0) (x : Span) (bytes : List ℕ) (r : Comparison) (es : List Entry) (old new : SpillState) → AreSoundEntries (pending_state es old)
    → ComparesThere tells x bytes r old new → tells → pending_bytes (pending_state es new) ≡ pending_bytes (pending_state es old)
bytes_compared_there tells x bytes comparison.Same es old new sound h told = bytes_read tells false [] es old new sound.live h.1 told
bytes_compared_there tells x bytes comparison.Differs es old new sound h told = bytes_read tells false [] es old new sound.live h.1 told
bytes_compared_there tells x bytes comparison.Fault es old new sound h told = bytes_read tells true [] es old new sound.live h told
bytes_compared_there tells x bytes comparison.Memory es old new sound h told = ap (λ (s : SpillState). pending_bytes (pending_state es s)) h
bytes_compared_there tells x bytes comparison.NotThere es old new sound h told = absurd h

bytes_compared_at : (tells : Type 0) (p : Place) (bytes : List ℕ) (r : Comparison) (es : List Entry) (old new : SpillState) → AreSoundEntries (pending_state es old)
    → ComparesAt tells p bytes r old new → tells → pending_bytes (pending_state es new) ≡ pending_bytes (pending_state es old)
bytes_compared_at tells (place.Memory held) bytes r es old new sound h told = ap (λ (s : SpillState). pending_bytes (pending_state es s)) h.1
bytes_compared_at tells (place.Spilled x) bytes r es old new sound h told = bytes_compared_there tells x bytes r es old new sound h told

pub bytes_compared : (tells : Type 0) (o : Option Entry) (bytes : List ℕ) (r : Comparison) (es : List Entry) (old new : SpillState) → AreSoundEntries (pending_state es old)
    → Compares tells o bytes r old new → tells → pending_bytes (pending_state es new) ≡ pending_bytes (pending_state es old)
bytes_compared tells None bytes r es old new sound h told = ap (λ (s : SpillState). pending_bytes (pending_state es s)) h.1
bytes_compared tells (Some e) bytes r es old new sound h told = bytes_compared_at tells e.place bytes r es old new sound h told

-- The bytes of the last entry in memory are the same in the extent.
moved_there : (p : Place) (x : Span) (n : ℕ) (kept kept' : List KeptExtent) → ((bytes : List ℕ) → p ≡ place.Memory bytes → length bytes ≡ x.len) → ((y : Span) → p ≡ place.Spilled y → ⊥)
    → bytes_at x kept' ≡ place_bytes [] p → extent_bytes kept' x ≡ place_bytes kept p
moved_there (place.Memory bytes) x n kept kept' sized here is = ap (filled_up x.len) is ∙ ap (λ (k : ℕ). filled_up k bytes) (sym (sized bytes refl)) ∙ filled_whole bytes
moved_there (place.Spilled y) x n kept kept' sized here is = absurd (here y refl)

bytes_moved_one : (tells : Type 0) (e : Entry) (old new : PendingState) → last_of_memory old.entries ≡ Some e → is_in_order old.entries ≡ true → AreSoundEntries old
    → IsMoved tells e old new → tells → pending_bytes new ≡ pending_bytes old
bytes_moved_one tells e old new found ordered sound moved told =
    let b = last_between is_in_memory old.entries e found in
    let x = next_extent old e in
    let e' : Entry = record e { place = place.Spilled x } in
    let kept = old.spill.kept in
    let k : KeptExtent = record { extent = x; bytes = place_bytes [] e.place } in
    let kept' = kept ++ k ∷ [] in
    let placed : new.entries ≡ b.before ++ e' ∷ b.after =
    moved.entries ∙ ap (with_place_at e.offset e.number (place.Spilled x)) b.are ∙ between_placed e (place.Spilled x) b.before b.after (subst (λ (ys : List Entry). is_in_order ys ≡ true) b.are ordered) in
    let live : are_live (held_extents b.before ++ held_extents (e ∷ b.after)) (extents_of kept) ≡ true =
    subst (λ (zs : List Span). are_live zs (extents_of kept) ≡ true) (ap held_extents b.are ∙ held-append b.before (e ∷ b.after)) sound.live in
    let front = entries_more b.before k kept (live_before (held_extents b.before) (held_extents (e ∷ b.after)) (extents_of kept) live) in
    let behind = entries_more b.after k kept (behind_live e.place (held_extents b.after) (extents_of kept) (live_suffix (held_extents b.before) (held_extents (e ∷ b.after)) (extents_of kept) live)) in
    let there : extent_bytes kept' x ≡ place_bytes kept e.place =
    moved_there e.place x 0 kept kept' (λ bytes is. (last_sized old.entries old.spill e bytes sound found is).size) (λ y is. on_device e.place y is (last_is_here old.entries e found))
    (bytes_last x (place_bytes [] e.place) kept moved.fresh) in
    let middle : entry_bytes kept' e' ≡ entry_bytes kept e = ap (λ (bs : List ℕ). record { number = e.number; offset = e.offset; bytes = bs }) there in
    let after : map (entry_bytes kept') (b.before ++ e' ∷ b.after) ≡ map (entry_bytes kept) (b.before ++ e ∷ b.after) =
    rw (map-append (entry_bytes kept') b.before (e' ∷ b.after), map-append (entry_bytes kept) b.before (e ∷ b.after), front, behind, middle) refl in
    ap (λ (ks : List KeptExtent). map (entry_bytes ks) new.entries) (moved.kept told) ∙ ap (map (entry_bytes kept')) placed ∙ after ∙ sym (ap (map (entry_bytes kept)) b.are)

pub bytes_moved : (tells : Type 0) (r : SpillMove) (old new : PendingState) → is_in_order old.entries ≡ true → AreSoundEntries old → MovesLast tells r old new
    → tells → pending_bytes new ≡ pending_bytes old
bytes_moved tells move.Nothing old new ordered sound h told = ap pending_bytes h.1
bytes_moved tells move.NoRoom old new ordered sound h told = ap pending_bytes h.1
bytes_moved tells move.Memory old new ordered sound h told = ap pending_bytes h.1
bytes_moved tells move.Fault old new ordered sound h told =
    let go : (o : Option Entry) → IsSomeAnd o (λ e. FitsBehindLast old e × IsNotMoved tells e old new) → pending_bytes new ≡ pending_bytes old = elim [
      | None ↦ λ h. absurd h
      | Some e ↦ λ h. ap (λ (ks : List KeptExtent). map (entry_bytes ks) new.entries) (h.1.kept told) ∙ ap (map (entry_bytes old.spill.kept)) h.1.entries
    ] in
    go (last_of_memory old.entries) h
bytes_moved tells (move.Moved number weight start) old new ordered sound h told =
    let go : (o : Option Entry) → last_of_memory old.entries ≡ o
    → IsSomeAnd o (λ e. FitsBehindLast old e × (number ≡ e.number) × (weight ≡ e.weight) × (start ≡ old.spill.next) × IsMoved tells e old new) → pending_bytes new ≡ pending_bytes old = elim [
      | None ↦ λ is h. absurd h
      | Some e ↦ λ is h. bytes_moved_one tells e old new is ordered sound h.4 told
    ] in
    go (last_of_memory old.entries) refl h
