-- Extents that were taken off stay live as others are placed.
use Rattle.std.proofs.Common.{◌≡◌, ◌≢◌, true, Option, Some, None, List, [], ◌∷◌, ◌++◌, refl, sym, ◌∙◌, ap, subst}
use Rattle.std.specs.Prelude.{IsSomeAnd}
use Rattle.std.specs.List.{All}
use Rattle.std.proofs.lemmas.List.{append_assoc}
use Rattle.std.proofs.lemmas.List.Elements.{All-map}
use Rattle.spill_region.specs.Extents.{RegionState, Span}
use Rattle.spill.specs.Kept.{KeptExtent, extents_of}
use Rattle.range_map.specs.declared.entry.Entry.{Entry}
use Rattle.range_map.specs.declared.entry.Place.TheVariants.{Spilled}
use Rattle.range_map.specs.Entries.{is_in_memory, is_in_order, with_place_at}
use Rattle.pending_writes.specs.declared.reports.SpillMove.{SpillMove}
use Rattle.pending_writes.specs.declared.reports.SpillMove.TheVariants as move
use Rattle.pending_writes.specs.Extents.{are_live, held_extents}
use Rattle.pending_writes.specs.Moves.{FitsBehindLast, IsMoved, IsNotMoved, MovesLast, last_of_memory, next_extent}
use Rattle.pending_writes.specs.Taken.{KeepsTaken, are_taken}
use Rattle.pending_writes.specs.Writes.{PendingState}
use Rattle.pending_writes.proofs.LastEntries.{between_placed, last_between}
use Rattle.pending_writes.proofs.LiveExtents.{live-add}
use Rattle.pending_writes.proofs.SoundEntries.{memory_holds_none}
use Rattle.pending_writes.proofs.SpillMoves.{held-append}

taken_moved_one : (tells : Type 0) (e : Entry) (old new : PendingState) → last_of_memory old.entries ≡ Some e → is_in_order old.entries ≡ true → IsMoved tells e old new → KeepsTaken old new
taken_moved_one tells e old new found ordered moved = λ ts taken.
    let b = last_between is_in_memory old.entries e found in
    let x = next_extent old e in
    let e' : Entry = record e { place = Spilled x } in
    let live = extents_of old.spill.kept in
    let front = held_extents b.before in
    let behind = held_extents b.after in
    let placed : new.entries ≡ b.before ++ e' ∷ b.after =
    moved.entries ∙ ap (with_place_at e.offset e.number (Spilled x)) b.are ∙ between_placed e (Spilled x) b.before b.after (subst (λ (ys : List Entry). is_in_order ys ≡ true) b.are ordered) in
    let held_old : held_extents old.entries ≡ front ++ behind =
    ap held_extents b.are ∙ held-append b.before (e ∷ b.after) ∙ ap (λ (zs : List Span). front ++ zs) (memory_holds_none e b.after b.passes) in
    let held_new : held_extents new.entries ≡ front ++ x ∷ behind = ap held_extents placed ∙ held-append b.before (e' ∷ b.after) in
    let before : are_live ((ts ++ front) ++ behind) live ≡ true =
    subst (λ (zs : List Span). are_live zs live ≡ true) (ap (λ (zs : List Span). ts ++ zs) held_old ∙ sym (append_assoc ts front behind)) taken in
    let fresh : All (λ (y : Span). y.start ≢ x.start) live = All-map (λ (y : Span). y.start ≢ x.start) (λ (k : KeptExtent). k.extent) old.spill.kept moved.fresh in
    let added = live-add x (ts ++ front) behind live fresh before in
    let live_new : extents_of new.spill.kept ≡ live ++ x ∷ [] = ap (λ (r : RegionState). r.live) moved.region in
    let all : ts ++ held_extents new.entries ≡ (ts ++ front) ++ x ∷ behind = ap (λ (zs : List Span). ts ++ zs) held_new ∙ sym (append_assoc ts front (x ∷ behind)) in
    subst (λ (zs : List Span). are_live zs (extents_of new.spill.kept) ≡ true) (sym all) (subst (λ (zs : List Span). are_live ((ts ++ front) ++ x ∷ behind) zs ≡ true) (sym live_new) added)

taken_same : (old new : PendingState) → new ≡ old → KeepsTaken old new
taken_same old new is = λ ts taken. subst (λ (s : PendingState). are_taken ts s ≡ true) (sym is) taken

pub taken_moved : (tells : Type 0) (r : SpillMove) (old new : PendingState) → is_in_order old.entries ≡ true → MovesLast tells r old new → KeepsTaken old new
taken_moved tells move.Nothing old new ordered h = taken_same old new h.1
taken_moved tells move.NoRoom old new ordered h = taken_same old new h.1
taken_moved tells move.Memory old new ordered h = taken_same old new h.1
taken_moved tells move.Fault old new ordered h =
    let go : (o : Option Entry) → IsSomeAnd o (λ e. FitsBehindLast old e × IsNotMoved tells e old new) → KeepsTaken old new = elim [
      | None ↦ λ h. absurd h
      | Some e ↦ λ h ts taken.
          ap (λ (es : List Entry). are_live (ts ++ held_extents es) (extents_of new.spill.kept)) h.1.entries ∙ ap (are_live (ts ++ held_extents old.entries)) h.1.live ∙ taken
    ] in
    go (last_of_memory old.entries) h
taken_moved tells (move.Moved number weight start) old new ordered h =
    let go : (o : Option Entry) → last_of_memory old.entries ≡ o
    → IsSomeAnd o (λ e. FitsBehindLast old e × (number ≡ e.number) × (weight ≡ e.weight) × (start ≡ old.spill.next) × IsMoved tells e old new) → KeepsTaken old new = elim [
      | None ↦ λ is h. absurd h
      | Some e ↦ λ is h. taken_moved_one tells e old new is ordered h.4
    ] in
    go (last_of_memory old.entries) refl h
