-- What a spill step leaves, and that the entries stay sound.
use Rattle.std.proofs.Common.{◌≡◌, ◌≢◌, ℕ, ◌+◌, ◌<◌, ◌≤◌, Bool, true, false, Option, Some, None, List, [], ◌∷◌, ◌++◌, length, refl, sym, ◌∙◌, ap, subst, arith}
use Rattle.std.specs.Prelude.{◌==◌, ◌&&◌, nat_lt, nat_le, IsSomeAnd}
use Rattle.std.specs.List.{All, list_all}
use Rattle.std.proofs.lemmas.Bool.Decides.{nat_tests}
use Rattle.std.proofs.lemmas.List.{append_assoc}
use Rattle.std.proofs.lemmas.List.Elements.{All-map}
use Rattle.gw_outside.specs.Causes.{Rose}
use Rattle.gw_outside.specs.Tally.{one_call}
use Rattle.gw_model.specs.Bounds.{max_transfer}
use Rattle.spill_region.specs.Extents.{RegionState, Span, next_span, with_placed}
use Rattle.spill.specs.Kept.{KeptExtent, SpillState, extents_of, region_after_fault, region_of}
use Rattle.spill.specs.declared.spill_file.SpillFail.{SpillFail}
use Rattle.spill.specs.declared.spill_file.SpillFail.TheVariants as fail
use Rattle.range_map.specs.declared.entry.Entry.{Entry}
use Rattle.range_map.specs.declared.entry.Place.{Place}
use Rattle.range_map.specs.declared.entry.Place.TheVariants.{Memory, Spilled}
use Rattle.range_map.specs.Entries.{entry_at, is_in_memory, is_in_order, lies_in_memory, with_place_at}
use Rattle.range_map.proofs.SortedEntries.{and_true, both_true}
use Rattle.pending_writes.specs.declared.reports.SpillMove.{SpillMove}
use Rattle.pending_writes.specs.declared.reports.SpillMove.TheVariants as move
use Rattle.pending_writes.specs.Extents.{are_live, held_extents, place_bytes, place_extents, place_size}
use Rattle.pending_writes.specs.Moves.{FitsBehindLast, IsMoved, IsNotMoved, MovesLast, failed_move, last_of_memory, next_extent}
use Rattle.pending_writes.specs.Writes.{AreSoundEntries, PendingState, is_sound_entry, pending_state}
use Rattle.pending_writes.proofs.LastEntries.{last_between, between_at, between_placed}
use Rattle.pending_writes.proofs.LiveExtents.{live-add}
use Rattle.pending_writes.proofs.SoundEntries.{memory_holds_none}

-- the last entry in memory

pub on_device : (p : Place) (x : Span) → p ≡ Spilled x → lies_in_memory p ≡ true → ⊥
on_device p x is here = let no : false ≡ true = sym (ap lies_in_memory is) ∙ here in absurd (cc)

pub last_is_here : (es : List Entry) (e : Entry) → last_of_memory es ≡ Some e → is_in_memory e ≡ true
last_is_here es e found = (last_between is_in_memory es e found).passes

pub last_not_there : (es : List Entry) (e : Entry) (x : Span) → last_of_memory es ≡ Some e → e.place ≡ Spilled x → ⊥
last_not_there es e x found is = on_device e.place x is (last_is_here es e found)

sound_between : (t : Entry → Bool) (e : Entry) (before after : List Entry) → list_all t (before ++ e ∷ after) ≡ true → t e ≡ true
sound_between t e [] after h = (and_true (t e) (list_all t after) h).0
sound_between t e (x ∷ xs) after h = sound_between t e xs after (and_true (t x) (list_all t (xs ++ e ∷ after)) h).1

pub last_is_sound : (es : List Entry) (e : Entry) → last_of_memory es ≡ Some e → list_all is_sound_entry es ≡ true → is_sound_entry e ≡ true
last_is_sound es e found sized =
    let b = last_between is_in_memory es e found in
    sound_between is_sound_entry e b.before b.after (subst (λ (ys : List Entry). list_all is_sound_entry ys ≡ true) b.are sized)

-- how many bytes a sound entry in memory has
pub record IsSized (n : ℕ) (e : Entry) : Type 0 where
  pub size : n ≡ e.count
  pub some : 0 < n
  pub few : n ≤ max_transfer

sized_of : (n : ℕ) (e : Entry) → n == e.count && (nat_lt 0 e.count && nat_le e.count max_transfer) ≡ true → IsSized n e
sized_of n e h =
    let p = and_true (n == e.count) (nat_lt 0 e.count && nat_le e.count max_transfer) h in
    let q = and_true (nat_lt 0 e.count) (nat_le e.count max_transfer) p.1 in
    record {
      size = grind (arith, nat_tests);
      some = grind (arith, nat_tests);
      few = grind (arith, nat_tests);
    }

pub last_sized : (es : List Entry) (s : SpillState) (e : Entry) (bytes : List ℕ) → AreSoundEntries (pending_state es s) → last_of_memory es ≡ Some e → e.place ≡ Memory bytes
    → IsSized (length bytes) e
last_sized es s e bytes sound found is =
    let h = last_is_sound es e found sound.sized in
    sized_of (length bytes) e (subst (λ (p : Place). place_size p == e.count && (nat_lt 0 e.count && nat_le e.count max_transfer) ≡ true) is h)

pub last_at : (es : List Entry) (e : Entry) → is_in_order es ≡ true → last_of_memory es ≡ Some e → IsSomeAnd (entry_at e.offset e.number es) (λ x. is_in_memory x ≡ true)
last_at es e ordered found =
    let b = last_between is_in_memory es e found in
    let there : entry_at e.offset e.number (b.before ++ e ∷ b.after) ≡ Some e = between_at e b.before b.after (subst (λ (ys : List Entry). is_in_order ys ≡ true) b.are ordered) in
    let at : entry_at e.offset e.number es ≡ Some e = ap (entry_at e.offset e.number) b.are ∙ there in
    subst (λ (o : Option Entry). IsSomeAnd o (λ x. is_in_memory x ≡ true)) (sym at) b.passes

-- a put that failed
pub put_failed : (tells : Type 0) (f : SpillFail) (e : Entry) (es : List Entry) (n : ℕ) (old new : SpillState) → last_of_memory es ≡ Some e → n ≡ e.count
    → (f ≡ fail.NoRoom → old.size < old.next + n) → (old.size < old.next + n → f ≡ fail.NoRoom)
    → (f ≡ fail.NoRoom → new ≡ old) → (f ≡ fail.Memory → new ≡ old) → (f ≡ fail.Fault → Rose old.faults new.faults)
    → (f ≡ fail.Fault → region_of new ≡ region_after_fault (region_of old) n) → extents_of new.kept ≡ extents_of old.kept
    → (tells → new.kept ≡ old.kept) → (f ≡ fail.Fault → new.tally ≡ one_call true old.tally)
    → MovesLast tells (failed_move f) (pending_state es old) (pending_state es new)
put_failed tells fail.NoRoom e es n old new found size room full no_room memory fault region live kept tally =
    let short : old.size < old.next + n = room refl in
    let lacks : old.size < old.next + e.count = omega (arith, short, size) in
    (subst (λ (o : Option Entry). IsSomeAnd o (λ x. old.size < old.next + x.count)) (sym found) lacks, ap (pending_state es) (no_room refl))
put_failed tells fail.Memory e es n old new found size room full no_room memory fault region live kept tally =
    let fits : old.size < old.next + n → ⊥ = λ h. let no = full h in absurd (cc) in
    let has : old.next + e.count ≤ old.size = omega (arith, fits, size) in
    (subst (λ (o : Option Entry). IsSomeAnd o (FitsBehindLast (pending_state es old))) (sym found) has, ap (pending_state es) (memory refl))
put_failed tells fail.Fault e es n old new found size room full no_room memory fault region live kept tally =
    let fits : old.size < old.next + n → ⊥ = λ h. let no = full h in absurd (cc) in
    let has : old.next + e.count ≤ old.size = omega (arith, fits, size) in
    let left : IsNotMoved tells e (pending_state es old) (pending_state es new) = record {
      entries = refl;
      region = region refl ∙ ap (region_after_fault (region_of old)) size;
      live = live;
      kept = kept;
      faults = fault refl;
      tally = tally refl;
    } in
    subst (λ (o : Option Entry). IsSomeAnd o (λ x. FitsBehindLast (pending_state es old) x × IsNotMoved tells x (pending_state es old) (pending_state es new))) (sym found) (has, left)

-- a put that was done
pub put_done : (tells : Type 0) (e : Entry) (es es' : List Entry) (number weight start n : ℕ) (x : Span) (bytes : List ℕ) (old new : SpillState) → last_of_memory es ≡ Some e
    → n ≡ e.count → e.place ≡ Memory bytes → number ≡ e.number → weight ≡ e.weight → start ≡ x.start → (old.size < old.next + n → ⊥)
    → x ≡ next_span (region_of old) n → All (λ k. k.extent.start ≢ x.start) old.kept → region_of new ≡ with_placed (region_of old) n
    → (tells → new.kept ≡ old.kept ++ record { extent = x; bytes = bytes } ∷ []) → old.faults ≤ new.faults → new.tally ≡ one_call false old.tally
    → es' ≡ with_place_at e.offset e.number (Spilled x) es
    → MovesLast tells (move.Moved number weight start) (pending_state es old) (pending_state es' new)
put_done tells e es es' number weight start n x bytes old new found size place is_number is_weight is_start fits placed fresh region kept faults tally goes =
    let has : old.next + e.count ≤ old.size = omega (arith, fits, size) in
    let there : x ≡ next_span (region_of old) e.count = placed ∙ ap (next_span (region_of old)) size in
    let at : x.start ≡ old.next = ap (λ (y : Span). y.start) there in
    let theirs : bytes ≡ place_bytes [] e.place = sym (ap (place_bytes []) place) in
    let moved : IsMoved tells e (pending_state es old) (pending_state es' new) = record {
      entries = goes ∙ ap (λ (y : Span). with_place_at e.offset e.number (Spilled y) es) there;
      region = region ∙ ap (with_placed (region_of old)) size;
      fresh = subst (λ (k : ℕ). All (λ (y : KeptExtent). y.extent.start ≢ k) old.kept) at fresh;
      kept = λ told. kept told ∙ ap (λ (y : Span). old.kept ++ record { extent = y; bytes = bytes } ∷ []) there
          ∙ ap (λ (bs : List ℕ). old.kept ++ record { extent = next_span (region_of old) e.count; bytes = bs } ∷ []) theirs;
      faults = faults;
      tally = tally;
    } in
    subst (λ (o : Option Entry). IsSomeAnd o (λ y. FitsBehindLast (pending_state es old) y × (number ≡ y.number) × (weight ≡ y.weight) × (start ≡ old.next) × IsMoved tells y (pending_state es old) (pending_state es' new)))
    (sym found) (has, is_number, is_weight, is_start ∙ at, moved)

-- The entries stay sound.

pub held-append : (xs ys : List Entry) → held_extents (xs ++ ys) ≡ held_extents xs ++ held_extents ys
held-append [] ys = refl
held-append (x ∷ xs) ys = ap (λ (zs : List Span). place_extents x.place ++ zs) (held-append xs ys) ∙ sym (append_assoc (place_extents x.place) (held_extents xs) (held_extents ys))

all-exchange : (t : Entry → Bool) (e e' : Entry) (before after : List Entry) → t e' ≡ true → list_all t (before ++ e ∷ after) ≡ true → list_all t (before ++ e' ∷ after) ≡ true
all-exchange t e e' [] after here h = both_true (t e') (list_all t after) here (and_true (t e) (list_all t after) h).1
all-exchange t e e' (x ∷ xs) after here h =
    let q = and_true (t x) (list_all t (xs ++ e ∷ after)) h in
    both_true (t x) (list_all t (xs ++ e' ∷ after)) q.0 (all-exchange t e e' xs after here q.1)

spilled_sound : (e : Entry) (x : Span) → x.len ≡ e.count → is_sound_entry e ≡ true → is_sound_entry (record e { place = Spilled x }) ≡ true
spilled_sound e x len h =
    let same : (x.len == e.count) ≡ true = grind (arith, nat_tests) in
    let few : Bool = nat_lt 0 e.count && nat_le e.count max_transfer in
    both_true (x.len == e.count) few same (and_true (place_size e.place == e.count) few h).1

sound-moved_one : (tells : Type 0) (e : Entry) (old new : PendingState) → last_of_memory old.entries ≡ Some e → is_in_order old.entries ≡ true → AreSoundEntries old
    → IsMoved tells e old new → AreSoundEntries new
sound-moved_one tells e old new found ordered sound moved =
    let b = last_between is_in_memory old.entries e found in
    let x = next_extent old e in
    let e' : Entry = record e { place = Spilled x } in
    let in_order : is_in_order (b.before ++ e ∷ b.after) ≡ true = subst (λ (ys : List Entry). is_in_order ys ≡ true) b.are ordered in
    let entries : new.entries ≡ b.before ++ e' ∷ b.after =
    moved.entries ∙ ap (with_place_at e.offset e.number (Spilled x)) b.are ∙ between_placed e (Spilled x) b.before b.after in_order in
    let whole : list_all is_sound_entry (b.before ++ e ∷ b.after) ≡ true = subst (λ (ys : List Entry). list_all is_sound_entry ys ≡ true) b.are sound.sized in
    let one : is_sound_entry e' ≡ true = spilled_sound e x refl (last_is_sound old.entries e found sound.sized) in
    let held_old : held_extents old.entries ≡ held_extents b.before ++ held_extents b.after =
    ap held_extents b.are ∙ held-append b.before (e ∷ b.after) ∙ ap (λ (zs : List Span). held_extents b.before ++ zs) (memory_holds_none e b.after b.passes) in
    let held_new : held_extents new.entries ≡ held_extents b.before ++ x ∷ held_extents b.after = ap held_extents entries ∙ held-append b.before (e' ∷ b.after) in
    let live_old : are_live (held_extents b.before ++ held_extents b.after) (extents_of old.spill.kept) ≡ true =
    subst (λ (zs : List Span). are_live zs (extents_of old.spill.kept) ≡ true) held_old sound.live in
    let live_new : extents_of new.spill.kept ≡ extents_of old.spill.kept ++ x ∷ [] = ap (λ (r : RegionState). r.live) moved.region in
    let fresh : All (λ (y : Span). y.start ≢ x.start) (extents_of old.spill.kept) = All-map (λ (y : Span). y.start ≢ x.start) (λ (k : KeptExtent). k.extent) old.spill.kept moved.fresh in
    let added = live-add x (held_extents b.before) (held_extents b.after) (extents_of old.spill.kept) fresh live_old in
    record {
      sized = subst (λ (ys : List Entry). list_all is_sound_entry ys ≡ true) (sym entries) (all-exchange is_sound_entry e e' b.before b.after one whole);
      live = subst (λ (zs : List Span). are_live zs (extents_of new.spill.kept) ≡ true) (sym held_new)
          (subst (λ (zs : List Span). are_live (held_extents b.before ++ x ∷ held_extents b.after) zs ≡ true) (sym live_new) added);
    }

pub sound-moved : (tells : Type 0) (r : SpillMove) (old new : PendingState) → is_in_order old.entries ≡ true → AreSoundEntries old → MovesLast tells r old new → AreSoundEntries new
sound-moved tells move.Nothing old new ordered sound h = subst AreSoundEntries (sym h.1) sound
sound-moved tells move.NoRoom old new ordered sound h = subst AreSoundEntries (sym h.1) sound
sound-moved tells move.Memory old new ordered sound h = subst AreSoundEntries (sym h.1) sound
sound-moved tells move.Fault old new ordered sound h =
    let go : (o : Option Entry) → IsSomeAnd o (λ e. FitsBehindLast old e × IsNotMoved tells e old new) → AreSoundEntries new = elim [
      | None ↦ λ h. absurd h
      | Some e ↦ λ h. record {
        sized = ap (list_all is_sound_entry) h.1.entries ∙ sound.sized;
        live = ap (λ (es : List Entry). are_live (held_extents es) (extents_of new.spill.kept)) h.1.entries ∙ ap (are_live (held_extents old.entries)) h.1.live ∙ sound.live;
      }
    ] in
    go (last_of_memory old.entries) h
sound-moved tells (move.Moved number weight start) old new ordered sound h =
    let go : (o : Option Entry) → last_of_memory old.entries ≡ o
    → IsSomeAnd o (λ e. FitsBehindLast old e × (number ≡ e.number) × (weight ≡ e.weight) × (start ≡ old.spill.next) × IsMoved tells e old new) → AreSoundEntries new = elim [
      | None ↦ λ is h. absurd h
      | Some e ↦ λ is h. sound-moved_one tells e old new is ordered sound h.4
    ] in
    go (last_of_memory old.entries) refl h
