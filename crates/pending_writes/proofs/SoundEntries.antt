-- Entries stay sound as one comes, goes or moves to the device.
use Rattle.std.proofs.Common.{◌≡◌, drop, Result, Ok, Err, Bool, true, false, cond, List, [], ◌∷◌, ◌++◌, refl, sym, ap, subst}
use Rattle.std.specs.List.{list_all}
use Rattle.std.specs.Result.{OnOk, IfErr}
use Rattle.spill_region.specs.Extents.{Span}
use Rattle.spill.specs.Kept.{SpillState, extents_of}
use Rattle.range_map.specs.declared.entry.Entry.{Entry}
use Rattle.range_map.specs.declared.entry.Place.{Place}
use Rattle.range_map.specs.declared.entry.Place.TheVariants.{Memory, Spilled}
use Rattle.range_map.specs.Entries.{is_before, is_in_memory, lies_in_memory, with_entry}
use Rattle.range_map.proofs.SortedEntries.{and_true, both_true}
use Rattle.pending_writes.specs.Extents.{are_live, held_extents, is_live, place_extents}
use Rattle.pending_writes.specs.Writes.{AreSoundEntries, is_sound_entry, pending_state}
use Rattle.pending_writes.proofs.LiveExtents.{all-beside}

none_in_memory : (p : Place) → lies_in_memory p ≡ true → place_extents p ≡ []
none_in_memory (Memory bytes) here = refl
none_in_memory (Spilled extent) here = absurd (cc)

-- an entry in memory holds none
pub memory_holds_none : (e : Entry) (es : List Entry) → is_in_memory e ≡ true → held_extents (e ∷ es) ≡ held_extents es
memory_holds_none e es here = ap (λ (xs : List Span). xs ++ held_extents es) (none_in_memory e.place here)

pub held-put_in : (e : Entry) (es : List Entry) → is_in_memory e ≡ true → held_extents (with_entry e es) ≡ held_extents es
held-put_in e [] here = memory_holds_none e [] here
held-put_in e (x ∷ xs) here =
    let go : (b : Bool) → held_extents (cond b (x ∷ with_entry e xs) (e ∷ x ∷ xs)) ≡ held_extents (x ∷ xs) = elim [
      | true ↦ ap (λ (ys : List Span). place_extents x.place ++ ys) (held-put_in e xs here)
      | false ↦ memory_holds_none e (x ∷ xs) here
    ] in
    go (is_before x e)

sized-put_in : (t : Entry → Bool) (e : Entry) (es : List Entry) → t e ≡ true → list_all t es ≡ true → list_all t (with_entry e es) ≡ true
sized-put_in t e [] p h = both_true _ _ p refl
sized-put_in t e (x ∷ xs) p h =
    let q = and_true (t x) (list_all t xs) h in
    let go : (b : Bool) → list_all t (cond b (x ∷ with_entry e xs) (e ∷ x ∷ xs)) ≡ true = elim [
      | true ↦ both_true _ _ q.0 (sized-put_in t e xs p q.1)
      | false ↦ both_true _ _ p h
    ] in
    go (is_before x e)

pub sound-put_in : (e : Entry) (es : List Entry) (s : SpillState) → is_in_memory e ≡ true → is_sound_entry e ≡ true → AreSoundEntries (pending_state es s)
    → AreSoundEntries (pending_state (with_entry e es) s)
sound-put_in e es s here sound h = record {
  sized = sized-put_in is_sound_entry e es sound h.sized;
  live = subst (λ (xs : List Span). are_live xs (extents_of s.kept) ≡ true) (sym (held-put_in e es here)) h.live;
}

pub behind_live : (p : Place) (es live : List Span) → are_live (place_extents p ++ es) live ≡ true → are_live es live ≡ true
behind_live (Memory bytes) es live all = all
behind_live (Spilled extent) es live all = all-beside extent es live (and_true (is_live extent live) _ all).1

-- those behind the first
pub sound-behind : (e : Entry) (es : List Entry) (s : SpillState) → AreSoundEntries (pending_state (e ∷ es) s) → AreSoundEntries (pending_state es s)
sound-behind e es s h = record {
  sized = (and_true (is_sound_entry e) (list_all is_sound_entry es) h.sized).1;
  live = behind_live e.place (held_extents es) (extents_of s.kept) h.live;
}

pub sound-dropped : (es : List Entry) (s : SpillState) → AreSoundEntries (pending_state es s) → AreSoundEntries (pending_state (drop 1 es) s)
sound-dropped [] s h = h
sound-dropped (e ∷ es) s h = sound-behind e es s h

-- after an insert that was done, or wasn't
pub sound-inserted : {T : Type 0} (r : Result T Entry) (e : Entry) (old new : List Entry) (s : SpillState) → OnOk r (new ≡ with_entry e old) → IfErr r (λ x. new ≡ old)
    → is_in_memory e ≡ true → is_sound_entry e ≡ true → AreSoundEntries (pending_state old s) → AreSoundEntries (pending_state new s)
sound-inserted (Ok x) e old new s ok err here sound h = subst (λ (es : List Entry). AreSoundEntries (pending_state es s)) (sym ok) (sound-put_in e old s here sound h)
sound-inserted (Err x) e old new s ok err here sound h = subst (λ (es : List Entry). AreSoundEntries (pending_state es s)) (sym err) h
