-- What stays live, and what entries hold, where extents are freed.
use Rattle.std.proofs.Common.{◌≡◌, Bool, true, false, not, cond, Some, List, [], ◌∷◌, ◌++◌, drop, suc, refl, sym, ◌∙◌, ap, subst, arith}
use Rattle.std.specs.Prelude.{◌||◌, slice_get}
use Rattle.std.proofs.lemmas.Bool.Decides.{nat_tests}
use Rattle.std.specs.List.{Contains}
use Rattle.spill_region.specs.Extents.{Span, is_same, without}
use Rattle.spill.specs.Kept.{KeptExtent, SpillState, extents_of, kept_without}
use Rattle.spill.proofs.Keeps.{same_is}
use Rattle.range_map.specs.declared.entry.Entry.{Entry}
use Rattle.range_map.proofs.SortedEntries.{and_true, both_true}
use Rattle.pending_writes.specs.Extents.{are_all_held, are_live, held_extents, is_live, live_without, place_extents}
use Rattle.pending_writes.specs.Taken.{are_taken, freed_all, freed_spill}
use Rattle.pending_writes.specs.Writes.{AreSoundEntries, pending_state}

pub live_contains : (e : Span) (live : List Span) → is_live e live ≡ true → Contains live e
live_contains e [] is = absurd (cc)
live_contains e (x ∷ xs) is =
    let go : (b : Bool) → is_same x e ≡ b → b || is_live e xs ≡ true → Contains (x ∷ xs) e = elim [
      | true ↦ λ t h. (0, omega (arith), same_is x e t)
      | false ↦ λ t h. let rest = live_contains e xs h in let lt = rest.1 in (suc rest.0, omega (arith), rest.2)
    ] in
    go (is_same x e) refl is

pub freed-extents : (e : Span) (kept : List KeptExtent) → extents_of (kept_without e kept) ≡ without e (extents_of kept)
freed-extents e [] = refl
freed-extents e (k ∷ ks) =
    let go : (b : Bool) → extents_of (cond b (k ∷ kept_without e ks) (kept_without e ks)) ≡ cond b (k.extent ∷ without e (extents_of ks)) (without e (extents_of ks)) = elim [
      | true ↦ ap (λ (xs : List Span). k.extent ∷ xs) (freed-extents e ks)
      | false ↦ freed-extents e ks
    ] in
    go (not (is_same k.extent e))

pub live_of_freed : (es : List Span) (s : SpillState) → extents_of (freed_all es s).kept ≡ live_without es (extents_of s.kept)
live_of_freed [] s = refl
live_of_freed (e ∷ es) s = live_of_freed es (freed_spill e s) ∙ ap (live_without es) (freed-extents e s.kept)

pub freed_behind : (xs ys : List Span) (s : SpillState) → freed_all (xs ++ ys) s ≡ freed_all ys (freed_all xs s)
freed_behind [] ys s = refl
freed_behind (x ∷ xs) ys s = freed_behind xs ys (freed_spill x s)

-- those behind the ones that are freed stay live
pub live_behind : (xs ys live : List Span) → are_live (xs ++ ys) live ≡ true → are_live ys (live_without xs live) ≡ true
live_behind [] ys live all = all
live_behind (x ∷ xs) ys live all = live_behind xs ys (without x live) (and_true (is_live x live) (are_live (xs ++ ys) (without x live)) all).1

pub held_behind : (xs ys : List Span) (s : SpillState) → are_live (xs ++ ys) (extents_of s.kept) ≡ true → are_live ys (extents_of (freed_all xs s).kept) ≡ true
held_behind xs ys s all = subst (λ (live : List Span). are_live ys live ≡ true) (sym (live_of_freed xs s)) (live_behind xs ys (extents_of s.kept) all)

pub live_before : (xs ys live : List Span) → are_live (xs ++ ys) live ≡ true → are_live xs live ≡ true
live_before [] ys live all = refl
live_before (x ∷ xs) ys live all =
    let parts = and_true (is_live x live) (are_live (xs ++ ys) (without x live)) all in
    let rest = live_before xs ys (without x live) parts.1 in
    rw (parts.0, rest) refl

-- where the extents are all that is live, none stays
held_rest : (e : Span) (es live : List Span) → are_all_held (e ∷ es) live ≡ true → are_all_held es (without e live) ≡ true
held_rest e es [] all = refl
held_rest e es (x ∷ xs) all =
    let parts = and_true (is_live x (e ∷ es)) (are_all_held (e ∷ es) xs) all in
    let rest = held_rest e es xs parts.1 in
    let go : (b : Bool) → is_same x e ≡ b → is_live x (e ∷ es) ≡ true → are_all_held es (cond (not b) (x ∷ without e xs) (without e xs)) ≡ true = elim [
      | true ↦ λ t h. rest
      | false ↦ λ t h.
          let other : is_same e x ≡ false = grind (arith, nat_tests) in
          let here : is_live x es ≡ true = rw other at h in
          both_true (is_live x es) (are_all_held es (without e xs)) here rest
    ] in
    go (is_same x e) refl parts.0

pub none_stays : (es live : List Span) → are_all_held es live ≡ true → live_without es live ≡ []
none_stays [] [] all = refl
none_stays [] (x ∷ xs) all = absurd (cc)
none_stays (e ∷ es) live all = none_stays es (without e live) (held_rest e es live all)

pub none_kept : (kept : List KeptExtent) → extents_of kept ≡ [] → kept ≡ []
none_kept [] is = refl
none_kept (k ∷ ks) is = absurd (cc)

-- nothing stays where all that was live is freed
pub gone : (es : List Span) (s : SpillState) → are_all_held es (extents_of s.kept) ≡ true → (freed_all es s).kept ≡ []
gone es s all = none_kept (freed_all es s).kept (live_of_freed es s ∙ none_stays es (extents_of s.kept) all)

-- the first entry is taken off, and its extent freed
pub freed_step : (es es' : List Entry) (e : Entry) (s s' : SpillState) → slice_get es 0 ≡ Some e → es' ≡ drop 1 es → s' ≡ freed_all (place_extents e.place) s
    → are_live (held_extents es) (extents_of s.kept) ≡ true
    → (are_live (held_extents es') (extents_of s'.kept) ≡ true) × (freed_all (held_extents es') s' ≡ freed_all (held_extents es) s)
freed_step [] es' e s s' first rest freed live = absurd (cc)
freed_step (x ∷ xs) es' e s s' first rest freed live =
    let same : x ≡ e = cc in
    let there : are_live (place_extents e.place ++ held_extents xs) (extents_of s.kept) ≡ true = subst (λ (y : Entry). are_live (place_extents y.place ++ held_extents xs) (extents_of s.kept) ≡ true) same live in
    let next : are_live (held_extents xs) (extents_of (freed_all (place_extents e.place) s).kept) ≡ true = held_behind (place_extents e.place) (held_extents xs) s there in
    let all : freed_all (held_extents xs) (freed_all (place_extents e.place) s) ≡ freed_all (place_extents x.place ++ held_extents xs) s =
    sym (ap (λ (y : Entry). freed_all (place_extents y.place ++ held_extents xs) s) same ∙ freed_behind (place_extents e.place) (held_extents xs) s) in
    (rw (rest, freed) next, rw (rest, freed) all)

-- what is freed beside those that entries hold leaves the entries sound
pub sound-freed : (xs : List Span) (es : List Entry) (s : SpillState) → AreSoundEntries (pending_state es s) → are_taken xs (pending_state es s) ≡ true
    → AreSoundEntries (pending_state es (freed_all xs s))
sound-freed xs es s sound taken = record { sized = sound.sized; live = held_behind xs (held_extents es) s taken }
