-- The bytes of pending writes stay as extents are placed and freed.
use Rattle.std.proofs.Common.{◌≡◌, ◌≢◌, ℕ, Bool, true, false, not, cond, List, [], ◌∷◌, ◌++◌, map, refl, sym, ◌∙◌, ap, subst, arith}
use Rattle.std.specs.Prelude.{◌||◌}
use Rattle.std.specs.List.{All}
use Rattle.std.proofs.lemmas.Bool.Decides.{nat_tests}
use Rattle.std.proofs.lemmas.List.Elements.{All-head, All-tail}
use Rattle.spill_region.specs.Extents.{Span, is_same, without}
use Rattle.spill.specs.Kept.{KeptExtent, SpillState, bytes_at, extents_of, kept_without}
use Rattle.range_map.specs.declared.entry.Entry.{Entry}
use Rattle.range_map.specs.declared.entry.Place.{Place}
use Rattle.range_map.specs.declared.entry.Place.TheVariants as place
use Rattle.range_map.proofs.SortedEntries.{and_true}
use Rattle.pending_writes.specs.Bytes.{entry_bytes}
use Rattle.pending_writes.specs.Extents.{are_live, filled_up, held_extents, is_live, place_bytes, place_extents}
use Rattle.pending_writes.specs.Taken.{are_taken, freed_all, freed_spill}
use Rattle.pending_writes.specs.Writes.{pending_state}
use Rattle.pending_writes.proofs.Freed.{freed-extents}
use Rattle.pending_writes.proofs.LiveExtents.{all-beside}
use Rattle.pending_writes.proofs.SoundEntries.{behind_live}

-- one that is live beside another isn't that
live_other : (x e : Span) (live : List Span) → is_live x (without e live) ≡ true → is_same x e ≡ false
live_other x e [] is = absurd (cc)
live_other x e (y ∷ ys) is =
    let rest = λ (h : is_live x (without e ys) ≡ true). live_other x e ys h in
    let go : (a b : Bool) → is_same y e ≡ a → is_same y x ≡ b → is_live x (cond (not a) (y ∷ without e ys) (without e ys)) ≡ true → is_same x e ≡ false = elim [
      | true ↦ λ b p q h. rest h
      | false ↦ elim [
        | true ↦ λ p q h. grind (arith, nat_tests)
        | false ↦ λ p q h. rest (rw q at h)
      ]
    ] in
    go (is_same y e) (is_same y x) refl refl is

-- its bytes stay as that is freed
bytes_beside : (x e : Span) (kept : List KeptExtent) → is_same x e ≡ false → bytes_at x (kept_without e kept) ≡ bytes_at x kept
bytes_beside x e [] off = refl
bytes_beside x e (k ∷ ks) off =
    let rest = bytes_beside x e ks off in
    let go : (a : Bool) → is_same k.extent e ≡ a → bytes_at x (cond (not a) (k ∷ kept_without e ks) (kept_without e ks)) ≡ bytes_at x (k ∷ ks) = elim [
      | true ↦ λ p. let other : is_same k.extent x ≡ false = grind (arith, nat_tests) in rw other rest
      | false ↦ λ p. ap (λ (bs : List ℕ). cond (is_same k.extent x) k.bytes bs) rest
    ] in
    go (is_same k.extent e) refl

-- those of a live extent stay as one more is placed
bytes_more : (x : Span) (k : KeptExtent) (kept : List KeptExtent) → is_live x (extents_of kept) ≡ true → bytes_at x (kept ++ k ∷ []) ≡ bytes_at x kept
bytes_more x k [] is = absurd (cc)
bytes_more x k (y ∷ ys) is =
    let go : (b : Bool) → b || is_live x (extents_of ys) ≡ true → cond b y.bytes (bytes_at x (ys ++ k ∷ [])) ≡ cond b y.bytes (bytes_at x ys) = elim [
      | true ↦ λ h. refl
      | false ↦ λ h. bytes_more x k ys h
    ] in
    go (is_same y.extent x) is

-- the one that was placed has its own
pub bytes_last : (f : Span) (bytes : List ℕ) (kept : List KeptExtent) → All (λ k. k.extent.start ≢ f.start) kept → bytes_at f (kept ++ record { extent = f; bytes = bytes } ∷ []) ≡ bytes
bytes_last f bytes [] fresh = let here : is_same f f ≡ true = grind (arith, nat_tests) in rw here refl
bytes_last f bytes (k ∷ ks) fresh =
    let apart : k.extent.start ≢ f.start = All-head (λ (y : KeptExtent). y.extent.start ≢ f.start) k ks fresh in
    let other : is_same k.extent f ≡ false = grind (arith, nat_tests) in
    rw other (bytes_last f bytes ks (All-tail (λ (y : KeptExtent). y.extent.start ≢ f.start) k ks fresh))

-- entries as one extent is freed beside theirs
place_beside : (p : Place) (e : Span) (rest : List Span) (kept : List KeptExtent) → are_live (place_extents p ++ rest) (without e (extents_of kept)) ≡ true
    → place_bytes (kept_without e kept) p ≡ place_bytes kept p
place_beside (place.Memory bytes) e rest kept all = refl
place_beside (place.Spilled x) e rest kept all =
    let here = (and_true (is_live x (without e (extents_of kept))) (are_live rest (without x (without e (extents_of kept)))) all).0 in
    ap (filled_up x.len) (bytes_beside x e kept (live_other x e (extents_of kept) here))

entries_beside : (es : List Entry) (e : Span) (kept : List KeptExtent) → are_live (held_extents es) (without e (extents_of kept)) ≡ true
    → map (entry_bytes (kept_without e kept)) es ≡ map (entry_bytes kept) es
entries_beside [] e kept all = refl
entries_beside (x ∷ xs) e kept all =
    let first : entry_bytes (kept_without e kept) x ≡ entry_bytes kept x =
    ap (λ (bs : List ℕ). record { number = x.number; offset = x.offset; bytes = bs }) (place_beside x.place e (held_extents xs) kept all) in
    rw (first, entries_beside xs e kept (behind_live x.place (held_extents xs) (without e (extents_of kept)) all)) refl

pub live_suffix : (xs ys live : List Span) → are_live (xs ++ ys) live ≡ true → are_live ys live ≡ true
live_suffix [] ys live all = all
live_suffix (x ∷ xs) ys live all = all-beside x ys live (live_suffix xs ys (without x live) (and_true (is_live x live) (are_live (xs ++ ys) (without x live)) all).1)

pub entries_freed : (taken : List Span) (es : List Entry) (s : SpillState) → are_taken taken (pending_state es s) ≡ true
    → map (entry_bytes (freed_all taken s).kept) es ≡ map (entry_bytes s.kept) es
entries_freed [] es s all = refl
entries_freed (e ∷ ts) es s all =
    let rest = (and_true (is_live e (extents_of s.kept)) (are_live (ts ++ held_extents es) (without e (extents_of s.kept))) all).1 in
    let there : are_taken ts (pending_state es (freed_spill e s)) ≡ true = subst (λ (live : List Span). are_live (ts ++ held_extents es) live ≡ true) (sym (freed-extents e s.kept)) rest in
    entries_freed ts es (freed_spill e s) there ∙ entries_beside es e s.kept (live_suffix ts (held_extents es) (without e (extents_of s.kept)) rest)

-- entries as one more extent is placed
place_more : (p : Place) (rest : List Span) (k : KeptExtent) (kept : List KeptExtent) → are_live (place_extents p ++ rest) (extents_of kept) ≡ true → place_bytes (kept ++ k ∷ []) p ≡ place_bytes kept p
place_more (place.Memory bytes) rest k kept all = refl
place_more (place.Spilled x) rest k kept all =
    ap (filled_up x.len) (bytes_more x k kept (and_true (is_live x (extents_of kept)) (are_live rest (without x (extents_of kept))) all).0)

pub entries_more : (es : List Entry) (k : KeptExtent) (kept : List KeptExtent) → are_live (held_extents es) (extents_of kept) ≡ true
    → map (entry_bytes (kept ++ k ∷ [])) es ≡ map (entry_bytes kept) es
entries_more [] k kept all = refl
entries_more (x ∷ xs) k kept all =
    let first : entry_bytes (kept ++ k ∷ []) x ≡ entry_bytes kept x =
    ap (λ (bs : List ℕ). record { number = x.number; offset = x.offset; bytes = bs }) (place_more x.place (held_extents xs) k kept all) in
    rw (first, entries_more xs k kept (behind_live x.place (held_extents xs) (extents_of kept) all)) refl
