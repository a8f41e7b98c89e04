-- What the list of the entries that are there says of the map.
use Rattle.std.proofs.Common.{◌≡◌, ℕ, Bool, true, false, cond, List, [], ◌∷◌, Option, Some, refl, ap, sym, ◌∙◌, subst, inl, inr, map, length}
use Rattle.std.specs.declared.cmp.Ordering.{Ordering}
use Rattle.std.specs.declared.cmp.Ordering.TheVariants.{Less, Equal, Greater}
use Rattle.std.specs.Ordering.{is_eq, ordering_reverse}
use Rattle.std.specs.Cmp.{IsTotalOrder}
use Rattle.std.specs.List.{AllByRecursion}
use Rattle.std.specs.List.Sorted.{IsStrictlySortedBy}
use Rattle.std.specs.Map.{lookup, keys_of}
use Rattle.std.specs.BTreeMap.{is_at}
use Rattle.std.proofs.lemmas.Map.Entries.{lookup_head, lookup_tail}
use Rattle.append_store.specs.State.{ObjectState, IsThere}
use Rattle.append_store.specs.Calls.{Has, HasLength, Lists}
use Rattle.append_store.specs.Slots.{slot_of, spot_slot, entries_listing, entry_listing}
use Rattle.gw_model.specs.declared.object.KeptObject.{KeptObject}
use Rattle.gw_model.specs.declared.object.ObjectId.{ObjectId}
use Rattle.append_store.specs.declared.mem_file.Planned.{Planned}
use Rattle.append_store.specs.declared.slots.Entry.{Entry}
use Rattle.append_store.specs.declared.slots.Spot.{Spot}
use Rattle.append_store.specs.declared.slots.Spot.TheVariants.{Gone, Here, Out}

-- in order
below_one : (P : ObjectId → Type 0) (o : ObjectId) (spot : Spot) (rest : List KeptObject) → P o → AllByRecursion P (map (λ k. k.object) rest) → AllByRecursion P (map (λ k. k.object) (entry_listing o spot rest))
below_one P o (Gone f) rest here more = more
below_one P o (Here f) rest here more = (here, more)
below_one P o Out rest here more = more

below : (P : ObjectId → Type 0) (es : List (ObjectId × Entry)) → AllByRecursion P (keys_of es) → AllByRecursion P (map (λ k. k.object) (entries_listing es))
below P [] all = tt
below P (e ∷ es) all = below_one P e.0 e.1.spot (entries_listing es) all.0 (below P es all.1)

rising_one : (R : ObjectId → ObjectId → Ordering) (o : ObjectId) (spot : Spot) (rest : List KeptObject) → AllByRecursion (λ y. R o y ≡ Less) (map (λ k. k.object) rest) → IsStrictlySortedBy R (map (λ k. k.object) rest) → IsStrictlySortedBy R (map (λ k. k.object) (entry_listing o spot rest))
unfolding IsStrictlySortedBy
rising_one R o (Gone f) rest above more = more
rising_one R o (Here f) rest above more = (above, more)
rising_one R o Out rest above more = more

pub rising : (R : ObjectId → ObjectId → Ordering) (es : List (ObjectId × Entry)) → IsStrictlySortedBy R (keys_of es) → IsStrictlySortedBy R (map (λ k. k.object) (entries_listing es))
unfolding IsStrictlySortedBy
rising R [] sorted = tt
rising R (e ∷ es) sorted = rising_one R e.0 e.1.spot (entries_listing es) (below (λ y. R e.0 y ≡ Less) es sorted.0) (rising R es sorted.1)

-- each entry is found by its name
at_itself : (r : Ordering) → r ≡ ordering_reverse r → is_eq r ≡ true
at_itself Less e = absurd (cc)
at_itself Equal e = refl
at_itself Greater e = absurd (cc)

passes_by : (R : ObjectId → ObjectId → Ordering) → IsTotalOrder R → (x y : ObjectId) → R x y ≡ Less → is_at (R y) x ≡ false
passes_by R order x y less = ap is_eq (order.antisymm y x ∙ ap ordering_reverse less)

lift : (R : ObjectId → ObjectId → Ordering) → IsTotalOrder R → (e : ObjectId × Entry) (all es : List (ObjectId × Entry)) → AllByRecursion (λ x. lookup (is_at (R x.0)) all ≡ Some x.1) es → AllByRecursion (λ y. R e.0 y ≡ Less) (keys_of es) → AllByRecursion (λ x. lookup (is_at (R x.0)) (e ∷ all) ≡ Some x.1) es
lift R order e all [] there above = tt
lift R order e all (x ∷ xs) there above = (lookup_tail (is_at (R x.0)) e all (passes_by R order e.0 x.0 above.0) ∙ there.0, lift R order e all xs there.1 above.1)

found : (R : ObjectId → ObjectId → Ordering) → IsTotalOrder R → (es : List (ObjectId × Entry)) → IsStrictlySortedBy R (keys_of es) → AllByRecursion (λ x. lookup (is_at (R x.0)) es ≡ Some x.1) es
unfolding IsStrictlySortedBy
found R order [] sorted = tt
found R order (e ∷ es) sorted = (lookup_head (is_at (R e.0)) e es (at_itself (R e.0 e.0) (order.antisymm e.0 e.0)), lift R order e es es (found R order es sorted.1) sorted.0)

-- sound
sound_one : (at : ObjectId → ObjectState) (o : ObjectId) (spot : Spot) (losses : ℕ) (rest : List KeptObject) → at o ≡ (spot_slot o spot losses).state → AllByRecursion (λ k. HasLength (at k.object) k.length) rest → AllByRecursion (λ k. HasLength (at k.object) k.length) (entry_listing o spot rest)
sound_one at o (Gone f) losses rest is more = more
sound_one at o (Here f) losses rest is more = (let P : ObjectState → Type 0 = λ s. HasLength s (length f.bytes.items) in subst P (sym is) refl, more)
sound_one at o Out losses rest is more = more

sound : (failing : List Planned) (at : ObjectId → Option Entry) (es : List (ObjectId × Entry)) → AllByRecursion (λ x. at x.0 ≡ Some x.1) es → AllByRecursion (λ k. HasLength (slot_of failing k.object (at k.object)).state k.length) (entries_listing es)
sound failing at [] there = tt
sound failing at (e ∷ es) there = sound_one (λ o. (slot_of failing o (at o)).state) e.0 e.1.spot e.1.losses (entries_listing es) (ap (λ x. (slot_of failing e.0 x).state) there.0) (sound failing at es there.1)

-- complete
has_one : (o q : ObjectId) (spot : Spot) (losses : ℕ) (rest : List KeptObject) → o ≡ q → IsThere (spot_slot q spot losses).state → Has (entry_listing o spot rest) q
has_one o q (Gone f) losses rest same there = absurd there
has_one o q (Here f) losses rest same there = inl same
has_one o q Out losses rest same there = absurd there

has_more : (o q : ObjectId) (spot : Spot) (rest : List KeptObject) → Has rest q → Has (entry_listing o spot rest) q
has_more o q (Gone f) rest more = more
has_more o q (Here f) rest more = inr more
has_more o q Out rest more = more

step : (failing : List Planned) (o q : ObjectId) (entry : Entry) (t : Bool) (others : Option Entry) (rest : List KeptObject) → (t ≡ true → o ≡ q) → (IsThere (slot_of failing q others).state → Has rest q) → IsThere (slot_of failing q (cond t (Some entry) others)).state → Has (entry_listing o entry.spot rest) q
step failing o q entry true others rest same more there = has_one o q entry.spot entry.losses rest (same refl) there
step failing o q entry false others rest same more there = has_more o q entry.spot rest (more there)

complete : (failing : List Planned) (test : ObjectId → ObjectId → Bool) → ((x y : ObjectId) → test x y ≡ true → x ≡ y) → (q : ObjectId) (es : List (ObjectId × Entry)) → IsThere (slot_of failing q (lookup (test q) es)).state → Has (entries_listing es) q
complete failing test exact q [] there = absurd there
complete failing test exact q (e ∷ es) there = step failing e.0 q e.1 (test q e.0) (lookup (test q) es) (entries_listing es) (λ t. sym (exact q e.0 t)) (complete failing test exact q es) there

pub lists : (failing : List Planned) (R : ObjectId → ObjectId → Ordering) → IsTotalOrder R → ((x y : ObjectId) → is_at (R x) y ≡ true → x ≡ y) → (es : List (ObjectId × Entry)) → IsStrictlySortedBy R (keys_of es) → Lists (λ q. (slot_of failing q (lookup (is_at (R q)) es)).state) (entries_listing es)
lists failing R order exact es sorted = record {
  sound = sound failing (λ q. lookup (is_at (R q)) es) es (found R order es sorted);
  complete = λ q. complete failing (λ x. is_at (R x)) exact q es;
}
