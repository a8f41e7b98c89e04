-- Entries by their keys: the tree of the entries, and the tree of the keys of those in memory.
use Rattle.std.proofs.Common.{◌≡◌, ℕ, suc, Bool, true, false, cond, Option, Some, None, List, [], ◌∷◌, map, length, ◌<◌, ◌≤◌, ◌-◌, max, min, drop, refl, sym, ap, ◌∙◌, arith, Less, Equal, Greater, Ordering}
use Rattle.std.specs.Prelude.{◌==◌, not, nat_lt, nat_le, find, filter, reverse, slice_get, IsSomeAnd}
use Rattle.std.specs.List.{list_all}
use Rattle.std.specs.Map.{lookup, set_value, values_of}
use Rattle.std.specs.Set.{remove_key}
use Rattle.std.specs.BTreeMap.{insert_entry, is_at as is_found}
use Rattle.std.specs.BTreeSet.{insert_key}
use Rattle.std.specs.BTreeMap.Range.{entries_between, range_contains}
use Rattle.std.specs.Option.{option_map, option_or}
use Rattle.std.specs.declared.ops.Bound.TheVariants.{Included, Excluded, Unbounded}
use Rattle.std.proofs.lemmas.List.{length-map, reverse-append}
use Rattle.std.proofs.lemmas.List.Folds.{find-append}
use Rattle.std.proofs.lemmas.Option.{slice_get-get_or, slice_get-map, slice_get_past}
use Rattle.std.proofs.lemmas.Bool.Decides.{nat_tests}
use Rattle.range_map.specs.declared.entry.Entry.{Entry}
use Rattle.range_map.specs.declared.entry.Place.{Place}
use Rattle.range_map.specs.declared.entry.Place.TheVariants.{Memory, Spilled}
use Rattle.range_map.specs.declared.tree.TreeMap.{TreeMap}
use Rattle.range_map.specs.declared.key.EntryKey.{EntryKey}
use Rattle.range_map.specs.Entries.{is_before, is_in_order, is_new, is_in_memory, with_entry, is_at, entry_at, has_range, entry_end, commit_goal, lies_in_memory, MayReplace}
use Rattle.range_map.specs.Keys.{key_cmp, entry_key, with_keys, memory_keys, with_memory_key, moved_keys}
use Rattle.range_map.proofs.SortedEntries.{and_true, both_true, before_all, changed, changed-keeps, none_changed, not_at_sooner, in_order-map, put_in-in_order, Keeps}

-- Two keys.

cmp-behind : (a b : Entry) → is_before b a ≡ true → key_cmp (entry_key a) (entry_key b) ≡ Greater
cmp-behind a b h = grind (arith, nat_tests)

cmp-ahead : (a b : Entry) → is_before a b ≡ true → key_cmp (entry_key a) (entry_key b) ≡ Less
cmp-ahead a b h = grind (arith, nat_tests)

new-ahead : (a b : Entry) → not (b.number == a.number) ≡ true → is_before b a ≡ false → is_before a b ≡ true
new-ahead a b n h = grind (arith, nat_tests)

found_is : (offset number : ℕ) (e : Entry) → is_found (key_cmp (record { offset = offset; number = number })) (entry_key e) ≡ is_at offset number e
found_is offset number e = grind (arith, nat_tests)

new_apart : (a b : Entry) → not (b.number == a.number) ≡ true → is_found (key_cmp (entry_key a)) (entry_key b) ≡ false
new_apart a b n = grind (arith, nat_tests)

ahead_apart : (a b : Entry) → is_before a b ≡ true → is_found (key_cmp (entry_key a)) (entry_key b) ≡ false
ahead_apart a b h = grind (arith, nat_tests)

same_found : (k : EntryKey) → is_found (key_cmp k) k ≡ true
same_found k = grind (arith, nat_tests)

-- Two trees.

values-with_keys : (es : List Entry) → values_of (with_keys es) ≡ es
values-with_keys [] = refl
values-with_keys (e ∷ es) = ap (λ (l : List Entry). e ∷ l) (values-with_keys es)

-- the entries stand at their keys, in order, and the other keys are those in memory
pub record Agree (entries : List (EntryKey × Entry)) (keys : List EntryKey) : Type 0 where
  pub keyed : entries ≡ with_keys (values_of entries)
  pub ordered : is_in_order (values_of entries) ≡ true
  pub listed : keys ≡ memory_keys (values_of entries)

-- the trees of a map
pub agreed : (m : TreeMap) → Agree m.entries.entries m.in_memory.keys
agreed m = record { keyed = m.keyed; ordered = m.ordered; listed = m.listed }

-- by the entries that they come to
agree : (entries : List (EntryKey × Entry)) (keys : List EntryKey) (es : List Entry) → entries ≡ with_keys es → is_in_order es ≡ true → keys ≡ memory_keys es → Agree entries keys
agree entries keys es h o m =
    let same : values_of entries ≡ es = ap values_of h ∙ values-with_keys es in
    record { keyed = h ∙ ap with_keys (sym same); ordered = ap is_in_order same ∙ o; listed = m ∙ ap memory_keys (sym same) }

-- One more entry.

pub put_entry : (e : Entry) (es : List Entry) → is_new e.number es ≡ true → insert_entry key_cmp (with_keys es) (entry_key e) e ≡ with_keys (with_entry e es)
put_entry e [] new = refl
put_entry e (x ∷ xs) new =
    let n = and_true (not (x.number == e.number)) (is_new e.number xs) new in
    let go : (b : Bool) → is_before x e ≡ b → insert_entry key_cmp (with_keys (x ∷ xs)) (entry_key e) e ≡ with_keys (with_entry e (x ∷ xs)) = elim [
      | true ↦ λ is. rw (is, cmp-behind e x is) (ap (λ (l : List (EntryKey × Entry)). (entry_key x, x) ∷ l) (put_entry e xs n.1))
      | false ↦ λ is. rw (is, cmp-ahead e x (new-ahead e x n.0 is)) refl
    ] in
    go (is_before x e) refl

-- The keys in memory.

-- the key is none of these
Apart : EntryKey → List EntryKey → Type 0
Apart k ks = list_all (λ q. not (is_found (key_cmp k) q)) ks ≡ true

no_true : (b : Bool) → not b ≡ true → b ≡ false
no_true true h = absurd (cc)
no_true false h = refl

removed-apart : (k : EntryKey) (ks : List EntryKey) → Apart k ks → remove_key (is_found (key_cmp k)) ks ≡ ks
unfolding Apart
removed-apart k [] h = refl
removed-apart k (q ∷ qs) h =
    let p = and_true (not (is_found (key_cmp k) q)) (list_all (λ q. not (is_found (key_cmp k) q)) qs) h in
    rw (no_true _ p.0) (ap (λ (l : List EntryKey). q ∷ l) (removed-apart k qs p.1))

apart-kept : (k : EntryKey) (e : Entry) (es : List Entry) → is_found (key_cmp k) (entry_key e) ≡ false → Apart k (memory_keys es) → Apart k (memory_keys (e ∷ es))
unfolding Apart
apart-kept k e es other h =
    let go : (b : Bool) → is_in_memory e ≡ b → Apart k (memory_keys (e ∷ es)) = elim [
      | true ↦ λ is. rw is (both_true _ _ (ap not other) h)
      | false ↦ λ is. rw is h
    ] in
    go (is_in_memory e) refl

apart-new : (e : Entry) (es : List Entry) → is_new e.number es ≡ true → Apart (entry_key e) (memory_keys es)
unfolding Apart
apart-new e [] new = refl
apart-new e (x ∷ xs) new =
    let n = and_true (not (x.number == e.number)) (is_new e.number xs) new in
    apart-kept (entry_key e) x xs (new_apart e x n.0) (apart-new e xs n.1)

apart-ahead : (e : Entry) (es : List Entry) → list_all (is_before e) es ≡ true → Apart (entry_key e) (memory_keys es)
unfolding Apart
apart-ahead e [] h = refl
apart-ahead e (x ∷ xs) h =
    let q = and_true (is_before e x) (list_all (is_before e) xs) h in
    apart-kept (entry_key e) x xs (ahead_apart e x q.0) (apart-ahead e xs q.1)

-- an entry that isn't there has no key there
pub removed-new : (e : Entry) (es : List Entry) → is_new e.number es ≡ true → remove_key (is_found (key_cmp (entry_key e))) (memory_keys es) ≡ memory_keys es
removed-new e es new = removed-apart (entry_key e) (memory_keys es) (apart-new e es new)

-- a key that was put in is taken out
put-removed : (k : EntryKey) (ks : List EntryKey) → Apart k ks → remove_key (is_found (key_cmp k)) (insert_key key_cmp ks k) ≡ ks
unfolding Apart
put-removed k [] h = rw (same_found k) refl
put-removed k (q ∷ qs) h =
    let p = and_true (not (is_found (key_cmp k) q)) (list_all (λ q. not (is_found (key_cmp k) q)) qs) h in
    let go : (o : Ordering) → key_cmp k q ≡ o → remove_key (is_found (key_cmp k)) (insert_key key_cmp (q ∷ qs) k) ≡ q ∷ qs = elim [
      | Less ↦ λ is. rw (is, same_found k) refl
      | Equal ↦ λ is. let no : true ≡ false = rw is at (no_true _ p.0) in absurd (cc)
      | Greater ↦ λ is. rw (is, is) (ap (λ (l : List EntryKey). q ∷ l) (put-removed k qs p.1))
    ] in
    go (key_cmp k q) refl

pub put-removed-new : (e : Entry) (es : List Entry) → is_new e.number es ≡ true
    → remove_key (is_found (key_cmp (entry_key e))) (insert_key key_cmp (memory_keys es) (entry_key e)) ≡ memory_keys es
put-removed-new e es new = put-removed (entry_key e) (memory_keys es) (apart-new e es new)

-- the first entry goes, with its key
pub first_removed : (e : Entry) (es : List Entry) → is_in_order (e ∷ es) ≡ true → remove_key (is_found (key_cmp (entry_key e))) (memory_keys (e ∷ es)) ≡ memory_keys es
first_removed e es h =
    let q = and_true (list_all (is_before e) es) (is_in_order es) h in
    let rest = removed-apart (entry_key e) (memory_keys es) (apart-ahead e es q.0) in
    let go : (b : Bool) → is_in_memory e ≡ b → remove_key (is_found (key_cmp (entry_key e))) (memory_keys (e ∷ es)) ≡ memory_keys es = elim [
      | true ↦ λ is. rw (is, same_found (entry_key e)) refl
      | false ↦ λ is. rw is rest
    ] in
    go (is_in_memory e) refl

-- in front of all others
front_key : (e : Entry) (es : List Entry) → list_all (is_before e) es ≡ true → insert_key key_cmp (memory_keys es) (entry_key e) ≡ entry_key e ∷ memory_keys es
front_key e [] h = refl
front_key e (x ∷ xs) h =
    let q = and_true (is_before e x) (list_all (is_before e) xs) h in
    let go : (b : Bool) → is_in_memory x ≡ b → insert_key key_cmp (memory_keys (x ∷ xs)) (entry_key e) ≡ entry_key e ∷ memory_keys (x ∷ xs) = elim [
      | true ↦ λ is. rw (is, cmp-ahead e x q.0) refl
      | false ↦ λ is. rw is (front_key e xs q.1)
    ] in
    go (is_in_memory x) refl

-- an entry in memory goes in, with its key
pub put_key : (e : Entry) (es : List Entry) → is_in_order es ≡ true → is_new e.number es ≡ true → is_in_memory e ≡ true
    → insert_key key_cmp (memory_keys es) (entry_key e) ≡ memory_keys (with_entry e es)
put_key e [] h new here = rw here refl
put_key e (x ∷ xs) h new here =
    let q = and_true (list_all (is_before x) xs) (is_in_order xs) h in
    let n = and_true (not (x.number == e.number)) (is_new e.number xs) new in
    let rest = put_key e xs q.1 n.1 here in
    let behind : is_before x e ≡ true → (b : Bool) → is_in_memory x ≡ b → insert_key key_cmp (memory_keys (x ∷ xs)) (entry_key e) ≡ memory_keys (x ∷ with_entry e xs) = λ is. elim [
      | true ↦ λ at. rw (at, cmp-behind e x is) (ap (λ (l : List EntryKey). entry_key x ∷ l) rest)
      | false ↦ λ at. rw at rest
    ] in
    let go : (b : Bool) → is_before x e ≡ b → insert_key key_cmp (memory_keys (x ∷ xs)) (entry_key e) ≡ memory_keys (with_entry e (x ∷ xs)) = elim [
      | true ↦ λ is. rw is (behind is (is_in_memory x) refl)
      | false ↦ λ is.
          let first : is_before e x ≡ true = new-ahead e x n.0 is in
          rw (is, here) (front_key e (x ∷ xs) (both_true _ _ first (before_all e x xs first q.0)))
    ] in
    go (is_before x e) refl

-- a spilled entry goes in without one
pub put_spilled : (e : Entry) (es : List Entry) → is_in_memory e ≡ false → memory_keys es ≡ memory_keys (with_entry e es)
put_spilled e [] here = rw here refl
put_spilled e (x ∷ xs) here =
    let rest = put_spilled e xs here in
    let behind : (b : Bool) → is_in_memory x ≡ b → memory_keys (x ∷ xs) ≡ memory_keys (x ∷ with_entry e xs) = elim [
      | true ↦ λ at. rw at (ap (λ (l : List EntryKey). entry_key x ∷ l) rest)
      | false ↦ λ at. rw at rest
    ] in
    let go : (b : Bool) → is_before x e ≡ b → memory_keys (x ∷ xs) ≡ memory_keys (with_entry e (x ∷ xs)) = elim [
      | true ↦ λ is. rw is (behind (is_in_memory x) refl)
      | false ↦ λ is. rw (is, here) refl
    ] in
    go (is_before x e) refl

-- An entry is changed where it stands.

key_is : (offset number : ℕ) (e : Entry) → is_at offset number e ≡ true → record { offset = offset; number = number } ≡ entry_key e
key_is offset number e h =
    let o : offset ≡ e.offset = grind (arith, nat_tests) in
    let n : number ≡ e.number = grind (arith, nat_tests) in
    rw (o, n) refl

key_kept : (f : Entry → Entry) → Keeps f → (e : Entry) → entry_key (f e) ≡ entry_key e
key_kept f k e = rw ((k e).0, (k e).1) refl

-- what is found at a key
pub found_at : (offset number : ℕ) (es : List Entry) → lookup (is_found (key_cmp (record { offset = offset; number = number }))) (with_keys es) ≡ entry_at offset number es
found_at offset number [] = refl
found_at offset number (e ∷ es) = rw (found_is offset number e, found_at offset number es) refl

put_value : (offset number : ℕ) (f : Entry → Entry) (es : List Entry) (e : Entry) → Keeps f → is_in_order es ≡ true → entry_at offset number es ≡ Some e
    → set_value (is_found (key_cmp (record { offset = offset; number = number }))) (with_keys es) (f e) ≡ with_keys (map (changed offset number f) es)
put_value offset number f [] e k h found = absurd (cc)
put_value offset number f (x ∷ xs) e k h found =
    let q = and_true (list_all (is_before x) xs) (is_in_order xs) h in
    let go : (b : Bool) → is_at offset number x ≡ b
    → set_value (is_found (key_cmp (record { offset = offset; number = number }))) (with_keys (x ∷ xs)) (f e) ≡ with_keys (map (changed offset number f) (x ∷ xs)) = elim [
      | true ↦ λ is.
          let here : Some x ≡ Some e = rw is at found in
          let same : e ≡ x = cc in
          let rest = none_changed offset number f x xs q.0 is in
          let head : changed offset number f x ≡ f x = rw is refl in
          let left : set_value (is_found (key_cmp (record { offset = offset; number = number }))) (with_keys (x ∷ xs)) (f e) ≡ (entry_key x, f x) ∷ with_keys xs =
          rw (found_is offset number x, is) (ap (λ (z : Entry). (entry_key x, f z) ∷ with_keys xs) same) in
          left ∙ (ap (λ (z : EntryKey). (z, f x) ∷ with_keys xs) (sym (key_kept f k x))
          ∙ (ap (λ (l : List Entry). with_keys (f x ∷ l)) (sym rest) ∙ ap (λ (z : Entry). with_keys (z ∷ map (changed offset number f) xs)) (sym head)))
      | false ↦ λ is.
          let later : entry_at offset number xs ≡ Some e = rw is at found in
          let head : changed offset number f x ≡ x = rw is refl in
          let left : set_value (is_found (key_cmp (record { offset = offset; number = number }))) (with_keys (x ∷ xs)) (f e)
          ≡ (entry_key x, x) ∷ set_value (is_found (key_cmp (record { offset = offset; number = number }))) (with_keys xs) (f e) = rw (found_is offset number x, is) refl in
          left ∙ (ap (λ (l : List (EntryKey × Entry)). (entry_key x, x) ∷ l) (put_value offset number f xs e k q.1 later)
          ∙ ap (λ (z : Entry). with_keys (z ∷ map (changed offset number f) xs)) (sym head))
    ] in
    go (is_at offset number x) refl

memory_more : (x y : Entry) (xs ys : List Entry) → entry_key x ≡ entry_key y → is_in_memory x ≡ is_in_memory y → memory_keys xs ≡ memory_keys ys → memory_keys (x ∷ xs) ≡ memory_keys (y ∷ ys)
memory_more x y xs ys k m rest =
    let go : (b : Bool) → is_in_memory y ≡ b → memory_keys (x ∷ xs) ≡ memory_keys (y ∷ ys) = elim [
      | true ↦ λ is. let here : is_in_memory x ≡ true = m ∙ is in rw (is, here, k) (ap (λ (l : List EntryKey). entry_key y ∷ l) rest)
      | false ↦ λ is. let here : is_in_memory x ≡ false = m ∙ is in rw (is, here) rest
    ] in
    go (is_in_memory y) refl

-- an entry that stays in memory, or out of it, keeps its key there
pub kept_keys : (offset number : ℕ) (f : Entry → Entry) (es : List Entry) (e : Entry) → Keeps f → is_in_order es ≡ true → entry_at offset number es ≡ Some e
    → is_in_memory (f e) ≡ is_in_memory e → memory_keys (map (changed offset number f) es) ≡ memory_keys es
kept_keys offset number f [] e k h found m = refl
kept_keys offset number f (x ∷ xs) e k h found m =
    let q = and_true (list_all (is_before x) xs) (is_in_order xs) h in
    let go : (b : Bool) → is_at offset number x ≡ b → memory_keys (map (changed offset number f) (x ∷ xs)) ≡ memory_keys (x ∷ xs) = elim [
      | true ↦ λ is.
          let here : Some x ≡ Some e = rw is at found in
          let same : e ≡ x = cc in
          let head : changed offset number f x ≡ f x = rw is refl in
          let stays : is_in_memory (f x) ≡ is_in_memory x = ap (λ (z : Entry). is_in_memory (f z)) (sym same) ∙ (m ∙ ap is_in_memory same) in
          memory_more (changed offset number f x) x (map (changed offset number f) xs) xs (ap entry_key head ∙ key_kept f k x) (ap is_in_memory head ∙ stays)
          (ap memory_keys (none_changed offset number f x xs q.0 is))
      | false ↦ λ is.
          let later : entry_at offset number xs ≡ Some e = rw is at found in
          let head : changed offset number f x ≡ x = rw is refl in
          memory_more (changed offset number f x) x (map (changed offset number f) xs) xs (ap entry_key head) (ap is_in_memory head) (kept_keys offset number f xs e k q.1 later m)
    ] in
    go (is_at offset number x) refl

-- one whose bytes leave it has its key taken away
pub spilled_keys : (offset number : ℕ) (f : Entry → Entry) (es : List Entry) → is_in_order es ≡ true → ((e : Entry) → is_in_memory (f e) ≡ false)
    → remove_key (is_found (key_cmp (record { offset = offset; number = number }))) (memory_keys es) ≡ memory_keys (map (changed offset number f) es)
spilled_keys offset number f [] h out = refl
spilled_keys offset number f (x ∷ xs) h out =
    let q = and_true (list_all (is_before x) xs) (is_in_order xs) h in
    let go : (b : Bool) → is_at offset number x ≡ b
    → remove_key (is_found (key_cmp (record { offset = offset; number = number }))) (memory_keys (x ∷ xs)) ≡ memory_keys (map (changed offset number f) (x ∷ xs)) = elim [
      | true ↦ λ is.
          let gone = ap (λ (k : EntryKey). remove_key (is_found (key_cmp k)) (memory_keys (x ∷ xs))) (key_is offset number x is) ∙ first_removed x xs h in
          let head : is_in_memory (changed offset number f x) ≡ false = rw is (out x) in
          gone ∙ (ap memory_keys (sym (none_changed offset number f x xs q.0 is)) ∙ rw head refl)
      | false ↦ λ is.
          let head : changed offset number f x ≡ x = rw is refl in
          let rest = spilled_keys offset number f xs q.1 out in
          let inner : (m : Bool) → is_in_memory x ≡ m
          → remove_key (is_found (key_cmp (record { offset = offset; number = number }))) (memory_keys (x ∷ xs)) ≡ memory_keys (x ∷ map (changed offset number f) xs) = elim [
            | true ↦ λ at. rw (at, found_is offset number x, is) (ap (λ (l : List EntryKey). entry_key x ∷ l) rest)
            | false ↦ λ at. rw at rest
          ] in
          inner (is_in_memory x) refl ∙ ap (λ (z : Entry). memory_keys (z ∷ map (changed offset number f) xs)) (sym head)
    ] in
    go (is_at offset number x) refl

-- The trees after a call.

pub popped : (old new : List (EntryKey × Entry)) (keys left : List EntryKey) (k : EntryKey) (e : Entry) → Agree old keys → old ≡ (k, e) ∷ new
    → left ≡ remove_key (is_found (key_cmp k)) keys → Agree new left
popped old new keys left k e a is gone =
    let all : values_of old ≡ e ∷ values_of new = ap values_of is in
    let same : (k, e) ∷ new ≡ (entry_key e, e) ∷ with_keys (values_of new) = sym is ∙ (a.keyed ∙ ap with_keys all) in
    let pair : (k, e) ≡ (entry_key e, e) = cc in
    let at : k ≡ entry_key e = ap (λ (p : EntryKey × Entry). p.0) pair in
    let rest : new ≡ with_keys (values_of new) = ap (drop 1) same in
    let sorted : is_in_order (e ∷ values_of new) ≡ true = ap is_in_order (sym all) ∙ a.ordered in
    let listed : keys ≡ memory_keys (e ∷ values_of new) = a.listed ∙ ap memory_keys all in
    let first = first_removed e (values_of new) sorted in
    record {
      keyed = rest;
      ordered = (and_true (list_all (is_before e) (values_of new)) (is_in_order (values_of new)) sorted).1;
      listed = gone ∙ (ap (λ (q : EntryKey). remove_key (is_found (key_cmp q)) keys) at ∙ (ap (remove_key (is_found (key_cmp (entry_key e)))) listed ∙ first));
    }

-- an entry goes in
pub record IsPut (e : Entry) (new : List (EntryKey × Entry)) (keys : List EntryKey) (es : List Entry) : Type 0 where
  pub values : values_of new ≡ with_entry e es
  pub agree : Agree new keys

pub put : (e : Entry) (old new : List (EntryKey × Entry)) (keys more : List EntryKey) → Agree old keys → is_new e.number (values_of old) ≡ true
    → new ≡ insert_entry key_cmp old (entry_key e) e → more ≡ with_memory_key e keys → IsPut e new more (values_of old)
put e old new keys more a fresh is listed =
    let all : new ≡ with_keys (with_entry e (values_of old)) =
    is ∙ (ap (λ (l : List (EntryKey × Entry)). insert_entry key_cmp l (entry_key e) e) a.keyed ∙ put_entry e (values_of old) fresh) in
    let go : (b : Bool) → is_in_memory e ≡ b → with_memory_key e (memory_keys (values_of old)) ≡ memory_keys (with_entry e (values_of old)) = elim [
      | true ↦ λ here. rw here (put_key e (values_of old) a.ordered fresh here)
      | false ↦ λ here. rw here (put_spilled e (values_of old) here)
    ] in
    record {
      values = ap values_of all ∙ values-with_keys (with_entry e (values_of old));
      agree = agree new more (with_entry e (values_of old)) all (put_in-in_order e (values_of old) a.ordered fresh) (listed ∙ (ap (with_memory_key e) a.listed ∙ go (is_in_memory e) refl));
    }

-- or its key is taken out again
pub undone : (e : Entry) (old new : List (EntryKey × Entry)) (keys more left : List EntryKey) → Agree old keys → is_new e.number (values_of old) ≡ true
    → new ≡ old → more ≡ with_memory_key e keys → left ≡ remove_key (is_found (key_cmp (entry_key e))) more → Agree new left
undone e old new keys more left a fresh is listed gone =
    let go : (b : Bool) → is_in_memory e ≡ b → remove_key (is_found (key_cmp (entry_key e))) (with_memory_key e (memory_keys (values_of old))) ≡ memory_keys (values_of old) = elim [
      | true ↦ λ here. rw here (put-removed-new e (values_of old) fresh)
      | false ↦ λ here. rw here (removed-new e (values_of old) fresh)
    ] in
    let all = gone ∙ (ap (remove_key (is_found (key_cmp (entry_key e)))) (listed ∙ ap (with_memory_key e) a.listed) ∙ go (is_in_memory e) refl) in
    agree new left (values_of old) (is ∙ a.keyed) a.ordered all

-- an entry is changed
pub record IsSet (offset number : ℕ) (f : Entry → Entry) (e : Entry) (new : List (EntryKey × Entry)) (keys : List EntryKey) (es : List Entry) : Type 0 where
  pub here : entry_at offset number es ≡ Some e
  pub values : values_of new ≡ map (changed offset number f) es
  pub agree : Agree new keys

pub set : (offset number : ℕ) (f : Entry → Entry) (e : Entry) (old new : List (EntryKey × Entry)) (keys left : List EntryKey) → Keeps f → Agree old keys
    → lookup (is_found (key_cmp (record { offset = offset; number = number }))) old ≡ Some e
    → new ≡ set_value (is_found (key_cmp (record { offset = offset; number = number }))) old (f e)
    → (entry_at offset number (values_of old) ≡ Some e → left ≡ memory_keys (map (changed offset number f) (values_of old))) → IsSet offset number f e new left (values_of old)
set offset number f e old new keys left k a found is listed =
    let here : entry_at offset number (values_of old) ≡ Some e =
    sym (found_at offset number (values_of old)) ∙ (ap (lookup (is_found (key_cmp (record { offset = offset; number = number })))) (sym a.keyed) ∙ found) in
    let all : new ≡ with_keys (map (changed offset number f) (values_of old)) =
    is ∙ (ap (λ (l : List (EntryKey × Entry)). set_value (is_found (key_cmp (record { offset = offset; number = number }))) l (f e)) a.keyed
    ∙ put_value offset number f (values_of old) e k a.ordered here) in
    let sorted = in_order-map (changed offset number f) (changed-keeps offset number f k) (values_of old) ∙ a.ordered in
    record {
      here = here;
      values = ap values_of all ∙ values-with_keys (map (changed offset number f) (values_of old));
      agree = agree new left (map (changed offset number f) (values_of old)) all sorted (listed here);
    }

-- a place is taken by another
may_replace : (old new : Place) → MayReplace old new → lies_in_memory new ≡ true → lies_in_memory old ≡ true
may_replace (Memory bytes) new may h = refl
may_replace (Spilled extent) (Memory bytes) may h = absurd may
may_replace (Spilled extent) (Spilled another) may h = h

pub moved : (offset number : ℕ) (place : Place) (e : Entry) (es : List Entry) (keys left : List EntryKey) → is_in_order es ≡ true
    → IsSomeAnd (entry_at offset number es) (λ x. MayReplace x.place place) → keys ≡ memory_keys es → left ≡ moved_keys (record { offset = offset; number = number }) place keys
    → entry_at offset number es ≡ Some e → left ≡ memory_keys (map (changed offset number (λ x. record x { place = place })) es)
moved offset number place e es keys left h may listed gone here =
    let f : Entry → Entry = λ x. record x { place = place } in
    let allowed : MayReplace e.place place = rw here at may in
    let go : (b : Bool) → lies_in_memory place ≡ b → moved_keys (record { offset = offset; number = number }) place (memory_keys es) ≡ memory_keys (map (changed offset number f) es) = elim [
      | true ↦ λ is.
          let stays : is_in_memory (f e) ≡ is_in_memory e = is ∙ sym (may_replace e.place place allowed is) in
          rw is (sym (kept_keys offset number f es e (λ x. (refl, refl)) h here stays))
      | false ↦ λ is. rw is (spilled_keys offset number f es h (λ x. is))
    ] in
    gone ∙ (ap (moved_keys (record { offset = offset; number = number }) place) listed ∙ go (lies_in_memory place) refl)

-- a key that isn't there names no entry
pub missing : (offset number : ℕ) (entries : List (EntryKey × Entry)) (keys : List EntryKey) → Agree entries keys
    → None ≡ lookup (is_found (key_cmp (record { offset = offset; number = number }))) entries → entry_at offset number (values_of entries) ≡ None
missing offset number entries keys a none =
    sym (found_at offset number (values_of entries)) ∙ (ap (lookup (is_found (key_cmp (record { offset = offset; number = number })))) (sym a.keyed) ∙ sym none)

-- The last entry in memory.

last_more : {X : Type 0} (y : X) (xs : List X) → slice_get (y ∷ xs) (length (y ∷ xs) - 1) ≡ option_or (slice_get xs (length xs - 1)) (Some y)
last_more y [] = refl
last_more y (z ∷ xs) =
    let within : length xs < length (z ∷ xs) = omega arith in
    let short : length (z ∷ xs) - 1 ≡ length xs = omega arith in
    let long : length (y ∷ z ∷ xs) - 1 ≡ suc (length xs) = omega arith in
    let some = slice_get-get_or (z ∷ xs) (length xs) y within in
    ap (slice_get (y ∷ z ∷ xs)) long ∙ (some ∙ sym (ap (λ o. option_or o (Some y)) (ap (slice_get (z ∷ xs)) short ∙ some)))

or_none : {X : Type 0} (o : Option X) → option_or o None ≡ o
or_none None = refl
or_none (Some x) = refl

found_back : {X : Type 0} (t : X → Bool) (x : X) (xs : List X) → find t (reverse (x ∷ xs)) ≡ option_or (find t (reverse xs)) (cond (t x) (Some x) None)
found_back t x xs = ap (find t) (reverse-append (x ∷ []) xs) ∙ find-append t (reverse xs) (x ∷ [])

-- the last that passes is found from behind
last_passing : {X : Type 0} (t : X → Bool) (xs : List X) → slice_get (filter t xs) (length (filter t xs) - 1) ≡ find t (reverse xs)
last_passing t [] = refl
last_passing {X} t (x ∷ xs) =
    let back = found_back t x xs in
    let rest = last_passing t xs in
    let go : (b : Bool) → t x ≡ b → slice_get (filter t (x ∷ xs)) (length (filter t (x ∷ xs)) - 1) ≡ option_or (find t (reverse xs)) (cond (t x) (Some x) None) = elim [
      | true ↦ λ is. rw is (last_more x (filter t xs) ∙ ap (λ (o : Option X). option_or o (Some x)) rest)
      | false ↦ λ is. rw is (rest ∙ sym (or_none (find t (reverse xs))))
    ] in
    go (t x) refl ∙ sym back

all_found : (p t : Entry → Bool) (es : List Entry) (e : Entry) → list_all p es ≡ true → find t es ≡ Some e → p e ≡ true
all_found p t [] e h is = absurd (cc)
all_found p t (x ∷ xs) e h is =
    let q = and_true (p x) (list_all p xs) h in
    let go : (b : Bool) → t x ≡ b → p e ≡ true = elim [
      | true ↦ λ here. let first : Some x ≡ Some e = rw here at is in let same : x ≡ e = cc in ap p (sym same) ∙ q.0
      | false ↦ λ here. all_found p t xs e q.1 (rw here at is)
    ] in
    go (t x) refl

at_itself : (e : Entry) → is_at e.offset e.number e ≡ true
at_itself e = grind (arith, nat_tests)

-- what is found from behind is found by its name
last_at : (t : Entry → Bool) (es : List Entry) (e : Entry) → is_in_order es ≡ true → find t (reverse es) ≡ Some e → entry_at e.offset e.number es ≡ Some e
last_at t [] e h is = absurd (cc)
last_at t (x ∷ xs) e h is =
    let q = and_true (list_all (is_before x) xs) (is_in_order xs) h in
    let back : option_or (find t (reverse xs)) (cond (t x) (Some x) None) ≡ Some e = sym (found_back t x xs) ∙ is in
    let alone : (b : Bool) → cond b (Some x) None ≡ Some e → entry_at e.offset e.number (x ∷ xs) ≡ Some e = elim [
      | true ↦ λ here. let same : x ≡ e = cc in ap (λ (z : Entry). entry_at z.offset z.number (x ∷ xs)) (sym same) ∙ (rw (at_itself x) (ap Some same))
      | false ↦ λ here. absurd (cc)
    ] in
    let go : (o : Option Entry) → find t (reverse xs) ≡ o → entry_at e.offset e.number (x ∷ xs) ≡ Some e = elim [
      | None ↦ λ none. alone (t x) (rw none at back)
      | Some y ↦ λ some.
          let last : Some y ≡ Some e = rw some at back in
          let there = last_at t xs e q.1 (some ∙ last) in
          let sooner = all_found (is_before x) (is_at e.offset e.number) xs e q.0 there in
          rw (not_at_sooner e.offset e.number x e sooner (at_itself e)) there
    ] in
    go (find t (reverse xs)) refl

last_key : (entries : List (EntryKey × Entry)) (keys : List EntryKey) → Agree entries keys
    → slice_get keys (length keys - 1) ≡ option_map entry_key (find is_in_memory (reverse (values_of entries)))
last_key entries keys a =
    let kept = filter is_in_memory (values_of entries) in
    ap (λ (ks : List EntryKey). slice_get ks (length ks - 1)) a.listed
    ∙ (ap (slice_get (map entry_key kept)) (ap (λ (n : ℕ). n - 1) (length-map kept entry_key))
    ∙ (slice_get-map entry_key kept (length kept - 1) ∙ ap (option_map entry_key) (last_passing is_in_memory (values_of entries))))

-- the entry at the last key is the last in memory
pub last_found : (entries : List (EntryKey × Entry)) (keys : List EntryKey) (k : EntryKey) → Agree entries keys → slice_get keys (length keys - 1) ≡ Some k
    → lookup (is_found (key_cmp k)) entries ≡ find is_in_memory (reverse (values_of entries))
last_found entries keys k a is =
    let last : Some k ≡ option_map entry_key (find is_in_memory (reverse (values_of entries))) = sym is ∙ last_key entries keys a in
    let go : (o : Option Entry) → find is_in_memory (reverse (values_of entries)) ≡ o → lookup (is_found (key_cmp k)) entries ≡ find is_in_memory (reverse (values_of entries)) = elim [
      | None ↦ λ none. let no : Some k ≡ None = rw none at last in absurd (cc)
      | Some e ↦ λ some.
          let here : Some k ≡ Some (entry_key e) = rw some at last in
          let same : k ≡ entry_key e = cc in
          ap (λ (q : EntryKey). lookup (is_found (key_cmp q)) entries) same ∙ (ap (lookup (is_found (key_cmp (entry_key e)))) a.keyed
          ∙ (found_at e.offset e.number (values_of entries) ∙ (last_at is_in_memory (values_of entries) e a.ordered some ∙ sym some)))
    ] in
    go (find is_in_memory (reverse (values_of entries))) refl

-- there is none where there is no key
pub last_none : (entries : List (EntryKey × Entry)) (keys : List EntryKey) → Agree entries keys → length keys ≡ 0 → find is_in_memory (reverse (values_of entries)) ≡ None
last_none entries keys a none =
    let past : length keys ≤ length keys - 1 = omega (arith, none) in
    let last : None ≡ option_map entry_key (find is_in_memory (reverse (values_of entries))) = sym (slice_get_past keys (length keys - 1) past) ∙ last_key entries keys a in
    let go : (o : Option Entry) → find is_in_memory (reverse (values_of entries)) ≡ o → find is_in_memory (reverse (values_of entries)) ≡ None = elim [
      | None ↦ λ none. none
      | Some e ↦ λ some. let no : None ≡ Some (entry_key e) = rw some at last in absurd (cc)
    ] in
    go (find is_in_memory (reverse (values_of entries))) refl

-- A part of the entries.

between : (p : EntryKey → Bool) (t : Entry → Bool) (es : List Entry) → ((e : Entry) → p (entry_key e) ≡ t e)
    → filter (λ (x : EntryKey × Entry). p x.0) (with_keys es) ≡ with_keys (filter t es)
between p t [] h = refl
between p t (e ∷ es) h =
    let go : (b : Bool) → t e ≡ b → filter (λ (x : EntryKey × Entry). p x.0) (with_keys (e ∷ es)) ≡ with_keys (filter t (e ∷ es)) = elim [
      | true ↦ λ is. rw (h e, is) (ap (λ (l : List (EntryKey × Entry)). (entry_key e, e) ∷ l) (between p t es h))
      | false ↦ λ is. rw (h e, is) (between p t es h)
    ] in
    go (t e) refl

filter-all : (t : Entry → Bool) (es : List Entry) → list_all t (filter t es) ≡ true
filter-all t [] = refl
filter-all t (e ∷ es) =
    let go : (b : Bool) → t e ≡ b → list_all t (filter t (e ∷ es)) ≡ true = elim [
      | true ↦ λ is. rw is (both_true _ _ is (filter-all t es))
      | false ↦ λ is. rw is (filter-all t es)
    ] in
    go (t e) refl

filter-kept : (t p : Entry → Bool) (es : List Entry) → list_all p es ≡ true → list_all p (filter t es) ≡ true
filter-kept t p [] h = refl
filter-kept t p (e ∷ es) h =
    let q = and_true (p e) (list_all p es) h in
    let go : (b : Bool) → t e ≡ b → list_all p (filter t (e ∷ es)) ≡ true = elim [
      | true ↦ λ is. rw is (both_true _ _ q.0 (filter-kept t p es q.1))
      | false ↦ λ is. rw is (filter-kept t p es q.1)
    ] in
    go (t e) refl

filter-in_order : (t : Entry → Bool) (es : List Entry) → is_in_order es ≡ true → is_in_order (filter t es) ≡ true
filter-in_order t [] h = refl
filter-in_order t (e ∷ es) h =
    let q = and_true (list_all (is_before e) es) (is_in_order es) h in
    let go : (b : Bool) → t e ≡ b → is_in_order (filter t (e ∷ es)) ≡ true = elim [
      | true ↦ λ is. rw is (both_true _ _ (filter-kept t (is_before e) es q.0) (filter-in_order t es q.1))
      | false ↦ λ is. rw is (filter-in_order t es q.1)
    ] in
    go (t e) refl

-- The entries of an offset.

-- what is left to be looked through for an entry of this range
pub record IsSought (offset count : ℕ) (all rest : List Entry) : Type 0 where
  pub found : find (has_range offset count) all ≡ find (has_range offset count) rest
  pub ordered : is_in_order rest ≡ true
  pub from : list_all (λ e. nat_le offset e.offset) rest ≡ true

range_later : (offset count : ℕ) (e : Entry) → nat_le offset e.offset ≡ false → has_range offset count e ≡ false
range_later offset count e h = grind (arith, nat_tests)

found-from : (offset count : ℕ) (es : List Entry) → find (has_range offset count) es ≡ find (has_range offset count) (filter (λ e. nat_le offset e.offset) es)
found-from offset count [] = refl
found-from offset count (e ∷ es) =
    let rest = found-from offset count es in
    let go : (b : Bool) → nat_le offset e.offset ≡ b → find (has_range offset count) (e ∷ es) ≡ find (has_range offset count) (filter (λ e. nat_le offset e.offset) (e ∷ es)) = elim [
      | true ↦ λ is. rw is (ap (λ (o : Option Entry). cond (has_range offset count e) (Some e) o) rest)
      | false ↦ λ is. rw (is, range_later offset count e is) rest
    ] in
    go (nat_le offset e.offset) refl

from_key : (offset : ℕ) (e : Entry) → range_contains key_cmp (Included (record { offset = offset; number = 0 })) Unbounded (entry_key e) ≡ nat_le offset e.offset
from_key offset e = grind (arith, nat_tests)

pub seek : (offset count : ℕ) (entries rest : List (EntryKey × Entry)) (keys : List EntryKey) → Agree entries keys
    → rest ≡ entries_between key_cmp (Included (record { offset = offset; number = 0 })) Unbounded entries → IsSought offset count (values_of entries) (values_of rest)
seek offset count entries rest keys a is =
    let t : Entry → Bool = λ e. nat_le offset e.offset in
    let all = ap (entries_between key_cmp (Included (record { offset = offset; number = 0 })) Unbounded) a.keyed
    ∙ between (range_contains key_cmp (Included (record { offset = offset; number = 0 })) Unbounded) t (values_of entries) (from_key offset) in
    let same : values_of rest ≡ filter t (values_of entries) = ap values_of (is ∙ all) ∙ values-with_keys (filter t (values_of entries)) in
    record {
      found = found-from offset count (values_of entries) ∙ ap (find (has_range offset count)) (sym same);
      ordered = ap is_in_order same ∙ filter-in_order t (values_of entries) a.ordered;
      from = ap (list_all t) same ∙ filter-all t (values_of entries);
    }

beyond_range : (offset count : ℕ) (e : Entry) → nat_lt offset e.offset ≡ true → has_range offset count e ≡ false
beyond_range offset count e h = grind (arith, nat_tests)

beyond_later : (offset : ℕ) (e x : Entry) → nat_lt offset e.offset ≡ true → is_before e x ≡ true → nat_lt offset x.offset ≡ true
beyond_later offset e x h b = grind (arith, nat_tests)

none_beyond : (offset count : ℕ) (es : List Entry) → list_all (λ e. nat_lt offset e.offset) es ≡ true → find (has_range offset count) es ≡ None
none_beyond offset count [] h = refl
none_beyond offset count (e ∷ es) h =
    let q = and_true (nat_lt offset e.offset) (list_all (λ x. nat_lt offset x.offset) es) h in
    rw (beyond_range offset count e q.0) (none_beyond offset count es q.1)

all_beyond : (offset : ℕ) (e : Entry) (es : List Entry) → nat_lt offset e.offset ≡ true → list_all (is_before e) es ≡ true → list_all (λ x. nat_lt offset x.offset) es ≡ true
all_beyond offset e [] h b = refl
all_beyond offset e (x ∷ xs) h b =
    let q = and_true (is_before e x) (list_all (is_before e) xs) b in
    both_true _ _ (beyond_later offset e x h q.0) (all_beyond offset e xs h q.1)

beyond_here : (offset : ℕ) (e : Entry) → nat_le offset e.offset ≡ true → (e.offset ≡ offset → ⊥) → nat_lt offset e.offset ≡ true
beyond_here offset e h n = grind (arith, nat_tests)

-- behind one of another offset there is none
pub seek_past : (offset count : ℕ) (all : List Entry) (e : Entry) (rest : List Entry) → IsSought offset count all (e ∷ rest) → (e.offset ≡ offset → ⊥) → find (has_range offset count) all ≡ None
seek_past offset count all e rest s other =
    let o = and_true (list_all (is_before e) rest) (is_in_order rest) s.ordered in
    let f = and_true (nat_le offset e.offset) (list_all (λ x. nat_le offset x.offset) rest) s.from in
    let here = beyond_here offset e f.0 other in
    s.found ∙ none_beyond offset count (e ∷ rest) (both_true _ _ here (all_beyond offset e rest here o.0))

-- The entries below a limit.

below_key : (limit : ℕ) (e : Entry) → range_contains key_cmp Unbounded (Excluded (record { offset = limit; number = 0 })) (entry_key e) ≡ nat_lt e.offset limit
below_key limit e = grind (arith, nat_tests)

goal-below : (limit : ℕ) (es : List Entry) → commit_goal limit es ≡ commit_goal limit (filter (λ e. nat_lt e.offset limit) es)
goal-below limit [] = refl
goal-below limit (e ∷ es) =
    let rest = goal-below limit es in
    let go : (b : Bool) → nat_lt e.offset limit ≡ b → commit_goal limit (e ∷ es) ≡ commit_goal limit (filter (λ e. nat_lt e.offset limit) (e ∷ es)) = elim [
      | true ↦ λ is. rw (is, is) (ap (max (min (entry_end e) limit)) rest)
      | false ↦ λ is. rw is rest
    ] in
    go (nat_lt e.offset limit) refl

-- what is left to be counted for a goal
pub record IsGoal (limit goal : ℕ) (all rest : List Entry) : Type 0 where
  pub so_far : commit_goal limit all ≡ max goal (commit_goal limit rest)
  pub below : list_all (λ e. nat_lt e.offset limit) rest ≡ true

max_zero : (n : ℕ) → n ≡ max 0 n
max_zero n = omega arith

pub aim : (limit : ℕ) (entries rest : List (EntryKey × Entry)) (keys : List EntryKey) → Agree entries keys
    → rest ≡ entries_between key_cmp Unbounded (Excluded (record { offset = limit; number = 0 })) entries → IsGoal limit 0 (values_of entries) (values_of rest)
aim limit entries rest keys a is =
    let t : Entry → Bool = λ e. nat_lt e.offset limit in
    let all = ap (entries_between key_cmp Unbounded (Excluded (record { offset = limit; number = 0 }))) a.keyed
    ∙ between (range_contains key_cmp Unbounded (Excluded (record { offset = limit; number = 0 }))) t (values_of entries) (below_key limit) in
    let same : values_of rest ≡ filter t (values_of entries) = ap values_of (is ∙ all) ∙ values-with_keys (filter t (values_of entries)) in
    record {
      so_far = goal-below limit (values_of entries) ∙ (ap (commit_goal limit) (sym same) ∙ max_zero (commit_goal limit (values_of rest)));
      below = ap (list_all t) same ∙ filter-all t (values_of entries);
    }
