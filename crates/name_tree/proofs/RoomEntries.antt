-- What making room, filling it and taking an entry out does to the entries that have a value.
use Rattle.std.proofs.Common.{◌≡◌, ℕ, Bool, true, false, cond, List, [], ◌∷◌, Option, None, Some, refl, sym, ◌∙◌, ap, subst, arith, Less, Equal, Greater, Ordering, IsSome}
use Rattle.std.specs.List.{AllByRecursion}
use Rattle.std.specs.Prelude.{nat_lt, ◌==◌, ◌&&◌, not}
use Rattle.std.specs.BTreeMap.Range.{entries_between}
use Rattle.std.specs.declared.ops.Bound.TheVariants.{Excluded, Unbounded}
use Rattle.std.specs.Ordering.{is_lt}
use Rattle.std.specs.List.Sorted.{IsStrictlySortedBy}
use Rattle.std.specs.Ordering.{nat_cmp, is_eq, match_ordering}
use Rattle.std.specs.Cmp.{nat_cmp_total}
use Rattle.std.specs.BTreeMap.{insert_entry, is_at}
use Rattle.std.specs.Map.{remove_entry, lookup, set_value, keys_of}
use Rattle.std.proofs.lemmas.Bool.Decides.{nat_tests}
use Rattle.std.proofs.lemmas.Map.{lookup-none}
use Rattle.std.proofs.lemmas.Map.Keys.{sorted_head, sorted_tail}
use Rattle.std.proofs.lemmas.Map.Entries.{none_below_head}
use Rattle.std.proofs.lemmas.Map.Lookups.{exact_unsigned}
use Rattle.name_tree.specs.Rooms.{filled_entries, inner, first_above, first_entry}

abbrev pub at : ℕ → ℕ → Bool
at k = is_at (nat_cmp k)

-- each key is above k
abbrev pub Above : {V : Type 0} → ℕ → List (ℕ × V) → Type 0
Above k es = AllByRecursion (λ (y : ℕ). nat_cmp k y ≡ Less) (keys_of es)

lt_bool : (n m : ℕ) → (is_lt (nat_cmp n m) && not false) ≡ nat_lt n m
lt_bool n m = grind (arith, nat_tests)

at_is : (n m : ℕ) → is_at (nat_cmp n) m ≡ (n == m)
at_is n m = grind (arith, nat_tests)

module _ {V : Type 0} where
  -- one more key without a value
  pub filled_room : (es : List (ℕ × Option V)) (k : ℕ) → lookup (at k) es ≡ None → filled_entries (insert_entry nat_cmp es k None) ≡ filled_entries es
  filled_room [] k h = refl
  filled_room ((q, x) ∷ es) k h = go (nat_cmp k q) h (filled_room es k)
    where
      go : (o : Ordering) → cond (is_eq o) (Some x) (lookup (at k) es) ≡ None → (lookup (at k) es ≡ None → filled_entries (insert_entry nat_cmp es k None) ≡ filled_entries es)
          → filled_entries (match_ordering o ((k, None) ∷ (q, x) ∷ es) ((q, None) ∷ es) ((q, x) ∷ insert_entry nat_cmp es k None)) ≡ filled_entries ((q, x) ∷ es)
      go Less h rest = refl
      go Equal h rest = absurd (cc)
      go Greater h rest = with x
        where
          with : (y : Option V) → filled_entries ((q, y) ∷ insert_entry nat_cmp es k None) ≡ filled_entries ((q, y) ∷ es)
          with None = rest h
          with (Some v) = ap (λ xs. (q, v) ∷ xs) (rest h)

  -- an entry in front of all others
  front : (es : List (ℕ × Option V)) (k : ℕ) (v : V) → Above k es → insert_entry nat_cmp (filled_entries es) k v ≡ (k, v) ∷ filled_entries es
  front [] k v h = refl
  front ((q, None) ∷ es) k v h = front es k v h.1
  front ((q, Some w) ∷ es) k v h = rw h.0 refl

  pub none_above_list : (es : List (ℕ × V)) (k : ℕ) → Above k es → lookup (at k) es ≡ None
  none_above_list [] k h = refl
  none_above_list (e ∷ es) k h = rw h.0 (none_above_list es k h.1)

  none_above : (es : List (ℕ × Option V)) (k : ℕ) → Above k es → (lookup (at k) (filled_entries es) ≡ None) × (remove_entry (at k) (filled_entries es) ≡ filled_entries es)
  none_above [] k h = (refl, refl)
  none_above ((q, None) ∷ es) k h = none_above es k h.1
  none_above ((q, Some w) ∷ es) k h = let rest = none_above es k h.1 in (rw h.0 rest.0, rw h.0 (ap (λ xs. (q, w) ∷ xs) rest.1))

  -- the key is there
  has_key : (q k : ℕ) (es : List (ℕ × Option V)) (x : Option V) → IsStrictlySortedBy nat_cmp (q ∷ keys_of es) → nat_cmp k q ≡ Less → lookup (at k) ((q, x) ∷ es) ≡ None
  has_key q k es x s h = lookup-none (at k) ((q, x) ∷ es) (none_below_head nat_cmp_total k (q, x) es s h)

  pub filled_lookup : (es : List (ℕ × Option V)) (k : ℕ) → IsStrictlySortedBy nat_cmp (keys_of es) → lookup (at k) (filled_entries es) ≡ inner (lookup (at k) es)
  filled_lookup [] k s = refl
  filled_lookup ((q, None) ∷ es) k s = go (nat_cmp k q) refl (filled_lookup es k (sorted_tail nat_cmp q (keys_of es) s))
    where
      go : (o : Ordering) → nat_cmp k q ≡ o → lookup (at k) (filled_entries es) ≡ inner (lookup (at k) es) → lookup (at k) (filled_entries es) ≡ inner (cond (is_eq o) (Some None) (lookup (at k) es))
      go Less h rest = rest
      go Equal h rest = let same : k ≡ q = exact_unsigned k q h in (none_above es k (subst (λ j. Above j es) (sym same) (sorted_head nat_cmp q (keys_of es) s))).0
      go Greater h rest = rest
  filled_lookup ((q, Some w) ∷ es) k s = go (nat_cmp k q) (filled_lookup es k (sorted_tail nat_cmp q (keys_of es) s))
    where
      go : (o : Ordering) → lookup (at k) (filled_entries es) ≡ inner (lookup (at k) es) → cond (is_eq o) (Some w) (lookup (at k) (filled_entries es)) ≡ inner (cond (is_eq o) (Some (Some w)) (lookup (at k) es))
      go Less rest = rest
      go Equal rest = refl
      go Greater rest = rest

  -- an entry taken out
  pub filled_remove : (es : List (ℕ × Option V)) (k : ℕ) → IsStrictlySortedBy nat_cmp (keys_of es) → filled_entries (remove_entry (at k) es) ≡ remove_entry (at k) (filled_entries es)
  filled_remove [] k s = refl
  filled_remove ((q, None) ∷ es) k s = go (nat_cmp k q) refl (filled_remove es k (sorted_tail nat_cmp q (keys_of es) s))
    where
      go : (o : Ordering) → nat_cmp k q ≡ o → filled_entries (remove_entry (at k) es) ≡ remove_entry (at k) (filled_entries es) → filled_entries (cond (is_eq o) es ((q, None) ∷ remove_entry (at k) es)) ≡ remove_entry (at k) (filled_entries es)
      go Less h rest = rest
      go Equal h rest = let same : k ≡ q = exact_unsigned k q h in sym (none_above es k (subst (λ j. Above j es) (sym same) (sorted_head nat_cmp q (keys_of es) s))).1
      go Greater h rest = rest
  filled_remove ((q, Some w) ∷ es) k s = go (nat_cmp k q) (filled_remove es k (sorted_tail nat_cmp q (keys_of es) s))
    where
      go : (o : Ordering) → filled_entries (remove_entry (at k) es) ≡ remove_entry (at k) (filled_entries es) → filled_entries (cond (is_eq o) es ((q, Some w) ∷ remove_entry (at k) es)) ≡ cond (is_eq o) (filled_entries es) ((q, w) ∷ remove_entry (at k) (filled_entries es))
      go Less rest = ap (λ xs. (q, w) ∷ xs) rest
      go Equal rest = refl
      go Greater rest = ap (λ xs. (q, w) ∷ xs) rest

  -- a value put where the key is
  pub filled_fill : (es : List (ℕ × Option V)) (k : ℕ) (v : V) → IsStrictlySortedBy nat_cmp (keys_of es) → IsSome (lookup (at k) es)
      → filled_entries (insert_entry nat_cmp es k (Some v)) ≡ insert_entry nat_cmp (filled_entries es) k v
  filled_fill [] k v s there = absurd (cc)
  filled_fill ((q, x) ∷ es) k v s there = go (nat_cmp k q) refl there (filled_fill es k v (sorted_tail nat_cmp q (keys_of es) s))
    where
      first : (x : Option V) → nat_cmp k q ≡ Equal → (q, v) ∷ filled_entries es ≡ insert_entry nat_cmp (filled_entries ((q, x) ∷ es)) k v
      first None h = let same : k ≡ q = exact_unsigned k q h in ap (λ j. (j, v) ∷ filled_entries es) (sym same) ∙ sym (front es k v (subst (λ j. Above j es) (sym same) (sorted_head nat_cmp q (keys_of es) s)))
      first (Some w) h = rw h refl

      behind : (x : Option V) → nat_cmp k q ≡ Greater → filled_entries (insert_entry nat_cmp es k (Some v)) ≡ insert_entry nat_cmp (filled_entries es) k v → filled_entries ((q, x) ∷ insert_entry nat_cmp es k (Some v)) ≡ insert_entry nat_cmp (filled_entries ((q, x) ∷ es)) k v
      behind None h rest = rest
      behind (Some w) h rest = rw h (ap (λ xs. (q, w) ∷ xs) rest)

      go : (o : Ordering) → nat_cmp k q ≡ o → IsSome (cond (is_eq o) (Some x) (lookup (at k) es))
          → (IsSome (lookup (at k) es) → filled_entries (insert_entry nat_cmp es k (Some v)) ≡ insert_entry nat_cmp (filled_entries es) k v)
          → filled_entries (match_ordering o ((k, Some v) ∷ (q, x) ∷ es) ((q, Some v) ∷ es) ((q, x) ∷ insert_entry nat_cmp es k (Some v))) ≡ insert_entry nat_cmp (filled_entries ((q, x) ∷ es)) k v
      go Less h here rest = let no : IsSome {T = Option V} None = subst IsSome (has_key q k es x s h) there in absurd (cc)
      go Equal h here rest = first x h
      go Greater h here rest = behind x h (rest here)

  remove_none : (es : List (ℕ × V)) (k : ℕ) → lookup (at k) es ≡ None → remove_entry (at k) es ≡ es
  remove_none [] k h = refl
  remove_none (e ∷ es) k h = go (nat_cmp k e.0) h (remove_none es k)
    where
      go : (o : Ordering) → cond (is_eq o) (Some e.1) (lookup (at k) es) ≡ None → (lookup (at k) es ≡ None → remove_entry (at k) es ≡ es) → cond (is_eq o) es (e ∷ remove_entry (at k) es) ≡ e ∷ es
      go Less h rest = ap (λ xs. e ∷ xs) (rest h)
      go Equal h rest = absurd (cc)
      go Greater h rest = ap (λ xs. e ∷ xs) (rest h)

  -- room taken away
  pub filled_dropped : (es : List (ℕ × Option V)) (k : ℕ) → IsStrictlySortedBy nat_cmp (keys_of es) → inner (lookup (at k) es) ≡ None → filled_entries (remove_entry (at k) es) ≡ filled_entries es
  filled_dropped es k s none = filled_remove es k s ∙ remove_none (filled_entries es) k (filled_lookup es k s ∙ none)

  -- the first entry behind a key
  pub first_between : (es : List (ℕ × Option V)) (n : ℕ) → first_entry (filled_entries (entries_between nat_cmp (Excluded n) Unbounded es)) ≡ first_above n (filled_entries es)
  first_between [] n = refl
  first_between ((q, x) ∷ es) n = rw (lt_bool n q) (go x (nat_lt n q) refl (first_between es n))
    where
      go : (x : Option V) (b : Bool) → nat_lt n q ≡ b → first_entry (filled_entries (entries_between nat_cmp (Excluded n) Unbounded es)) ≡ first_above n (filled_entries es)
          → first_entry (filled_entries (cond b ((q, x) ∷ entries_between nat_cmp (Excluded n) Unbounded es) (entries_between nat_cmp (Excluded n) Unbounded es))) ≡ first_above n (filled_entries ((q, x) ∷ es))
      go None true h rest = rest
      go None false h rest = rest
      go (Some v) true h rest = rw h refl
      go (Some v) false h rest = rw h rest

  -- an entry whose value is taken out, and whose key stays
  pub filled_vacated : (es : List (ℕ × Option V)) (k : ℕ) → IsStrictlySortedBy nat_cmp (keys_of es) → IsSome (lookup (at k) es)
      → filled_entries (insert_entry nat_cmp es k None) ≡ remove_entry (at k) (filled_entries es)
  filled_vacated [] k s there = absurd (cc)
  filled_vacated ((q, x) ∷ es) k s there = go (nat_cmp k q) refl there (filled_vacated es k (sorted_tail nat_cmp q (keys_of es) s))
    where
      none : nat_cmp k q ≡ Equal → (lookup (at k) (filled_entries es) ≡ None) × (remove_entry (at k) (filled_entries es) ≡ filled_entries es)
      none h = none_above es k (subst (λ j. Above j es) (sym (exact_unsigned k q h)) (sorted_head nat_cmp q (keys_of es) s))

      first : (x : Option V) → nat_cmp k q ≡ Equal → filled_entries es ≡ remove_entry (at k) (filled_entries ((q, x) ∷ es))
      first None h = sym (none h).1
      first (Some w) h = rw h refl

      behind : (x : Option V) → nat_cmp k q ≡ Greater → filled_entries (insert_entry nat_cmp es k None) ≡ remove_entry (at k) (filled_entries es) → filled_entries ((q, x) ∷ insert_entry nat_cmp es k None) ≡ remove_entry (at k) (filled_entries ((q, x) ∷ es))
      behind None h rest = rest
      behind (Some w) h rest = rw h (ap (λ xs. (q, w) ∷ xs) rest)

      go : (o : Ordering) → nat_cmp k q ≡ o → IsSome (cond (is_eq o) (Some x) (lookup (at k) es))
          → (IsSome (lookup (at k) es) → filled_entries (insert_entry nat_cmp es k None) ≡ remove_entry (at k) (filled_entries es))
          → filled_entries (match_ordering o ((k, None) ∷ (q, x) ∷ es) ((q, None) ∷ es) ((q, x) ∷ insert_entry nat_cmp es k None)) ≡ remove_entry (at k) (filled_entries ((q, x) ∷ es))
      go Less h here rest = let no : IsSome {T = Option V} None = subst IsSome (has_key q k es x s h) there in absurd (cc)
      go Equal h here rest = first x h
      go Greater h here rest = behind x h (rest here)

  -- what is there at each key, by what is found at each
  pub each_key : (old new : List (ℕ × Option V)) (k q : ℕ) (w : Option (Option V)) → IsStrictlySortedBy nat_cmp (keys_of old) → IsStrictlySortedBy nat_cmp (keys_of new)
      → lookup (at q) new ≡ cond (is_at (nat_cmp k) q) w (lookup (at q) old) → lookup (at q) (filled_entries new) ≡ cond (k == q) (inner w) (lookup (at q) (filled_entries old))
  each_key old new k q w s t h = filled_lookup new q t ∙ (ap inner (h ∙ ap (λ b. cond b w (lookup (at q) old)) (at_is k q)) ∙ (go (k == q) ∙ ap (λ o. cond (k == q) (inner w) o) (sym (filled_lookup old q s))))
    where
      go : (b : Bool) → inner (cond b w (lookup (at q) old)) ≡ cond b (inner w) (inner (lookup (at q) old))
      go true = refl
      go false = refl

  all_above : (es : List (ℕ × Option V)) (k : ℕ) → Above k es → Above k (filled_entries es)
  all_above [] k h = h
  all_above ((q, None) ∷ es) k h = all_above es k h.1
  all_above ((q, Some w) ∷ es) k h = (h.0, all_above es k h.1)

  pub filled_sorted : (es : List (ℕ × Option V)) → IsStrictlySortedBy nat_cmp (keys_of es) → IsStrictlySortedBy nat_cmp (keys_of (filled_entries es))
  unfolding IsStrictlySortedBy
  filled_sorted [] s = s
  filled_sorted ((q, None) ∷ es) s = filled_sorted es s.1
  filled_sorted ((q, Some w) ∷ es) s = (all_above es q s.0, filled_sorted es s.1)

  -- a value written where the key is
  pub filled_set : (es : List (ℕ × Option V)) (k : ℕ) (v : V) → IsStrictlySortedBy nat_cmp (keys_of es) → IsSome (lookup (at k) es)
      → filled_entries (set_value (at k) es (Some v)) ≡ insert_entry nat_cmp (filled_entries es) k v
  filled_set [] k v s there = absurd (cc)
  filled_set ((q, x) ∷ es) k v s there = go (nat_cmp k q) refl there (filled_set es k v (sorted_tail nat_cmp q (keys_of es) s))
    where
      first : (x : Option V) → nat_cmp k q ≡ Equal → (q, v) ∷ filled_entries es ≡ insert_entry nat_cmp (filled_entries ((q, x) ∷ es)) k v
      first None h = let same : k ≡ q = exact_unsigned k q h in ap (λ j. (j, v) ∷ filled_entries es) (sym same) ∙ sym (front es k v (subst (λ j. Above j es) (sym same) (sorted_head nat_cmp q (keys_of es) s)))
      first (Some w) h = rw h refl

      behind : (x : Option V) → nat_cmp k q ≡ Greater → filled_entries (set_value (at k) es (Some v)) ≡ insert_entry nat_cmp (filled_entries es) k v → filled_entries ((q, x) ∷ set_value (at k) es (Some v)) ≡ insert_entry nat_cmp (filled_entries ((q, x) ∷ es)) k v
      behind None h rest = rest
      behind (Some w) h rest = rw h (ap (λ xs. (q, w) ∷ xs) rest)

      go : (o : Ordering) → nat_cmp k q ≡ o → IsSome (cond (is_eq o) (Some x) (lookup (at k) es))
          → (IsSome (lookup (at k) es) → filled_entries (set_value (at k) es (Some v)) ≡ insert_entry nat_cmp (filled_entries es) k v)
          → filled_entries (cond (is_eq o) ((q, Some v) ∷ es) ((q, x) ∷ set_value (at k) es (Some v))) ≡ insert_entry nat_cmp (filled_entries ((q, x) ∷ es)) k v
      go Less h here rest = let no : IsSome {T = Option V} None = subst IsSome (has_key q k es x s h) there in absurd (cc)
      go Equal h here rest = first x h
      go Greater h here rest = behind x h (rest here)
