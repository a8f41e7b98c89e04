-- What a look-up finds among entries by rising keys after one was put or taken out.
use Rattle.std.proofs.Common.{◌≡◌, ℕ, Bool, true, false, cond, List, [], ◌∷◌, Option, None, Some, refl, sym, ◌∙◌, ap, subst, arith, Ordering, Less, Equal, Greater}
use Rattle.std.specs.Prelude.{◌==◌}
use Rattle.std.specs.List.Sorted.{IsStrictlySortedBy}
use Rattle.std.specs.Ordering.{nat_cmp, is_eq, match_ordering}
use Rattle.std.specs.BTreeMap.{insert_entry}
use Rattle.std.specs.Map.{lookup, keys_of, remove_entry}
use Rattle.std.proofs.lemmas.Bool.Decides.{nat_tests}
use Rattle.std.proofs.lemmas.Bool.{eqb-true}
use Rattle.std.proofs.lemmas.Map.Keys.{sorted_head, sorted_tail}
use Rattle.std.proofs.lemmas.Map.Lookups.{exact_unsigned}
use Rattle.name_tree.proofs.RoomEntries.{at, Above, none_above_list}

at_turn : (q k : ℕ) → at q k ≡ (k == q)
at_turn q k = grind (arith, nat_tests)

pub same_id : (i : ℕ) → (i == i) ≡ true
same_id i = grind (arith, nat_tests)

cmp_same : (k j : ℕ) → k ≡ j → nat_cmp k j ≡ Equal
cmp_same k j e = grind (arith, nat_tests)

cmp_through : (j k i : ℕ) → nat_cmp j k ≡ Less → nat_cmp k i ≡ Less → nat_cmp j i ≡ Less
cmp_through j k i a b = grind (arith, nat_tests)

cmp_flip : (k j : ℕ) → nat_cmp k j ≡ Greater → nat_cmp j k ≡ Less
cmp_flip k j h = grind (arith, nat_tests)

module _ {X : Type 0} where
  above_through : (j k : ℕ) (es : List (ℕ × X)) → nat_cmp j k ≡ Less → Above k es → Above j es
  above_through j k [] h a = a
  above_through j k (e ∷ es) h a = (cmp_through j k e.0 h a.0, above_through j k es h a.1)

  above_insert : (j k : ℕ) (v : X) (es : List (ℕ × X)) → nat_cmp j k ≡ Less → Above j es → Above j (insert_entry nat_cmp es k v)
  above_insert j k v [] h a = (h, a)
  above_insert j k v (e ∷ es) h a = go (nat_cmp k e.0) (above_insert j k v es h a.1)
    where
      go : (o : Ordering) → Above j (insert_entry nat_cmp es k v)
          → Above j (match_ordering o ((k, v) ∷ e ∷ es) ((e.0, v) ∷ es) (e ∷ insert_entry nat_cmp es k v))
      go Less rest = (h, a)
      go Equal rest = a
      go Greater rest = (a.0, rest)

  above_remove : (j k : ℕ) (es : List (ℕ × X)) → Above j es → Above j (remove_entry (at k) es)
  above_remove j k [] a = a
  above_remove j k (e ∷ es) a = go (is_eq (nat_cmp k e.0)) (above_remove j k es a.1)
    where
      go : (b : Bool) → Above j (remove_entry (at k) es) → Above j (cond b es (e ∷ remove_entry (at k) es))
      go true rest = a.1
      go false rest = (a.0, rest)

  pub sorted_insert : (es : List (ℕ × X)) (k : ℕ) (v : X) → IsStrictlySortedBy nat_cmp (keys_of es)
      → IsStrictlySortedBy nat_cmp (keys_of (insert_entry nat_cmp es k v))
  unfolding IsStrictlySortedBy
  sorted_insert [] k v s = (tt, tt)
  sorted_insert ((j, x) ∷ es) k v s = go (nat_cmp k j) refl (sorted_insert es k v s.1)
    where
      go : (o : Ordering) → nat_cmp k j ≡ o → IsStrictlySortedBy nat_cmp (keys_of (insert_entry nat_cmp es k v))
          → IsStrictlySortedBy nat_cmp (keys_of (match_ordering o ((k, v) ∷ (j, x) ∷ es) ((j, v) ∷ es) ((j, x) ∷ insert_entry nat_cmp es k v)))
      go Less h rest = ((h, above_through k j es h s.0), s)
      go Equal h rest = s
      go Greater h rest = (above_insert j k v es (cmp_flip k j h) s.0, rest)

  pub sorted_remove : (es : List (ℕ × X)) (k : ℕ) → IsStrictlySortedBy nat_cmp (keys_of es)
      → IsStrictlySortedBy nat_cmp (keys_of (remove_entry (at k) es))
  unfolding IsStrictlySortedBy
  sorted_remove [] k s = s
  sorted_remove ((j, x) ∷ es) k s = go (is_eq (nat_cmp k j)) (sorted_remove es k s.1)
    where
      go : (b : Bool) → IsStrictlySortedBy nat_cmp (keys_of (remove_entry (at k) es))
          → IsStrictlySortedBy nat_cmp (keys_of (cond b es ((j, x) ∷ remove_entry (at k) es)))
      go true rest = s.1
      go false rest = (above_remove j k es s.0, rest)

  pub lookup_insert : (es : List (ℕ × X)) (k : ℕ) (v : X) (q : ℕ)
      → lookup (at q) (insert_entry nat_cmp es k v) ≡ cond (k == q) (Some v) (lookup (at q) es)
  lookup_insert [] k v q = ap (λ b. cond b (Some v) None) (at_turn q k)
  lookup_insert ((j, x) ∷ es) k v q = go (nat_cmp k j) refl (lookup_insert es k v q)
    where
      left : Option X
      left = lookup (at q) es

      both : (b : Bool) → cond b (Some v) left ≡ cond b (Some v) (cond b (Some x) left)
      both true = refl
      both false = refl

      behind : (b : Bool) → (k == q) ≡ b → (c : Bool) → at q j ≡ c → nat_cmp k j ≡ Greater
          → cond c (Some x) (cond b (Some v) left) ≡ cond b (Some v) (cond c (Some x) left)
      behind true b true c h = absurd (let same : nat_cmp k j ≡ Equal = cmp_same k j (eqb-true k q b ∙ sym (eqb-true j q (sym (at_turn q j) ∙ c))) in cc)
      behind true b false c h = refl
      behind false b true c h = refl
      behind false b false c h = refl

      go : (o : Ordering) → nat_cmp k j ≡ o → lookup (at q) (insert_entry nat_cmp es k v) ≡ cond (k == q) (Some v) left
          → lookup (at q) (match_ordering o ((k, v) ∷ (j, x) ∷ es) ((j, v) ∷ es) ((j, x) ∷ insert_entry nat_cmp es k v))
          ≡ cond (k == q) (Some v) (cond (at q j) (Some x) left)
      go Less h rest = ap (λ b. cond b (Some v) (cond (at q j) (Some x) left)) (at_turn q k)
      go Equal h rest = both (at q j) ∙ ap (λ b. cond b (Some v) (cond (at q j) (Some x) left)) (at_turn q j ∙ ap (λ i. i == q) (sym (exact_unsigned k j h)))
      go Greater h rest = ap (λ l. cond (at q j) (Some x) l) rest ∙ behind (k == q) refl (at q j) refl h

  pub lookup_remove : (es : List (ℕ × X)) (k q : ℕ) → IsStrictlySortedBy nat_cmp (keys_of es)
      → lookup (at q) (remove_entry (at k) es) ≡ cond (k == q) None (lookup (at q) es)
  lookup_remove [] k q s = none (k == q)
    where
      nothing : Option X
      nothing = None

      none : (b : Bool) → nothing ≡ cond b nothing nothing
      none true = refl
      none false = refl
  lookup_remove ((j, x) ∷ es) k q s = go (nat_cmp k j) refl (lookup_remove es k q (sorted_tail nat_cmp j (keys_of es) s))
    where
      left : Option X
      left = lookup (at q) es

      gone : (b : Bool) → (k == q) ≡ b → k ≡ j → left ≡ cond b None (cond b (Some x) left)
      gone true b same = none_above_list es q (subst (λ i. Above i es) (sym same ∙ eqb-true k q b) (sorted_head nat_cmp j (keys_of es) s))
      gone false b same = refl

      apart : (b : Bool) → (k == q) ≡ b → (c : Bool) → at q j ≡ c → (nat_cmp k j ≡ Equal → ⊥)
          → cond c (Some x) (cond b None left) ≡ cond b None (cond c (Some x) left)
      apart true b true c h = absurd (h (cmp_same k j (eqb-true k q b ∙ sym (eqb-true j q (sym (at_turn q j) ∙ c)))))
      apart true b false c h = refl
      apart false b true c h = refl
      apart false b false c h = refl

      go : (o : Ordering) → nat_cmp k j ≡ o → lookup (at q) (remove_entry (at k) es) ≡ cond (k == q) None left
          → lookup (at q) (cond (is_eq o) es ((j, x) ∷ remove_entry (at k) es)) ≡ cond (k == q) None (cond (at q j) (Some x) left)
      go Less h rest = ap (λ l. cond (at q j) (Some x) l) rest ∙ apart (k == q) refl (at q j) refl (λ e. let no : Less ≡ Equal = sym h ∙ e in cc)
      go Equal h rest = let same : k ≡ j = exact_unsigned k j h in
          gone (k == q) refl same ∙ ap (λ b. cond (k == q) None (cond b (Some x) left)) (sym (at_turn q j ∙ ap (λ i. i == q) (sym same)))
      go Greater h rest = ap (λ l. cond (at q j) (Some x) l) rest ∙ apart (k == q) refl (at q j) refl (λ e. let no : Greater ≡ Equal = sym h ∙ e in cc)
