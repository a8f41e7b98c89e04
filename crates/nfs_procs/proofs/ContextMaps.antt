-- Entries by number: what is found, and what stays the same beside them.
use Rattle.std.proofs.Common.{◌≡◌, ℕ, Bool, true, false, cond, Option, Some, None, List, [], ◌∷◌, refl, sym, ◌∙◌, ap, subst, arith}
use Rattle.std.specs.Prelude.{◌==◌}
use Rattle.std.specs.declared.cmp.Ordering.{Ordering}
use Rattle.std.specs.declared.cmp.Ordering.TheVariants.{Less, Equal, Greater}
use Rattle.std.specs.Ordering.{nat_cmp, is_eq, match_ordering}
use Rattle.std.specs.BTreeMap.{insert_entry, is_at}
use Rattle.std.specs.Map.{lookup, remove_entry, set_value}
use Rattle.std.proofs.lemmas.Bool.Decides.{nat_tests}
use Rattle.nfs_procs.specs.World.{entry_at, put_by, put_at, without_entry}
use Rattle.file_calls.specs.declared.hull.ClosedHull.{ClosedHull}
use Rattle.nfs_procs.specs.Contexts.{AllSame, AreBoth, lost_at}

-- numbers

pub at_itself : (k : ℕ) → is_at (nat_cmp k) k ≡ true
at_itself k = let same : nat_cmp k k ≡ Equal = grind (arith, nat_tests) in ap is_eq same

pub equal_is : (k j : ℕ) → nat_cmp k j ≡ Equal → k ≡ j
equal_is k j e = grind (arith, nat_tests)

by_order : (k j : ℕ) (o : Ordering) → nat_cmp k j ≡ o → is_eq o ≡ true → k ≡ j
by_order k j Equal is e = equal_is k j is
by_order k j Less is e = absurd (cc e)
by_order k j Greater is e = absurd (cc e)

pub at_is : (k j : ℕ) → is_at (nat_cmp k) j ≡ true → k ≡ j
at_is k j e = by_order k j (nat_cmp k j) refl e

by_bool : (b : Bool) → (b ≡ true → ⊥) → b ≡ false
by_bool true h = absurd (h refl)
by_bool false h = refl

pub at_apart : (k j : ℕ) → (k ≡ j → ⊥) → is_at (nat_cmp k) j ≡ false
at_apart k j h = by_bool (is_at (nat_cmp k) j) (λ e. h (at_is k j e))

pub test_is : (j k : ℕ) → (j == k) ≡ true → j ≡ k
test_is j k e = grind (arith, nat_tests)

pub test_not : (j k : ℕ) → (j == k) ≡ false → j ≡ k → ⊥
test_not j k e same = let t : (k == k) ≡ true = grind (arith, nat_tests) in absurd (cc (sym t ∙ ap (λ x. x == k) (sym same) ∙ e))

pub test_itself : (k : ℕ) → (k == k) ≡ true
test_itself k = grind (arith, nat_tests)

module _ {V : Type 0} where
  pub found_set : (test : ℕ → Bool) (es : List (ℕ × V)) (u v : V) → lookup test es ≡ Some u → lookup test (set_value test es v) ≡ Some v
  found_set test [] u v h = absurd (cc h)
  found_set test (e ∷ es) u v h = go (test e.0) refl h (λ g. found_set test es u v g)
    where
      go : (b : Bool) → test e.0 ≡ b → cond b (Some e.1) (lookup test es) ≡ Some u → (lookup test es ≡ Some u → lookup test (set_value test es v) ≡ Some v) → lookup test (cond b ((e.0, v) ∷ es) (e ∷ set_value test es v)) ≡ Some v
      go true is h rest = ap (λ b. cond b (Some v) (lookup test es)) is
      go false is h rest = ap (λ b. cond b (Some e.1) (lookup test (set_value test es v))) is ∙ rest h

  pub other_set : (test other : ℕ → Bool) → ((x : ℕ) → test x ≡ true → other x ≡ false) → (es : List (ℕ × V)) (v : V) → lookup other (set_value test es v) ≡ lookup other es
  other_set test other apart [] v = refl
  other_set test other apart (e ∷ es) v = go (test e.0) refl (other_set test other apart es v)
    where
      go : (b : Bool) → test e.0 ≡ b → lookup other (set_value test es v) ≡ lookup other es → lookup other (cond b ((e.0, v) ∷ es) (e ∷ set_value test es v)) ≡ cond (other e.0) (Some e.1) (lookup other es)
      go true is rest = ap (λ b. cond b (Some v) (lookup other es)) (apart e.0 is) ∙ sym (ap (λ b. cond b (Some e.1) (lookup other es)) (apart e.0 is))
      go false is rest = ap (λ x. cond (other e.0) (Some e.1) x) rest

  pub found_insert : (k : ℕ) (es : List (ℕ × V)) (v : V) → entry_at k (insert_entry nat_cmp es k v) ≡ Some v
  found_insert k [] v = ap (λ b. cond b (Some v) None) (at_itself k)
  found_insert k (e ∷ es) v = go (nat_cmp k e.0) refl (found_insert k es v)
    where
      go : (o : Ordering) → nat_cmp k e.0 ≡ o → entry_at k (insert_entry nat_cmp es k v) ≡ Some v → entry_at k (match_ordering o ((k, v) ∷ e ∷ es) ((e.0, v) ∷ es) (e ∷ insert_entry nat_cmp es k v)) ≡ Some v
      go Less is rest = ap (λ b. cond b (Some v) (entry_at k (e ∷ es))) (at_itself k)
      go Equal is rest = ap (λ b. cond b (Some v) (entry_at k es)) (ap is_eq is)
      go Greater is rest = ap (λ b. cond b (Some e.1) (entry_at k (insert_entry nat_cmp es k v))) (ap is_eq is) ∙ rest

  pub other_insert : (j k : ℕ) → (j ≡ k → ⊥) → (es : List (ℕ × V)) (v : V) → entry_at j (insert_entry nat_cmp es k v) ≡ entry_at j es
  other_insert j k apart [] v = ap (λ b. cond b (Some v) None) (at_apart j k apart)
  other_insert j k apart (e ∷ es) v = go (nat_cmp k e.0) refl (other_insert j k apart es v)
    where
      go : (o : Ordering) → nat_cmp k e.0 ≡ o → entry_at j (insert_entry nat_cmp es k v) ≡ entry_at j es → entry_at j (match_ordering o ((k, v) ∷ e ∷ es) ((e.0, v) ∷ es) (e ∷ insert_entry nat_cmp es k v)) ≡ entry_at j (e ∷ es)
      go Less is rest = ap (λ b. cond b (Some v) (entry_at j (e ∷ es))) (at_apart j k apart)
      go Equal is rest =
          let other : is_at (nat_cmp j) e.0 ≡ false = at_apart j e.0 (λ same. apart (same ∙ sym (equal_is k e.0 is))) in
          ap (λ b. cond b (Some v) (entry_at j es)) other ∙ sym (ap (λ b. cond b (Some e.1) (entry_at j es)) other)
      go Greater is rest = ap (λ x. cond (is_at (nat_cmp j) e.0) (Some e.1) x) rest

  found_without : (k : ℕ) (es : List (ℕ × V)) → entry_at k (without_entry k es) ≡ None
  found_without k [] = refl
  found_without k (e ∷ es) = go (is_at (nat_cmp k) e.0) refl (found_without k es)
    where
      go : (b : Bool) → is_at (nat_cmp k) e.0 ≡ b → entry_at k (without_entry k es) ≡ None → entry_at k (cond b (without_entry k es) (e ∷ without_entry k es)) ≡ None
      go true is rest = rest
      go false is rest = ap (λ b. cond b (Some e.1) (entry_at k (without_entry k es))) is ∙ rest

  other_without : (j k : ℕ) → (j ≡ k → ⊥) → (es : List (ℕ × V)) → entry_at j (without_entry k es) ≡ entry_at j es
  other_without j k apart [] = refl
  other_without j k apart (e ∷ es) = go (is_at (nat_cmp k) e.0) refl (other_without j k apart es)
    where
      go : (b : Bool) → is_at (nat_cmp k) e.0 ≡ b → entry_at j (without_entry k es) ≡ entry_at j es → entry_at j (cond b (without_entry k es) (e ∷ without_entry k es)) ≡ entry_at j (e ∷ es)
      go true is rest = rest ∙ sym (ap (λ b. cond b (Some e.1) (entry_at j es)) (at_apart j e.0 (λ same. apart (same ∙ sym (at_is k e.0 is)))))
      go false is rest = ap (λ x. cond (is_at (nat_cmp j) e.0) (Some e.1) x) rest

  -- what is put at a number is found there, and nothing else is changed
  pub put_self : (k : ℕ) (o : Option V) (es : List (ℕ × V)) → entry_at k (put_at k o es) ≡ o
  put_self k o es = go (entry_at k es) o refl
    where
      go : (a o : Option V) → entry_at k es ≡ a → entry_at k (put_by a o k es) ≡ o
      go None None is = is
      go None (Some v) is = found_insert k es v
      go (Some u) (Some v) is = found_set (is_at (nat_cmp k)) es u v is
      go (Some u) None is = found_without k es

  pub put_other : (j k : ℕ) → (j ≡ k → ⊥) → (o : Option V) (es : List (ℕ × V)) → entry_at j (put_at k o es) ≡ entry_at j es
  put_other j k apart o es = go (entry_at k es) o
    where
      go : (a o : Option V) → entry_at j (put_by a o k es) ≡ entry_at j es
      go None None = refl
      go None (Some v) = other_insert j k apart es v
      go (Some u) (Some v) = other_set (is_at (nat_cmp k)) (is_at (nat_cmp j)) (λ x h. at_apart j x (λ same. apart (same ∙ sym (at_is k x h)))) es v
      go (Some u) None = other_without j k apart es

  -- putting what is there changes nothing
  set_same : (test : ℕ → Bool) (es : List (ℕ × V)) (v : V) → lookup test es ≡ Some v → set_value test es v ≡ es
  set_same test [] v h = refl
  set_same test (e ∷ es) v h = go (test e.0) h (λ g. set_same test es v g)
    where
      go : (b : Bool) → cond b (Some e.1) (lookup test es) ≡ Some v → (lookup test es ≡ Some v → set_value test es v ≡ es) → cond b ((e.0, v) ∷ es) (e ∷ set_value test es v) ≡ e ∷ es
      go true h rest = let same : v ≡ e.1 = cc in ap (λ (x : V). let p : ℕ × V = (e.0, x) in p ∷ es) same
      go false h rest = ap (λ xs. e ∷ xs) (rest h)

  pub put_same : (k : ℕ) (es : List (ℕ × V)) → put_at k (entry_at k es) es ≡ es
  put_same k es = go (entry_at k es) refl
    where
      go : (a : Option V) → entry_at k es ≡ a → put_by a a k es ≡ es
      go None is = refl
      go (Some v) is = set_same (is_at (nat_cmp k)) es v is

-- an entry is taken out

module _ {V : Type 0} where
  without_none : (k : ℕ) (es : List (ℕ × V)) → entry_at k es ≡ None → without_entry k es ≡ es
  without_none k [] none = refl
  without_none k (e ∷ es) none = go (is_at (nat_cmp k) e.0) none (λ h. without_none k es h)
    where
      go : (b : Bool) → cond b (Some e.1) (entry_at k es) ≡ None → (entry_at k es ≡ None → without_entry k es ≡ es) → cond b (without_entry k es) (e ∷ without_entry k es) ≡ e ∷ es
      go true none rest = absurd (cc none)
      go false none rest = ap (λ xs. e ∷ xs) (rest none)

  -- where the first was the only one
  pub removed_is : (k : ℕ) (es : List (ℕ × V)) → entry_at k (remove_entry (is_at (nat_cmp k)) es) ≡ None → remove_entry (is_at (nat_cmp k)) es ≡ without_entry k es
  removed_is k [] none = refl
  removed_is k (e ∷ es) none = go (is_at (nat_cmp k) e.0) refl none (λ h. removed_is k es h)
    where
      go : (b : Bool) → is_at (nat_cmp k) e.0 ≡ b → entry_at k (cond b es (e ∷ remove_entry (is_at (nat_cmp k)) es)) ≡ None → (entry_at k (remove_entry (is_at (nat_cmp k)) es) ≡ None → remove_entry (is_at (nat_cmp k)) es ≡ without_entry k es)
          → cond b es (e ∷ remove_entry (is_at (nat_cmp k)) es) ≡ cond b (without_entry k es) (e ∷ without_entry k es)
      go true is none rest = sym (without_none k es none)
      go false is none rest = ap (λ xs. e ∷ xs) (rest (ap (λ b. cond b (Some e.1) (entry_at k (remove_entry (is_at (nat_cmp k)) es))) (sym is) ∙ none))

  -- another value at its number makes no difference
  pub without_set : (k : ℕ) (es : List (ℕ × V)) (v : V) → without_entry k (set_value (is_at (nat_cmp k)) es v) ≡ without_entry k es
  without_set k [] v = refl
  without_set k (e ∷ es) v = go (is_at (nat_cmp k) e.0) refl (without_set k es v)
    where
      go : (b : Bool) → is_at (nat_cmp k) e.0 ≡ b → without_entry k (set_value (is_at (nat_cmp k)) es v) ≡ without_entry k es
          → without_entry k (cond b ((e.0, v) ∷ es) (e ∷ set_value (is_at (nat_cmp k)) es v)) ≡ cond b (without_entry k es) (e ∷ without_entry k es)
      go true is rest = ap (λ b. cond b (without_entry k es) ((e.0, v) ∷ without_entry k es)) is
      go false is rest = ap (λ b. cond b (without_entry k (set_value (is_at (nat_cmp k)) es v)) (e ∷ without_entry k (set_value (is_at (nat_cmp k)) es v))) is ∙ ap (λ xs. e ∷ xs) rest

-- what was lost of files

pub hulls_same : (k : ℕ) (hulls hulls' : List (ℕ × Option ClosedHull)) → hulls' ≡ hulls → (j : ℕ) → (j == k) ≡ false → lost_at j hulls' ≡ lost_at j hulls
hulls_same k hulls hulls' is j apart = ap (lost_at j) is

-- two lists with the same numbers

module _ {V W : Type 0} (R : V → W → Type 0) where
  both_cond : (b : Bool) (v : V) (w : W) (o : Option V) (p : Option W) → R v w → AreBoth R o p → AreBoth R (cond b (Some v) o) (cond b (Some w) p)
  both_cond true v w o p r h = r
  both_cond false v w o p r h = h

  pub same_found : (test : ℕ → Bool) (es : List (ℕ × V)) (fs : List (ℕ × W)) → AllSame R es fs → AreBoth R (lookup test es) (lookup test fs)
  same_found test [] [] h = tt
  same_found test (e ∷ es) (f ∷ fs) h = subst (λ n. AreBoth R (lookup test (e ∷ es)) (cond (test n) (Some f.1) (lookup test fs))) h.0 (both_cond (test e.0) e.1 f.1 (lookup test es) (lookup test fs) h.1 (same_found test es fs h.2))
  same_found test (e ∷ es) [] h = absurd h
  same_found test [] (f ∷ fs) h = absurd h

  set_cond : (b : Bool) (e : ℕ × V) (f : ℕ × W) (es es' : List (ℕ × V)) (fs fs' : List (ℕ × W)) (v : V) (w : W) → e.0 ≡ f.0 → R e.1 f.1 → AllSame R es fs → R v w → AllSame R es' fs' → AllSame R (cond b ((e.0, v) ∷ es) (e ∷ es')) (cond b ((f.0, w) ∷ fs) (f ∷ fs'))
  set_cond true e f es es' fs fs' v w k r h g h' = (k, g, h)
  set_cond false e f es es' fs fs' v w k r h g h' = (k, r, h')

  same_set : (test : ℕ → Bool) (es : List (ℕ × V)) (fs : List (ℕ × W)) (v : V) (w : W) → R v w → AllSame R es fs → AllSame R (set_value test es v) (set_value test fs w)
  same_set test [] [] v w r h = tt
  same_set test (e ∷ es) (f ∷ fs) v w r h = subst (λ n. AllSame R (set_value test (e ∷ es) v) (cond (test n) ((f.0, w) ∷ fs) (f ∷ set_value test fs w))) h.0
      (set_cond (test e.0) e f es (set_value test es v) fs (set_value test fs w) v w h.0 h.1 h.2 r (same_set test es fs v w r h.2))
  same_set test (e ∷ es) [] v w r h = absurd h
  same_set test [] (f ∷ fs) v w r h = absurd h

  insert_by : (o : Ordering) (k : ℕ) (e : ℕ × V) (f : ℕ × W) (es es' : List (ℕ × V)) (fs fs' : List (ℕ × W)) (v : V) (w : W) → e.0 ≡ f.0 → R e.1 f.1 → AllSame R es fs → R v w → AllSame R es' fs'
      → AllSame R (match_ordering o ((k, v) ∷ e ∷ es) ((e.0, v) ∷ es) (e ∷ es')) (match_ordering o ((k, w) ∷ f ∷ fs) ((f.0, w) ∷ fs) (f ∷ fs'))
  insert_by Less k e f es es' fs fs' v w n r h g h' = (refl, g, (n, r, h))
  insert_by Equal k e f es es' fs fs' v w n r h g h' = (n, g, h)
  insert_by Greater k e f es es' fs fs' v w n r h g h' = (n, r, h')

  same_insert : (k : ℕ) (es : List (ℕ × V)) (fs : List (ℕ × W)) (v : V) (w : W) → R v w → AllSame R es fs → AllSame R (insert_entry nat_cmp es k v) (insert_entry nat_cmp fs k w)
  same_insert k [] [] v w r h = (refl, r, tt)
  same_insert k (e ∷ es) (f ∷ fs) v w r h = subst (λ n. AllSame R (insert_entry nat_cmp (e ∷ es) k v) (match_ordering (nat_cmp k n) ((k, w) ∷ f ∷ fs) ((f.0, w) ∷ fs) (f ∷ insert_entry nat_cmp fs k w))) h.0
      (insert_by (nat_cmp k e.0) k e f es (insert_entry nat_cmp es k v) fs (insert_entry nat_cmp fs k w) v w h.0 h.1 h.2 r (same_insert k es fs v w r h.2))
  same_insert k (e ∷ es) [] v w r h = absurd h
  same_insert k [] (f ∷ fs) v w r h = absurd h

  without_cond : (b : Bool) (e : ℕ × V) (f : ℕ × W) (es : List (ℕ × V)) (fs : List (ℕ × W)) → e.0 ≡ f.0 → R e.1 f.1 → AllSame R es fs → AllSame R (cond b es (e ∷ es)) (cond b fs (f ∷ fs))
  without_cond true e f es fs n r h = h
  without_cond false e f es fs n r h = (n, r, h)

  same_without : (k : ℕ) (es : List (ℕ × V)) (fs : List (ℕ × W)) → AllSame R es fs → AllSame R (without_entry k es) (without_entry k fs)
  same_without k [] [] h = tt
  same_without k (e ∷ es) (f ∷ fs) h = subst (λ n. AllSame R (without_entry k (e ∷ es)) (cond (is_at (nat_cmp k) n) (without_entry k fs) (f ∷ without_entry k fs))) h.0
      (without_cond (is_at (nat_cmp k) e.0) e f (without_entry k es) (without_entry k fs) h.0 h.1 (same_without k es fs h.2))
  same_without k (e ∷ es) [] h = absurd h
  same_without k [] (f ∷ fs) h = absurd h

  pub same_put : (k : ℕ) (o : Option V) (p : Option W) (es : List (ℕ × V)) (fs : List (ℕ × W)) → AreBoth R o p → AllSame R es fs → AllSame R (put_at k o es) (put_at k p fs)
  same_put k o p es fs r h = go (entry_at k es) (entry_at k fs) o p (same_found (is_at (nat_cmp k)) es fs h) r
    where
      go : (a : Option V) (b : Option W) (o : Option V) (p : Option W) → AreBoth R a b → AreBoth R o p → AllSame R (put_by a o k es) (put_by b p k fs)
      go None None None None both r = h
      go None None (Some v) (Some w) both r = same_insert k es fs v w r h
      go (Some u) (Some x) (Some v) (Some w) both r = same_set (is_at (nat_cmp k)) es fs v w r h
      go (Some u) (Some x) None None both r = same_without k es fs h
      go a b (Some v) None both r = absurd r
      go a b None (Some w) both r = absurd r
      go (Some u) None o p both r = absurd both
      go None (Some x) o p both r = absurd both
