-- The keys of a cache, which are the list of files.
use Rattle.std.proofs.Common.{◌≡◌, ℕ, ◌-◌, ◌≤◌, true, false, List, [], ◌∷◌, length, take, take_all, Option, Some, None, is_some, nat_eq, eqb-true, refl, sym, ap, ◌∙◌}
use Rattle.std.specs.Map.{keys_of, lookup, lookup_entry, remove_entry}
use Rattle.std.specs.Option.{option_map_or}
use Rattle.lru.specs.LruCache.{LruCache, promoted, put_entries}
use Rattle.ctx_cache.specs.Order.{brought_first, is_listed, order_after_use, without_file}
use Rattle.ctx_cache.proofs.UseOrder.{unlisted_same}

same_file : (k n : ℕ) → nat_eq k n ≡ true → n ≡ k
same_file k n is = sym (eqb-true k n is)

module _ {V : Type 0} where
  pub listed-keys : (k : ℕ) (es : List (ℕ × V)) → is_some (lookup (nat_eq k) es) ≡ is_listed k (keys_of es)
  listed-keys k [] = refl
  listed-keys k (e ∷ es) = (elim (nat_eq k e.0) as (λ b. nat_eq k e.0 ≡ b → is_some (lookup (nat_eq k) (e ∷ es)) ≡ is_listed k (keys_of (e ∷ es))) [
    | true ↦ λ t. rw t refl
    | false ↦ λ t. rw t (listed-keys k es)
  ]) refl

  pub without-keys : (k : ℕ) (es : List (ℕ × V)) → keys_of (remove_entry (nat_eq k) es) ≡ without_file k (keys_of es)
  without-keys k [] = refl
  without-keys k (e ∷ es) = (elim (nat_eq k e.0) as (λ b. nat_eq k e.0 ≡ b → keys_of (remove_entry (nat_eq k) (e ∷ es)) ≡ without_file k (keys_of (e ∷ es))) [
    | true ↦ λ t. rw t refl
    | false ↦ λ t. rw t (ap (λ l. e.0 ∷ l) (without-keys k es))
  ]) refl

  -- what is found at a key
  abbrev Found : ℕ → List (ℕ × V) → Option (ℕ × V) → Type 0
  Found k es None = is_listed k (keys_of es) ≡ false
  Found k es (Some e) = (is_listed k (keys_of es) ≡ true) × (e.0 ≡ k)

  skip : (k : ℕ) (e : ℕ × V) (es : List (ℕ × V)) (o : Option (ℕ × V)) → nat_eq k e.0 ≡ false → Found k es o → Found k (e ∷ es) o
  skip k e es None t h = rw t h
  skip k e es (Some x) t h = rw t h

  found : (k : ℕ) (es : List (ℕ × V)) → Found k es (lookup_entry (nat_eq k) es)
  found k [] = refl
  found k (e ∷ es) = (elim (nat_eq k e.0) as (λ b. nat_eq k e.0 ≡ b → Found k (e ∷ es) (lookup_entry (nat_eq k) (e ∷ es))) [
    | true ↦ λ t. rw t (rw t refl, same_file k e.0 t)
    | false ↦ λ t. rw t (skip k e es (lookup_entry (nat_eq k) es) t (found k es))
  ]) refl

  used_found : (k : ℕ) (es : List (ℕ × V)) (o : Option (ℕ × V)) → Found k es o → keys_of (option_map_or (λ e. e ∷ remove_entry (nat_eq k) es) o es) ≡ order_after_use k (keys_of es)
  used_found k es None h = rw h refl
  used_found k es (Some e) h = rw h.0 (λ i. h.1 i ∷ without-keys k es i)

  pub used-keys : (k : ℕ) (es : List (ℕ × V)) → keys_of (promoted (nat_eq k) es) ≡ order_after_use k (keys_of es)
  used-keys k es = used_found k es (lookup_entry (nat_eq k) es) (found k es)

  put_found : (k : ℕ) (v : V) (es : List (ℕ × V)) (n : ℕ) (o : Option (ℕ × V)) → Found k es o → length es ≤ n
      → keys_of (option_map_or (λ e. (e.0, v) ∷ remove_entry (nat_eq k) es) o ((k, v) ∷ take n es)) ≡ brought_first k (keys_of es)
  put_found k v es n None h fits = ap (λ l. k ∷ l) (ap keys_of (take_all n es fits) ∙ sym (unlisted_same k (keys_of es) h))
  put_found k v es n (Some e) h fits = λ i. h.1 i ∷ without-keys k es i

  -- a cache that isn't full loses none
  pub put-keys : (k : ℕ) (v : V) (c : LruCache ℕ V) → length c.entries ≤ c.cap - 1 → keys_of (put_entries nat_eq c k v) ≡ brought_first k (keys_of c.entries)
  put-keys k v c fits = put_found k v c.entries (c.cap - 1) (lookup_entry (nat_eq k) c.entries) (found k c.entries) fits
