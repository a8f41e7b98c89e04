-- What a change at one name does to what is found at each name.
use Rattle.std.proofs.Common.{◌≡◌, ℕ, Bool, true, false, cond, List, Option, None, Some, refl, sym, ◌∙◌, ap, subst, IsSome}
use Rattle.std.specs.Map.{lookup, KeepsOthers, IsKeyTest, AreApart}
use Rattle.std.specs.declared.vec.Vec.{Vec}
use Rattle.std.specs.Ordering.{nat_cmp, is_eq}
use Rattle.std.specs.Cmp.{eq_by_cmp_equiv}
use Rattle.std.specs.Cmp.Lexicographic.{slice_cmp, nat_list_cmp_total, nat_list_eq_equiv, bytes_decides}
use Rattle.std.specs.Str.{bytes_eq}
use Rattle.std.proofs.lemmas.Map.Text.{is_eq-slice_cmp}
use Rattle.name_tree.specs.Rooms.{inner}
use Rattle.name_tree.specs.NameRooms.{is_at_name, id_at, HasName}

apart : (bs cs ks : List ℕ) → bytes_eq bs cs ≡ false → is_eq (slice_cmp nat_cmp bs ks) ≡ true → is_eq (slice_cmp nat_cmp cs ks) ≡ false
apart bs cs ks n y = is_eq-slice_cmp cs ks ∙ (nat_list_eq_equiv.symm cs ks ∙ sym (nat_list_eq_equiv.congr bs ks cs (sym (is_eq-slice_cmp bs ks) ∙ y)) ∙ n)

module _ {A : Type 0} where
  other_entries : (eq : Vec ℕ A → Vec ℕ A → Bool) (test : Vec ℕ A → Bool) (old new : List (Vec ℕ A × Option ℕ)) → KeepsOthers eq test old new
      → (other : Vec ℕ A → Bool) → IsKeyTest eq other → AreApart test other → lookup other new ≡ lookup other old
  unfolding KeepsOthers
  other_entries eq test old new h = h

  -- what is found at each name, after w came to be at the name bs
  pub found_after : (bs cs : List ℕ) (old new : List (Vec ℕ A × Option ℕ)) (w : Option (Option ℕ))
      → KeepsOthers (λ (x y : Vec ℕ A). is_eq (slice_cmp nat_cmp x.items y.items)) (is_at_name bs) old new → lookup (is_at_name bs) new ≡ w
      → lookup (is_at_name cs) new ≡ cond (bytes_eq bs cs) w (lookup (is_at_name cs) old)
  found_after bs cs old new w others here = go (bytes_eq bs cs) refl
    where
      go : (b : Bool) → bytes_eq bs cs ≡ b → lookup (is_at_name cs) new ≡ cond b w (lookup (is_at_name cs) old)
      go true h = subst (λ l. lookup (is_at_name l) new ≡ w) ((bytes_decides bs cs).0 h) here
      go false h = other_entries _ _ old new others (is_at_name cs) (λ x y. (eq_by_cmp_equiv nat_list_cmp_total).congr cs x.items y.items) (λ k. apart bs cs k.items h)

  pub id_after : (bs cs : List ℕ) (old new : List (Vec ℕ A × Option ℕ)) (w : Option (Option ℕ))
      → KeepsOthers (λ (x y : Vec ℕ A). is_eq (slice_cmp nat_cmp x.items y.items)) (is_at_name bs) old new → lookup (is_at_name bs) new ≡ w
      → id_at cs new ≡ cond (bytes_eq bs cs) (inner w) (id_at cs old)
  id_after bs cs old new w others here = ap inner (found_after bs cs old new w others here) ∙ go (bytes_eq bs cs)
    where
      go : (b : Bool) → inner (cond b w (lookup (is_at_name cs) old)) ≡ cond b (inner w) (id_at cs old)
      go true = refl
      go false = refl

  pub has_after : (bs cs : List ℕ) (old new : List (Vec ℕ A × Option ℕ)) (w : Option ℕ)
      → KeepsOthers (λ (x y : Vec ℕ A). is_eq (slice_cmp nat_cmp x.items y.items)) (is_at_name bs) old new → lookup (is_at_name bs) new ≡ Some w
      → HasName cs old → HasName cs new
  has_after bs cs old new w others here had = subst IsSome (sym (found_after bs cs old new (Some w) others here)) (go (bytes_eq bs cs) had)
    where
      go : (b : Bool) → HasName cs old → IsSome (cond b (Some w) (lookup (is_at_name cs) old))
      go true h = refl
      go false h = h

  -- where nothing is found, an id that may be there is none; so a name that gets or loses room keeps what it has
  pub same_id : (bs cs : List ℕ) (old new : List (Vec ℕ A × Option ℕ)) (w : Option (Option ℕ)) → inner w ≡ None → id_at bs old ≡ None
      → KeepsOthers (λ (x y : Vec ℕ A). is_eq (slice_cmp nat_cmp x.items y.items)) (is_at_name bs) old new → lookup (is_at_name bs) new ≡ w
      → id_at cs new ≡ id_at cs old
  same_id bs cs old new w none was others here = id_after bs cs old new w others here ∙ go (bytes_eq bs cs) refl
    where
      go : (b : Bool) → bytes_eq bs cs ≡ b → cond b (inner w) (id_at cs old) ≡ id_at cs old
      go true h = none ∙ sym (subst (λ l. id_at l old ≡ None) ((bytes_decides bs cs).0 h) was)
      go false h = refl
