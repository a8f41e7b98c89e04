-- An object comes to be in each member.
use Rattle.std.proofs.Common.{◌≡◌, ◌≢◌, ◌≤◌, ◌⊎◌, inl, inr, ℕ, zero, suc, List, [], ◌∷◌, length, Option, Some, None, true, refl, sym, ◌∙◌, ap, subst, arith}
use Rattle.std.specs.List.{AllByRecursion, AllZip}
use Rattle.gw_model.specs.declared.object.ObjectId.{ObjectId}
use Rattle.append_store.specs.State.{ObjectState, Missing, Kept, Lent, IsAway, IsThere}
use Rattle.append_store.specs.Calls.{Creates, MayCreate}
use Rattle.replica_store.specs.Reopening.{AllUntouched, IsOutOfNone}
use Rattle.replica_store.specs.Seats.{KnownState, SeatView, column, known_at, state_of}
use Rattle.replica_store.specs.Starting.{AllMayAdd, AreSupplied, Introduces, IsSupplied, IsSuppliedAt, MayAdd, Supplies}
use Rattle.replica_store.specs.Steps.{SomeSeat}
use Rattle.replica_store.proofs.Changes.{same_name}

pub supplies_self : (told : Type 0) (object : ObjectId) (s : SeatView) → Supplies told object s s
supplies_self told object s = record {
  rest = record { live = λ l. l; others = λ t q other. refl; no_losses = λ t q other. refl; later = omega arith };
  may = λ t. inl refl;
  losses = λ t. omega arith;
  losses_there = λ t other. refl;
}

-- what a creation leaves of a member
pub may_there : (a b : ObjectState) → MayCreate a b → IsThere a → IsThere b
may_there a b (inl same) there = subst IsThere (sym same) there
may_there Missing b (inr made) there = absurd there
may_there (Kept bytes durable) b (inr made) there = subst IsThere (sym made) tt
may_there (Lent m) b (inr made) there = absurd there

pub may_inside : (a b : ObjectState) → MayCreate a b → (IsAway a → ⊥) → IsAway b → ⊥
may_inside a b (inl same) inside away = inside (subst IsAway same away)
may_inside Missing b (inr made) inside away = subst IsAway made away
may_inside (Kept bytes durable) b (inr made) inside away = subst IsAway made away
may_inside (Lent m) b (inr made) inside away = inside tt

made_there : (a b : ObjectState) → Creates a b → (IsAway a → ⊥) → IsThere b
made_there Missing b made inside = subst IsThere (sym made) tt
made_there (Kept bytes durable) b made inside = subst IsThere (sym made) tt
made_there (Lent m) b made inside = absurd (inside tt)

may_both : (a b c : ObjectState) → MayCreate a b → MayCreate b c → MayCreate a c
may_both a b c (inl same) two = subst (λ s. MayCreate s c) same two
may_both a b c (inr made) (inl same) = inr (subst (Creates a) (sym same) made)
may_both Missing b c (inr made) (inr more) = inr (subst (λ s. Creates s c) made more)
may_both (Kept bytes durable) b c (inr made) (inr more) = inr (subst (λ s. Creates s c) made more)
may_both (Lent m) b c (inr made) (inr more) = inr (subst (λ s. Creates s c) made more)

pub may_missing : (a b : ObjectState) → MayCreate a b → a ≢ Missing → b ≡ a
may_missing a b (inl same) other = same
may_missing Missing b (inr made) other = absurd (other refl)
may_missing (Kept bytes durable) b (inr made) other = made
may_missing (Lent m) b (inr made) other = made

adds_same : (told : Type 0) (s : SeatView) → MayAdd told s s
adds_same told s = record { live = λ l. l; may = λ t q. inl refl; losses = λ t q. omega arith; losses_there = λ t q other. refl; later = omega arith }

adds_both : (told : Type 0) (x y z : SeatView) → MayAdd told x y → MayAdd told y z → MayAdd told x z
adds_both told x y z one two = record {
  live = λ l. one.live (two.live l);
  may = λ t q. may_both (x.at q) (y.at q) (z.at q) (one.may t q) (two.may t q);
  losses = λ t q. let a = one.losses t q in let b = two.losses t q in omega (arith, a, b);
  losses_there = λ t q other. two.losses_there t q (λ none. other (sym (may_missing (x.at q) (y.at q) (one.may t q) other) ∙ none)) ∙ one.losses_there t q other;
  later = let a = one.later in let b = two.later in omega (arith, a, b);
}

adds_at : (told : Type 0) (o : ObjectId) (s t : SeatView) → Supplies told o s t → MayAdd told s t
adds_at told o s t is = record {
  live = is.rest.live;
  may = λ u q. may_by u q (same_name q o);
  losses = λ u q. losses_by u q (same_name q o);
  losses_there = λ u q other. there_by u q (same_name q o) other;
  later = is.rest.later;
}
  where
    may_by : told → (q : ObjectId) → (q ≡ o) ⊎ (q ≢ o) → MayCreate (s.at q) (t.at q)
    may_by u q (inl same) = subst (λ r. MayCreate (s.at r) (t.at r)) (sym same) (is.may u)
    may_by u q (inr other) = inl (is.rest.others u q other)

    losses_by : told → (q : ObjectId) → (q ≡ o) ⊎ (q ≢ o) → s.losses q ≤ t.losses q
    losses_by u q (inl same) = subst (λ r. s.losses r ≤ t.losses r) (sym same) (is.losses u)
    losses_by u q (inr other) = let e = is.rest.no_losses u q other in omega (arith, e)

    there_by : told → (q : ObjectId) → (q ≡ o) ⊎ (q ≢ o) → s.at q ≢ Missing → t.losses q ≡ s.losses q
    there_by u q (inl same) = subst (λ r. s.at r ≢ Missing → t.losses r ≡ s.losses r) (sym same) (is.losses_there u)
    there_by u q (inr other) = λ some. is.rest.no_losses u q other

module _ {X : Type 0} (told : Type 0) (v : X → SeatView) where
  pub all_adds_same : (xs : List X) → AllMayAdd told v xs xs
  all_adds_same [] = tt
  all_adds_same (x ∷ xs) = (adds_same told (v x), all_adds_same xs)

  pub all_adds_both : (xs ys zs : List X) → AllMayAdd told v xs ys → AllMayAdd told v ys zs → AllMayAdd told v xs zs
  all_adds_both [] [] [] one two = tt
  all_adds_both [] [] (z ∷ zs) one two = absurd two
  all_adds_both [] (y ∷ ys) zs one two = absurd one
  all_adds_both (x ∷ xs) [] zs one two = absurd one
  all_adds_both (x ∷ xs) (y ∷ ys) [] one two = absurd two
  all_adds_both (x ∷ xs) (y ∷ ys) (z ∷ zs) one two = (adds_both told (v x) (v y) (v z) one.0 two.0, all_adds_both xs ys zs one.1 two.1)

  abbrev pub AllSupply : ObjectId → List X → List X → Type 0
  AllSupply o xs ys = AllZip (λ s t. Supplies told o (v s) (v t)) xs ys

  pub all_adds : (o : ObjectId) (xs ys : List X) → AllSupply o xs ys → AllMayAdd told v xs ys
  all_adds o [] [] is = tt
  all_adds o [] (y ∷ ys) is = absurd is
  all_adds o (x ∷ xs) [] is = absurd is
  all_adds o (x ∷ xs) (y ∷ ys) is = (adds_at told o (v x) (v y) is.0, all_adds o xs ys is.1)

  pub adds_many : (xs ys : List X) → AllMayAdd told v xs ys → length ys ≡ length xs
  adds_many [] [] is = refl
  adds_many [] (y ∷ ys) is = absurd is
  adds_many (x ∷ xs) [] is = absurd is
  adds_many (x ∷ xs) (y ∷ ys) is = let e = adds_many xs ys is.1 in omega (arith, e)

  pub adds_inside : (q : ObjectId) (xs ys : List X) → AllMayAdd told v xs ys → IsOutOfNone told v q xs → IsOutOfNone told v q ys
  adds_inside q [] [] is all = tt
  adds_inside q [] (y ∷ ys) is all = absurd is
  adds_inside q (x ∷ xs) [] is all = absurd is
  adds_inside q (x ∷ xs) (y ∷ ys) is all = (λ t. may_inside ((v x).at q) ((v y).at q) (is.0.may t q) (all.0 t), adds_inside q xs ys is.1 all.1)

  pub adds_chief : (q : ObjectId) (xs ys : List X) (k : ℕ) → AllMayAdd told v xs ys → told → IsThere (state_of (column v xs q) k) → IsThere (state_of (column v ys q) k)
  adds_chief q [] [] k is t there = absurd there
  adds_chief q [] (y ∷ ys) k is t there = absurd is
  adds_chief q (x ∷ xs) [] k is t there = absurd is
  adds_chief q (x ∷ xs) (y ∷ ys) zero is t there = may_there ((v x).at q) ((v y).at q) (is.0.may t q) there
  adds_chief q (x ∷ xs) (y ∷ ys) (suc k) is t there = adds_chief q xs ys k is.1 t there

  adds_there : (q : ObjectId) (xs ys : List X) → AllMayAdd told v xs ys → AllByRecursion (λ s. told → (v s).live ≡ true → IsThere ((v s).at q)) xs → AllByRecursion (λ s. told → (v s).live ≡ true → IsThere ((v s).at q)) ys
  adds_there q [] [] is all = tt
  adds_there q [] (y ∷ ys) is all = absurd is
  adds_there q (x ∷ xs) [] is all = absurd is
  adds_there q (x ∷ xs) (y ∷ ys) is all = (λ t live. may_there ((v x).at q) ((v y).at q) (is.0.may t q) (all.0 t (is.0.live live)), adds_there q xs ys is.1 all.1)

  -- an object of the list stays supplied
  still_supplied : (q : ObjectId) (xs ys : List X) (o : Option KnownState) → AllMayAdd told v xs ys → IsSuppliedAt told v q xs o → IsSuppliedAt told v q ys o
  still_supplied q xs ys None is all = tt
  still_supplied q xs ys (Some k) is all = record {
    chief = λ t. adds_chief q xs ys k.chief is t (all.chief t);
    there = adds_there q xs ys is all.there;
    places = all.places ∙ sym (adds_many xs ys is);
    parts = all.parts;
  }

  pub all_supplied : (xs ys : List X) (known : List (ObjectId × KnownState)) → AllMayAdd told v xs ys → AreSupplied told v xs known → AreSupplied told v ys known
  all_supplied xs ys known is all = λ q. still_supplied q xs ys (known_at known q) is (all q)

  -- one more object
  abbrev pub AllMade : ObjectId → List X → List X → Type 0
  AllMade o xs ys = AllZip (λ s t. told → (v t).live ≡ true → Creates ((v s).at o) ((v t).at o)) xs ys

  made_all : (o : ObjectId) (xs ys : List X) → AllMade o xs ys → IsOutOfNone told v o xs → AllByRecursion (λ s. told → (v s).live ≡ true → IsThere ((v s).at o)) ys
  made_all o [] [] made inside = tt
  made_all o [] (y ∷ ys) made inside = absurd made
  made_all o (x ∷ xs) [] made inside = absurd made
  made_all o (x ∷ xs) (y ∷ ys) made inside = (λ t live. made_there ((v x).at o) ((v y).at o) (made.0 t live) (inside.0 t), made_all o xs ys made.1 inside.1)

  pub one_supplied : (o : ObjectId) (xs ys : List X) (old new : List (ObjectId × KnownState)) (k : KnownState) → AllSupply o xs ys → AllMade o xs ys → IsOutOfNone told v o xs → (told → IsThere (state_of (column v xs o) k.chief)) → length k.parts ≡ length xs → AllByRecursion (λ p. p.live ≡ true) k.parts → known_at new o ≡ Some k → ((q : ObjectId) → q ≢ o → known_at new q ≡ known_at old q) → AreSupplied told v xs old → AreSupplied told v ys new
  one_supplied o xs ys old new k supply made inside there places parts here others all q = by (same_name q o)
    where
      adds : AllMayAdd told v xs ys
      adds = all_adds o xs ys supply

      now : IsSupplied told v o ys k
      now = record {
        chief = λ t. adds_chief o xs ys k.chief adds t (there t);
        there = made_all o xs ys made inside;
        places = places ∙ sym (adds_many xs ys adds);
        parts = parts;
      }

      by : (q ≡ o) ⊎ (q ≢ o) → IsSuppliedAt told v q ys (known_at new q)
      by (inl same) = subst (λ r. IsSuppliedAt told v r ys (known_at new r)) (sym same) (subst (IsSuppliedAt told v o ys) (sym here) now)
      by (inr other) = subst (IsSuppliedAt told v q ys) (sym (others q other)) (still_supplied q xs ys (known_at old q) adds (all q))

  untouched_self : (q : ObjectId) (xs : List X) → AllUntouched told v q xs xs
  untouched_self q [] = tt
  untouched_self q (x ∷ xs) = (record { live = λ l. l; same = λ t. refl }, untouched_self q xs)

  others_untouched : (o q : ObjectId) → q ≢ o → (xs ys : List X) → AllSupply o xs ys → AllUntouched told v q xs ys
  others_untouched o q other [] [] is = tt
  others_untouched o q other [] (y ∷ ys) is = absurd is
  others_untouched o q other (x ∷ xs) [] is = absurd is
  others_untouched o q other (x ∷ xs) (y ∷ ys) is = (record { live = is.0.rest.live; same = λ t. is.0.rest.others t q other }, others_untouched o q other xs ys is.1)

  pub untouched_twice : (q : ObjectId) (xs ys zs : List X) → AllUntouched told v q xs ys → AllUntouched told v q ys zs → AllUntouched told v q xs zs
  untouched_twice q [] [] [] one two = tt
  untouched_twice q [] [] (z ∷ zs) one two = absurd two
  untouched_twice q [] (y ∷ ys) zs one two = absurd one
  untouched_twice q (x ∷ xs) [] zs one two = absurd one
  untouched_twice q (x ∷ xs) (y ∷ ys) [] one two = absurd two
  untouched_twice q (x ∷ xs) (y ∷ ys) (z ∷ zs) one two = (record { live = λ l. one.0.live (two.0.live l); same = λ t. two.0.same t ∙ one.0.same t }, untouched_twice q xs ys zs one.1 two.1)

  some_there : (q : ObjectId) (xs : List X) (k : ℕ) → IsThere (state_of (column v xs q) k) → SomeSeat (λ s. IsThere ((v s).at q)) xs
  some_there q [] k there = there
  some_there q (x ∷ xs) zero there = inl there
  some_there q (x ∷ xs) (suc k) there = inr (some_there q xs k there)

  some_before : (q : ObjectId) (xs ys : List X) → AllUntouched told v q xs ys → told → SomeSeat (λ s. IsThere ((v s).at q)) ys → SomeSeat (λ s. IsThere ((v s).at q)) xs
  some_before q [] [] is t some = some
  some_before q [] (y ∷ ys) is t some = absurd is
  some_before q (x ∷ xs) [] is t some = absurd is
  some_before q (x ∷ xs) (y ∷ ys) is t (inl there) = inl (subst IsThere (is.0.same t) there)
  some_before q (x ∷ xs) (y ∷ ys) is t (inr some) = inr (some_before q xs ys is.1 t some)

  pub introduces_none : (xs : List X) (known : List (ObjectId × KnownState)) → Introduces told v xs xs known known
  introduces_none xs known = record {
    before = λ q none. none;
    rest = λ q none. untouched_self q xs;
    from = λ t q none some. absurd (some none);
  }

  -- members that are as they were
  pub introduces_stay : (xs ys : List X) (known : List (ObjectId × KnownState)) → ((q : ObjectId) → AllUntouched told v q xs ys) → Introduces told v xs ys known known
  introduces_stay xs ys known is = record {
    before = λ q none. none;
    rest = λ q none. is q;
    from = λ t q none some. absurd (some none);
  }

  pub introduces_both : (xs ys zs : List X) (old new newer : List (ObjectId × KnownState)) → Introduces told v xs ys old new → Introduces told v ys zs new newer → Introduces told v xs zs old newer
  introduces_both xs ys zs old new newer one two = record {
    before = λ q none. one.before q (two.before q none);
    rest = λ q none. untouched_twice q xs ys zs (one.rest q (two.before q none)) (two.rest q none);
    from = λ t q none some. by t q none some (known_at new q) refl;
  }
    where
      by : told → (q : ObjectId) → known_at old q ≡ None → known_at newer q ≢ None → (o : Option KnownState) → known_at new q ≡ o → SomeSeat (λ s. IsThere ((v s).at q)) xs
      by t q none some None is = some_before q xs ys (one.rest q is) t (two.from t q is some)
      by t q none some (Some k) is = one.from t q none (λ e. let f : None ≡ Some k = sym e ∙ is in cc)

  pub introduces_one : (o : ObjectId) (xs ys : List X) (old new : List (ObjectId × KnownState)) (k : KnownState) → AllSupply o xs ys → (told → IsThere (state_of (column v xs o) k.chief)) → known_at new o ≡ Some k → ((q : ObjectId) → q ≢ o → known_at new q ≡ known_at old q) → Introduces told v xs ys old new
  introduces_one o xs ys old new k supply there here others = record {
    before = λ q none. sym (others q (differs q none)) ∙ none;
    rest = λ q none. others_untouched o q (differs q none) xs ys supply;
    from = λ t q none some. from_by t q none some (same_name q o);
  }
    where
      differs : (q : ObjectId) → known_at new q ≡ None → q ≢ o
      differs q none same = let e : None ≡ Some k = sym none ∙ ap (λ r. known_at new r) same ∙ here in cc

      from_by : told → (q : ObjectId) → known_at old q ≡ None → known_at new q ≢ None → (q ≡ o) ⊎ (q ≢ o) → SomeSeat (λ s. IsThere ((v s).at q)) xs
      from_by t q none some (inl same) = subst (λ r. SomeSeat (λ s. IsThere ((v s).at r)) xs) (sym same) (some_there o xs k.chief (there t))
      from_by t q none some (inr other) = absurd (some (others q other ∙ none))
