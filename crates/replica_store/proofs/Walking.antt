-- The list of the objects is walked in its order, and the copies of each are made equal.
use Rattle.std.proofs.Common.{◌≡◌, ◌≢◌, ◌⊎◌, inl, inr, ◌≤◌, ℕ, Bool, true, false, List, [], ◌∷◌, length, Option, Some, None, IsSome, is_some, Ordering, Less, Equal, Greater, refl, sym, ◌∙◌, ap, subst, arith}
use Rattle.std.specs.List.{AllByRecursion}
use Rattle.std.specs.Ordering.{ordering_reverse}
use Rattle.std.specs.Map.{keys_of}
use Rattle.gw_model.specs.declared.object.ObjectId.{ObjectId}
use Rattle.gw_model.specs.contracts.object.ObjectIdOrd.TheImpl.Laws.{total-law}
use Rattle.append_store.specs.Calls.{object_cmp}
use Rattle.append_store.specs.State.{ObjectState, Missing, Kept, Lent, IsAway, IsThere, IsCrashImage}
use Rattle.replica_store.specs.Kept.{AllTouch, NoneCalled}
use Rattle.replica_store.specs.Objects.{AreSound, told_at}
use Rattle.replica_store.specs.Reopening.{AllUntouched, Awaits, CanLevel, HasFront, IsBehind, IsOutOfNone}
use Rattle.replica_store.specs.Seats.{SeatView, KnownState, IsSoundAt, column, counts_of, known_at, losses_of, state_of, told_of}
use Rattle.replica_store.specs.Starting.{AllEndure, AllLevelled}
use Rattle.replica_store.proofs.Changes.{leaves_others, same_name}
use Rattle.replica_store.proofs.Enduring.{all_at, all_both, all_same}
use Rattle.replica_store.proofs.Pairs.{weaker_pairs}
use Rattle.replica_store.proofs.Told.{column_same}

-- the order of the names
pub not_self : (o : ObjectId) → object_cmp o o ≡ Less → ⊥
not_self o h = let turned : Less ≡ Greater = sym h ∙ (total-law.antisymm o o ∙ ap ordering_reverse h) in cc

pub after_or : (last : Option ObjectId) (q : ObjectId) → IsBehind last q ⊎ (IsBehind last q → ⊥)
after_or None q = inl tt
after_or (Some o) q = by (object_cmp o q) refl
  where
    by : (r : Ordering) → object_cmp o q ≡ r → (object_cmp o q ≡ Less) ⊎ (object_cmp o q ≡ Less → ⊥)
    by Less same = inl same
    by Equal same = inr (λ l. let e : Less ≡ Equal = sym l ∙ same in cc)
    by Greater same = inr (λ l. let e : Less ≡ Greater = sym l ∙ same in cc)

pub after_both : (last : Option ObjectId) (o q : ObjectId) → IsBehind last o → object_cmp o q ≡ Less → IsBehind last q
after_both None o q one two = tt
after_both (Some p) o q one two = total-law.trans p o q one two

-- another name that isn't behind this one is before it
module _ (exact : (x y : ObjectId) → object_cmp x y ≡ Equal → x ≡ y) where
  is_before : (o q : ObjectId) → q ≢ o → (object_cmp o q ≡ Less → ⊥) → object_cmp q o ≡ Less
  is_before o q other late = by (object_cmp o q) refl
    where
      by : (r : Ordering) → object_cmp o q ≡ r → object_cmp q o ≡ Less
      by Less same = absurd (late same)
      by Equal same = absurd (other (sym (exact o q same)))
      by Greater same = total-law.antisymm q o ∙ ap ordering_reverse same

some_is : (o : Option KnownState) (k : KnownState) → o ≡ Some k → IsSome o
some_is o k is = ap is_some is

missing_image : (before now : ObjectState) → before ≡ Missing → now ≡ Missing → IsCrashImage before now
missing_image before now was is = subst (λ s. IsCrashImage s now) (sym was) is

not_called : (a b : Bool) → (a ≡ true → b ≡ true) → b ≡ false → a ≡ false
not_called true b more off = absurd (let e = more refl in cc)
not_called false b more off = refl

module _ {X : Type 0} (v : X → SeatView) (told : Type 0) where
  untouched_same : (q : ObjectId) (xs : List X) → AllUntouched told v q xs xs
  untouched_same q [] = tt
  untouched_same q (x ∷ xs) = (record { live = λ l. l; same = λ t. refl }, untouched_same q xs)

  untouched_both : (q o : ObjectId) → q ≢ o → (xs ys zs : List X) → AllUntouched told v q xs ys → AllTouch told v o ys zs → AllUntouched told v q xs zs
  untouched_both q o other [] [] [] one two = tt
  untouched_both q o other [] [] (z ∷ zs) one two = absurd two
  untouched_both q o other [] (y ∷ ys) zs one two = absurd one
  untouched_both q o other (x ∷ xs) [] zs one two = absurd one
  untouched_both q o other (x ∷ xs) (y ∷ ys) [] one two = absurd two
  untouched_both q o other (x ∷ xs) (y ∷ ys) (z ∷ zs) one two = (
    record {
      live = λ l. one.0.live (two.0.live l);
      same = λ t. two.0.others t q other ∙ one.0.same t;
    },
    untouched_both q o other xs ys zs one.1 two.1,
  )

  untouched_column : (q : ObjectId) (xs ys : List X) → AllUntouched told v q xs ys → told → column v ys q ≡ column v xs q
  untouched_column q xs ys is t = column_same v q xs ys (weaker_pairs _ _ (λ x y r. r.same t) xs ys is)

  untouched_many : (q : ObjectId) (xs ys : List X) → AllUntouched told v q xs ys → length ys ≡ length xs
  untouched_many q [] [] is = refl
  untouched_many q [] (y ∷ ys) is = absurd is
  untouched_many q (x ∷ xs) [] is = absurd is
  untouched_many q (x ∷ xs) (y ∷ ys) is = let e = untouched_many q xs ys is.1 in omega (arith, e)

  none_still : (q : ObjectId) (xs ys : List X) → AllUntouched told v q xs ys → NoneCalled v xs → NoneCalled v ys
  none_still q [] [] is none = tt
  none_still q [] (y ∷ ys) is none = absurd is
  none_still q (x ∷ xs) [] is none = absurd is
  none_still q (x ∷ xs) (y ∷ ys) is none = (not_called (v y).live (v x).live is.0.live none.0, none_still q xs ys is.1 none.1)

  inside_still : (q : ObjectId) (xs ys : List X) → AllUntouched told v q xs ys → IsOutOfNone told v q xs → IsOutOfNone told v q ys
  inside_still q [] [] is all = tt
  inside_still q [] (y ∷ ys) is all = absurd is
  inside_still q (x ∷ xs) [] is all = absurd is
  inside_still q (x ∷ xs) (y ∷ ys) is all = (λ t away. all.0 t (subst IsAway (is.0.same t) away), inside_still q xs ys is.1 all.1)

  fronts_still : (q : ObjectId) (bytes : List ℕ) (least : ℕ) (xs ys : List X) → AllUntouched told v q xs ys → AllByRecursion (λ s. (v s).live ≡ true → told → HasFront bytes least ((v s).at q)) xs → AllByRecursion (λ s. (v s).live ≡ true → told → HasFront bytes least ((v s).at q)) ys
  fronts_still q bytes least [] [] is all = tt
  fronts_still q bytes least [] (y ∷ ys) is all = absurd is
  fronts_still q bytes least (x ∷ xs) [] is all = absurd is
  fronts_still q bytes least (x ∷ xs) (y ∷ ys) is all = (λ live t. subst (HasFront bytes least) (sym (is.0.same t)) (all.0 (is.0.live live) t), fronts_still q bytes least xs ys is.1 all.1)

  there_still : (q : ObjectId) (xs ys : List X) → AllUntouched told v q xs ys → AllByRecursion (λ s. told → (v s).live ≡ true → IsThere ((v s).at q)) xs → AllByRecursion (λ s. told → (v s).live ≡ true → IsThere ((v s).at q)) ys
  there_still q [] [] is all = tt
  there_still q [] (y ∷ ys) is all = absurd is
  there_still q (x ∷ xs) [] is all = absurd is
  there_still q (x ∷ xs) (y ∷ ys) is all = (λ t live. subst IsThere (sym (is.0.same t)) (all.0 t (is.0.live live)), there_still q xs ys is.1 all.1)

  awaits_still : (q : ObjectId) (xs ys : List X) (o : Option KnownState) (before : ObjectState) → AllUntouched told v q xs ys → Awaits told v q xs o before → Awaits told v q ys o before
  awaits_still q xs ys None before is awaits = awaits
  awaits_still q xs ys (Some k) Missing is awaits = record {
    none = none_still q xs ys is awaits.none;
    some = let a = awaits.some in let e = untouched_many q xs ys is in omega (arith, a, e);
    places = λ t. awaits.places t ∙ sym (untouched_many q xs ys is);
    chief = λ t. ap (λ c. state_of c k.chief) (untouched_column q xs ys is t) ∙ awaits.chief t;
  }
  awaits_still q xs ys (Some k) (Kept bytes least) is awaits = record {
    chief = λ t. subst (λ c. HasFront bytes least (state_of c k.chief)) (sym (untouched_column q xs ys is t)) (awaits.chief t);
    fronts = fronts_still q bytes least xs ys is awaits.fronts;
    inside = inside_still q xs ys is awaits.inside;
    places = λ t. awaits.places t ∙ sym (untouched_many q xs ys is);
    low = awaits.low;
  }
  awaits_still q xs ys (Some k) (Lent m) is awaits = absurd awaits

  can_still : (q : ObjectId) (xs ys : List X) (o : Option KnownState) → AllUntouched told v q xs ys → CanLevel told v q xs o → CanLevel told v q ys o
  can_still q xs ys None is can = tt
  can_still q xs ys (Some k) is can = there_still q xs ys is can

  -- so far the objects up to the last one are done, and those behind it are as they were
  pub record Walk (last : Option ObjectId) (xs ys : List X) (old new : List (ObjectId × KnownState)) : Type 0 where
    pub sound : AreSound told v ys new
    pub keys : keys_of new ≡ keys_of old
    pub known : (q : ObjectId) → IsBehind last q → known_at new q ≡ known_at old q
    pub waits : (q : ObjectId) → IsBehind last q → AllUntouched told v q xs ys
    pub done : (q : ObjectId) → (IsBehind last q → ⊥) → (before : ObjectState) → Awaits told v q xs (known_at old q) before → told → IsCrashImage before (told_at v ys new q)
    pub losses : told → (q : ObjectId) → losses_of v ys q ≡ losses_of v xs q
    pub later : counts_of v xs ≤ counts_of v ys
    pub each : AllEndure told v xs ys

  pub walk_start : (xs : List X) (old : List (ObjectId × KnownState)) → AreSound told v xs old → Walk None xs xs old old
  walk_start xs old sound = record {
    sound = sound;
    keys = refl;
    known = λ q a. refl;
    waits = λ q a. untouched_same q xs;
    done = λ q na. absurd (na tt);
    losses = λ t q. refl;
    later = omega arith;
    each = all_same told v xs;
  }

  pub walk_can : (last : Option ObjectId) (xs ys : List X) (old new : List (ObjectId × KnownState)) (o : ObjectId) → Walk last xs ys old new → IsBehind last o → CanLevel told v o xs (known_at old o) → CanLevel told v o ys (known_at new o)
  walk_can last xs ys old new o w a can = subst (CanLevel told v o ys) (sym (w.known o a)) (can_still o xs ys (known_at old o) (w.waits o a) can)

  nothing_there : (xs ys zs : List X) (old new : List (ObjectId × KnownState)) (q : ObjectId) (before : ObjectState) → known_at old q ≡ None → known_at new q ≡ None → Awaits told v q xs (known_at old q) before → IsCrashImage before (told_at v zs new q)
  nothing_there xs ys zs old new q before was is awaits = missing_image before (told_at v zs new q) (subst (λ o. Awaits told v q xs o before) was awaits) (ap (λ o. told_of o (column v zs q)) is)

  -- a step
  module _ (exact : (x y : ObjectId) → object_cmp x y ≡ Equal → x ≡ y) (last : Option ObjectId) (xs ys zs : List X) (old new newer : List (ObjectId × KnownState)) (o : ObjectId) (w : Walk last xs ys old new) (behind : IsBehind last o) (first : (q : ObjectId) → IsBehind last q → IsSome (known_at new q) → object_cmp q o ≡ Less → ⊥) (touched : AllTouch told v o ys zs) (here : IsSoundAt told v zs o (known_at newer o)) (others : (q : ObjectId) → q ≢ o → known_at newer q ≡ known_at new q) where
    at_last : ((before : ObjectState) → Awaits told v o ys (known_at new o) before → told → IsCrashImage before (told_at v zs newer o)) → (before : ObjectState) → Awaits told v o xs (known_at old o) before → told → IsCrashImage before (told_at v zs newer o)
    at_last image before awaits t = image before (subst (λ k. Awaits told v o ys k before) (sym (w.known o behind)) (awaits_still o xs ys (known_at old o) before (w.waits o behind) awaits)) t

    passed : (q : ObjectId) → q ≢ o → IsBehind last q → (object_cmp o q ≡ Less → ⊥) → (k : Option KnownState) → known_at new q ≡ k → k ≡ None
    passed q other a late None is = refl
    passed q other a late (Some k) is = absurd (first q a (some_is (known_at new q) k is) (is_before exact o q other late))

    other_done : (q : ObjectId) → q ≢ o → (object_cmp o q ≡ Less → ⊥) → IsBehind last q ⊎ (IsBehind last q → ⊥) → (before : ObjectState) → Awaits told v q xs (known_at old q) before → told → IsCrashImage before (told_at v zs newer q)
    other_done q other late (inl a) before awaits t =
        let none = passed q other a late (known_at new q) refl in
        nothing_there xs ys zs old newer q before (sym (w.known q a) ∙ none) (others q other ∙ none) awaits
    other_done q other late (inr na) before awaits t =
        subst (IsCrashImage before) (sym ((leaves_others v told o ys zs new newer w.sound others here touched).others t q other)) (w.done q na before awaits t)

    all_done : ((before : ObjectState) → Awaits told v o ys (known_at new o) before → told → IsCrashImage before (told_at v zs newer o)) → (q : ObjectId) → (object_cmp o q ≡ Less → ⊥) → (q ≡ o) ⊎ (q ≢ o) → (before : ObjectState) → Awaits told v q xs (known_at old q) before → told → IsCrashImage before (told_at v zs newer q)
    all_done image q late (inl same) = subst (λ r. (before : ObjectState) → Awaits told v r xs (known_at old r) before → told → IsCrashImage before (told_at v zs newer r)) (sym same) (at_last image)
    all_done image q late (inr other) = other_done q other late (after_or last q)

    losses_done : (told → losses_of v zs o ≡ losses_of v ys o) → told → (q : ObjectId) → (q ≡ o) ⊎ (q ≢ o) → losses_of v zs q ≡ losses_of v xs q
    losses_done losses t q (inl same) = subst (λ r. losses_of v zs r ≡ losses_of v xs r) (sym same) (losses t ∙ w.losses t o)
    losses_done losses t q (inr other) = (leaves_others v told o ys zs new newer w.sound others here touched).no_losses t q other ∙ w.losses t q

    differs : (q : ObjectId) → object_cmp o q ≡ Less → q ≢ o
    differs q less same = not_self o (subst (λ r. object_cmp o r ≡ Less) same less)

    pub walk_on : keys_of newer ≡ keys_of new → ((before : ObjectState) → Awaits told v o ys (known_at new o) before → told → IsCrashImage before (told_at v zs newer o)) → (told → losses_of v zs o ≡ losses_of v ys o) → AllLevelled told v o ys zs → Walk (Some o) xs zs old newer
    walk_on keys image losses levelled =
        let all = leaves_others v told o ys zs new newer w.sound others here touched in
        record {
          sound = all.sound;
          keys = keys ∙ w.keys;
          known = λ q less. others q (differs q less) ∙ w.known q (after_both last o q behind less);
          waits = λ q less. untouched_both q o (differs q less) xs ys zs (w.waits q (after_both last o q behind less)) touched;
          done = λ q late. all_done image q late (same_name q o);
          losses = λ t q. losses_done losses t q (same_name q o);
          later = let a = w.later in let b = all.later in omega (arith, a, b);
          each = all_both told v xs ys zs w.each (all_at told v o ys zs touched levelled);
        }

  pub walk_end : (last : Option ObjectId) (xs ys : List X) (old new : List (ObjectId × KnownState)) → Walk last xs ys old new → ((q : ObjectId) → IsBehind last q → known_at new q ≡ None) → (q : ObjectId) (before : ObjectState) → Awaits told v q xs (known_at old q) before → told → IsCrashImage before (told_at v ys new q)
  walk_end last xs ys old new w none q before awaits t = by (after_or last q)
    where
      by : IsBehind last q ⊎ (IsBehind last q → ⊥) → IsCrashImage before (told_at v ys new q)
      by (inl a) = nothing_there xs ys ys old new q before (sym (w.known q a) ∙ none q a) (none q a) awaits
      by (inr na) = w.done q na before awaits t

  pub touch_same : (o : ObjectId) (xs : List X) → AllTouch told v o xs xs
  touch_same o [] = tt
  touch_same o (x ∷ xs) = (record { live = λ l. l; others = λ t q other. refl; no_losses = λ t q other. refl; later = omega arith }, touch_same o xs)

  -- an object that is waited for isn't out
  pub not_out : (q : ObjectId) (ss : List X) (o : Option KnownState) (k : KnownState) (before : ObjectState) (n : ℕ) → o ≡ Some k → n ≡ length ss → (length k.parts ≡ n → ⊥) → told → Awaits told v q ss o before → ⊥
  not_out q ss o k before n is many out t awaits = by before (subst (λ p. Awaits told v q ss p before) is awaits)
    where
      by : (s : ObjectState) → Awaits told v q ss (Some k) s → ⊥
      by Missing a = out (a.places t ∙ sym many)
      by (Kept bytes least) a = out (a.places t ∙ sym many)
      by (Lent m) a = a
