-- What the store tells after a start, by what the members had.
use Rattle.std.proofs.Common.{◌≡◌, ◌≤◌, ◌⊎◌, inl, inr, ◌+◌, ◌<◌, ℕ, zero, suc, List, [], ◌∷◌, length, take, drop, Bool, true, false, is_some, IsSome, Result, Ok, Err, OnOk, Option, Some, None, refl, sym, ◌∙◌, ap, subst, arith, get_or, set}
use Rattle.std.proofs.lemmas.List.{length-take}
use Rattle.std.specs.List.{AllByRecursion, AllZip}
use Rattle.gw_model.specs.declared.object.KeptObject.{KeptObject}
use Rattle.gw_model.specs.declared.object.ObjectId.{ObjectId}
use Rattle.append_store.specs.State.{ObjectState, Missing, Kept, Lent, IsAway, IsCrashImage, IsThere, bytes_of}
use Rattle.append_store.specs.Calls.{Has, HasLength, Lists, MayCreate}
use Rattle.replica_store.specs.Kept.{AllUnused}
use Rattle.replica_store.specs.Objects.{AreSound, told_at}
use Rattle.replica_store.specs.Parts.{PartView}
use Rattle.replica_store.specs.Reopening.{AllUntouched, Awaits, AwaitsLevel, CanLevel, HasFront, IsOutOfNone}
use Rattle.replica_store.specs.Seats.{KnownState, SeatView, AllTakePart, IsCalledAt, IsSoundAt, TakesPart, column, known_at, state_of}
use Rattle.replica_store.specs.Starting.{AllEndure, AllMayAdd, AreCutOf, AreSupplied, Endures, Introduces, IsListedAt, IsStarted, IsSupplied, IsSuppliedAt, MayAdd, MayHave, StartsAs, Upholds}
use Rattle.replica_store.specs.Steps.{AllHave, IsListedBy, Stays}
use Rattle.replica_store.proofs.Asking.{have_all, stays_self}
use Rattle.replica_store.proofs.Enduring.{upholds_same}
use Rattle.replica_store.proofs.Supplying.{may_missing}

pub on_ok : {T E A B : Type 0} (r : Result T E) → (A → B) → OnOk r A → OnOk r B
on_ok (Ok x) step is = step is
on_ok (Err e) step is = tt

pub on_both : {T E A B W : Type 0} (r : Result T E) → (A → B → W) → OnOk r A → OnOk r B → OnOk r W
on_both (Ok x) step one two = step one two
on_both (Err e) step one two = tt

-- up to a place, and there
pub up_to : (P : ℕ → Type 0) (k i : ℕ) → k < i + 1 → ((m : ℕ) → m < i → P m) → P i → P k
up_to P zero zero lt all one = one
up_to P zero (suc i) lt all one = all 0 (omega arith)
up_to P (suc k) zero lt all one = absurd (omega (arith, lt))
up_to P (suc k) (suc i) lt all one = up_to (λ n. P (suc n)) k i (omega (arith, lt)) (λ m l. all (suc m) (omega (arith, l))) one

pub not_on : (b : Bool) → b ≡ false → b ≡ true → ⊥
not_on b off on = let e : false ≡ true = sym off ∙ on in cc

-- a list of names, from a place on
one_left : (all : List KeptObject) (i : ℕ) (d : KeptObject) (q : ObjectId) → i < length all → Has (drop i all) q → ((get_or all i d).object ≡ q) ⊎ Has (drop (i + 1) all) q
one_left [] i d q lt has = absurd (omega (arith, lt))
one_left (k ∷ ks) zero d q lt has = has
one_left (k ∷ ks) (suc i) d q lt has =
    let e : suc (i + 1) ≡ suc i + 1 = omega arith in
    subst (λ m. ((get_or ks i d).object ≡ q) ⊎ Has (drop m (k ∷ ks)) q) e (one_left ks i d q (omega (arith, lt)) has)

none_left : (all : List KeptObject) (i : ℕ) (q : ObjectId) → length all ≤ i → Has (drop i all) q → ⊥
none_left [] zero q le has = has
none_left [] (suc i) q le has = has
none_left (k ∷ ks) zero q le has = absurd (omega (arith, le))
none_left (k ∷ ks) (suc i) q le has = none_left ks i q (omega (arith, le)) has

pub at_name : (P : KeptObject → Type 0) (all : List KeptObject) (i : ℕ) (d : KeptObject) → AllByRecursion P all → i < length all → P (get_or all i d)
at_name P [] i d each lt = absurd (omega (arith, lt))
at_name P (k ∷ ks) zero d each lt = each.0
at_name P (k ∷ ks) (suc i) d each lt = at_name P ks i d each.1 (omega (arith, lt))

is_there : (s : ObjectState) (n : ℕ) → HasLength s n → IsThere s
is_there Missing n has = absurd has
is_there (Kept bytes durable) n has = tt
is_there (Lent m) n has = absurd has

is_missing : (s : ObjectState) → (IsThere s → ⊥) → (IsAway s → ⊥) → s ≡ Missing
is_missing Missing there away = refl
is_missing (Kept bytes durable) there away = absurd (there tt)
is_missing (Lent m) there away = absurd (away tt)

same_lists : (f h : ObjectId → ObjectState) (all : List KeptObject) → ((q : ObjectId) → h q ≡ f q) → Lists f all → Lists h all
same_lists f h all same is = record {
  sound = by all is.sound;
  complete = λ q there. is.complete q (subst IsThere (same q) there);
}
  where
    by : (ks : List KeptObject) → AllByRecursion (λ k. HasLength (f k.object) k.length) ks → AllByRecursion (λ k. HasLength (h k.object) k.length) ks
    by [] each = tt
    by (k ∷ ks) each = (subst (λ s. HasLength s k.length) (sym (same k.object)) each.0, by ks each.1)

each_there : (f : ObjectId → ObjectState) (all : List KeptObject) → Lists f all → AllByRecursion (λ k. IsThere (f k.object)) all
each_there f all is = by all is.sound
  where
    by : (ks : List KeptObject) → AllByRecursion (λ k. HasLength (f k.object) k.length) ks → AllByRecursion (λ k. IsThere (f k.object)) ks
    by [] each = tt
    by (k ∷ ks) each = (is_there (f k.object) k.length each.0, by ks each.1)

still_known : (old new : List (ObjectId × KnownState)) (q : ObjectId) → (known_at new q ≡ None → known_at old q ≡ None) → IsSome (known_at old q) → IsSome (known_at new q)
still_known old new q before some = by (known_at new q) refl
  where
    by : (o : Option KnownState) → known_at new q ≡ o → IsSome (known_at new q)
    by None is = let e = ap is_some (before is) in absurd (cc)
    by (Some k) is = ap is_some is

pub left_on : (all : List KeptObject) (i : ℕ) (d : KeptObject) (old new : List (ObjectId × KnownState)) (q : ObjectId) → i < length all → (known_at new q ≡ None → known_at old q ≡ None) → IsSome (known_at new (get_or all i d).object) → Has (drop i all) q ⊎ IsSome (known_at old q) → Has (drop (i + 1) all) q ⊎ IsSome (known_at new q)
left_on all i d old new q lt before some (inl has) = by (one_left all i d q lt has)
  where
    by : ((get_or all i d).object ≡ q) ⊎ Has (drop (i + 1) all) q → Has (drop (i + 1) all) q ⊎ IsSome (known_at new q)
    by (inl same) = inr (subst (λ r. IsSome (known_at new r)) same some)
    by (inr rest) = inl rest
left_on all i d old new q lt before some (inr known) = inr (still_known old new q before known)

pub left_none : (all : List KeptObject) (i : ℕ) (known : List (ObjectId × KnownState)) (q : ObjectId) → length all ≤ i → Has (drop i all) q ⊎ IsSome (known_at known q) → IsSome (known_at known q)
left_none all i known q le (inl has) = absurd (none_left all i q le has)
left_none all i known q le (inr some) = some

-- a front that is there, or nothing
have_on : (bytes : List ℕ) (a b : ObjectState) → MayCreate a b → MayHave bytes a → MayHave bytes b
have_on bytes a b (inl same) has = subst (MayHave bytes) (sym same) has
have_on bytes Missing b (inr made) has = subst (MayHave bytes) (sym made) refl
have_on bytes (Kept content durable) b (inr made) has = subst (MayHave bytes) (sym made) has
have_on bytes (Lent m) b (inr made) has = absurd has

have_inside : (bytes : List ℕ) (s : ObjectState) → MayHave bytes s → IsAway s → ⊥
have_inside bytes Missing has away = away
have_inside bytes (Kept content durable) has away = away
have_inside bytes (Lent m) has away = has

has_front : (bytes : List ℕ) (s : ObjectState) → IsThere s → MayHave bytes s → HasFront bytes 0 s
has_front bytes Missing there has = absurd there
has_front bytes (Kept content durable) there has = record { content = content; durable = durable; kept = refl; front = record { long = omega arith; front = has } }
has_front bytes (Lent m) there has = absurd there

-- what a member had is a front of what it has then
had_front : (bytes c : List ℕ) (a b z : ObjectState) → MayHave bytes a → MayCreate a b → Upholds b z → bytes_of z ≡ c → MayHave c a
had_front bytes c Missing b z has may held same = tt
had_front bytes c (Kept content durable) b z has may held same =
    let was : b ≡ Kept content durable = may_missing (Kept content durable) b may (λ e. cc) in
    let is = subst (λ s. Upholds s z) was held in
    let whole : is.content ≡ c = sym (ap bytes_of is.kept) ∙ same in
    is.front ∙ ap (λ us. take (length content) us) whole
had_front bytes c (Lent m) b z has may held same = absurd has

adds_endures : (told : Type 0) (s t : SeatView) → ((q : ObjectId) → told → IsAway (s.at q) → ⊥) → MayAdd told s t → Endures told s t
adds_endures told s t inside is = record {
  live = is.live;
  held = λ u q. by (s.at q) (t.at q) (is.may u q) (inside q u);
  losses = is.losses;
  losses_there = is.losses_there;
  later = is.later;
}
  where
    by : (a b : ObjectState) → MayCreate a b → (IsAway a → ⊥) → Upholds a b
    by a b (inl same) out = upholds_same a b same
    by Missing b (inr made) out = λ away. subst IsAway made away
    by (Kept bytes durable) b (inr made) out = upholds_same (Kept bytes durable) b made
    by (Lent m) b (inr made) out = made

module _ {X : Type 0} (told : Type 0) (v : X → SeatView) where
  at_call : (ss : List X) (k : ℕ) (d : X) → k < length ss → IsCalledAt v ss k → (v (get_or ss k d)).live ≡ true
  at_call [] k d lt on = absurd on
  at_call (s ∷ ss) zero d lt on = on
  at_call (s ∷ ss) (suc k) d lt on = at_call ss k d (omega (arith, lt)) on

  at_column : (q : ObjectId) (ss : List X) (k : ℕ) (d : X) → k < length ss → state_of (column v ss q) k ≡ (v (get_or ss k d)).at q
  at_column q [] k d lt = absurd (omega (arith, lt))
  at_column q (s ∷ ss) zero d lt = refl
  at_column q (s ∷ ss) (suc k) d lt = at_column q ss k d (omega (arith, lt))

  at_inside : (q : ObjectId) (ss : List X) (k : ℕ) (d : X) → k < length ss → IsOutOfNone told v q ss → told → IsAway ((v (get_or ss k d)).at q) → ⊥
  at_inside q [] k d lt inside t = absurd (omega (arith, lt))
  at_inside q (s ∷ ss) zero d lt inside t = inside.0 t
  at_inside q (s ∷ ss) (suc k) d lt inside t = at_inside q ss k d (omega (arith, lt)) inside.1 t

  -- one member is asked
  pub asked_inside : (ss : List X) (k : ℕ) (d s : X) → k < length ss → s ≡ get_or ss k d → ((q : ObjectId) → IsOutOfNone told v q ss) → told → (q : ObjectId) → IsAway ((v s).at q) → ⊥
  asked_inside ss k d s lt is inside t q = subst (λ x. IsAway ((v x).at q) → ⊥) (sym is) (at_inside q ss k d lt (inside q) t)

  pub asked_stay : (ss : List X) (k : ℕ) (d s t : X) → k < length ss → s ≡ get_or ss k d → Stays told (v s) (v t) → AllZip (λ x y. Stays told (v x) (v y)) ss (set ss k t)
  asked_stay ss k d s t lt is stays = by ss k lt (subst (λ x. Stays told (v x) (v t)) is stays)
    where
      rest : (xs : List X) → AllZip (λ x y. Stays told (v x) (v y)) xs xs
      rest [] = tt
      rest (x ∷ xs) = (stays_self told (v x), rest xs)

      by : (xs : List X) (i : ℕ) → i < length xs → Stays told (v (get_or xs i d)) (v t) → AllZip (λ x y. Stays told (v x) (v y)) xs (set xs i t)
      by [] i lt one = absurd (omega (arith, lt))
      by (x ∷ xs) zero lt one = (one, rest xs)
      by (x ∷ xs) (suc i) lt one = (stays_self told (v x), by xs i (omega (arith, lt)) one)

  pub asked_lists : (ss : List X) (k : ℕ) (d s : X) (all : List KeptObject) → k < length ss → s ≡ get_or ss k d → IsListedBy told (v s) all → told → Lists (λ q. state_of (column v ss q) k) all
  asked_lists ss k d s all lt is by t = same_lists (v s).at (λ q. state_of (column v ss q) k) all (λ q. at_column q ss k d lt ∙ ap (λ x. (v x).at q) (sym is)) (by.1 t)

  pub asked_off : (ss : List X) (k : ℕ) (t : X) → k < length ss → ((v t).live ≡ true → ⊥) → IsCalledAt v (set ss k t) k → ⊥
  asked_off [] k t lt off on = absurd (omega (arith, lt))
  asked_off (s ∷ ss) zero t lt off on = off on
  asked_off (s ∷ ss) (suc k) t lt off on = asked_off ss k t (omega (arith, lt)) off on

  pub stay_untouched : (q : ObjectId) (xs ys : List X) → AllZip (λ x y. Stays told (v x) (v y)) xs ys → AllUntouched told v q xs ys
  stay_untouched q [] [] is = tt
  stay_untouched q [] (y ∷ ys) is = absurd is
  stay_untouched q (x ∷ xs) [] is = absurd is
  stay_untouched q (x ∷ xs) (y ∷ ys) is = (record { live = is.0.live; same = λ t. is.0.same t q }, stay_untouched q xs ys is.1)

  pub stay_adds : (xs ys : List X) → AllZip (λ x y. Stays told (v x) (v y)) xs ys → AllMayAdd told v xs ys
  stay_adds [] [] is = tt
  stay_adds [] (y ∷ ys) is = absurd is
  stay_adds (x ∷ xs) [] is = absurd is
  stay_adds (x ∷ xs) (y ∷ ys) is = (
    record {
      live = is.0.live;
      may = λ t q. inl (is.0.same t q);
      losses = λ t q. let e = is.0.no_losses t q in omega (arith, e);
      losses_there = λ t q other. is.0.no_losses t q;
      later = is.0.later;
    },
    stay_adds xs ys is.1,
  )

  untouched_state : (q : ObjectId) (xs ys : List X) (k : ℕ) → AllUntouched told v q xs ys → told → state_of (column v ys q) k ≡ state_of (column v xs q) k
  untouched_state q [] [] k is t = refl
  untouched_state q [] (y ∷ ys) k is t = absurd is
  untouched_state q (x ∷ xs) [] k is t = absurd is
  untouched_state q (x ∷ xs) (y ∷ ys) zero is t = is.0.same t
  untouched_state q (x ∷ xs) (y ∷ ys) (suc k) is t = untouched_state q xs ys k is.1 t

  untouched_called : (q : ObjectId) (xs ys : List X) (k : ℕ) → AllUntouched told v q xs ys → IsCalledAt v ys k → IsCalledAt v xs k
  untouched_called q [] [] k is on = on
  untouched_called q [] (y ∷ ys) k is on = absurd is
  untouched_called q (x ∷ xs) [] k is on = absurd is
  untouched_called q (x ∷ xs) (y ∷ ys) zero is on = is.0.live on
  untouched_called q (x ∷ xs) (y ∷ ys) (suc k) is on = untouched_called q xs ys k is.1 on

  state_inside : (q : ObjectId) (xs : List X) (k : ℕ) → IsOutOfNone told v q xs → told → IsAway (state_of (column v xs q) k) → ⊥
  state_inside q [] k inside t away = away
  state_inside q (x ∷ xs) zero inside t away = inside.0 t away
  state_inside q (x ∷ xs) (suc k) inside t away = state_inside q xs k inside.1 t away

  -- a member that was asked has what it told
  pub told_there : (xs ys : List X) (k : ℕ) (all : List KeptObject) → AllZip (λ x y. Stays told (v x) (v y)) xs ys → told → Lists (λ q. state_of (column v xs q) k) all → AllByRecursion (λ m. IsThere (state_of (column v ys m.object) k)) all
  told_there xs ys k all stay t lists = by all (each_there (λ q. state_of (column v xs q) k) all lists)
    where
      by : (ks : List KeptObject) → AllByRecursion (λ m. IsThere (state_of (column v xs m.object) k)) ks → AllByRecursion (λ m. IsThere (state_of (column v ys m.object) k)) ks
      by [] each = tt
      by (m ∷ ks) each = (subst IsThere (sym (untouched_state m.object xs ys k (stay_untouched m.object xs ys stay) t)) each.0, by ks each.1)

  -- what isn't in the list isn't in a member whose objects were entered
  pub listed_now : (xs ys zs : List X) (new : List (ObjectId × KnownState)) (k : ℕ) (all : List KeptObject) → AllZip (λ x y. Stays told (v x) (v y)) xs ys → (told → Lists (λ q. state_of (column v xs q) k) all) → ((q : ObjectId) → IsOutOfNone told v q xs) → ((q : ObjectId) → Has all q → IsSome (known_at new q)) → ((q : ObjectId) → known_at new q ≡ None → AllUntouched told v q ys zs) → IsListedAt told v zs new k
  listed_now xs ys zs new k all stay lists inside entered rest q none t on =
      untouched_state q ys zs k (rest q none) t
      ∙ untouched_state q xs ys k (stay_untouched q xs ys stay) t
      ∙ is_missing (state_of (column v xs q) k) (λ there. let e = entered q ((lists t).complete q there) in let f = ap is_some none in cc) (state_inside q xs k (inside q) t)

  -- and so it stays
  pub listed_still : (ys zs : List X) (old new : List (ObjectId × KnownState)) (k : ℕ) → Introduces told v ys zs old new → IsListedAt told v ys old k → IsListedAt told v zs new k
  listed_still ys zs old new k is listed q none t on =
      untouched_state q ys zs k (is.rest q none) t ∙ listed q (is.before q none) t (untouched_called q ys zs k (is.rest q none) on)

  -- the list and the members go together
  unused_all : (q : ObjectId) (ys : List X) → ((k : ℕ) → k < length ys → told → IsCalledAt v ys k → state_of (column v ys q) k ≡ Missing) → IsOutOfNone told v q ys → AllUnused told v q ys
  unused_all q [] listed inside = tt
  unused_all q (y ∷ ys) listed inside = (
    record { missing = λ t live. listed 0 (omega arith) t live; inside = inside.0 },
    unused_all q ys (λ k lt. listed (suc k) (omega (arith, lt))) inside.1,
  )

  zip_parts : (ys : List X) (ps : List PartView) → length ps ≡ length ys → AllByRecursion (λ p. p.live ≡ true) ps → AllZip (λ s p. TakesPart (v s) p) ys ps
  zip_parts [] [] same live = tt
  zip_parts [] (p ∷ ps) same live = absurd (omega (arith, same))
  zip_parts (y ∷ ys) [] same live = absurd (omega (arith, same))
  zip_parts (y ∷ ys) (p ∷ ps) same live = (λ on. live.0, zip_parts ys ps (omega (arith, same)) live.1)

  take_part : (ys : List X) (ps : List PartView) → length ps ≡ length ys → AllByRecursion (λ p. p.live ≡ true) ps → AllTakePart v ys ps
  take_part ys [] same live = tt
  take_part ys (p ∷ ps) same live = zip_parts ys (p ∷ ps) same live

  pub listed_sound : (ys : List X) (known : List (ObjectId × KnownState)) → AreSupplied told v ys known → ((k : ℕ) → k < length ys → IsListedAt told v ys known k) → ((q : ObjectId) → IsOutOfNone told v q ys) → AreSound told v ys known
  listed_sound ys known supplied listed inside q = by (known_at known q) refl (supplied q)
    where
      by : (o : Option KnownState) → known_at known q ≡ o → IsSuppliedAt told v q ys (known_at known q) → IsSoundAt told v ys q (known_at known q)
      by None is all = subst (IsSoundAt told v ys q) (sym is) (unused_all q ys (λ k lt t on. listed k lt q is t on) (inside q))
      by (Some k) is all = let s = subst (IsSuppliedAt told v q ys) is all in subst (IsSoundAt told v ys q) (sym is) (take_part ys k.parts s.places s.parts)

  pub supplied_can : (q : ObjectId) (ys : List X) (o : Option KnownState) → IsSuppliedAt told v q ys o → CanLevel told v q ys o
  supplied_can q ys None all = tt
  supplied_can q ys (Some k) all = all.there

  pub all_endure : (xs ys : List X) → ((q : ObjectId) → IsOutOfNone told v q xs) → AllMayAdd told v xs ys → AllEndure told v xs ys
  all_endure [] [] inside is = tt
  all_endure [] (y ∷ ys) inside is = absurd is
  all_endure (x ∷ xs) [] inside is = absurd is
  all_endure (x ∷ xs) (y ∷ ys) inside is = (adds_endures told (v x) (v y) (λ q. (inside q).0) is.0, all_endure xs ys (λ q. (inside q).1) is.1)

  module _ (q : ObjectId) (bytes : List ℕ) (t : told) where
    have_each : (xs ys : List X) → AllMayAdd told v xs ys → AllByRecursion (λ s. MayHave bytes ((v s).at q)) xs → AllByRecursion (λ s. MayHave bytes ((v s).at q)) ys
    have_each [] [] is has = tt
    have_each [] (y ∷ ys) is has = absurd is
    have_each (x ∷ xs) [] is has = absurd is
    have_each (x ∷ xs) (y ∷ ys) is has = (have_on bytes ((v x).at q) ((v y).at q) (is.0.may t q) has.0, have_each xs ys is.1 has.1)

    have_state : (ys : List X) (k : ℕ) → AllByRecursion (λ s. MayHave bytes ((v s).at q)) ys → MayHave bytes (state_of (column v ys q) k)
    have_state [] k has = tt
    have_state (y ∷ ys) zero has = has.0
    have_state (y ∷ ys) (suc k) has = have_state ys k has.1

    have_fronts : (ys : List X) → AllByRecursion (λ s. told → (v s).live ≡ true → IsThere ((v s).at q)) ys → AllByRecursion (λ s. MayHave bytes ((v s).at q)) ys → AllByRecursion (λ s. (v s).live ≡ true → told → HasFront bytes 0 ((v s).at q)) ys
    have_fronts [] there has = tt
    have_fronts (y ∷ ys) there has = (λ live u. has_front bytes ((v y).at q) (there.0 u live) has.0, have_fronts ys there.1 has.1)

    have_inside_all : (ys : List X) → AllByRecursion (λ s. MayHave bytes ((v s).at q)) ys → IsOutOfNone told v q ys
    have_inside_all [] has = tt
    have_inside_all (y ∷ ys) has = (λ u. have_inside bytes ((v y).at q) has.0, have_inside_all ys has.1)

    awaits : (xs ys : List X) (k : KnownState) → AllMayAdd told v xs ys → AreCutOf v q bytes xs → IsSupplied told v q ys k → AwaitsLevel told v q bytes 0 ys k
    awaits xs ys k adds cut all =
        let has = have_each xs ys adds cut.fronts in
        record {
          chief = λ u. has_front bytes (state_of (column v ys q) k.chief) (all.chief u) (have_state ys k.chief has);
          fronts = have_fronts ys all.there has;
          inside = have_inside_all ys has;
          places = λ u. all.places;
          low = λ u. cut.low;
        }

    most_of : (c : List ℕ) (xs ys zs : List X) → AllByRecursion (λ s. MayHave bytes ((v s).at q)) xs → AllMayAdd told v xs ys → AllEndure told v ys zs → AllHave v q c zs → AllZip (λ s u. (v u).live ≡ true → MayHave c ((v s).at q)) xs zs
    most_of c [] [] [] has adds held all = tt
    most_of c [] [] (z ∷ zs) has adds held all = absurd held
    most_of c [] (y ∷ ys) zs has adds held all = absurd adds
    most_of c (x ∷ xs) [] zs has adds held all = absurd adds
    most_of c (x ∷ xs) (y ∷ ys) [] has adds held all = absurd held
    most_of c (x ∷ xs) (y ∷ ys) (z ∷ zs) has adds held all = (
      λ live. had_front bytes c ((v x).at q) ((v y).at q) ((v z).at q) has.0 (adds.0.may t q) (held.0.held t q) (all.0 live),
      most_of c xs ys zs has.1 adds.1 held.1 all.1,
    )

    none_had : (xs ys zs : List X) → AllUntouched told v q xs ys → AllUnused told v q ys → AllEndure told v ys zs → AllZip (λ s u. (v u).live ≡ true → (v s).at q ≡ Missing) xs zs
    none_had [] [] [] same none held = tt
    none_had [] [] (z ∷ zs) same none held = absurd held
    none_had [] (y ∷ ys) zs same none held = absurd same
    none_had (x ∷ xs) [] zs same none held = absurd same
    none_had (x ∷ xs) (y ∷ ys) [] same none held = absurd held
    none_had (x ∷ xs) (y ∷ ys) (z ∷ zs) same none held = (
      λ live. sym (same.0.same t) ∙ none.0.missing t (held.0.live live),
      none_had xs ys zs same.1 none.1 held.1,
    )

    -- what the store tells then
    module _ (xs ys zs : List X) (old new newer : List (ObjectId × KnownState)) (empty : known_at old q ≡ None) (adds : AllMayAdd told v xs ys) (made : Introduces told v xs ys old new) (supplied : AreSupplied told v ys new) (sound : AreSound told v ys new) (held : AllEndure told v ys zs) (level : AreSound told v zs newer) (image : (before : ObjectState) → Awaits told v q ys (known_at new q) before → IsCrashImage before (told_at v zs newer q)) (cut : AreCutOf v q bytes xs) where
      as_kept : (k : KnownState) → known_at new q ≡ Some k → StartsAs v q bytes xs zs (told_at v zs newer q)
      as_kept k is =
          let wait : Awaits told v q ys (known_at new q) (Kept bytes 0) = subst (λ o. Awaits told v q ys o (Kept bytes 0)) (sym is) (awaits xs ys k adds cut (subst (IsSuppliedAt told v q ys) is (supplied q))) in
          let now = image (Kept bytes 0) wait in
          let n = now.0 in
          let within = now.2 in
          let long : length (take n bytes) ≡ n = let e = length-take n bytes in omega (arith, e, within) in
          let there : told → IsThere (told_at v zs newer q) = λ u. subst IsThere (sym now.3) tt in
          let all : AllHave v q (take n bytes) zs = subst (λ b. AllHave v q b zs) (ap bytes_of now.3) (have_all v told q zs newer level there t) in
          let started : IsStarted v q bytes xs zs (take n bytes) n = record {
            front = ap (λ m. take m bytes) (sym long);
            all = sym long;
            most = most_of (take n bytes) xs ys zs cut.fronts adds held all;
            from = made.from t q empty (λ none. let e : None ≡ Some k = sym none ∙ is in cc);
          } in
          subst (StartsAs v q bytes xs zs) (sym now.3) started

      as_missing : known_at new q ≡ None → StartsAs v q bytes xs zs (told_at v zs newer q)
      as_missing is =
          let now : told_at v zs newer q ≡ Missing = image Missing (subst (λ o. Awaits told v q ys o Missing) (sym is) refl) in
          subst (StartsAs v q bytes xs zs) (sym now) (none_had xs ys zs (made.rest q is) (subst (IsSoundAt told v ys q) is (sound q)) held)

      pub starts_as : StartsAs v q bytes xs zs (told_at v zs newer q)
      starts_as = by (known_at new q) refl
        where
          by : (o : Option KnownState) → known_at new q ≡ o → StartsAs v q bytes xs zs (told_at v zs newer q)
          by None is = as_missing is
          by (Some k) is = as_kept k is
