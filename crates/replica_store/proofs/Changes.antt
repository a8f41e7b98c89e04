-- What a call that touches one object leaves of the others.
use Rattle.std.proofs.Common.{◌≡◌, ◌≢◌, ◌≤◌, ◌⊎◌, inl, inr, ℕ, ◌<◌, Bool, true, false, eqb, eqb-true, List, [], ◌∷◌, Option, Some, None, IfNone, refl, sym, ◌∙◌, ap, subst, arith, sum_by}
use Rattle.std.proofs.lemmas.List.Sums.{sum_by-cons}
use Rattle.std.specs.List.{AllByRecursion, AllZip}
use Rattle.gw_model.specs.declared.object.ObjectId.{ObjectId}
use Rattle.gw_model.specs.declared.object.ObjectId.TheVariants.{Log, Body}
use Rattle.append_store.specs.State.{IsAway}
use Rattle.replica_store.specs.Parts.{PartView, live_of, one_if}
use Rattle.replica_store.specs.Seats.{SeatView, KnownState, AllTakePart, TakesPart, IsSoundAt, called_of, column, counts_of, known_at, losses_of, told_of}
use Rattle.replica_store.specs.Kept.{AllTouch, AllUnused, NoneCalled}
use Rattle.replica_store.specs.Objects.{AreSound, LeavesOtherObjects}
use Rattle.replica_store.proofs.Pairs.{weaker_pairs}
use Rattle.replica_store.proofs.Told.{column_same}

-- names are the same or not
number : (m n : ℕ) (b : Bool) → eqb m n ≡ b → (m ≡ n) ⊎ (m ≢ n)
number m n true is = inl (eqb-true m n is)
number m n false is = inr (λ same. let e = eqb_self n in let f = subst (λ k. eqb k n ≡ false) same is in absurd (cc))
  where
    eqb_self : (x : ℕ) → eqb x x ≡ true
    eqb_self x = grind arith

log_number : (m n : ℕ) → Log m ≡ Log n → m ≡ n
log_number m n same = cc

body_file : (a b c d : ℕ) → Body a b ≡ Body c d → a ≡ c
body_file a b c d same = cc

body_version : (a b c d : ℕ) → Body a b ≡ Body c d → b ≡ d
body_version a b c d same = cc

pub same_name : (a b : ObjectId) → (a ≡ b) ⊎ (a ≢ b)
same_name (Log m) (Log n) = by (number m n (eqb m n) refl)
  where
    by : (m ≡ n) ⊎ (m ≢ n) → (Log m ≡ Log n) ⊎ (Log m ≢ Log n)
    by (inl same) = inl (ap Log same)
    by (inr other) = inr (λ e. other (log_number m n e))
same_name (Log m) (Body a b) = inr (λ e. cc)
same_name (Body a b) (Log m) = inr (λ e. cc)
same_name (Body a b) (Body c d) = by (number a c (eqb a c) refl) (number b d (eqb b d) refl)
  where
    by : (a ≡ c) ⊎ (a ≢ c) → (b ≡ d) ⊎ (b ≢ d) → (Body a b ≡ Body c d) ⊎ (Body a b ≢ Body c d)
    by (inl one) (inl two) = inl (ap (λ x. Body x b) one ∙ ap (Body c) two)
    by (inr one) two = inr (λ e. one (body_file a b c d e))
    by (inl one) (inr two) = inr (λ e. two (body_version a b c d e))

module _ {X : Type 0} where
  pub sum_same : (f : X → ℕ) (xs ys : List X) → AllZip (λ x y. f y ≡ f x) xs ys → sum_by f ys ≡ sum_by f xs
  sum_same f [] [] is = refl
  sum_same f [] (y ∷ ys) is = absurd is
  sum_same f (x ∷ xs) [] is = absurd is
  sum_same f (x ∷ xs) (y ∷ ys) is = let a = is.0 in let b = sum_same f xs ys is.1 in omega (arith, a, b, sum_by-cons f x xs, sum_by-cons f y ys)

  pub sum_later : (f : X → ℕ) (xs ys : List X) → AllZip (λ x y. f x ≤ f y) xs ys → sum_by f xs ≤ sum_by f ys
  sum_later f [] [] is = omega arith
  sum_later f [] (y ∷ ys) is = absurd is
  sum_later f (x ∷ xs) [] is = absurd is
  sum_later f (x ∷ xs) (y ∷ ys) is = let a = is.0 in let b = sum_later f xs ys is.1 in omega (arith, a, b, sum_by-cons f x xs, sum_by-cons f y ys)

-- who is called
one_more : (a b : Bool) → (b ≡ true → a ≡ true) → one_if b ≤ one_if a
one_more true true is = omega arith
one_more true false is = omega arith
one_more false true is = let e = is refl in absurd (cc)
one_more false false is = omega arith

-- where none was given there are few
none_live_of : (ps : List PartView) → AllByRecursion (λ p. p.live ≡ false) ps → live_of ps ≡ 0
none_live_of [] none = refl
none_live_of (p ∷ ps) none = let a = ap one_if none.0 in let b = none_live_of ps none.1 in omega (arith, a, b, sum_by-cons (λ r. one_if r.live) p ps)

pub few_live : (lead : Option ℕ) (ps : List PartView) (quorum : ℕ) → 0 < quorum → IfNone lead (AllByRecursion (λ p. p.live ≡ false) ps) → IfNone lead (live_of ps < quorum)
few_live None ps quorum some none = let e = none_live_of ps none in omega (arith, some, e)
few_live (Some k) ps quorum some none = tt

module _ {X : Type 0} (v : X → SeatView) where
  pub none_are_called : (ss : List X) → NoneCalled v ss → called_of v ss ≡ 0
  none_are_called [] none = refl
  none_are_called (s ∷ ss) none = let a = ap one_if none.0 in let b = none_are_called ss none.1 in omega (arith, a, b, sum_by-cons (λ s. one_if (v s).live) s ss)

  pub fewer_called : (ss : List X) (ps : List PartView) → AllZip (λ s p. TakesPart (v s) p) ss ps → called_of v ss ≤ sum_by (λ p. one_if p.live) ps
  fewer_called [] [] is = omega arith
  fewer_called [] (p ∷ ps) is = absurd is
  fewer_called (s ∷ ss) [] is = absurd is
  fewer_called (s ∷ ss) (p ∷ ps) is = let a = one_more p.live (v s).live is.0 in let b = fewer_called ss ps is.1 in omega (arith, a, b, sum_by-cons (λ s. one_if (v s).live) s ss, sum_by-cons (λ p. one_if p.live) p ps)

  module _ (told : Type 0) (object : ObjectId) where
    pub touch_column : (xs ys : List X) → AllTouch told v object xs ys → told → (q : ObjectId) → q ≢ object → column v ys q ≡ column v xs q
    touch_column xs ys is t q other = column_same v q xs ys (weaker_pairs _ _ (λ x y r. r.others t q other) xs ys is)

    pub touch_losses : (xs ys : List X) → AllTouch told v object xs ys → told → (q : ObjectId) → q ≢ object → losses_of v ys q ≡ losses_of v xs q
    touch_losses xs ys is t q other = sum_same (λ s. (v s).losses q) xs ys (weaker_pairs _ _ (λ x y r. r.no_losses t q other) xs ys is)

    pub touch_counts : (xs ys : List X) → AllTouch told v object xs ys → counts_of v xs ≤ counts_of v ys
    touch_counts xs ys is = sum_later (λ s. (v s).count) xs ys (weaker_pairs _ _ (λ x y r. r.later) xs ys is)

    unused_still : (q : ObjectId) → q ≢ object → (xs ys : List X) → AllTouch told v object xs ys → AllUnused told v q xs → AllUnused told v q ys
    unused_still q other [] [] is all = tt
    unused_still q other [] (y ∷ ys) is all = absurd is
    unused_still q other (x ∷ xs) [] is all = absurd is
    unused_still q other (x ∷ xs) (y ∷ ys) is all = (
      record {
        missing = λ t live. is.0.others t q other ∙ all.0.missing t (is.0.live live);
        inside = λ t away. all.0.inside t (subst IsAway (is.0.others t q other) away);
      },
      unused_still q other xs ys is.1 all.1,
    )

    part_still : (xs ys : List X) (ps : List PartView) → AllTouch told v object xs ys → AllZip (λ s p. TakesPart (v s) p) xs ps → AllZip (λ s p. TakesPart (v s) p) ys ps
    part_still [] [] ps is all = all
    part_still [] (y ∷ ys) ps is all = absurd is
    part_still (x ∷ xs) [] ps is all = absurd is
    part_still (x ∷ xs) (y ∷ ys) [] is all = absurd all
    part_still (x ∷ xs) (y ∷ ys) (p ∷ ps) is all = (λ live. all.0 (is.0.live live), part_still xs ys ps is.1 all.1)

    pub takes_still : (xs ys : List X) (ps : List PartView) → AllTouch told v object xs ys → AllTakePart v xs ps → AllTakePart v ys ps
    takes_still xs ys [] is all = tt
    takes_still xs ys (p ∷ ps) is all = part_still xs ys (p ∷ ps) is all

    sound_still : (q : ObjectId) → q ≢ object → (xs ys : List X) (k : Option KnownState) → AllTouch told v object xs ys → IsSoundAt told v xs q k → IsSoundAt told v ys q k
    sound_still q other xs ys None is all = unused_still q other xs ys is all
    sound_still q other xs ys (Some k) is all = takes_still xs ys k.parts is all

    sound_at : (xs ys : List X) (old new : List (ObjectId × KnownState)) → AreSound told v xs old → ((q : ObjectId) → q ≢ object → known_at new q ≡ known_at old q) → IsSoundAt told v ys object (known_at new object) → AllTouch told v object xs ys → (q : ObjectId) → (q ≡ object) ⊎ (q ≢ object) → IsSoundAt told v ys q (known_at new q)
    sound_at xs ys old new sound others here is q (inl same) = subst (λ r. IsSoundAt told v ys r (known_at new r)) (sym same) here
    sound_at xs ys old new sound others here is q (inr other) = subst (IsSoundAt told v ys q) (sym (others q other)) (sound_still q other xs ys (known_at old q) is (sound q))

    pub leaves_others : (xs ys : List X) (old new : List (ObjectId × KnownState)) → AreSound told v xs old → ((q : ObjectId) → q ≢ object → known_at new q ≡ known_at old q) → IsSoundAt told v ys object (known_at new object) → AllTouch told v object xs ys → LeavesOtherObjects told v object xs ys old new
    leaves_others xs ys old new sound others here is = record {
      sound = λ q. sound_at xs ys old new sound others here is q (same_name q object);
      others = λ t q other. ap (λ o. told_of o (column v ys q)) (others q other) ∙ ap (told_of (known_at old q)) (touch_column xs ys is t q other);
      no_losses = touch_losses xs ys is;
      later = touch_counts xs ys is;
    }
