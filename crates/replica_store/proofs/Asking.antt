-- A call that goes on from member to member until one answers.
use Rattle.std.proofs.Common.{◌≡◌, ◌≤◌, inl, inr, ℕ, zero, suc, ◌<◌, Bool, true, false, not, if◌then◌else◌, List, [], ◌∷◌, length, min, Option, Some, None, Result, Ok, Err, IfOk, refl, sym, ◌∙◌, ap, subst, arith, get_or}
use Rattle.std.specs.List.{AllByRecursion, AllZip}
use Rattle.gw_model.specs.declared.object.KeptObject.{KeptObject}
use Rattle.gw_model.specs.declared.object.ObjectId.{ObjectId}
use Rattle.append_store.specs.State.{ObjectState, Missing, Kept, Lent, IsAway, IsThere, bytes_of}
use Rattle.append_store.specs.Calls.{HasLength, Lists}
use Rattle.replica_store.specs.Parts.{PartView}
use Rattle.replica_store.specs.Seats.{SeatView, KnownState, AllTakePart, IsSoundAt, TakesPart, are_copies, column, counts_of, has_no_member, known_at, losses_of, none_live, state_of, told_by, told_of}
use Rattle.replica_store.specs.Steps.{AllHave, IsListedBy, SomeSeat, Stays}
use Rattle.replica_store.specs.Kept.{AllTouch, AllUnused}
use Rattle.replica_store.specs.Objects.{AreSound, told_at}
use Rattle.replica_store.proofs.Pairs.{UpTo, weaker_pairs}
use Rattle.replica_store.proofs.Told.{AllFit, both, column_same, copies_fit, kept_told, told_kept}
use Rattle.replica_store.proofs.Changes.{sum_same, sum_later, takes_still}
use Rattle.replica_store.proofs.Deleting.{there_each, under, zip_many, zip_part}
use Rattle.replica_store.proofs.Taking.{held_each}

pub with_ok : {T E : Type 0} (P Q : T → Type 0) (r : Result T E) → ((x : T) → P x → Q x) → IfOk r P → IfOk r Q
with_ok P Q (Ok x) step is = step x is
with_ok P Q (Err e) step is = tt

pub stays_self : (told : Type 0) (s : SeatView) → Stays told s s
stays_self told s = record { live = λ live. live; same = λ t q. refl; no_losses = λ t q. refl; later = omega arith }

module _ {X : Type 0} where
  -- what is so of the next one was so of some at the start
  some_of : (R : X → X → Type 0) (P : X → Type 0) (i : ℕ) (xs ys : List X) (d : X) → UpTo R i xs ys → i < length ys → P (get_or ys i d) → SomeSeat P xs
  some_of R P zero xs [] d is lt here = absurd (omega (arith, lt))
  some_of R P zero [] (y ∷ ys) d is lt here = let n = ap length is in absurd (omega (arith, n))
  some_of R P zero (x ∷ xs) (y ∷ ys) d is lt here = inl (subst P (ap (λ zs. get_or zs 0 d) is) here)
  some_of R P (suc i) [] [] d is lt here = absurd (omega (arith, lt))
  some_of R P (suc i) [] (y ∷ ys) d is lt here = absurd is
  some_of R P (suc i) (x ∷ xs) [] d is lt here = absurd is
  some_of R P (suc i) (x ∷ xs) (y ∷ ys) d is lt here = inr (some_of R P i xs ys d is.1 (omega (arith, lt)) here)

  pub some_next : (R : X → X → Type 0) (P : X → Type 0) (i : ℕ) (start old ys : List X) (d : X) → UpTo R i start ys → start ≡ old → i < length ys → P (get_or ys i d) → SomeSeat P old
  some_next R P i start old ys d is same lt here = subst (SomeSeat P) same (some_of R P i start ys d is lt here)

  pub news_are : (R : X → X → Type 0) (Q : X → Type 0) → ((x y : X) → R x y → Q y) → (xs ys : List X) → AllZip R xs ys → AllByRecursion Q ys
  news_are R Q step [] [] is = tt
  news_are R Q step [] (y ∷ ys) is = absurd is
  news_are R Q step (x ∷ xs) [] is = absurd is
  news_are R Q step (x ∷ xs) (y ∷ ys) is = (step x y is.0, news_are R Q step xs ys is.1)

  swap_all : {A : Type 0} (P : A → X → Type 0) (xs : List X) → ((a : A) → AllByRecursion (P a) xs) → AllByRecursion (λ x. (a : A) → P a x) xs
  swap_all P [] all = tt
  swap_all P (x ∷ xs) all = (λ a. (all a).0, swap_all P xs (λ a. (all a).1))

module _ {X : Type 0} (v : X → SeatView) (told : Type 0) where
  abbrev pub AllStay : List X → List X → Type 0
  AllStay xs ys = AllZip (λ s t. Stays told (v s) (v t)) xs ys

  stay_touch : (object : ObjectId) (xs ys : List X) → AllStay xs ys → AllTouch told v object xs ys
  stay_touch object xs ys is = weaker_pairs _ _ (λ x y r. record { live = r.live; others = λ t q other. r.same t q; no_losses = λ t q other. r.no_losses t q; later = r.later }) xs ys is

  stay_column : (xs ys : List X) → AllStay xs ys → told → (q : ObjectId) → column v ys q ≡ column v xs q
  stay_column xs ys is t q = column_same v q xs ys (weaker_pairs _ _ (λ x y r. r.same t q) xs ys is)

  pub stay_told : (xs ys : List X) (known : List (ObjectId × KnownState)) → AllStay xs ys → told → (q : ObjectId) → told_at v ys known q ≡ told_at v xs known q
  stay_told xs ys known is t q = ap (told_of (known_at known q)) (stay_column xs ys is t q)

  pub stay_losses : (xs ys : List X) → AllStay xs ys → told → (q : ObjectId) → losses_of v ys q ≡ losses_of v xs q
  stay_losses xs ys is t q = sum_same (λ s. (v s).losses q) xs ys (weaker_pairs _ _ (λ x y r. r.no_losses t q) xs ys is)

  pub stay_counts : (xs ys : List X) → AllStay xs ys → counts_of v xs ≤ counts_of v ys
  stay_counts xs ys is = sum_later (λ s. (v s).count) xs ys (weaker_pairs _ _ (λ x y r. r.later) xs ys is)

  unused_stay : (q : ObjectId) (xs ys : List X) → AllStay xs ys → AllUnused told v q xs → AllUnused told v q ys
  unused_stay q [] [] is all = tt
  unused_stay q [] (y ∷ ys) is all = absurd is
  unused_stay q (x ∷ xs) [] is all = absurd is
  unused_stay q (x ∷ xs) (y ∷ ys) is all = (
    record {
      missing = λ t live. is.0.same t q ∙ all.0.missing t (is.0.live live);
      inside = λ t away. all.0.inside t (subst IsAway (is.0.same t q) away);
    },
    unused_stay q xs ys is.1 all.1,
  )

  sound_at : (q : ObjectId) (xs ys : List X) (o : Option KnownState) → AllStay xs ys → IsSoundAt told v xs q o → IsSoundAt told v ys q o
  sound_at q xs ys None is all = unused_stay q xs ys is all
  sound_at q xs ys (Some k) is all = takes_still v told q xs ys k.parts (stay_touch q xs ys is) all

  pub stay_sound : (xs ys : List X) (known : List (ObjectId × KnownState)) → AllStay xs ys → AreSound told v xs known → AreSound told v ys known
  stay_sound xs ys known is sound = λ q. sound_at q xs ys (known_at known q) is (sound q)

-- what a member that is called has, and what the store tells
pub record Sees (a b : ObjectState) : Type 0 where
  pub length : (n : ℕ) → HasLength a n → HasLength b n
  pub there : IsThere b → IsThere a
  pub inside : IsAway a → ⊥

sees_none : (a : ObjectState) → a ≡ Missing → Sees a Missing
sees_none a is = record {
  length = λ n has. subst (λ s. HasLength s n) is has;
  there = λ there. absurd there;
  inside = λ away. subst IsAway is away;
}

sees_copy : (a : ObjectState) (bytes : List ℕ) (e d : ℕ) → a ≡ Kept bytes e → Sees a (Kept bytes d)
sees_copy a bytes e d is = record {
  length = λ n has. subst (λ s. HasLength s n) is has;
  there = λ there. subst IsThere (sym is) tt;
  inside = λ away. subst IsAway is away;
}

map_all : {X : Type 0} (P Q : X → Type 0) → ((x : X) → P x → Q x) → (xs : List X) → AllByRecursion P xs → AllByRecursion Q xs
map_all P Q step [] all = tt
map_all P Q step (x ∷ xs) all = (step x all.0, map_all P Q step xs all.1)

module _ {X : Type 0} (v : X → SeatView) (told : Type 0) where
  off_each : (Q : X → Type 0) (xs : List X) (ps : List PartView) → none_live ps ≡ true → AllZip (λ s p. TakesPart (v s) p) xs ps → AllByRecursion (λ s. (v s).live ≡ true → Q s) xs
  off_each Q [] [] off part = tt
  off_each Q [] (p ∷ ps) off part = absurd part
  off_each Q (x ∷ xs) [] off part = absurd part
  off_each Q (x ∷ xs) (p ∷ ps) off part =
      let b = both (not p.live) (none_live ps) off in
      (λ live. let on = part.0 live in let o = b.0 in absurd (cc), off_each Q xs ps b.1 part.1)

  up_each : (Q : X → Type 0) (xs : List X) (ps : List PartView) → has_no_member ps ≡ true → AllTakePart v xs ps → AllByRecursion (λ s. (v s).live ≡ true → Q s) xs
  up_each Q xs [] up part = absurd (cc)
  up_each Q xs (p ∷ ps) up part = off_each Q xs (p ∷ ps) up part

  copies_each : (q : ObjectId) (bytes : List ℕ) (synced d : ℕ) (xs : List X) (ps : List PartView) → AllFit v q bytes synced xs ps → AllZip (λ s p. TakesPart (v s) p) xs ps → AllByRecursion (λ s. (v s).live ≡ true → Sees ((v s).at q) (Kept bytes d)) xs
  copies_each q bytes synced d [] [] fit part = tt
  copies_each q bytes synced d [] (p ∷ ps) fit part = absurd fit
  copies_each q bytes synced d (x ∷ xs) [] fit part = absurd fit
  copies_each q bytes synced d (x ∷ xs) (p ∷ ps) fit part = (λ live. let c = fit.0.copy (part.0 live) in sees_copy ((v x).at q) bytes c.durable d c.kept, copies_each q bytes synced d xs ps fit.1 part.1)

  unused_each : (q : ObjectId) (xs : List X) → told → AllUnused told v q xs → AllByRecursion (λ s. (v s).live ≡ true → Sees ((v s).at q) Missing) xs
  unused_each q [] t all = tt
  unused_each q (x ∷ xs) t all = (λ live. sees_none ((v x).at q) (all.0.missing t live), unused_each q xs t all.1)

  abbrev AllSee : ObjectId → List X → ObjectState → Type 0
  AllSee q xs b = AllByRecursion (λ s. (v s).live ≡ true → Sees ((v s).at q) b) xs

  see_some : (q : ObjectId) (xs : List X) (k : KnownState) → AllTakePart v xs k.parts → (s : ObjectState) → (IsAway (told_by k (column v xs q) s) → ⊥) → AllSee q xs (told_by k (column v xs q) s)
  see_some q xs k part Missing none = by (has_no_member k.parts) refl none
    where
      by : (b : Bool) → has_no_member k.parts ≡ b → (IsAway (if b then Missing else Lent []) → ⊥) → AllSee q xs (if b then Missing else Lent [])
      by true up out = up_each (λ s. Sees ((v s).at q) Missing) xs k.parts up part
      by false up out = absurd (out tt)
  see_some q xs k part (Kept bytes durable) none = by (are_copies bytes k.synced k.parts (column v xs q)) refl none
    where
      by : (b : Bool) → are_copies bytes k.synced k.parts (column v xs q) ≡ b → (IsAway (if b then Kept bytes (min k.synced (length bytes)) else Lent []) → ⊥) → AllSee q xs (if b then Kept bytes (min k.synced (length bytes)) else Lent [])
      by true copies out =
          let fit = copies_fit v q bytes k.synced xs k.parts copies in
          copies_each q bytes k.synced (min k.synced (length bytes)) xs k.parts fit (zip_part v xs k.parts (zip_many _ xs k.parts fit) part)
      by false copies out = absurd (out tt)
  see_some q xs k part (Lent m) none = absurd (none tt)

  see_at : (q : ObjectId) (xs : List X) (o : Option KnownState) → told → IsSoundAt told v xs q o → (IsAway (told_of o (column v xs q)) → ⊥) → AllSee q xs (told_of o (column v xs q))
  see_at q xs None t sound none = unused_each q xs t sound
  see_at q xs (Some k) t sound none = see_some q xs k sound (state_of (column v xs q) k.chief) none

  see_all : (xs : List X) (known : List (ObjectId × KnownState)) → AreSound told v xs known → told → ((q : ObjectId) → IsAway (told_at v xs known q) → ⊥) → AllByRecursion (λ s. (q : ObjectId) → (v s).live ≡ true → Sees ((v s).at q) (told_at v xs known q)) xs
  see_all xs known sound t none = swap_all (λ q s. (v s).live ≡ true → Sees ((v s).at q) (told_at v xs known q)) xs (λ q. see_at q xs (known_at known q) t (sound q) (none q))

  -- where no object is out, none is out of a member that is called
  pub none_out : (xs : List X) (known : List (ObjectId × KnownState)) → AreSound told v xs known → (told → (q : ObjectId) → IsAway (told_at v xs known q) → ⊥) → AllByRecursion (λ s. told → (v s).live ≡ true → (q : ObjectId) → IsAway ((v s).at q) → ⊥) xs
  none_out xs known sound none = under told (λ s. (v s).live ≡ true → (q : ObjectId) → IsAway ((v s).at q) → ⊥) xs (λ t. map_all _ _ (λ s see live q. (see q live).inside) xs (see_all xs known sound t (none t)))

  listed_by : (at : ObjectId → ObjectState) (all : List KeptObject) (xs : List X) → told → AllByRecursion (λ s. (q : ObjectId) → (v s).live ≡ true → Sees ((v s).at q) (at q)) xs → SomeSeat (λ s. IsListedBy told (v s) all) xs → Lists at all
  listed_by at all [] t see some = absurd some
  listed_by at all (x ∷ xs) t see (inl here) = let lists = here.1 t in record {
    sound = map_all _ _ (λ k has. (see.0 k.object here.0).length k.length has) all lists.sound;
    complete = λ q there. lists.complete q ((see.0 q here.0).there there);
  }
  listed_by at all (x ∷ xs) t see (inr more) = listed_by at all xs t see.1 more

  -- what a member that is called lists is what the store has
  pub listed_all : (xs : List X) (known : List (ObjectId × KnownState)) (all : List KeptObject) → AreSound told v xs known → (told → (q : ObjectId) → IsAway (told_at v xs known q) → ⊥) → SomeSeat (λ s. IsListedBy told (v s) all) xs → told → Lists (λ q. told_at v xs known q) all
  listed_all xs known all sound none some t = listed_by (λ q. told_at v xs known q) all xs t (see_all xs known sound t (none t)) some

  module _ (object : ObjectId) where
    there_at : (xs : List X) (o : Option KnownState) → IsSoundAt told v xs object o → (told → IsThere (told_of o (column v xs object))) → AllByRecursion (λ s. told → (v s).live ≡ true → IsThere ((v s).at object)) xs
    there_at xs None sound there = under told (λ s. (v s).live ≡ true → IsThere ((v s).at object)) xs (λ t. absurd (there t))
    there_at xs (Some k) sound there = there_each v object told xs k there sound

    -- an object that is there can be read in each member that is called
    pub there_all : (xs : List X) (known : List (ObjectId × KnownState)) → AreSound told v xs known → (told → IsThere (told_at v xs known object)) → AllByRecursion (λ s. told → (v s).live ≡ true → IsThere ((v s).at object)) xs
    there_all xs known sound there = there_at xs (known_at known object) (sound object) there

    have_at : (xs : List X) (o : Option KnownState) → IsSoundAt told v xs object o → IsThere (told_of o (column v xs object)) → AllHave v object (bytes_of (told_of o (column v xs object))) xs
    have_at xs None sound there = absurd there
    have_at xs (Some k) sound there =
        let bytes = bytes_of (state_of (column v xs object) k.chief) in
        let kept = kept_told v object k xs there in
        let e = ap bytes_of (told_kept v object k xs bytes kept) in
        map_all _ _ (λ s held live. ap bytes_of (held.copy live).kept ∙ sym e) xs (held_each v object xs k bytes kept sound (zip_many _ xs k.parts kept.all))

    -- and has what the store tells
    pub have_all : (xs : List X) (known : List (ObjectId × KnownState)) → AreSound told v xs known → (told → IsThere (told_at v xs known object)) → told → AllHave v object (bytes_of (told_at v xs known object)) xs
    have_all xs known sound there t = have_at xs (known_at known object) (sound object) (there t)
