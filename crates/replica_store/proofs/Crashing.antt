-- What the store told of an object before a crash, and what the members have then.
use Rattle.std.proofs.Common.{◌≡◌, inl, inr, ◌≤◌, ◌<◌, ◌&&◌, ℕ, Bool, true, false, not, zero, suc, List, [], ◌∷◌, length, take, min, if◌then◌else◌, Option, Some, None, refl, sym, ◌∙◌, ap, subst, arith}
use Rattle.std.proofs.lemmas.List.{length-take, take_all}
use Rattle.std.specs.List.{AllByRecursion, AllZip}
use Rattle.gw_model.specs.declared.object.ObjectId.{ObjectId}
use Rattle.append_store.specs.State.{ObjectState, Missing, Kept, Lent, IsAway, IsThere, IsCrashImage, MayCut}
use Rattle.replica_store.specs.Kept.{NoneCalled}
use Rattle.replica_store.specs.Parts.{PartView}
use Rattle.replica_store.specs.Reopening.{Awaits, CanLevel, Crashes, HasFront, IsOutOfNone}
use Rattle.replica_store.specs.Seats.{SeatView, KnownState, AllTakePart, IsSoundAt, IsUnused, TakesPart, are_copies, column, counts_of, known_at, losses_of, has_no_member, none_live, state_of, told_by, told_of}
use Rattle.replica_store.specs.Objects.{AreSound, told_at}
use Rattle.replica_store.proofs.Changes.{sum_later, sum_same}
use Rattle.replica_store.proofs.Pairs.{weaker_pairs}
use Rattle.replica_store.proofs.Told.{AllFit, FitsIn, copies_fit, copies_low}

kept_durable : (a b : List ℕ) (d e : ℕ) → Kept a d ≡ Kept b e → d ≡ e
kept_durable a b d e same = cc

kept_bytes : (a b : List ℕ) (d e : ℕ) → Kept a d ≡ Kept b e → a ≡ b
kept_bytes a b d e same = cc

-- a copy as it was, or after a crash, is a front
whole_front : (bytes : List ℕ) (least d : ℕ) (s : ObjectState) → least ≤ length bytes → s ≡ Kept bytes d → HasFront bytes least s
whole_front bytes least d s few is = record { content = bytes; durable = d; kept = is; front = record { long = few; front = sym (take_all (length bytes) bytes (omega arith)) } }

cut_front : (bytes : List ℕ) (least d : ℕ) (s : ObjectState) → least ≤ d → IsCrashImage (Kept bytes d) s → HasFront bytes least s
cut_front bytes least d s few is =
    let n = is.0 in
    let more = is.1 in
    let within = is.2 in
    let long : length (take n bytes) ≡ n = let e = length-take n bytes in omega (arith, e, within) in
    record {
      content = take n bytes;
      durable = n;
      kept = is.3;
      front = record { long = omega (arith, long, more, few); front = ap (λ m. take m bytes) (sym long) };
    }

may_front : (bytes : List ℕ) (least d : ℕ) (s : ObjectState) → least ≤ length bytes → least ≤ d → MayCut (Kept bytes d) s → HasFront bytes least s
may_front bytes least d s few some (inl same) = whole_front bytes least d s few same
may_front bytes least d s few some (inr image) = cut_front bytes least d s some image

cut_inside : (a b : ObjectState) → MayCut a b → (IsAway a → ⊥) → IsAway b → ⊥
cut_inside a b (inl same) inside away = inside (subst IsAway same away)
cut_inside Missing b (inr image) inside away = subst IsAway image away
cut_inside (Kept bytes d) b (inr image) inside away = subst IsAway image.3 away
cut_inside (Lent m) b (inr image) inside away = inside tt

-- the member that tells an object, whether it is called or not
module _ (told : Type 0) (q : ObjectId) (bytes : List ℕ) (synced : ℕ) (x y : SeatView) (p : PartView) (is_in_place : FitsIn bytes synced p.live (x.at q)) (part : TakesPart x p) (crash : Crashes told x y) where
  called_front : told → (d : ℕ) → x.at q ≡ Kept bytes d → (b : Bool) → x.live ≡ b → HasFront bytes (min synced (length bytes)) (y.at q)
  called_front t d is true on =
      let copy = is_in_place.copy (part on) in
      let more = copy.more in
      let same = kept_durable _ _ _ _ (sym is ∙ copy.kept) in
      may_front bytes (min synced (length bytes)) d (y.at q) (omega arith) (omega (arith, more, same)) (subst (λ s. MayCut s (y.at q)) is (crash.may t q))
  called_front t d is false off = whole_front bytes (min synced (length bytes)) d (y.at q) (omega arith) (crash.idle off q ∙ is)

  chief_front : told → (d : ℕ) → x.at q ≡ Kept bytes d → HasFront bytes (min synced (length bytes)) (y.at q)
  chief_front t d is = called_front t d is x.live refl

  live_front : y.live ≡ true → told → HasFront bytes (min synced (length bytes)) (y.at q)
  live_front live t = let copy = is_in_place.copy (part (crash.live live)) in chief_front t copy.durable copy.kept

  inside_front : told → IsAway (y.at q) → ⊥
  inside_front t = cut_inside (x.at q) (y.at q) (crash.may t q) is_in_place.inside

abbrev pub AllCrash : {X : Type 0} → (X → SeatView) → Type 0 → List X → List X → Type 0
AllCrash v told xs ys = AllZip (λ s t. Crashes told (v s) (v t)) xs ys

module _ {X : Type 0} (v : X → SeatView) (told : Type 0) (q : ObjectId) where
  many : (xs ys : List X) → AllCrash v told xs ys → length ys ≡ length xs
  many [] [] is = refl
  many [] (y ∷ ys) is = absurd is
  many (x ∷ xs) [] is = absurd is
  many (x ∷ xs) (y ∷ ys) is = let e = many xs ys is.1 in omega (arith, e)

  fit_many : (bytes : List ℕ) (synced : ℕ) (xs : List X) (ps : List PartView) → AllFit v q bytes synced xs ps → length ps ≡ length xs
  fit_many bytes synced [] [] is = refl
  fit_many bytes synced [] (p ∷ ps) is = absurd is
  fit_many bytes synced (x ∷ xs) [] is = absurd is
  fit_many bytes synced (x ∷ xs) (p ∷ ps) is = let e = fit_many bytes synced xs ps is.1 in omega (arith, e)

  parts_of : (bytes : List ℕ) (synced : ℕ) (xs : List X) (ps : List PartView) → AllFit v q bytes synced xs ps → AllTakePart v xs ps → AllZip (λ s p. TakesPart (v s) p) xs ps
  parts_of bytes synced [] [] is_in_place all = tt
  parts_of bytes synced (x ∷ xs) [] is_in_place all = absurd is_in_place
  parts_of bytes synced xs (p ∷ ps) is_in_place all = all

  fronts_now : (bytes : List ℕ) (synced : ℕ) (xs ys : List X) (ps : List PartView) → AllFit v q bytes synced xs ps → AllZip (λ s p. TakesPart (v s) p) xs ps → AllCrash v told xs ys → AllByRecursion (λ s. (v s).live ≡ true → told → HasFront bytes (min synced (length bytes)) ((v s).at q)) ys
  fronts_now bytes synced [] [] ps is_in_place parts crash = tt
  fronts_now bytes synced [] (y ∷ ys) ps is_in_place parts crash = absurd crash
  fronts_now bytes synced (x ∷ xs) [] ps is_in_place parts crash = absurd crash
  fronts_now bytes synced (x ∷ xs) (y ∷ ys) [] is_in_place parts crash = absurd is_in_place
  fronts_now bytes synced (x ∷ xs) (y ∷ ys) (p ∷ ps) is_in_place parts crash = (live_front told q bytes synced (v x) (v y) p is_in_place.0 parts.0 crash.0, fronts_now bytes synced xs ys ps is_in_place.1 parts.1 crash.1)

  inside_now : (bytes : List ℕ) (synced : ℕ) (xs ys : List X) (ps : List PartView) → AllFit v q bytes synced xs ps → AllZip (λ s p. TakesPart (v s) p) xs ps → AllCrash v told xs ys → IsOutOfNone told v q ys
  inside_now bytes synced [] [] ps is_in_place parts crash = tt
  inside_now bytes synced [] (y ∷ ys) ps is_in_place parts crash = absurd crash
  inside_now bytes synced (x ∷ xs) [] ps is_in_place parts crash = absurd crash
  inside_now bytes synced (x ∷ xs) (y ∷ ys) [] is_in_place parts crash = absurd is_in_place
  inside_now bytes synced (x ∷ xs) (y ∷ ys) (p ∷ ps) is_in_place parts crash = (inside_front told q bytes synced (v x) (v y) p is_in_place.0 parts.0 crash.0, inside_now bytes synced xs ys ps is_in_place.1 parts.1 crash.1)

  chief_now : (bytes : List ℕ) (synced d : ℕ) (xs ys : List X) (ps : List PartView) (k : ℕ) → AllFit v q bytes synced xs ps → AllZip (λ s p. TakesPart (v s) p) xs ps → AllCrash v told xs ys → told → state_of (column v xs q) k ≡ Kept bytes d → HasFront bytes (min synced (length bytes)) (state_of (column v ys q) k)
  chief_now bytes synced d [] ys ps k is_in_place parts crash t is = absurd (cc)
  chief_now bytes synced d (x ∷ xs) [] ps k is_in_place parts crash t is = absurd crash
  chief_now bytes synced d (x ∷ xs) (y ∷ ys) [] k is_in_place parts crash t is = absurd is_in_place
  chief_now bytes synced d (x ∷ xs) (y ∷ ys) (p ∷ ps) zero is_in_place parts crash t is = chief_front told q bytes synced (v x) (v y) p is_in_place.0 parts.0 crash.0 t d is
  chief_now bytes synced d (x ∷ xs) (y ∷ ys) (p ∷ ps) (suc k) is_in_place parts crash t is = chief_now bytes synced d xs ys ps k is_in_place.1 parts.1 crash.1 t is

  missing_cut : (a b : ObjectState) → a ≡ Missing → MayCut a b → b ≡ Missing
  missing_cut a b is (inl same) = same ∙ is
  missing_cut a b is (inr image) = subst (λ s. IsCrashImage s b) is image

  chief_missing : (xs ys : List X) (k : ℕ) → AllCrash v told xs ys → told → state_of (column v xs q) k ≡ Missing → state_of (column v ys q) k ≡ Missing
  chief_missing [] [] k crash t is = refl
  chief_missing [] (y ∷ ys) k crash t is = absurd crash
  chief_missing (x ∷ xs) [] k crash t is = absurd crash
  chief_missing (x ∷ xs) (y ∷ ys) zero crash t is = missing_cut ((v x).at q) ((v y).at q) is (crash.0.may t q)
  chief_missing (x ∷ xs) (y ∷ ys) (suc k) crash t is = chief_missing xs ys k crash.1 t is

  -- none takes part, so none is called
  off : (a b c : Bool) → (a ≡ true → b ≡ true) → (b ≡ true → c ≡ true) → c ≡ false → a ≡ false
  off true b c one two dead = absurd (let e = two (one refl) in cc)
  off false b c one two dead = refl

  first_off : (a b : Bool) → (not a && b) ≡ true → a ≡ false
  first_off true b is = absurd (cc)
  first_off false b is = refl

  rest_off : (a b : Bool) → (not a && b) ≡ true → b ≡ true
  rest_off true b is = absurd (cc)
  rest_off false b is = is

  none_called : (xs ys : List X) (ps : List PartView) → none_live ps ≡ true → AllZip (λ s p. TakesPart (v s) p) xs ps → AllCrash v told xs ys → NoneCalled v ys
  none_called [] [] ps none parts crash = tt
  none_called [] (y ∷ ys) ps none parts crash = absurd crash
  none_called (x ∷ xs) [] ps none parts crash = absurd crash
  none_called (x ∷ xs) (y ∷ ys) [] none parts crash = absurd parts
  none_called (x ∷ xs) (y ∷ ys) (p ∷ ps) none parts crash = (off (v y).live (v x).live p.live crash.0.live parts.0 (first_off p.live (none_live ps) none), none_called xs ys ps (rest_off p.live (none_live ps) none) parts.1 crash.1)

  many_parts : (xs : List X) (ps : List PartView) → AllZip (λ s p. TakesPart (v s) p) xs ps → length ps ≡ length xs
  many_parts [] [] is = refl
  many_parts [] (p ∷ ps) is = absurd is
  many_parts (x ∷ xs) [] is = absurd is
  many_parts (x ∷ xs) (p ∷ ps) is = let e = many_parts xs ps is.1 in omega (arith, e)

  given_up_none : (xs ys : List X) (ps : List PartView) → has_no_member ps ≡ true → AllTakePart v xs ps → AllCrash v told xs ys → NoneCalled v ys × (0 < length ys) × (length ps ≡ length ys)
  given_up_none xs ys [] is all crash = absurd (cc)
  given_up_none xs ys (p ∷ ps) is all crash =
      let a = many_parts xs (p ∷ ps) all in
      let b = many xs ys crash in
      (none_called xs ys (p ∷ ps) is all crash, omega (arith, a, b), omega (arith, a, b))

  if_away : (b : Bool) (s : ObjectState) → (IsAway (if b then s else Lent []) → ⊥) → b ≡ true
  if_away true s in_ = refl
  if_away false s in_ = absurd (in_ tt)

  module _ (xs ys : List X) (crash : AllCrash v told xs ys) where
    awaits_by : (k : KnownState) (s : ObjectState) → state_of (column v xs q) k.chief ≡ s → AllTakePart v xs k.parts → told → (IsAway (told_by k (column v xs q) s) → ⊥) → Awaits told v q ys (Some k) (told_by k (column v xs q) s)
    awaits_by k Missing is all t inside =
        let up = if_away (has_no_member k.parts) Missing inside in
        let none = given_up_none xs ys k.parts up all crash in
        subst (λ b. Awaits told v q ys (Some k) (if b then Missing else Lent [])) (sym up) (record {
          none = none.0;
          some = none.1;
          places = λ u. none.2;
          chief = λ u. chief_missing xs ys k.chief crash u is;
        })
    awaits_by k (Kept bytes d) is all t inside =
        let yes = if_away (are_copies bytes k.synced k.parts (column v xs q)) (Kept bytes (min k.synced (length bytes))) inside in
        let is_in_place = copies_fit v q bytes k.synced xs k.parts yes in
        let parts = parts_of bytes k.synced xs k.parts is_in_place all in
        subst (λ b. Awaits told v q ys (Some k) (if b then Kept bytes (min k.synced (length bytes)) else Lent [])) (sym yes) (record {
          chief = λ u. chief_now bytes k.synced d xs ys k.parts k.chief is_in_place parts crash u is;
          fronts = fronts_now bytes k.synced xs ys k.parts is_in_place parts crash;
          inside = inside_now bytes k.synced xs ys k.parts is_in_place parts crash;
          places = λ u. let a = fit_many bytes k.synced xs k.parts is_in_place in let b = many xs ys crash in omega (arith, a, b);
          low = λ u. copies_low v q bytes k.synced xs k.parts yes;
        })
    awaits_by k (Lent m) is all t inside = absurd (inside tt)

    pub crash_awaits : (o : Option KnownState) → IsSoundAt told v xs q o → told → (IsAway (told_of o (column v xs q)) → ⊥) → Awaits told v q ys o (told_of o (column v xs q))
    crash_awaits None sound t inside = refl
    crash_awaits (Some k) sound t inside = awaits_by k (state_of (column v xs q) k.chief) refl sound t inside

    there_of : (bytes : List ℕ) (least : ℕ) (s : ObjectState) → HasFront bytes least s → IsThere s
    there_of bytes least s has = subst IsThere (sym has.kept) tt

    there_fronts : (bytes : List ℕ) (least : ℕ) (zs : List X) → AllByRecursion (λ s. (v s).live ≡ true → told → HasFront bytes least ((v s).at q)) zs → AllByRecursion (λ s. (v s).live ≡ true → told → IsThere ((v s).at q)) zs
    there_fronts bytes least [] all = tt
    there_fronts bytes least (z ∷ zs) all = (λ live t. there_of bytes least ((v z).at q) (all.0 live t), there_fronts bytes least zs all.1)

    there_none : (zs : List X) → NoneCalled v zs → AllByRecursion (λ s. (v s).live ≡ true → told → IsThere ((v s).at q)) zs
    there_none [] none = tt
    there_none (z ∷ zs) none = (λ live. absurd (let dead = none.0 in cc), there_none zs none.1)

    there_by : (k : KnownState) (s : ObjectState) → Awaits told v q ys (Some k) s → AllByRecursion (λ z. (v z).live ≡ true → told → IsThere ((v z).at q)) ys
    there_by k Missing awaits = there_none ys awaits.none
    there_by k (Kept bytes least) awaits = there_fronts bytes least ys awaits.fronts
    there_by k (Lent m) awaits = absurd awaits

    turn : (zs : List X) → (told → AllByRecursion (λ z. (v z).live ≡ true → told → IsThere ((v z).at q)) zs) → AllByRecursion (λ z. told → (v z).live ≡ true → IsThere ((v z).at q)) zs
    turn [] all = tt
    turn (z ∷ zs) all = (λ t live. (all t).0 live t, turn zs (λ t. (all t).1))

    pub crash_can : (o : Option KnownState) → IsSoundAt told v xs q o → (told → IsAway (told_of o (column v xs q)) → ⊥) → CanLevel told v q ys o
    crash_can None sound inside = tt
    crash_can (Some k) sound inside = turn ys (λ t. there_by k (told_of (Some k) (column v xs q)) (crash_awaits (Some k) sound t (inside t)))

  -- before the crash the object is out of no member that is called
  called_inside : (xs : List X) (ps : List PartView) → none_live ps ≡ true → AllZip (λ s p. TakesPart (v s) p) xs ps → AllByRecursion (λ s. (v s).live ≡ true → IsAway ((v s).at q) → ⊥) xs
  called_inside [] ps none parts = tt
  called_inside (x ∷ xs) [] none parts = absurd parts
  called_inside (x ∷ xs) (p ∷ ps) none parts = (λ live. absurd (let on = parts.0 live in let dead = first_off p.live (none_live ps) none in cc), called_inside xs ps (rest_off p.live (none_live ps) none) parts.1)

  given_up_inside : (xs : List X) (ps : List PartView) → has_no_member ps ≡ true → AllTakePart v xs ps → AllByRecursion (λ s. (v s).live ≡ true → IsAway ((v s).at q) → ⊥) xs
  given_up_inside xs [] is all = absurd (cc)
  given_up_inside xs (p ∷ ps) is all = called_inside xs (p ∷ ps) is all

  fits_inside : (bytes : List ℕ) (synced : ℕ) (xs : List X) (ps : List PartView) → AllFit v q bytes synced xs ps → AllByRecursion (λ s. (v s).live ≡ true → IsAway ((v s).at q) → ⊥) xs
  fits_inside bytes synced [] ps is_in_place = tt
  fits_inside bytes synced (x ∷ xs) [] is_in_place = absurd is_in_place
  fits_inside bytes synced (x ∷ xs) (p ∷ ps) is_in_place = (λ live. is_in_place.0.inside, fits_inside bytes synced xs ps is_in_place.1)

  unused_inside : (xs : List X) → AllByRecursion (λ s. IsUnused told q (v s)) xs → told → AllByRecursion (λ s. (v s).live ≡ true → IsAway ((v s).at q) → ⊥) xs
  unused_inside [] all t = tt
  unused_inside (x ∷ xs) all t = (λ live. all.0.inside t, unused_inside xs all.1 t)

  inside_by : (xs : List X) (k : KnownState) (s : ObjectState) → AllTakePart v xs k.parts → (IsAway (told_by k (column v xs q) s) → ⊥) → AllByRecursion (λ s. (v s).live ≡ true → IsAway ((v s).at q) → ⊥) xs
  inside_by xs k Missing all inside = given_up_inside xs k.parts (if_away (has_no_member k.parts) Missing inside) all
  inside_by xs k (Kept bytes d) all inside =
      let yes = if_away (are_copies bytes k.synced k.parts (column v xs q)) (Kept bytes (min k.synced (length bytes))) inside in
      fits_inside bytes k.synced xs k.parts (copies_fit v q bytes k.synced xs k.parts yes)
  inside_by xs k (Lent m) all inside = absurd (inside tt)

  pub called_in : (xs : List X) (o : Option KnownState) → IsSoundAt told v xs q o → told → (IsAway (told_of o (column v xs q)) → ⊥) → AllByRecursion (λ s. (v s).live ≡ true → IsAway ((v s).at q) → ⊥) xs
  called_in xs None sound t inside = unused_inside xs sound t
  called_in xs (Some k) sound t inside = inside_by xs k (state_of (column v xs q) k.chief) sound inside

  -- the list and the members go together after the crash
  unused_still : (xs ys : List X) → AllCrash v told xs ys → AllByRecursion (λ s. IsUnused told q (v s)) xs → AllByRecursion (λ s. IsUnused told q (v s)) ys
  unused_still [] [] crash all = tt
  unused_still [] (y ∷ ys) crash all = absurd crash
  unused_still (x ∷ xs) [] crash all = absurd crash
  unused_still (x ∷ xs) (y ∷ ys) crash all = (
    record {
      missing = λ t live. missing_cut ((v x).at q) ((v y).at q) (all.0.missing t (crash.0.live live)) (crash.0.may t q);
      inside = λ t. cut_inside ((v x).at q) ((v y).at q) (crash.0.may t q) (all.0.inside t);
    },
    unused_still xs ys crash.1 all.1,
  )

  parts_still : (xs ys : List X) (ps : List PartView) → AllCrash v told xs ys → AllZip (λ s p. TakesPart (v s) p) xs ps → AllZip (λ s p. TakesPart (v s) p) ys ps
  parts_still [] [] ps crash all = all
  parts_still [] (y ∷ ys) ps crash all = absurd crash
  parts_still (x ∷ xs) [] ps crash all = absurd crash
  parts_still (x ∷ xs) (y ∷ ys) [] crash all = absurd all
  parts_still (x ∷ xs) (y ∷ ys) (p ∷ ps) crash all = (λ live. all.0 (crash.0.live live), parts_still xs ys ps crash.1 all.1)

  takes_still : (xs ys : List X) (ps : List PartView) → AllCrash v told xs ys → AllTakePart v xs ps → AllTakePart v ys ps
  takes_still xs ys [] crash all = tt
  takes_still xs ys (p ∷ ps) crash all = parts_still xs ys (p ∷ ps) crash all

  pub sound_still : (xs ys : List X) (o : Option KnownState) → AllCrash v told xs ys → IsSoundAt told v xs q o → IsSoundAt told v ys q o
  sound_still xs ys None crash sound = unused_still xs ys crash sound
  sound_still xs ys (Some k) crash sound = takes_still xs ys k.parts crash sound

module _ {X : Type 0} (v : X → SeatView) (told : Type 0) where
  turn_names : (xs : List X) → (told → (q : ObjectId) → AllByRecursion (λ s. (v s).live ≡ true → IsAway ((v s).at q) → ⊥) xs) → AllByRecursion (λ s. told → (v s).live ≡ true → (q : ObjectId) → IsAway ((v s).at q) → ⊥) xs
  turn_names [] all = tt
  turn_names (x ∷ xs) all = (λ t live q. (all t q).0 live, turn_names xs (λ t q. (all t q).1))

  pub none_out : (xs : List X) (known : List (ObjectId × KnownState)) → AreSound told v xs known → (told → (q : ObjectId) → IsAway (told_at v xs known q) → ⊥) → AllByRecursion (λ s. told → (v s).live ≡ true → (q : ObjectId) → IsAway ((v s).at q) → ⊥) xs
  none_out xs known sound inside = turn_names xs (λ t q. called_in v told q xs (known_at known q) (sound q) t (inside t q))

  pub crash_losses : (xs ys : List X) → AllCrash v told xs ys → told → (q : ObjectId) → losses_of v ys q ≡ losses_of v xs q
  crash_losses xs ys crash t q = sum_same (λ s. (v s).losses q) xs ys (weaker_pairs _ _ (λ x y r. r.no_losses t q) xs ys crash)

  pub crash_counts : (xs ys : List X) → AllCrash v told xs ys → counts_of v xs ≤ counts_of v ys
  crash_counts xs ys crash = sum_later (λ s. (v s).count) xs ys (weaker_pairs _ _ (λ x y r. r.later) xs ys crash)
