-- What the store tells of an object, by what the members have of it.
use Rattle.std.proofs.Common.{◌≡◌, ◌≤◌, ℕ, ◌-◌, ◌^◌, ◌<◌, ◌&&◌, Bool, true, false, eqb, leb, if◌then◌else◌, List, [], ◌∷◌, length, min, Option, Some, None, refl, sym, ◌∙◌, ap, subst, arith, eqb-true, leb-true, le-leb}
use Rattle.std.specs.List.{AllZip}
use Rattle.gw_model.specs.declared.object.ObjectId.{ObjectId}
use Rattle.append_store.specs.State.{ObjectState, Missing, Kept, Lent, IsAway, IsThere, bytes_of}
use Rattle.replica_store.specs.Parts.{PartView}
use Rattle.replica_store.specs.Seats.{SeatView, KnownState, column, state_of, is_same_content, is_copy, is_low, is_at_home, is_in_place, are_copies, has_no_member, told_by, told_of}

pub both : (a b : Bool) → (a && b) ≡ true → (a ≡ true) × (b ≡ true)
both true true is = (refl, refl)
both true false is = absurd (cc)
both false b is = absurd (cc)

and : (a b : Bool) → a ≡ true → b ≡ true → (a && b) ≡ true
and a b one two = rw (one, two) refl

pub same_are : (xs ys : List ℕ) → is_same_content xs ys ≡ true → xs ≡ ys
same_are [] [] is = refl
same_are [] (y ∷ ys) is = absurd (cc)
same_are (x ∷ xs) [] is = absurd (cc)
same_are (x ∷ xs) (y ∷ ys) is =
    let b = both (eqb x y) (is_same_content xs ys) is in
    ap (λ z. z ∷ xs) (eqb-true x y b.0) ∙ ap (λ zs. y ∷ zs) (same_are xs ys b.1)

eqb_self : (x : ℕ) → eqb x x ≡ true
eqb_self x = grind arith

pub are_same : (xs : List ℕ) → is_same_content xs xs ≡ true
are_same [] = refl
are_same (x ∷ xs) = and (eqb x x) (is_same_content xs xs) (eqb_self x) (are_same xs)

-- a copy of these bytes, with so many durable at least
pub record IsCopyOf (bytes : List ℕ) (synced : ℕ) (s : ObjectState) : Type 0 where
  pub durable : ℕ
  pub kept : s ≡ Kept bytes durable
  pub more : synced ≤ durable

pub copy_of : (bytes : List ℕ) (synced : ℕ) (s : ObjectState) → is_copy bytes synced s ≡ true → IsCopyOf bytes synced s
copy_of bytes synced Missing is = absurd (cc)
copy_of bytes synced (Kept content durable) is =
    let b = both (is_same_content bytes content) (leb synced durable) is in
    record { durable = durable; kept = ap (λ c. Kept c durable) (sym (same_are bytes content b.0)); more = leb-true synced durable b.1 }
copy_of bytes synced (Lent m) is = absurd (cc)

copy_is : (bytes : List ℕ) (synced durable : ℕ) → synced ≤ durable → is_copy bytes synced (Kept bytes durable) ≡ true
copy_is bytes synced durable more = and (is_same_content bytes bytes) (leb synced durable) (are_same bytes) (le-leb synced durable more)

pub is_copy_of : (bytes : List ℕ) (synced : ℕ) (s : ObjectState) → IsCopyOf bytes synced s → is_copy bytes synced s ≡ true
is_copy_of bytes synced s is = ap (is_copy bytes synced) is.kept ∙ copy_is bytes synced is.durable is.more

-- a member that takes part has a copy, and the object is out of none
pub record FitsIn (bytes : List ℕ) (synced : ℕ) (live : Bool) (s : ObjectState) : Type 0 where
  pub copy : live ≡ true → IsCopyOf bytes synced s
  pub inside : IsAway s → ⊥

in_is : (s : ObjectState) → is_at_home s ≡ true → IsAway s → ⊥
in_is Missing is away = away
in_is (Kept bytes durable) is away = away
in_is (Lent m) is away = absurd (cc)

is_in_of : (s : ObjectState) → (IsAway s → ⊥) → is_at_home s ≡ true
is_in_of Missing none = refl
is_in_of (Kept bytes durable) none = refl
is_in_of (Lent m) none = absurd (none tt)

pub kept_in : (bytes : List ℕ) (synced : ℕ) (s : ObjectState) → IsCopyOf bytes synced s → IsAway s → ⊥
kept_in bytes synced s is away = subst IsAway is.kept away

fit_of : (bytes : List ℕ) (synced : ℕ) (live : Bool) (s : ObjectState) → is_in_place bytes synced live s ≡ true → FitsIn bytes synced live s
fit_of bytes synced true s is = let c = copy_of bytes synced s is in record { copy = λ l. c; inside = kept_in bytes synced s c }
fit_of bytes synced false s is = record { copy = λ l. absurd (cc); inside = in_is s is }

of_fit : (bytes : List ℕ) (synced : ℕ) (live : Bool) (s : ObjectState) → FitsIn bytes synced live s → is_in_place bytes synced live s ≡ true
of_fit bytes synced true s is = is_copy_of bytes synced s (is.copy refl)
of_fit bytes synced false s is = is_in_of s is.inside

module _ {X : Type 0} (v : X → SeatView) (q : ObjectId) where
  abbrev pub AllFit : List ℕ → ℕ → List X → List PartView → Type 0
  AllFit bytes synced ss ps = AllZip (λ s p. FitsIn bytes synced p.live ((v s).at q)) ss ps

  pub copies_fit : (bytes : List ℕ) (synced : ℕ) (ss : List X) (ps : List PartView) → are_copies bytes synced ps (column v ss q) ≡ true → AllFit bytes synced ss ps
  copies_fit bytes synced [] [] is = tt
  copies_fit bytes synced [] (p ∷ ps) is = absurd (cc)
  copies_fit bytes synced (s ∷ ss) [] is = absurd (cc)
  copies_fit bytes synced (s ∷ ss) (p ∷ ps) is =
      let b = both (is_in_place bytes synced p.live ((v s).at q)) (are_copies bytes synced ps (column v ss q)) is in
      (fit_of bytes synced p.live ((v s).at q) b.0, copies_fit bytes synced ss ps b.1)

  low_is : (bytes : List ℕ) → length bytes < 2 ^ 63 → is_low bytes ≡ true
  low_is bytes low = le-leb (length bytes) (2 ^ 63 - 1) (omega (arith, low))

  -- the bytes of copies are those of a file
  pub copies_low : (bytes : List ℕ) (synced : ℕ) (ss : List X) (ps : List PartView) → are_copies bytes synced ps (column v ss q) ≡ true → length bytes < 2 ^ 63
  copies_low bytes synced [] [] is = let a = leb-true (length bytes) (2 ^ 63 - 1) is in omega (arith, a)
  copies_low bytes synced [] (p ∷ ps) is = absurd (cc)
  copies_low bytes synced (s ∷ ss) [] is = absurd (cc)
  copies_low bytes synced (s ∷ ss) (p ∷ ps) is = copies_low bytes synced ss ps (both (is_in_place bytes synced p.live ((v s).at q)) (are_copies bytes synced ps (column v ss q)) is).1

  pub fit_copies : (bytes : List ℕ) (synced : ℕ) (ss : List X) (ps : List PartView) → length bytes < 2 ^ 63 → AllFit bytes synced ss ps → are_copies bytes synced ps (column v ss q) ≡ true
  fit_copies bytes synced [] [] low is = low_is bytes low
  fit_copies bytes synced [] (p ∷ ps) low is = absurd is
  fit_copies bytes synced (s ∷ ss) [] low is = absurd is
  fit_copies bytes synced (s ∷ ss) (p ∷ ps) low is = and (is_in_place bytes synced p.live ((v s).at q)) (are_copies bytes synced ps (column v ss q)) (of_fit bytes synced p.live ((v s).at q) is.0) (fit_copies bytes synced ss ps low is.1)

  -- the store tells these bytes
  pub record IsKept (k : KnownState) (ss : List X) (bytes : List ℕ) : Type 0 where
    pub durable : ℕ
    pub chief : state_of (column v ss q) k.chief ≡ Kept bytes durable
    pub low : length bytes < 2 ^ 63
    pub all : AllFit bytes k.synced ss k.parts

  pub told_kept : (k : KnownState) (ss : List X) (bytes : List ℕ) → IsKept k ss bytes → told_of (Some k) (column v ss q) ≡ Kept bytes (min k.synced (length bytes))
  told_kept k ss bytes is = ap (told_by k (column v ss q)) is.chief ∙ ap (λ b. if b then Kept bytes (min k.synced (length bytes)) else Lent []) (fit_copies bytes k.synced ss k.parts is.low is.all)

  if_there : (b : Bool) (s : ObjectState) → IsThere (if b then s else Lent []) → b ≡ true
  if_there true s is = refl
  if_there false s is = absurd is

  if_missing : (b : Bool) → IsThere (if b then Missing else Lent []) → ⊥
  if_missing true is = is
  if_missing false is = is

  -- its bytes, if it is there
  pub kept_told : (k : KnownState) (ss : List X) → IsThere (told_of (Some k) (column v ss q)) → IsKept k ss (bytes_of (state_of (column v ss q) k.chief))
  kept_told k ss is = by (state_of (column v ss q) k.chief) refl is
    where
      by : (s : ObjectState) → state_of (column v ss q) k.chief ≡ s → IsThere (told_by k (column v ss q) s) → IsKept k ss (bytes_of (state_of (column v ss q) k.chief))
      by Missing same there = absurd (if_missing (has_no_member k.parts) there)
      by (Kept bytes durable) same there =
          let one = ap bytes_of same in
          record {
            durable = durable;
            chief = same ∙ ap (λ b. Kept b durable) (sym one);
            low = subst (λ b. length b < 2 ^ 63) (sym one) (copies_low bytes k.synced ss k.parts (if_there (are_copies bytes k.synced k.parts (column v ss q)) (Kept bytes (min k.synced (length bytes))) there));
            all = subst (λ b. AllFit b k.synced ss k.parts) (sym one) (copies_fit bytes k.synced ss k.parts (if_there (are_copies bytes k.synced k.parts (column v ss q)) (Kept bytes (min k.synced (length bytes))) there));
          }
      by (Lent m) same there = absurd there

-- the list has an object that is there
pub known_of : (o : Option KnownState) (states : List ObjectState) → IsThere (told_of o states) → o ≡ None → ⊥
known_of None states there none = there
known_of (Some k) states there none = cc

-- by what the members have
module _ {X : Type 0} (v : X → SeatView) where
  pub column_same : (q : ObjectId) (xs ys : List X) → AllZip (λ x y. (v y).at q ≡ (v x).at q) xs ys → column v ys q ≡ column v xs q
  column_same q [] [] is = refl
  column_same q [] (y ∷ ys) is = absurd is
  column_same q (x ∷ xs) [] is = absurd is
  column_same q (x ∷ xs) (y ∷ ys) is = ap (λ a. a ∷ column v ys q) is.0 ∙ ap (λ rest. (v x).at q ∷ rest) (column_same q xs ys is.1)
