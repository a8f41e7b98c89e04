-- What a crash of the members leaves, and how they are made equal again.
use Rattle.std.specs.Prelude.{◌≡◌, ℕ, ◌+◌, max, ◌<◌, ◌≤◌, ◌^◌, ◌-◌, List, length, true, false, Option, Some, None}
use Rattle.std.specs.declared.cmp.Ordering.TheVariants.{Less}
use Rattle.std.specs.List.{AllByRecursion, AllZip}
use Rattle.gw_model.specs.declared.object.ObjectId.{ObjectId}
use Rattle.append_store.specs.State.{ObjectState, Missing, Kept, Lent, IsAway, IsThere, IsCrashImage, MayCut}
use Rattle.append_store.specs.Calls.{object_cmp}
use Rattle.replica_store.specs.Levels.{AreFronts, AreLevel, IsFront}
use Rattle.replica_store.specs.Parts.{PartView, part_of}
use Rattle.replica_store.specs.Kept.{NoneCalled}
use Rattle.replica_store.specs.Seats.{SeatView, KnownState, column, state_of}

-- a member after a crash, which is dropped where its reopening failed
pub record Crashes (told : Type 0) (old new : SeatView) : Type 0 where
  pub live : new.live ≡ true → old.live ≡ true
  pub idle : old.live ≡ false → (q : ObjectId) → new.at q ≡ old.at q
  pub image : new.live ≡ true → told → (q : ObjectId) → IsCrashImage (old.at q) (new.at q)
  pub may : told → (q : ObjectId) → MayCut (old.at q) (new.at q)
  pub no_losses : told → (q : ObjectId) → new.losses q ≡ old.losses q
  pub later : old.count ≤ new.count

-- the object is there, with a front of these bytes
pub record HasFront (bytes : List ℕ) (least : ℕ) (s : ObjectState) : Type 0 where
  pub content : List ℕ
  pub durable : ℕ
  pub kept : s ≡ Kept content durable
  pub front : IsFront bytes least content

-- the object is out of no member
abbrev pub IsOutOfNone : {X : Type 0} → Type 0 → (X → SeatView) → ObjectId → List X → Type 0
IsOutOfNone told v q ss = AllByRecursion (λ s. told → IsAway ((v s).at q) → ⊥) ss

-- After a crash each member that is called has a front of the bytes that the store told, with so many
-- at least, and so has the one that tells it.
pub record AwaitsLevel {X : Type 0} (told : Type 0) (v : X → SeatView) (q : ObjectId) (bytes : List ℕ) (least : ℕ) (ss : List X)
    (k : KnownState) : Type 0 where
  pub chief : told → HasFront bytes least (state_of (column v ss q) k.chief)
  pub fronts : AllByRecursion (λ s. (v s).live ≡ true → told → HasFront bytes least ((v s).at q)) ss
  pub inside : IsOutOfNone told v q ss
  pub places : told → length k.parts ≡ length ss
  pub low : told → length bytes < 2 ^ 63

-- the object was given up: no member is called, and the one that tells it has nothing
pub record IsGivenUp {X : Type 0} (told : Type 0) (v : X → SeatView) (q : ObjectId) (ss : List X) (k : KnownState) : Type 0 where
  pub none : NoneCalled v ss
  pub some : 0 < length ss
  pub places : told → length k.parts ≡ length ss
  pub chief : told → state_of (column v ss q) k.chief ≡ Missing

-- a file was written to the end: it has so many bytes, and all that are written have them durable
pub record IsLed (told : Type 0) (olds news : List PartView) (lead kept : ℕ) : Type 0 where
  pub there : lead < length news
  pub live : (part_of news lead).live ≡ true
  pub level : (bytes : List ℕ) (least : ℕ) → AreFronts told bytes least olds → AreLevel told (part_of news lead).content news
  pub length : told → length (part_of news lead).content ≡ kept

-- none was
pub record IsLeft (chief : ℕ) (news : List PartView) (lead kept : ℕ) : Type 0 where
  pub same : lead ≡ chief
  pub all : kept ≡ 2 ^ 64 - 1
  pub none : AllByRecursion (λ p. p.live ≡ false) news

-- what is known of an object before its copies are made equal, by what the store told of it before the crash
abbrev pub Awaits : {X : Type 0} → Type 0 → (X → SeatView) → ObjectId → List X → Option KnownState → ObjectState → Type 0
Awaits told v q ss None before = before ≡ Missing
Awaits told v q ss (Some k) Missing = IsGivenUp told v q ss k
Awaits told v q ss (Some k) (Kept bytes least) = AwaitsLevel told v q bytes least ss k
Awaits told v q ss (Some k) (Lent m) = ⊥

-- the members that are called have the object, if the list has it
abbrev pub CanLevel : {X : Type 0} → Type 0 → (X → SeatView) → ObjectId → List X → Option KnownState → Type 0
CanLevel told v q ss None = Unit {0}
CanLevel told v q ss (Some k) = AllByRecursion (λ s. told → (v s).live ≡ true → IsThere ((v s).at q)) ss

-- no member has changed at this object, and none is called anew
pub record Untouched (told : Type 0) (q : ObjectId) (old new : SeatView) : Type 0 where
  pub live : new.live ≡ true → old.live ≡ true
  pub same : told → new.at q ≡ old.at q

abbrev pub AllUntouched : {X : Type 0} → Type 0 → (X → SeatView) → ObjectId → List X → List X → Type 0
AllUntouched told v q olds news = AllZip (λ s t. Untouched told q (v s) (v t)) olds news

-- behind the last object
abbrev pub IsBehind : Option ObjectId → ObjectId → Type 0
IsBehind None q = Unit {0}
IsBehind (Some o) q = object_cmp o q ≡ Less

-- how many members have to be called after a start or a crash: a quorum, and so many that one of them is of each quorum
abbrev pub needed_of : ℕ → ℕ → ℕ
needed_of members quorum = max quorum (members - quorum + 1)
