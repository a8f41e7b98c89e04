-- How a store is made over members that have objects: each object comes to be in each of them, and the copies are made equal.
use Rattle.std.specs.Prelude.{◌≡◌, ◌≢◌, ◌^◌, ◌<◌, ◌≤◌, ℕ, List, length, take, true, Option, Some, None}
use Rattle.std.specs.List.{AllByRecursion, AllZip}
use Rattle.gw_model.specs.declared.object.ObjectId.{ObjectId}
use Rattle.append_store.specs.State.{ObjectState, Missing, Kept, Lent, IsAway, IsThere}
use Rattle.append_store.specs.Calls.{MayCreate}
use Rattle.replica_store.specs.Reopening.{AllUntouched, needed_of}
use Rattle.replica_store.specs.Seats.{KnownState, SeatView, IsCalledAt, called_of, column, known_at, state_of}
use Rattle.replica_store.specs.Steps.{SomeSeat, Touches}
use Rattle.replica_store.specs.declared.starting.ReplicaFault.{ReplicaFault}
use Rattle.replica_store.specs.declared.starting.ReplicaFault.TheVariants.{TooFew, Memory}

-- these bytes are a front of what is there, and so many are durable at least
pub record IsContinued (bytes : List ℕ) (least : ℕ) (new : ObjectState) : Type 0 where
  pub content : List ℕ
  pub durable : ℕ
  pub kept : new ≡ Kept content durable
  pub front : bytes ≡ take (length bytes) content
  pub more : least ≤ durable

-- what was there is there still, perhaps with more behind it; where nothing was, nothing is out
abbrev pub Upholds : ObjectState → ObjectState → Type 0
Upholds Missing new = IsAway new → ⊥
Upholds (Kept bytes durable) new = IsContinued bytes durable new
Upholds (Lent m) new = new ≡ Lent m

-- a member keeps what it had of each object, and loses none
pub record Endures (told : Type 0) (old new : SeatView) : Type 0 where
  pub live : new.live ≡ true → old.live ≡ true
  pub held : told → (q : ObjectId) → Upholds (old.at q) (new.at q)
  pub losses : told → (q : ObjectId) → old.losses q ≤ new.losses q
  pub losses_there : told → (q : ObjectId) → old.at q ≢ Missing → new.losses q ≡ old.losses q
  pub later : old.count ≤ new.count

abbrev pub AllEndure : {X : Type 0} → Type 0 → (X → SeatView) → List X → List X → Type 0
AllEndure told v olds news = AllZip (λ s t. Endures told (v s) (v t)) olds news

-- a member keeps what it had of one object
pub record IsLevelled (told : Type 0) (object : ObjectId) (old new : SeatView) : Type 0 where
  pub held : told → Upholds (old.at object) (new.at object)
  pub losses : told → new.losses object ≡ old.losses object

abbrev pub AllLevelled : {X : Type 0} → Type 0 → (X → SeatView) → ObjectId → List X → List X → Type 0
AllLevelled told v object olds news = AllZip (λ s t. IsLevelled told object (v s) (v t)) olds news

-- an object may have been made in a member, where nothing was
pub record Supplies (told : Type 0) (object : ObjectId) (old new : SeatView) : Type 0 where
  pub rest : Touches told object old new
  pub may : told → MayCreate (old.at object) (new.at object)
  pub losses : told → old.losses object ≤ new.losses object
  pub losses_there : told → old.at object ≢ Missing → new.losses object ≡ old.losses object

-- objects may have been made in a member, where nothing was
pub record MayAdd (told : Type 0) (old new : SeatView) : Type 0 where
  pub live : new.live ≡ true → old.live ≡ true
  pub may : told → (q : ObjectId) → MayCreate (old.at q) (new.at q)
  pub losses : told → (q : ObjectId) → old.losses q ≤ new.losses q
  pub losses_there : told → (q : ObjectId) → old.at q ≢ Missing → new.losses q ≡ old.losses q
  pub later : old.count ≤ new.count

abbrev pub AllMayAdd : {X : Type 0} → Type 0 → (X → SeatView) → List X → List X → Type 0
AllMayAdd told v olds news = AllZip (λ s t. MayAdd told (v s) (v t)) olds news

-- an object of the list: one member has it that tells it, and so has each that is called; each member takes part
pub record IsSupplied {X : Type 0} (told : Type 0) (v : X → SeatView) (q : ObjectId) (ss : List X) (k : KnownState) : Type 0 where
  pub chief : told → IsThere (state_of (column v ss q) k.chief)
  pub there : AllByRecursion (λ s. told → (v s).live ≡ true → IsThere ((v s).at q)) ss
  pub places : length k.parts ≡ length ss
  pub parts : AllByRecursion (λ p. p.live ≡ true) k.parts

abbrev pub IsSuppliedAt : {X : Type 0} → Type 0 → (X → SeatView) → ObjectId → List X → Option KnownState → Type 0
IsSuppliedAt told v q ss None = Unit {0}
IsSuppliedAt told v q ss (Some k) = IsSupplied told v q ss k

abbrev pub AreSupplied : {X : Type 0} → Type 0 → (X → SeatView) → List X → List (ObjectId × KnownState) → Type 0
AreSupplied told v ss known = (q : ObjectId) → IsSuppliedAt told v q ss (known_at known q)

-- objects came into the list that a member had; those that aren't in it are as they were
pub record Introduces {X : Type 0} (told : Type 0) (v : X → SeatView) (olds news : List X)
    (old new : List (ObjectId × KnownState)) : Type 0 where
  pub before : (q : ObjectId) → known_at new q ≡ None → known_at old q ≡ None
  pub rest : (q : ObjectId) → known_at new q ≡ None → AllUntouched told v q olds news
  pub from : told → (q : ObjectId) → known_at old q ≡ None → known_at new q ≢ None → SomeSeat (λ s. IsThere ((v s).at q)) olds

-- a member that is called has none but those of the list
abbrev pub IsListedAt : {X : Type 0} → Type 0 → (X → SeatView) → List X → List (ObjectId × KnownState) → ℕ → Type 0
IsListedAt told v ss known k =
    (q : ObjectId) → known_at known q ≡ None → told → IsCalledAt v ss k → state_of (column v ss q) k ≡ Missing

-- a front of these bytes, or nothing
abbrev pub MayHave : List ℕ → ObjectState → Type 0
MayHave bytes Missing = Unit {0}
MayHave bytes (Kept content durable) = content ≡ take (length content) bytes
MayHave bytes (Lent m) = ⊥

-- the members' copies of an object are fronts of these bytes, as a crash leaves them, where they aren't missing
pub record AreCutOf {X : Type 0} (v : X → SeatView) (q : ObjectId) (bytes : List ℕ) (ss : List X) : Type 0 where
  pub low : length bytes < 2 ^ 63
  pub fronts : AllByRecursion (λ s. MayHave bytes ((v s).at q)) ss

-- the store tells these bytes: a front of them is what each member that is called had, so none of those had more; and some
-- member had the object
pub record IsStarted {X : Type 0} (v : X → SeatView) (q : ObjectId) (bytes : List ℕ) (olds news : List X)
    (content : List ℕ) (durable : ℕ) : Type 0 where
  pub front : content ≡ take (length content) bytes
  pub all : durable ≡ length content
  pub most : AllZip (λ s t. (v t).live ≡ true → MayHave content ((v s).at q)) olds news
  pub from : SomeSeat (λ s. IsThere ((v s).at q)) olds

-- what the store tells of an object after a start, where the members' copies were fronts of these bytes; nothing where each
-- that is called had nothing
abbrev pub StartsAs : {X : Type 0} → (X → SeatView) → ObjectId → List ℕ → List X → List X → ObjectState → Type 0
StartsAs v q bytes olds news Missing = AllZip (λ s t. (v t).live ≡ true → (v s).at q ≡ Missing) olds news
StartsAs v q bytes olds news (Kept content durable) = IsStarted v q bytes olds news content durable
StartsAs v q bytes olds news (Lent m) = ⊥

-- why no store was made: fewer members are called than have to be, or memory was refused
abbrev pub IsUnstarted : {X : Type 0} → (X → SeatView) → List X → ℕ → ReplicaFault → Type 0
IsUnstarted v ss quorum (TooFew live) = (live ≡ called_of v ss) × (called_of v ss < needed_of (length ss) quorum)
IsUnstarted v ss quorum Memory = Unit {0}
