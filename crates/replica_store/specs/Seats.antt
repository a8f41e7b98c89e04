-- The members of a replicated store, as contracts see them, and what the store tells of an object.
use Rattle.std.specs.Prelude.{◌≡◌, ℕ, zero, suc, ◌+◌, ◌-◌, ◌^◌, ◌<◌, ◌&&◌, List, [], ◌∷◌, map, sum_by, Bool, true, false, not, eqb, leb, if◌then◌else◌, min, length, Option, Some, None}
use Rattle.std.specs.List.{AllByRecursion, AllZip}
use Rattle.std.specs.BTreeMap.{is_at}
use Rattle.std.specs.Map.{lookup}
use Rattle.gw_model.specs.declared.object.ObjectId.{ObjectId}
use Rattle.append_store.specs.Calls.{object_cmp}
use Rattle.append_store.specs.State.{ObjectState, Missing, Kept, Lent, IsAway}
use Rattle.replica_store.specs.Marks.{joined}
use Rattle.replica_store.specs.Parts.{PartView, one_if}
use Rattle.replica_store.specs.declared.calls.Answered.{Answered}
use Rattle.replica_store.specs.declared.seats.Seat.{Seat}

-- what a member tells, whether it is still called, and whether it made the object of the last creation
pub record SeatView : Type 0 where
  pub at : ObjectId → ObjectState
  pub losses : ObjectId → ℕ
  pub count : ℕ
  pub live : Bool
  pub made : Bool

abbrev pub seat_view : {C : Type 0} → (C → ObjectId → ObjectState) → (C → ObjectId → ℕ) → (C → ℕ) → Seat C → SeatView
seat_view at losses count s = record { at = at s.cluster; losses = losses s.cluster; count = count s.cluster; live = s.live; made = s.made }

-- what is kept of an object: the member that tells it, how many bytes are durable in each member
-- that takes part, and at each member's place whether it takes part. While the object is out there are no parts.
pub record KnownState : Type 0 where
  pub chief : ℕ
  pub synced : ℕ
  pub parts : List PartView

-- what the members have of an object
abbrev pub column : {X : Type 0} → (X → SeatView) → List X → ObjectId → List ObjectState
column v ss q = map (λ s. (v s).at q) ss

-- the members' losses of an object, together
abbrev pub losses_of : {X : Type 0} → (X → SeatView) → List X → ObjectId → ℕ
losses_of v ss q = sum_by (λ s. (v s).losses q) ss

-- how often the members have failed, together
abbrev pub counts_of : {X : Type 0} → (X → SeatView) → List X → ℕ
counts_of v ss = sum_by (λ s. (v s).count) ss

-- how many members are still called
abbrev pub called_of : {X : Type 0} → (X → SeatView) → List X → ℕ
called_of v ss = sum_by (λ s. one_if (v s).live) ss

-- the member at this place is still called
abbrev pub IsCalledAt : {X : Type 0} → (X → SeatView) → List X → ℕ → Type 0
IsCalledAt v [] k = ⊥
IsCalledAt v (s ∷ ss) zero = (v s).live ≡ true
IsCalledAt v (s ∷ ss) (suc k) = IsCalledAt v ss k

-- what is out of one member
abbrev pub mark_in : ObjectState → Option (List ObjectId)
mark_in Missing = None
mark_in (Kept bytes durable) = None
mark_in (Lent m) = Some m

abbrev pub is_same_content : List ℕ → List ℕ → Bool
is_same_content [] [] = true
is_same_content [] (y ∷ ys) = false
is_same_content (x ∷ xs) [] = false
is_same_content (x ∷ xs) (y ∷ ys) = eqb x y && is_same_content xs ys

-- these bytes, and at least so many of them durable
abbrev pub is_copy : List ℕ → ℕ → ObjectState → Bool
is_copy bytes synced Missing = false
is_copy bytes synced (Kept content durable) = is_same_content bytes content && leb synced durable
is_copy bytes synced (Lent m) = false

abbrev pub is_at_home : ObjectState → Bool
is_at_home Missing = true
is_at_home (Kept bytes durable) = true
is_at_home (Lent m) = false

-- a member that takes part has a copy, and the object is out of none
abbrev pub is_in_place : List ℕ → ℕ → Bool → ObjectState → Bool
is_in_place bytes synced true state = is_copy bytes synced state
is_in_place bytes synced false state = is_at_home state

-- fewer than 2^63 bytes, the limit of a file
abbrev pub is_low : List ℕ → Bool
is_low bytes = leb (length bytes) (2 ^ 63 - 1)

-- so it is of each member, and the bytes are those of a file
abbrev pub are_copies : List ℕ → ℕ → List PartView → List ObjectState → Bool
are_copies bytes synced [] [] = is_low bytes
are_copies bytes synced [] (s ∷ ss) = false
are_copies bytes synced (p ∷ ps) [] = false
are_copies bytes synced (p ∷ ps) (s ∷ ss) = is_in_place bytes synced p.live s && are_copies bytes synced ps ss

-- no member takes part
abbrev pub none_live : List PartView → Bool
none_live [] = true
none_live (p ∷ ps) = not p.live && none_live ps

-- the object isn't out, and no member takes part
abbrev pub has_no_member : List PartView → Bool
has_no_member [] = false
has_no_member (p ∷ ps) = none_live (p ∷ ps)

-- what one member has
abbrev pub state_of : List ObjectState → ℕ → ObjectState
state_of [] k = Missing
state_of (s ∷ ss) zero = s
state_of (s ∷ ss) (suc k) = state_of ss k

-- What the store tells of an object that its list has, by what the chief has of it. Where those that
-- take part aren't copies of one another, as after a foreign file was given back, it is out for good.
abbrev pub told_by : KnownState → List ObjectState → ObjectState → ObjectState
told_by k states Missing = if has_no_member k.parts then Missing else Lent []
told_by k states (Kept bytes durable) =
    if are_copies bytes k.synced k.parts states then Kept bytes (min k.synced (length bytes)) else Lent []
told_by k states (Lent m) = Lent (joined (map mark_in states))

abbrev pub told_of : Option KnownState → List ObjectState → ObjectState
told_of None states = Missing
told_of (Some k) states = told_by k states (state_of states k.chief)

-- what is kept of an object, if the list has it
abbrev pub known_at : List (ObjectId × KnownState) → ObjectId → Option KnownState
known_at known q = lookup (is_at (object_cmp q)) known

-- each member that is called takes part in an object that isn't out
abbrev pub TakesPart : SeatView → PartView → Type 0
TakesPart s p = s.live ≡ true → p.live ≡ true

abbrev pub AllTakePart : {X : Type 0} → (X → SeatView) → List X → List PartView → Type 0
AllTakePart v ss [] = Unit {0}
AllTakePart v ss (p ∷ ps) = AllZip (λ s p. TakesPart (v s) p) ss (p ∷ ps)

-- a member has nothing of an object that isn't in the list, if it is called, and it isn't out of it
pub record IsUnused (told : Type 0) (q : ObjectId) (s : SeatView) : Type 0 where
  pub missing : told → s.live ≡ true → s.at q ≡ Missing
  pub inside : told → IsAway (s.at q) → ⊥

abbrev pub IsSoundAt : {X : Type 0} → Type 0 → (X → SeatView) → List X → ObjectId → Option KnownState → Type 0
IsSoundAt told v ss q None = AllByRecursion (λ s. IsUnused told q (v s)) ss
IsSoundAt told v ss q (Some k) = AllTakePart v ss k.parts

-- the list and the members go together
pub record IsSoundReplica {X : Type 0} (told : Type 0) (v : X → SeatView) (ss : List X)
    (known : List (ObjectId × KnownState)) (quorum : ℕ) : Type 0 where
  pub enough : 0 < quorum
  pub each : (q : ObjectId) → IsSoundAt told v ss q (known_at known q)

-- the members, what is kept of each object, how many members have to do a call, and the calls that were answered
pub record ReplicaState (C : Type 0) : Type 0 where
  pub seats : List (Seat C)
  pub known : List (ObjectId × KnownState)
  pub quorum : ℕ
  pub answered : Answered

-- what the store tells of an object
abbrev pub told_in : {C : Type 0} → (Seat C → SeatView) → ReplicaState C → ObjectId → ObjectState
told_in v r q = told_of (known_at r.known q) (column v r.seats q)

abbrev pub losses_in : {C : Type 0} → (Seat C → SeatView) → ReplicaState C → ObjectId → ℕ
losses_in v r q = losses_of v r.seats q

abbrev pub faults_in : {C : Type 0} → (Seat C → SeatView) → ReplicaState C → ℕ
faults_in v r = min (counts_of v r.seats + r.answered.refusals) (2 ^ 64 - 1)
