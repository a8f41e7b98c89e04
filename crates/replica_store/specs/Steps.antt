-- What one call of a replicated store does in each member, and at its place among the parts.
use Rattle.std.specs.Prelude.{◌≡◌, ◌≢◌, ◌⊎◌, ℕ, ◌≤◌, List, [], ◌∷◌, true, false, is_some, Option, Some, None}
use Rattle.std.specs.List.{AllByRecursion}
use Rattle.gw_model.specs.declared.object.KeptObject.{KeptObject}
use Rattle.gw_model.specs.declared.object.ObjectId.{ObjectId}
use Rattle.gw_outside.specs.Causes.{Carries}
use Rattle.append_store.specs.State.{ObjectState, Missing, Kept, Lent, IsAway, bytes_of}
use Rattle.append_store.specs.Calls.{Guards, Lists}
use Rattle.replica_store.specs.Parts.{PartView}
use Rattle.replica_store.specs.Seats.{SeatView, IsUnused, mark_in}

-- each member before and after, with its part before and after
abbrev pub Together : {X P : Type 0} → (X → X → P → P → Type 0) → List X → List X → List P → List P → Type 0
Together R [] [] [] [] = Unit {0}
Together R [] [] [] (q ∷ qs) = ⊥
Together R [] [] (p ∷ ps) qs = ⊥
Together R [] (y ∷ ys) ps qs = ⊥
Together R (x ∷ xs) [] ps qs = ⊥
Together R (x ∷ xs) (y ∷ ys) [] qs = ⊥
Together R (x ∷ xs) (y ∷ ys) (p ∷ ps) [] = ⊥
Together R (x ∷ xs) (y ∷ ys) (p ∷ ps) (q ∷ qs) = R x y p q × Together R xs ys ps qs

-- no member is called anew, and nothing else than this object is touched
pub record Touches (told : Type 0) (object : ObjectId) (old new : SeatView) : Type 0 where
  pub live : new.live ≡ true → old.live ≡ true
  pub others : told → (q : ObjectId) → q ≢ object → new.at q ≡ old.at q
  pub no_losses : told → (q : ObjectId) → q ≢ object → new.losses q ≡ old.losses q
  pub later : old.count ≤ new.count

-- nothing is touched
pub record Stays (told : Type 0) (old new : SeatView) : Type 0 where
  pub live : new.live ≡ true → old.live ≡ true
  pub same : told → (q : ObjectId) → new.at q ≡ old.at q
  pub no_losses : told → (q : ObjectId) → new.losses q ≡ old.losses q
  pub later : old.count ≤ new.count

-- a deletion: a member where it fails is dropped, and one that isn't called stays as it is
pub record Deletes (told : Type 0) (object : ObjectId) (old new : SeatView) (part given : PartView) : Type 0 where
  pub rest : Touches told object old new
  pub flag : given.live ≡ new.live
  pub done : new.live ≡ true → told → new.at object ≡ Missing
  pub idle : old.live ≡ false → new.at object ≡ old.at object
  pub may : told → (new.at object ≡ old.at object) ⊎ (new.at object ≡ Missing)
  pub guards : told → Guards (old.at object) (new.at object) (old.losses object) (new.losses object)

-- a member that made the object has it empty, one that was refused memory has nothing, and it is out of none
pub record IsTried (told : Type 0) (object : ObjectId) (s : SeatView) : Type 0 where
  pub made : told → s.live ≡ true → s.made ≡ true → s.at object ≡ Kept [] 0
  pub refused : told → s.live ≡ true → s.made ≡ false → s.at object ≡ Missing
  pub inside : told → IsAway (s.at object) → ⊥

-- a creation: a member where it fails is dropped, but one that is refused memory
pub record Makes (told : Type 0) (object : ObjectId) (old new : SeatView) (part given : PartView) : Type 0 where
  pub rest : Touches told object old new
  pub flag : given.live ≡ new.live
  pub tried : IsTried told object new
  pub losses : told → old.losses object ≤ new.losses object

-- what was made is deleted, and a member where that fails is dropped
pub record Unmakes (told : Type 0) (object : ObjectId) (old new : SeatView) : Type 0 where
  pub rest : Touches told object old new
  pub unused : IsUnused told object new
  pub losses : told → old.losses object ≤ new.losses object

-- the member gave its file, or nothing
abbrev pub TakenAs : PartView → Option (List ObjectId) → ObjectState → ObjectState → Type 0
TakenAs given None old new = new ≡ old
TakenAs given (Some m) old new = (old ≡ Kept given.content given.durable) × (new ≡ Lent m)

-- a member that is called gives its file, or fails
pub record TakesFile (told : Type 0) (object : ObjectId) (old new : SeatView) (part given : PartView) : Type 0 where
  pub rest : Touches told object old new
  pub there : given.live ≡ is_some given.mark
  pub called : given.live ≡ true → old.live ≡ true
  pub taken : told → TakenAs given given.mark (old.at object) (new.at object)
  pub losses : told → new.losses object ≡ old.losses object
  pub fresh : given.count ≡ 0

-- the member has what its file had, or gets nothing
abbrev pub GivenAs : PartView → Option (List ObjectId) → ObjectState → ObjectState → Type 0
GivenAs part None old new = new ≡ old
GivenAs part (Some m) old new = new ≡ Kept part.content part.durable

-- a member gets its file back, if it gave one; it is dropped where the file was, or where it gave none
pub record GivesFile (told : Type 0) (object : ObjectId) (old new : SeatView) (part given : PartView) : Type 0 where
  pub rest : Touches told object old new
  pub flag : given.live ≡ new.live
  pub live : new.live ≡ true → part.live ≡ true
  pub nothing : part.mark ≡ None → (new.at object ≡ old.at object) × (new.losses object ≡ old.losses object)
  pub own : told → mark_in (old.at object) ≡ part.mark → GivenAs part part.mark (old.at object) (new.at object)
  pub own_losses : told → mark_in (old.at object) ≡ part.mark → new.losses object ≡ old.losses object
  pub losses : told → old.losses object ≤ new.losses object
  pub count : Carries old.count part.count new.count

-- it is so of some member
abbrev pub SomeSeat : {X : Type 0} → (X → Type 0) → List X → Type 0
SomeSeat P [] = ⊥
SomeSeat P (x ∷ xs) = P x ⊎ SomeSeat P xs

-- a member that is called told these
abbrev pub IsListedBy : Type 0 → SeatView → List KeptObject → Type 0
IsListedBy told s all = (s.live ≡ true) × (told → Lists s.at all)

-- each member that is called has these bytes
abbrev pub AllHave : {X : Type 0} → (X → SeatView) → ObjectId → List ℕ → List X → Type 0
AllHave v q bytes ss = AllByRecursion (λ s. (v s).live ≡ true → bytes_of ((v s).at q) ≡ bytes) ss
