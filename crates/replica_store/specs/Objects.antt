-- What one call of a replicated store makes of its members and of its list of objects.
use Rattle.std.specs.Prelude.{◌≡◌, ◌≢◌, ◌⊎◌, ◌<◌, ◌≤◌, List, Bool, true, Option, Result, OnOk, OnErr, length, map, min}
use Rattle.gw_model.specs.declared.object.ObjectId.{ObjectId}
use Rattle.append_store.specs.State.{ObjectState, Missing, Kept, Lent}
use Rattle.append_store.specs.Calls.{Creates, MayCreate, Guards}
use Rattle.gw_outside.specs.Causes.{Carries}
use Rattle.replica_store.specs.Kept.{TakenOut}
use Rattle.replica_store.specs.Marks.{joined}
use Rattle.replica_store.specs.Parts.{FilesState, counts, part_of}
use Rattle.replica_store.specs.Seats.{SeatView, KnownState, IsSoundAt, called_of, column, counts_of, known_at, losses_of, told_of}

-- what the store tells of an object
abbrev pub told_at : {X : Type 0} → (X → SeatView) → List X → List (ObjectId × KnownState) → ObjectId → ObjectState
told_at v ss known q = told_of (known_at known q) (column v ss q)

abbrev pub AreSound : {X : Type 0} → Type 0 → (X → SeatView) → List X → List (ObjectId × KnownState) → Type 0
AreSound told v ss known = (q : ObjectId) → IsSoundAt told v ss q (known_at known q)

-- the list and the members go together, and other objects stay as they are
pub record LeavesOtherObjects {X : Type 0} (told : Type 0) (v : X → SeatView) (object : ObjectId)
    (olds news : List X) (old new : List (ObjectId × KnownState)) : Type 0 where
  pub sound : AreSound told v news new
  pub others : told → (q : ObjectId) → q ≢ object → told_at v news new q ≡ told_at v olds old q
  pub no_losses : told → (q : ObjectId) → q ≢ object → losses_of v news q ≡ losses_of v olds q
  pub later : counts_of v olds ≤ counts_of v news

-- the object is there, unless no member is called any more, or memory was refused
pub record CreatesIn {X T E : Type 0} (told : Type 0) (v : X → SeatView) (object : ObjectId)
    (olds news : List X) (old new : List (ObjectId × KnownState)) (result : Result T E) : Type 0 where
  pub rest : LeavesOtherObjects told v object olds news old new
  pub done : OnOk result (told → 0 < called_of v news → Creates (told_at v olds old object) (told_at v news new object))
  pub may : told → MayCreate (told_at v olds old object) (told_at v news new object)
  pub refused : OnErr result (told → told_at v news new object ≡ told_at v olds old object)
  pub guards : told → Guards (told_at v olds old object) (told_at v news new object) (losses_of v olds object) (losses_of v news object)
  pub losses_there : told → told_at v olds old object ≢ Missing → losses_of v news object ≡ losses_of v olds object

-- the object is gone, unless no member is called any more
pub record DeletesIn {X : Type 0} (told : Type 0) (v : X → SeatView) (object : ObjectId)
    (olds news : List X) (old new : List (ObjectId × KnownState)) (called : Bool) : Type 0 where
  pub rest : LeavesOtherObjects told v object olds news old new
  pub tried : told → called ≡ true
  pub done : called ≡ true → told → 0 < called_of v news → told_at v news new object ≡ Missing
  pub may : told → (told_at v news new object ≡ told_at v olds old object) ⊎ (told_at v news new object ≡ Missing)
  pub guards : told → Guards (told_at v olds old object) (told_at v news new object) (losses_of v olds object) (losses_of v news object)

-- the file is out, or it is as before
pub record TakesIn {X : Type 0} (told : Type 0) (v : X → SeatView) (object : ObjectId)
    (olds news : List X) (old new : List (ObjectId × KnownState)) (result : Option FilesState) : Type 0 where
  pub rest : LeavesOtherObjects told v object olds news old new
  pub losses : told → losses_of v news object ≡ losses_of v olds object
  pub taken : TakenOut told (told_at v olds old object) (told_at v news new object) result

-- the object is as the file had it, if the file was taken of it
pub record GivesIn {X : Type 0} (told : Type 0) (v : X → SeatView) (object : ObjectId)
    (olds news : List X) (old new : List (ObjectId × KnownState)) (k : KnownState) (given : Bool) : Type 0 where
  pub rest : LeavesOtherObjects told v object olds news old new
  pub own : told → told_at v olds old object ≡ Lent (joined (map (λ p. p.mark) k.parts))
      → told_at v news new object ≡ Kept (part_of k.parts k.chief).content
      (min k.synced (length (part_of k.parts k.chief).content))
  pub own_losses : told → told_at v olds old object ≡ Lent (joined (map (λ p. p.mark) k.parts))
      → losses_of v news object ≡ losses_of v olds object
  pub losses : told → losses_of v olds object ≤ losses_of v news object
  pub count : given ≡ true → Carries (counts_of v olds) (counts k.parts) (counts_of v news)
