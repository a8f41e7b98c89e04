-- What one call of a replicated store makes of its members and of what is kept of the object.
use Rattle.std.specs.Prelude.{◌≡◌, ◌⊎◌, List, [], Bool, true, false, Option, Some, None}
use Rattle.std.specs.List.{AllByRecursion, AllZip}
use Rattle.gw_model.specs.declared.object.ObjectId.{ObjectId}
use Rattle.append_store.specs.State.{ObjectState, Missing, Kept, Lent}
use Rattle.append_store.specs.Calls.{Guards}
use Rattle.replica_store.specs.Parts.{FilesState, bytes_in, durable_in, file_mark}
use Rattle.replica_store.specs.Seats.{SeatView, KnownState, AllTakePart, IsUnused, column, losses_of, told_of}
use Rattle.replica_store.specs.Steps.{Touches}
use Rattle.replica_store.specs.declared.kept.Creation.{Creation}
use Rattle.replica_store.specs.declared.kept.Creation.TheVariants.{Made, Nowhere, Refused}

-- no member is called anew, and nothing else is touched
abbrev pub AllTouch : {X : Type 0} → Type 0 → (X → SeatView) → ObjectId → List X → List X → Type 0
AllTouch told v object olds news = AllZip (λ s t. Touches told object (v s) (v t)) olds news

-- the object isn't in the list, so far as the members go
abbrev pub AllUnused : {X : Type 0} → Type 0 → (X → SeatView) → ObjectId → List X → Type 0
AllUnused told v object ss = AllByRecursion (λ s. IsUnused told object (v s)) ss

abbrev pub NoneCalled : {X : Type 0} → (X → SeatView) → List X → Type 0
NoneCalled v ss = AllByRecursion (λ s. (v s).live ≡ false) ss

-- what the store tells of an object of which this is kept
abbrev pub told_now : {X : Type 0} → (X → SeatView) → ObjectId → List X → KnownState → ObjectState
told_now v object ss k = told_of (Some k) (column v ss object)

-- where a member is still called the object is gone, and else it is as before, or gone
abbrev pub Deleted : {X : Type 0} → Type 0 → (X → SeatView) → ObjectId → List X → List X → KnownState → KnownState → Bool → Type 0
Deleted told v object olds news k k' true = AllUnused told v object news
    × (told → Guards (told_now v object olds k) Missing (losses_of v olds object) (losses_of v news object))
Deleted told v object olds news k k' false = NoneCalled v news × AllTakePart v news k'.parts
    × (told → (told_now v object news k' ≡ told_now v object olds k) ⊎ (told_now v object news k' ≡ Missing))
    × (told → Guards (told_now v object olds k) (told_now v object news k') (losses_of v olds object) (losses_of v news object))

-- the object was made where a member is still called; else, and where memory was refused, there is nothing
abbrev pub CreatedAs : {X : Type 0} → Type 0 → (X → SeatView) → ObjectId → List X → KnownState → Creation → Type 0
CreatedAs told v object news k' Made = AllTakePart v news k'.parts × (told → told_now v object news k' ≡ Kept [] 0)
CreatedAs told v object news k' Nowhere = NoneCalled v news × AllUnused told v object news
CreatedAs told v object news k' Refused = AllUnused told v object news

-- the object is out, and the file has what it had; or it is as before
abbrev pub TakenOut : Type 0 → ObjectState → ObjectState → Option FilesState → Type 0
TakenOut told old new None = told → new ≡ old
TakenOut told old new (Some f) = told → (old ≡ Kept (bytes_in f) (durable_in f)) × (new ≡ Lent (file_mark f))
