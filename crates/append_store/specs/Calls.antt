-- What the calls of a store do to one object.
use Rattle.std.specs.Prelude.{◌≡◌, ◌⊎◌, ℕ, ◌≤◌, List, [], ◌∷◌, length, map, take, drop, Bool, true, false, Result, Ok, Err}
use Rattle.std.specs.List.{AllByRecursion}
use Rattle.std.specs.List.Sorted.{IsStrictlySortedBy}
use Rattle.std.specs.declared.cmp.Ordering.{Ordering}
use Rattle.gw_model.specs.declared.object.KeptObject.{KeptObject}
use Rattle.gw_model.specs.declared.object.ObjectId.{ObjectId}
use Rattle.gw_model.specs.contracts.object.ObjectIdOrd.TheImpl as object_order
use Rattle.append_store.specs.State.{ObjectState, Missing, Kept, Lent, IsThere, durable_of}
use Rattle.gw_outside.specs.Tally.{one_call}
use Rattle.gw_outside.specs.declared.tally.Tally.{Tally}
use Rattle.append_store.specs.declared.store.AppendFault.{AppendFault}
use Rattle.append_store.specs.declared.store.CreateFault.{CreateFault}
use Rattle.append_store.specs.declared.store.CreateFault.TheVariants as create_fault
use Rattle.append_store.specs.declared.store.ListFault.{ListFault}
use Rattle.append_store.specs.declared.store.ListFault.TheVariants as list_fault

-- an object that is there stays as it is, and one that isn't comes to be, empty
abbrev pub Creates : ObjectState → ObjectState → Type 0
Creates Missing new = new ≡ Kept [] 0
Creates (Kept bytes durable) new = new ≡ Kept bytes durable
Creates (Lent mark) new = new ≡ Lent mark

abbrev pub MayCreate : ObjectState → ObjectState → Type 0
MayCreate old new = (new ≡ old) ⊎ Creates old new

-- the losses never fall, and where they stand still the durable length didn't fall
pub record Guards (old new : ObjectState) (before now : ℕ) : Type 0 where
  pub later : before ≤ now
  pub held : before ≡ now → durable_of old ≤ durable_of new

-- the same of a store, by what it has under each name and its losses there
abbrev pub GuardsAt : {C : Type 0} → (C → ObjectId → ObjectState) → (C → ObjectId → ℕ) → ObjectId → C → C → Type 0
GuardsAt state losses q old new = Guards (state old q) (state new q) (losses old q) (losses new q)

-- how many bytes of a piece of so many were added
abbrev pub added_count : {T : Type 0} → Result T AppendFault → ℕ → ℕ
added_count (Ok x) n = n
added_count (Err e) n = e.kept

-- the bytes of a piece that were added
abbrev pub added_bytes : {T : Type 0} → Result T AppendFault → List ℕ → List ℕ
added_bytes result bytes = take (added_count result (length bytes)) bytes

-- so many of these bytes, from an offset on
abbrev pub part_at : List ℕ → ℕ → ℕ → List ℕ
part_at bytes offset n = take n (drop offset bytes)

-- the order of the names: logs first, then by numbers
abbrev pub object_cmp : ObjectId → ObjectId → Ordering
object_cmp = (object_order.ghosts).cmp

-- in strictly rising order of the names
abbrev pub IsRising : List KeptObject → Type 0
IsRising all = IsStrictlySortedBy object_cmp (map (λ k. k.object) all)

-- an object that isn't out is there, and has so many bytes
abbrev pub HasLength : ObjectState → ℕ → Type 0
HasLength Missing n = ⊥
HasLength (Kept bytes durable) n = length bytes ≡ n
HasLength (Lent mark) n = ⊥

-- an object of this name is in the list
abbrev pub Has : List KeptObject → ObjectId → Type 0
Has [] q = ⊥
Has (k ∷ ks) q = (k.object ≡ q) ⊎ Has ks q

-- each object of the list is there with its length, and each that is there is in the list
pub record Lists (at : ObjectId → ObjectState) (all : List KeptObject) : Type 0 where
  pub sound : AllByRecursion (λ k. HasLength (at k.object) k.length) all
  pub complete : (q : ObjectId) → IsThere (at q) → Has all q

-- a creation is counted, but one that was refused memory
abbrev pub creation_tally : {T : Type 0} → Result T CreateFault → Tally → Tally
creation_tally (Ok x) t = one_call false t
creation_tally (Err create_fault.Fault) t = one_call true t
creation_tally (Err create_fault.Memory) t = t

-- a listing is counted, but one that was refused memory
abbrev pub listing_tally : {T : Type 0} → Result T ListFault → Tally → Tally
listing_tally (Ok x) t = one_call false t
listing_tally (Err list_fault.Fault) t = one_call true t
listing_tally (Err list_fault.Memory) t = t
