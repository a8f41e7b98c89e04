-- What a call of the store answers, by what it made of the members and of the list.
use Rattle.std.proofs.Common.{◌≡◌, ◌≢◌, ◌≤◌, ◌⊎◌, inl, inr, ℕ, ◌+◌, ◌-◌, ◌^◌, ◌<◌, List, min, sym, ap, subst, arith}
use Rattle.gw_model.specs.declared.object.ObjectId.{ObjectId}
use Rattle.gw_outside.specs.Causes.{Carries}
use Rattle.replica_store.specs.Parts.{FilesState, count_in, counts, fresh_files}
use Rattle.replica_store.specs.Seats.{SeatView, KnownState, IsSoundReplica, losses_of}
use Rattle.replica_store.specs.Objects.{AreSound, LeavesOtherObjects}
use Rattle.replica_store.proofs.Changes.{same_name}

pub some_called : (n q : ℕ) → 0 < q → q ≤ n → 0 < n
some_called n q some enough = omega (arith, some, enough)

pub still_sound : {X : Type 0} (told : Type 0) (v : X → SeatView) (olds news : List X) (old new : List (ObjectId × KnownState)) (quorum : ℕ) → IsSoundReplica told v olds old quorum → AreSound told v news new → IsSoundReplica told v news new quorum
still_sound told v olds news old new quorum was is = record { enough = was.enough; each = is }

-- a file's faults, where its members' files went back to them
pub carries_own : (a b r g s : ℕ) → Carries a g b → Carries (min (a + r) (2 ^ 64 - 1)) (min (g + s) (2 ^ 64 - 1)) (min (b + min (r + s) (2 ^ 64 - 1)) (2 ^ 64 - 1))
carries_own a b r g s is = let x = is.later in let y = is.carried in record { later = omega (arith, x); carried = omega (arith, x, y) }

-- and where it was let go
pub carries_all : (a b r f : ℕ) → a ≤ b → f ≤ 2 ^ 64 - 1 → Carries (min (a + r) (2 ^ 64 - 1)) f (min (b + min (r + f) (2 ^ 64 - 1)) (2 ^ 64 - 1))
carries_all a b r f later low = record { later = omega (arith, later); carried = omega (arith, later, low) }

pub fresh_count : (f : FilesState) → f ≡ fresh_files f.parts f.chief f.quorum f.synced → counts f.parts ≡ 0 → count_in f ≡ 0
fresh_count f is none = let e = ap (λ h. h.answered.refusals) is in omega (arith, e, none)

-- no losses of this object, nor of any other
all_at : {X : Type 0} (v : X → SeatView) (object : ObjectId) (olds news : List X) → ((q : ObjectId) → q ≢ object → losses_of v news q ≡ losses_of v olds q) → losses_of v news object ≡ losses_of v olds object → (q : ObjectId) → (q ≡ object) ⊎ (q ≢ object) → losses_of v news q ≡ losses_of v olds q
all_at v object olds news others here q (inl same) = subst (λ r. losses_of v news r ≡ losses_of v olds r) (sym same) here
all_at v object olds news others here q (inr other) = others q other

pub all_losses : {X : Type 0} (v : X → SeatView) (told : Type 0) (object : ObjectId) (olds news : List X) (old new : List (ObjectId × KnownState)) → LeavesOtherObjects told v object olds news old new → losses_of v news object ≡ losses_of v olds object → told → (q : ObjectId) → losses_of v news q ≡ losses_of v olds q
all_losses v told object olds news old new rest here t q = all_at v object olds news (rest.no_losses t) here q (same_name q object)
