-- How the members' files of one object are brought to one content.
use Rattle.std.specs.Prelude.{◌≡◌, ◌≤◌, ℕ, true, false, List, length, take}
use Rattle.std.specs.List.{AllByRecursion, AllZip}
use Rattle.gw_outside.specs.Causes.{Rose}
use Rattle.gw_outside.specs.declared.tally.Tally.{Tally}
use Rattle.replica_store.specs.Copying.{Extends}
use Rattle.replica_store.specs.Parts.{PartView, IsCalled}

-- a front of these bytes, with so many at least
pub record IsFront (bytes : List ℕ) (least : ℕ) (content : List ℕ) : Type 0 where
  pub long : least ≤ length content
  pub front : content ≡ take (length content) bytes

-- all that are written are fronts of these bytes
abbrev pub AreFronts : Type 0 → List ℕ → ℕ → List PartView → Type 0
AreFronts told bytes least ps = AllByRecursion (λ p. p.live ≡ true → told → IsFront bytes least p.content) ps

-- what came of those that were written are fronts of these bytes
abbrev pub StayFronts : Type 0 → List ℕ → ℕ → List PartView → List PartView → Type 0
StayFronts told bytes least olds news = AllZip (λ p q. p.live ≡ true → told → IsFront bytes least q.content) olds news

-- the number that is kept of each is its length
abbrev pub AreMeasured : List PartView → Type 0
AreMeasured ps = AllByRecursion (λ p. p.kept ≡ length p.content) ps

-- the calls that failed may have become more
abbrev pub FailsOn : Tally → Tally → Type 0
FailsOn old new = old.failed ≤ new.failed

-- a call failed
abbrev pub HasFailed : Tally → Tally → Type 0
HasFailed old new = Rose old.failed new.failed

-- a file that calls were made on: it is the same file with what it had in front, and is dropped only
-- where a call failed; one that isn't written any more stays as it is
pub record Serves (told : Type 0) (old new : PartView) : Type 0 where
  pub live : new.live ≡ true → old.live ≡ true
  pub idle : old.live ≡ false → told → new.content ≡ old.content
  pub front : told → old.content ≡ take (length old.content) new.content
  pub durable : told → old.durable ≤ new.durable
  pub mark : new.mark ≡ old.mark
  pub later : FailsOn old.tally new.tally
  pub dropped : IsCalled old → new.live ≡ false → HasFailed old.tally new.tally

-- its length is noted
pub record Measures (old new : PartView) : Type 0 where
  pub mark : new.mark ≡ old.mark
  pub tally : new.tally ≡ old.tally
  pub live : new.live ≡ old.live
  pub content : new.content ≡ old.content
  pub durable : new.durable ≡ old.durable
  pub measured : new.kept ≡ length new.content

-- what others lack is read of it
pub record Lends (told : Type 0) (old new : PartView) : Type 0 where
  pub serves : Serves told old new
  pub content : told → new.content ≡ old.content

-- it gets what it lacks of these bytes, or a part of that
pub record CatchesUp (told : Type 0) (source : List ℕ) (old new : PartView) : Type 0 where
  pub serves : Serves told old new
  pub content : told → Extends source old.content new.content

-- it gets all that it lacks of these bytes, if it is written still
pub record Completes (told : Type 0) (source : List ℕ) (old new : PartView) : Type 0 where
  pub catches : CatchesUp told source old new
  pub whole : new.live ≡ true → told → length source ≤ length new.content

-- a file has these bytes, all of them durable
pub record IsLevel (bytes : List ℕ) (p : PartView) : Type 0 where
  pub content : p.content ≡ bytes
  pub durable : length bytes ≤ p.durable

abbrev pub AreLevel : Type 0 → List ℕ → List PartView → Type 0
AreLevel told bytes ps = AllByRecursion (λ p. p.live ≡ true → told → IsLevel bytes p) ps
