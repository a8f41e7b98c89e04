-- What a store has under a name.
use Rattle.std.specs.Prelude.{◌≡◌, ◌⊎◌, ℕ, ◌≤◌, ◌+◌, min, List, [], length, take, Option, Some, None}
use Rattle.std.specs.Coded.{Unit-prop}
use Rattle.gw_model.specs.declared.object.ObjectId.{ObjectId}

pub data ObjectState : Type 0 where
  -- nothing
  Missing : ObjectState
  -- bytes, so many of which are durable: kept over a crash
  Kept : List ℕ → ℕ → ObjectState
  -- the file is out, and tells its bytes itself; the mark of that file
  Lent : List ObjectId → ObjectState

-- the object is there and isn't out
abbrev pub IsThere : ObjectState → Type 0
IsThere Missing = ⊥
IsThere (Kept bytes durable) = Unit {0}
IsThere (Lent mark) = ⊥

-- so that a type can keep this fact
pub IsThere-prop : (s : ObjectState) → IsProp (IsThere s)
IsThere-prop Missing = λ x y. absurd x
IsThere-prop (Kept bytes durable) = Unit-prop
IsThere-prop (Lent mark) = λ x y. absurd x

-- the object is out
abbrev pub IsAway : ObjectState → Type 0
IsAway Missing = ⊥
IsAway (Kept bytes durable) = ⊥
IsAway (Lent mark) = Unit {0}

-- how many bytes are durable, of an object that isn't out
abbrev pub durable_of : ObjectState → ℕ
durable_of Missing = 0
durable_of (Kept bytes durable) = durable
durable_of (Lent mark) = 0

-- the bytes of an object that isn't out
abbrev pub bytes_of : ObjectState → List ℕ
bytes_of Missing = []
bytes_of (Kept bytes durable) = bytes
bytes_of (Lent mark) = []

-- the bytes of an object, if it is there and isn't out
abbrev pub content_in : ObjectState → Option (List ℕ)
content_in Missing = None
content_in (Kept bytes durable) = Some bytes
content_in (Lent mark) = None

-- after a crash: a prefix, at least what was durable, and all of it durable
abbrev pub IsCrashImage : ObjectState → ObjectState → Type 0
IsCrashImage Missing new = new ≡ Missing
IsCrashImage (Kept bytes durable) new = (n : ℕ) × (durable ≤ n) × (n ≤ length bytes) × (new ≡ Kept (take n bytes) n)
IsCrashImage (Lent mark) new = new ≡ Lent mark

-- a call that failed may have left such an image
abbrev pub MayCut : ObjectState → ObjectState → Type 0
MayCut old new = (new ≡ old) ⊎ IsCrashImage old new

-- how many bytes are kept of so many, of which so many are durable: these and so many more
abbrev pub kept_length : ℕ → ℕ → ℕ → ℕ
kept_length pick size durable = min size (durable + pick)

-- the crash image that has so many bytes more than were durable, as far as there are any
abbrev pub cut_state : ℕ → ObjectState → ObjectState
cut_state pick Missing = Missing
cut_state pick (Kept bytes durable) = Kept (take (kept_length pick (length bytes) durable) bytes) (kept_length pick (length bytes) durable)
cut_state pick (Lent mark) = Lent mark
