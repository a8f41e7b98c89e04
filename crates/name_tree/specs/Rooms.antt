-- A map in which a key with no value is room for one.
use Rattle.std.specs.Prelude.{ℕ, List, [], ◌∷◌, Option, Some, None, IsSome, nat_lt, if◌then◌else◌}
use Rattle.std.specs.Borrow.{Bor}
use Rattle.std.specs.Ordering.{nat_cmp}
use Rattle.std.specs.Map.{lookup}
use Rattle.std.specs.BTreeMap.{is_at}

-- the entries that have a value
abbrev pub filled_entries : {K V : Type 0} → List (K × Option V) → List (K × V)
filled_entries [] = []
filled_entries (e ∷ es) = with_value e.0 e.1 (filled_entries es)
  where
    with_value : {K V : Type 0} → K → Option V → List (K × V) → List (K × V)
    with_value k None rest = rest
    with_value k (Some v) rest = (k, v) ∷ rest

-- the value at a key that may be room
abbrev pub inner : {A : Type 0} → Option (Option A) → Option A
inner None = None
inner (Some x) = x

-- the value under a key, and the same by the entries that have one
abbrev pub slot_at : {V : Type 0} → ℕ → List (ℕ × Option V) → Option V
slot_at k es = inner (lookup (is_at (nat_cmp k)) es)

abbrev pub value_at : {V : Type 0} → ℕ → List (ℕ × Option V) → Option V
value_at k es = lookup (is_at (nat_cmp k)) (filled_entries es)

-- there is a value under a key, or room for one
abbrev pub HasKey : {V : Type 0} → ℕ → List (ℕ × Option V) → Type 0
HasKey k es = IsSome (lookup (is_at (nat_cmp k)) es)

-- the first entry with a key above n
abbrev pub first_above : {V : Type 0} → ℕ → List (ℕ × V) → Option (ℕ × V)
first_above n [] = None
first_above n (e ∷ es) = if nat_lt n e.0 then Some e else first_above n es

-- an entry whose value is lent
abbrev pub lent_entry : {V : Type 0} → Option (ℕ × Bor V) → Option (ℕ × V)
lent_entry None = None
lent_entry (Some e) = Some (e.0, e.1.now)

-- the first entry
abbrev pub first_entry : {V : Type 0} → List (ℕ × V) → Option (ℕ × V)
first_entry [] = None
first_entry (e ∷ es) = Some e
