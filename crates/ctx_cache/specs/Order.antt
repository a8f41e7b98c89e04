-- The files that have a context, by their numbers, the one used last first.
use Rattle.std.specs.Prelude.{◌≡◌, ℕ, ◌<◌, ◌^◌, Bool, nat_eq, nat_lt, if◌then◌else◌, List, [], ◌∷◌, length, Option, Some, None}
use Rattle.std.specs.List.{list_any}
use Rattle.std.specs.Option.{option_or}
use Rattle.ctx_cache.specs.declared.order.Entrance.{Entrance}
use Rattle.ctx_cache.specs.declared.order.Entrance.TheVariants.{There, Free, Replaces, Full}

-- the files in this order, and how many may have a context
pub record OrderState : Type 0 where
  pub files : List ℕ
  pub most : ℕ

-- whether a file is listed
abbrev pub is_listed : ℕ → List ℕ → Bool
is_listed k files = list_any (nat_eq k) files

-- without a file
abbrev pub without_file : ℕ → List ℕ → List ℕ
without_file k [] = []
without_file k (n ∷ files) = if nat_eq k n then files else n ∷ without_file k files

-- a file is the one used last
abbrev pub brought_first : ℕ → List ℕ → List ℕ
brought_first k files = k ∷ without_file k files

-- a file was used, which is listed or not
abbrev pub order_after_use : ℕ → List ℕ → List ℕ
order_after_use k files = if is_listed k files then brought_first k files else files

-- the file that was used least recently of those that are idle
abbrev pub least_used_idle : (ℕ → Bool) → List ℕ → Option ℕ
least_used_idle idle [] = None
least_used_idle idle (n ∷ files) = option_or (least_used_idle idle files) (if idle n then Some n else None)

-- where there is no room: what a file finds by the one that it may come in place of
abbrev pub entrance_for : Option ℕ → Entrance
entrance_for None = Full
entrance_for (Some old) = Replaces old

-- what a file finds that is to have a context, by how many may have one
abbrev pub entrance_of : (ℕ → Bool) → ℕ → ℕ → List ℕ → Entrance
entrance_of idle most k files =
    if is_listed k files then There
    else if nat_lt (length files) most then Free
    else entrance_for (least_used_idle idle files)

-- what a test answers of each number is what `idle` says
abbrev pub AnswersAs : (ℕ → Bool → Type 0) → (ℕ → Bool) → Type 0
AnswersAs post idle = (n : ℕ) (answer : Bool) → n < 2 ^ 64 → post n answer → answer ≡ idle n
