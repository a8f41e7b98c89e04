-- What a call list is once a reply that was lent out of it was read.
use Rattle.std.specs.Prelude.{◌≡◌, List, ℕ, ⊤}
use Rattle.std.specs.Borrow.{Fml, MutBor, follows_so}
use mathlib.Core.Option.{none}
use Rattle.dup_cache.specs.CallList.{CallList, with_used}
use Rattle.dup_cache.specs.contracts.calls.Calls.{the_row}

-- the call that was looked for is the last used
abbrev pub ends_used : MutBor CallList → List ℕ → Fml
ends_used l key = follows_so the_row the_row l.ghost_name none (λ _ _. ⊤) (λ n. n ≡ with_used key l.now)
