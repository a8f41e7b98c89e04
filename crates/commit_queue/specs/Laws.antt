-- What taking one after another comes to.
use Rattle.std.specs.Prelude.{◌≡◌, ℕ, not, None, List, [], filter, find}
use Rattle.std.specs.List.{cons_option}
use Rattle.commit_queue.specs.Queue.{Commit, is_ready, without_ready}

-- Those that are ready are the one that is taken, and then those that are ready among the others: they are taken in the
-- order in which they were added, and each once.
abbrev pub TakesInOrder : Type 0
TakesInOrder = (reach : ℕ) (cs : List Commit)
    → filter (is_ready reach) cs ≡ cons_option (find (is_ready reach) cs) (filter (is_ready reach) (without_ready reach cs))

-- Those that aren't ready stay, in their order.
abbrev pub LeavesOthers : Type 0
LeavesOthers = (reach : ℕ) (cs : List Commit)
    → filter (λ c. not (is_ready reach c)) (without_ready reach cs) ≡ filter (λ c. not (is_ready reach c)) cs

-- Where none is taken none is ready, and nothing changes.
abbrev pub TakesNoneAtEnd : Type 0
TakesNoneAtEnd = (reach : ℕ) (cs : List Commit) → find (is_ready reach) cs ≡ None
    → (filter (is_ready reach) cs ≡ []) × (without_ready reach cs ≡ cs)
