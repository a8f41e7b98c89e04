-- Logs behind one another.
use Rattle.std.proofs.Common.{◌≡◌, ℕ, List, [], ◌∷◌, ◌++◌, Ok, Err, Result, refl}
use Rattle.name_tree.specs.Tree.{Tree}
use Rattle.edit_log.specs.Edits.{Logged, Edits, DamagedAt, edits_of}
use Rattle.edit_log.specs.Start.{Refusal, after_log, tree_after_log, tree_after_logs, tree_with_edits}

abbrev pub and_then : Result Tree Refusal → List (ℕ × List ℕ) → Result Tree Refusal
and_then (Ok t) ls = tree_after_logs ls t
and_then (Err s) ls = Err s

pub logs_behind : (ls ms : List (ℕ × List ℕ)) (t : Tree) → tree_after_logs (ls ++ ms) t ≡ and_then (tree_after_logs ls t) ms
logs_behind [] ms t = refl
logs_behind (l ∷ ls) ms t = go (edits_of l.1) (λ u. logs_behind ls ms u)
  where
    go : (x : Logged) → ((u : Tree) → tree_after_logs (ls ++ ms) u ≡ and_then (tree_after_logs ls u) ms) → after_log l.0 (tree_after_log x t) (λ u. tree_after_logs (ls ++ ms) u) ≡ and_then (after_log l.0 (tree_after_log x t) (λ u. tree_after_logs ls u)) ms
    go (Edits es) rest = rest (tree_with_edits es t)
    go (DamagedAt place) rest = refl
