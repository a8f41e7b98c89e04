-- The laws of taking one after another.
use Rattle.std.proofs.Common.{◌≡◌, ℕ, zero, suc, ◌<◌, ◌≤◌, Bool, true, false, not, cond, List, [], ◌∷◌, None, Some, refl, sym, ap, arith, ◌+◌, ◌++◌, nat_lt, nat_le, min, length, drop, get_or}
use Rattle.std.specs.Prelude.{find, filter, position}
use Rattle.std.specs.List.{cons_option, position_or_len, remove}
use Rattle.std.proofs.lemmas.Bool.{ltb-false}
use Rattle.std.proofs.lemmas.Bool.Decides.{nat_tests}
use Rattle.std.proofs.lemmas.List.Quantifiers.{position-Some}
use Rattle.commit_queue.specs.Queue.{Commit, GoalsFrom, is_ready, without_ready}
use Rattle.commit_queue.specs.Laws.{TakesInOrder, LeavesOthers, TakesNoneAtEnd}

pub takes_in_order : TakesInOrder
takes_in_order reach [] = refl
takes_in_order reach (c ∷ cs) = go (is_ready reach c) refl (takes_in_order reach cs)
  where
    ready : List Commit → List Commit
    ready xs = filter (is_ready reach) xs

    go : (b : Bool) → is_ready reach c ≡ b → filter (is_ready reach) cs ≡ cons_option (find (is_ready reach) cs) (filter (is_ready reach) (without_ready reach cs))
        → cond b (c ∷ filter (is_ready reach) cs) (filter (is_ready reach) cs) ≡ cons_option (cond b (Some c) (find (is_ready reach) cs)) (filter (is_ready reach) (cond b cs (c ∷ without_ready reach cs)))
    go true is rest = refl
    go false is rest = rw is rest

pub leaves_others : LeavesOthers
leaves_others reach [] = refl
leaves_others reach (c ∷ cs) = go (is_ready reach c) refl (leaves_others reach cs)
  where
    go : (b : Bool) → is_ready reach c ≡ b → filter (λ d. not (is_ready reach d)) (without_ready reach cs) ≡ filter (λ d. not (is_ready reach d)) cs
        → filter (λ d. not (is_ready reach d)) (cond b cs (c ∷ without_ready reach cs)) ≡ cond (not b) (c ∷ filter (λ d. not (is_ready reach d)) cs) (filter (λ d. not (is_ready reach d)) cs)
    go true is rest = refl
    go false is rest = rw is (ap (λ ds. c ∷ ds) rest)

pub takes_none_at_end : TakesNoneAtEnd
takes_none_at_end reach [] none = (refl, refl)
takes_none_at_end reach (c ∷ cs) none = go (is_ready reach c) none (takes_none_at_end reach cs)
  where
    go : (b : Bool) → cond b (Some c) (find (is_ready reach) cs) ≡ None → (find (is_ready reach) cs ≡ None → (filter (is_ready reach) cs ≡ []) × (without_ready reach cs ≡ cs))
        → (cond b (c ∷ filter (is_ready reach) cs) (filter (is_ready reach) cs) ≡ []) × (cond b cs (c ∷ without_ready reach cs) ≡ c ∷ cs)
    go true none rest = absurd (cc)
    go false none rest = ((rest none).0, ap (λ ds. c ∷ ds) (rest none).1)

-- What is at the first place that is ready is what is taken.
at_first : (reach : ℕ) (cs : List Commit) (i : ℕ) (d : Commit) → i < length cs → is_ready reach (get_or cs i d) ≡ true → ((k : ℕ) → k < i → is_ready reach (get_or cs k d) ≡ false)
    → (find (is_ready reach) cs ≡ Some (get_or cs i d)) × (without_ready reach cs ≡ remove cs i)
at_first reach [] i d within ready before = absurd (omega arith)
at_first reach (c ∷ cs) zero d within ready before = (rw ready refl, rw ready refl)
at_first reach (c ∷ cs) (suc i) d within ready before =
    let later : (find (is_ready reach) cs ≡ Some (get_or cs i d)) × (without_ready reach cs ≡ remove cs i) = at_first reach cs i d (omega arith) ready (λ k below. before (suc k) (omega arith)) in
    let other : is_ready reach c ≡ false = before 0 (omega arith) in
    (rw other later.0, rw other (ap (λ ds. c ∷ ds) later.1))

pub taken_at : (reach : ℕ) (cs : List Commit) (i : ℕ) (d : Commit) → Some i ≡ position (is_ready reach) cs
    → (find (is_ready reach) cs ≡ Some (get_or cs i d)) × (without_ready reach cs ≡ remove cs i) × (i < length cs)
taken_at reach cs i d is =
    let first = position-Some (is_ready reach) cs i d (sym is) in
    let taken = at_first reach cs i d first.0 first.1 first.2 in
    (taken.0, taken.1, first.0)

-- Where no place is ready, none is taken.
none_found : (reach : ℕ) (cs : List Commit) → length cs ≤ position_or_len (is_ready reach) cs → find (is_ready reach) cs ≡ None
none_found reach [] past = refl
none_found reach (c ∷ cs) past = go (is_ready reach c) past (none_found reach cs)
  where
    go : (b : Bool) → length (c ∷ cs) ≤ cond (not b) (1 + position_or_len (is_ready reach) cs) 0 → (length cs ≤ position_or_len (is_ready reach) cs → find (is_ready reach) cs ≡ None)
        → cond b (Some c) (find (is_ready reach) cs) ≡ None
    go true past rest = absurd (omega arith)
    go false past rest = rest (omega arith)

pub none_taken : (reach : ℕ) (cs : List Commit) → None ≡ position (is_ready reach) cs → (find (is_ready reach) cs ≡ None) × (without_ready reach cs ≡ cs)
none_taken reach cs is =
    let none : find (is_ready reach) cs ≡ None = none_found reach cs (go (nat_lt (position_or_len (is_ready reach) cs) (length cs)) refl is) in
    (none, (takes_none_at_end reach cs none).1)
  where
    go : (b : Bool) → nat_lt (position_or_len (is_ready reach) cs) (length cs) ≡ b → None ≡ cond b (Some (position_or_len (is_ready reach) cs)) None → length cs ≤ position_or_len (is_ready reach) cs
    go true below is = absurd (cc)
    go false below is = ltb-false (position_or_len (is_ready reach) cs) (length cs) below

-- No goal is below the least.

pub none_below : (reach least : ℕ) (cs : List Commit) → GoalsFrom least cs → reach < least → (find (is_ready reach) cs ≡ None) × (without_ready reach cs ≡ cs)
none_below reach least cs from below = let none = go cs from in (none, (takes_none_at_end reach cs none).1)
  where
    go : (cs : List Commit) → GoalsFrom least cs → find (is_ready reach) cs ≡ None
    go [] from = refl
    go (c ∷ cs) from = let other : is_ready reach c ≡ false = lt_false c.goal reach (omega (arith, from.0)) in rw other (go cs from.1)
      where
        lt_false : (n m : ℕ) → m < n → nat_le n m ≡ false
        lt_false n m lt = grind (arith, nat_tests)

all_beyond : (reach : ℕ) (cs : List Commit) → find (is_ready reach) cs ≡ None → GoalsFrom (reach + 1) cs
all_beyond reach [] none = tt
all_beyond reach (c ∷ cs) none = beyond (is_ready reach c) refl none (all_beyond reach cs)
  where
    beyond : (b : Bool) → is_ready reach c ≡ b → cond b (Some c) (find (is_ready reach) cs) ≡ None → (find (is_ready reach) cs ≡ None → GoalsFrom (reach + 1) cs)
        → (reach + 1 ≤ c.goal) × GoalsFrom (reach + 1) cs
    beyond true is none rest = absurd (cc)
    beyond false is none rest = (grind (arith, nat_tests), rest none)

-- where no place is ready each goal is beyond reach
pub from_none : (reach : ℕ) (cs : List Commit) → None ≡ position (is_ready reach) cs → GoalsFrom (reach + 1) cs
from_none reach cs is = all_beyond reach cs (none_taken reach cs is).0

pub from_less : (least less : ℕ) (cs : List Commit) → less ≤ least → GoalsFrom least cs → GoalsFrom less cs
from_less least less [] le from = tt
from_less least less (c ∷ cs) le from = (omega (arith, le, from.0), from_less least less cs le from.1)

pub from-snoc : (least goal : ℕ) (cs : List Commit) (c : Commit) → GoalsFrom least cs → GoalsFrom (min least c.goal) (cs ++ c ∷ [])
from-snoc least goal [] c from = (omega arith, tt)
from-snoc least goal (d ∷ cs) c from = (omega (arith, from.0), from-snoc least goal cs c from.1)

pub from-drop : (least : ℕ) (cs : List Commit) → GoalsFrom least cs → GoalsFrom least (drop 1 cs)
from-drop least [] from = tt
from-drop least (c ∷ cs) from = from.1

pub from-remove : (least : ℕ) (cs : List Commit) (i : ℕ) → GoalsFrom least cs → GoalsFrom least (remove cs i)
from-remove least [] zero from = tt
from-remove least [] (suc i) from = tt
from-remove least (c ∷ cs) zero from = from.1
from-remove least (c ∷ cs) (suc i) from = (from.0, from-remove least cs i from.1)

pub ruleset least_steps = (from-snoc, from-drop, from-remove)
