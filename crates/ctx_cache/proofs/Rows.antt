-- Worked orders, computed by the definitions.
use Rattle.std.proofs.Common.{◌≡◌, ℕ, Bool, true, false, not, nat_eq, List, [], ◌∷◌, refl}
use Rattle.ctx_cache.specs.declared.order.Entrance.TheVariants.{There, Free, Replaces, Full}
use Rattle.ctx_cache.specs.Order.{brought_first, entrance_of, order_after_use, without_file}

abbrev all_idle : ℕ → Bool
all_idle n = true

abbrev all_busy : ℕ → Bool
all_busy n = false

-- One file at most may have a context. While 4 is busy there is none for 5, and once it is idle 5 comes in its place.
the_first_is_free : entrance_of all_busy 1 4 [] ≡ Free
the_first_is_free = refl

four_has_one : entrance_of all_busy 1 4 (4 ∷ []) ≡ There
four_has_one = refl

four_stays_while_busy : entrance_of all_busy 1 5 (4 ∷ []) ≡ Full
four_stays_while_busy = refl

four_leaves_once_idle : entrance_of all_idle 1 5 (4 ∷ []) ≡ Replaces 4
four_leaves_once_idle = refl

five_in_its_place : without_file 4 (brought_first 5 (4 ∷ [])) ≡ 5 ∷ []
five_in_its_place = refl

-- 4, 5 and 6 were entered in this order, and then 4 was used.
abbrev three : List ℕ
three = order_after_use 4 (brought_first 6 (brought_first 5 (brought_first 4 [])))

the_last_used_first : three ≡ 4 ∷ 6 ∷ 5 ∷ []
the_last_used_first = refl

a_stranger_changes_nothing : order_after_use 9 three ≡ three
a_stranger_changes_nothing = refl

the_least_used_leaves : entrance_of all_idle 3 7 three ≡ Replaces 5
the_least_used_leaves = refl

a_busy_one_is_passed_over : entrance_of (λ n. not (nat_eq n 5)) 3 7 three ≡ Replaces 6
a_busy_one_is_passed_over = refl

one_more_is_free : entrance_of all_idle 4 7 three ≡ Free
one_more_is_free = refl
