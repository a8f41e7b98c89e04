-- Worked lists: what calls are answered with, computed by the definitions.
use Rattle.std.proofs.Common.{◌≡◌, ℕ, List, [], ◌∷◌, Some, None, length, refl}
use Rattle.dup_cache.specs.CallList.{CallList, call_key, no_replies, reply_for, with_used, with_begun, with_filled, without_call}

-- a call that was answered with a text
abbrev answered : List ℕ → List ℕ → CallList → CallList
answered key text l = with_filled key text (with_begun key (length text) l)

-- the calls a, b and c, of a client each
abbrev call_a : List ℕ
call_a = 1 ∷ []

abbrev call_b : List ℕ
call_b = 2 ∷ []

abbrev call_c : List ℕ
call_c = 3 ∷ []

-- of two that may be kept, the one that was used longest ago goes
abbrev first_two : CallList
first_two = answered call_b (20 ∷ []) (answered call_a (10 ∷ []) (no_replies 2))

third_puts_first_out : reply_for call_a (answered call_c (30 ∷ []) first_two) ≡ None
third_puts_first_out = refl

second_stays : reply_for call_b (answered call_c (30 ∷ []) first_two) ≡ Some (20 ∷ [])
second_stays = refl

third_is_kept : reply_for call_c (answered call_c (30 ∷ []) first_two) ≡ Some (30 ∷ [])
third_is_kept = refl

-- a use makes it the last used
used_first_stays : reply_for call_a (answered call_c (30 ∷ []) (with_used call_a first_two)) ≡ Some (10 ∷ [])
used_first_stays = refl

second_goes_instead : reply_for call_b (answered call_c (30 ∷ []) (with_used call_a first_two)) ≡ None
second_goes_instead = refl

-- no more are kept than may be
no_more_are_kept : length (answered call_c (30 ∷ []) first_two).calls ≡ 2
no_more_are_kept = refl

-- an empty reply is no answer, and one that was forgotten neither
empty_is_no_answer : reply_for call_a (with_begun call_a 10 (no_replies 2)) ≡ None
empty_is_no_answer = refl

forgotten_is_no_answer : reply_for call_b (without_call call_b first_two) ≡ None
forgotten_is_no_answer = refl

-- the same bytes from 10.0.0.1 and from 10.0.0.2 are two calls
key_of_first_client : call_key 167772161 (7 ∷ 8 ∷ []) ≡ 10 ∷ 0 ∷ 0 ∷ 1 ∷ 7 ∷ 8 ∷ []
unfolding call_key
key_of_first_client = refl

other_client_is_not_answered : reply_for (call_key 167772162 (7 ∷ [])) (answered (call_key 167772161 (7 ∷ [])) (10 ∷ []) (no_replies 2)) ≡ None
unfolding call_key
other_client_is_not_answered = refl
