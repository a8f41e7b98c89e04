-- How far chunks are, under the changes that an upload makes.
use Rattle.std.proofs.Common.{◌≡◌, ◌≢◌, ℕ, zero, suc, ◌+◌, ◌-◌, ◌%◌, ◌<◌, ◌≤◌, ◌⊎◌, Bool, true, false, cond, nat_lt, List, [], ◌∷◌, ◌++◌, Option, Some, None, refl, sym, ◌∙◌, ap, subst, inl, inr, arith, map, length, set, get_or, take, drop, add-one}
use Rattle.std.specs.List.{position_or_len}
use Rattle.std.specs.Prelude.{slice_get, replicate, count_by, slice_range, option_map, IfSome}
use Rattle.std.proofs.Math.Seq.{take-suc}
use Rattle.std.proofs.lemmas.Nat.{mod_below}
use Rattle.std.proofs.lemmas.Bool.{ltb-false}
use Rattle.std.proofs.lemmas.List.Folds.{position_or_len-set}
use Rattle.std.proofs.lemmas.List.Sums.{sum_by-set, sum_by-cons}
use Rattle.std.proofs.lemmas.List.{length-take, get_or-drop, length-drop}
use Rattle.std.proofs.lemmas.List.Quantifiers.{position-Some}
use Rattle.put_core.specs.declared.call.ChunkState.{ChunkState}
use Rattle.put_core.specs.declared.call.ChunkState.TheVariants.{Idle, Sent, Held}
use Rattle.put_core.specs.Steps.{PutState, first_unheld, is_unsent, is_sent, is_unheld, place_behind, last_place, idle_place, window_start, window_end, present_window, next_chunk, unheld_chunk, unsent_chunk}

-- What is held after one chunk changed is that chunk, or was held before.
pub held_after_set : (ms : List ChunkState) (c d : ℕ) (m : ChunkState) → slice_get (set ms c m) d ≡ Some Held → ((d ≡ c) × (m ≡ Held)) ⊎ (slice_get ms d ≡ Some Held)
held_after_set [] c d m is = inr is
held_after_set (n ∷ ms) zero zero m is = inl (refl, cc)
held_after_set (n ∷ ms) zero (suc d) m is = inr is
held_after_set (n ∷ ms) (suc c) zero m is = inr is
held_after_set (n ∷ ms) (suc c) (suc d) m is = next (held_after_set ms c d m is)
  where
    next : ((d ≡ c) × (m ≡ Held)) ⊎ (slice_get ms d ≡ Some Held) → ((suc d ≡ suc c) × (m ≡ Held)) ⊎ (slice_get ms d ≡ Some Held)
    next (inl e) = inl (ap suc e.0, e.1)
    next (inr e) = inr e

-- Nothing is held after a new beginning.
pub none_held : (ms : List ChunkState) (d : ℕ) → slice_get (map unheld_chunk ms) d ≢ Some Held
none_held [] d is = absurd (cc)
none_held (Idle ∷ ms) zero is = absurd (cc)
none_held (Sent ∷ ms) zero is = absurd (cc)
none_held (Held ∷ ms) zero is = absurd (cc)
none_held (m ∷ ms) (suc d) is = none_held ms d is

-- What is held after the link broke was held before.
pub held_unsent : (ms : List ChunkState) (d : ℕ) → slice_get (map unsent_chunk ms) d ≡ Some Held → slice_get ms d ≡ Some Held
held_unsent [] d is = is
held_unsent (Idle ∷ ms) zero is = absurd (cc)
held_unsent (Sent ∷ ms) zero is = absurd (cc)
held_unsent (Held ∷ ms) zero is = is
held_unsent (m ∷ ms) (suc d) is = held_unsent ms d is

-- Where no chunk is open, all are held.
pub all_held : (ms : List ChunkState) (d : ℕ) → length ms ≤ first_unheld ms → d < length ms → slice_get ms d ≡ Some Held
all_held [] d past within = absurd (omega arith)
all_held (Idle ∷ ms) d past within = absurd (omega arith)
all_held (Sent ∷ ms) d past within = absurd (omega arith)
all_held (Held ∷ ms) zero past within = refl
all_held (Held ∷ ms) (suc d) past within = all_held ms d (omega arith) (omega arith)

-- A new upload holds nothing.
pub none_held_new : (n d : ℕ) → slice_get (replicate n Idle) d ≢ Some Held
none_held_new zero d is = absurd (cc)
none_held_new (suc n) zero is = absurd (cc)
none_held_new (suc n) (suc d) is = none_held_new n d is

-- A change of each chunk, as far as a loop has come.
pub map_more : (f : ChunkState → ChunkState) (ms : List ChunkState) (i : ℕ) (d : ChunkState) → i < length ms
    → set (map f (take i ms) ++ drop i ms) i (f (get_or (map f (take i ms) ++ drop i ms) i d)) ≡ map f (take (i + 1) ms) ++ drop (i + 1) ms
map_more f ms i d within = rw (add-one) (steps ms i within)
  where
    steps : (ms : List ChunkState) (i : ℕ) → i < length ms → set (map f (take i ms) ++ drop i ms) i (f (get_or (map f (take i ms) ++ drop i ms) i d)) ≡ map f (take (suc i) ms) ++ drop (suc i) ms
    steps [] i within = absurd (omega arith)
    steps (m ∷ ms) zero within = refl
    steps (m ∷ ms) (suc i) within = ap (λ xs. f m ∷ xs) (steps ms i (omega arith))

last_place_push : (p : ChunkState → Bool) (ms : List ChunkState) (m : ChunkState) → last_place p (ms ++ m ∷ []) ≡ cond (p m) (Some (length ms)) (last_place p ms)
last_place_push p [] m = elim (p m) as (λ b. place_behind b None ≡ cond b (Some 0) None) [ true ↦ refl | false ↦ refl ]
last_place_push p (n ∷ ms) m = ap (place_behind (p n)) (last_place_push p ms m) ∙ go (p m)
  where
    go : (b : Bool) → place_behind (p n) (cond b (Some (length ms)) (last_place p ms)) ≡ cond b (Some (length (n ∷ ms))) (place_behind (p n) (last_place p ms))
    go true = ap Some (omega arith)
    go false = refl

-- One place less.
pub last_place_less : (p : ChunkState → Bool) (ms : List ChunkState) (i : ℕ) (d : ChunkState) → 0 < i → i ≤ length ms
    → last_place p (take i ms) ≡ cond (p (get_or ms (i - 1) d)) (Some (i - 1)) (last_place p (take (i - 1) ms))
last_place_less p ms zero d some within = absurd (omega arith)
last_place_less p ms (suc i) d some within =
    let same : suc i - 1 ≡ i = omega arith in
    rw (same, take-suc ms i d) (last_place_push p (take i ms) (get_or ms i d) ∙ ap (λ n. cond (p (get_or ms i d)) (Some n) (last_place p (take i ms))) (omega (arith, length-take-le ms i)))
  where
    length-take-le : (ms : List ChunkState) (i : ℕ) → i ≤ length ms → length (take i ms) ≡ i
    length-take-le ms i within = omega (arith, length-take i ms)

-- The last place that passes is one, and it passes.
last_place_is : (p : ChunkState → Bool) (ms : List ChunkState) (k : ℕ) (d : ChunkState) → last_place p ms ≡ Some k → (k < length ms) × (p (get_or ms k d) ≡ true)
last_place_is p [] k d is = absurd (cc)
last_place_is p (m ∷ ms) k d is = go (λ j e. last_place_is p ms j d e) (last_place p ms) refl (p m) refl is
  where
    go : ((j : ℕ) → last_place p ms ≡ Some j → (j < length ms) × (p (get_or ms j d) ≡ true)) → (o : Option ℕ) → last_place p ms ≡ o → (b : Bool) → p m ≡ b → place_behind b o ≡ Some k → (k < length (m ∷ ms)) × (p (get_or (m ∷ ms) k d) ≡ true)
    go rest (Some j) e b f g =
        let later : (j < length ms) × (p (get_or ms j d) ≡ true) = rest j e in
        let plus : j + 1 ≡ k = cc in
        let same : suc j ≡ k = omega arith in
        subst (λ n. (n < length (m ∷ ms)) × (p (get_or (m ∷ ms) n d) ≡ true)) same (omega (arith, later.0), later.1)
    go rest None e true f g =
        let same : 0 ≡ k = cc in
        subst (λ n. (n < length (m ∷ ms)) × (p (get_or (m ∷ ms) n d) ≡ true)) same (omega arith, f)
    go rest None e false f g = absurd (cc)

-- How many pass, after one changed.
pub count_set : (p : ChunkState → Bool) (ms : List ChunkState) (c : ℕ) (m : ChunkState) → c < length ms → count_by p (set ms c m) + cond (p (get_or ms c Idle)) 1 0 ≡ count_by p ms + cond (p m) 1 0
count_set p ms c m within = sum_by-set (λ x. cond (p x) 1 0) ms c m Idle within

pub count_unheld : (ms : List ChunkState) → count_by is_sent (map unheld_chunk ms) ≡ count_by is_sent ms
count_unheld [] = refl
count_unheld (m ∷ ms) =
    sum_by-cons (λ x. cond (is_sent x) 1 0) (unheld_chunk m) (map unheld_chunk ms)
    ∙ (cong_both (alike m) (count_unheld ms) ∙ sym (sum_by-cons (λ x. cond (is_sent x) 1 0) m ms))
  where
    alike : (m : ChunkState) → is_sent (unheld_chunk m) ≡ is_sent m
    alike Idle = refl
    alike Sent = refl
    alike Held = refl

    cong_both : {a b : Bool} {x y : ℕ} → a ≡ b → x ≡ y → cond a 1 0 + x ≡ cond b 1 0 + y
    cong_both e f = cc

pub count_unsent : (ms : List ChunkState) → count_by is_sent (map unsent_chunk ms) ≡ 0
count_unsent [] = refl
count_unsent (m ∷ ms) =
    sum_by-cons (λ x. cond (is_sent x) 1 0) (unsent_chunk m) (map unsent_chunk ms) ∙ both (none m) (count_unsent ms)
  where
    none : (m : ChunkState) → is_sent (unsent_chunk m) ≡ false
    none Idle = refl
    none Sent = refl
    none Held = refl

    both : {b : Bool} {x : ℕ} → b ≡ false → x ≡ 0 → cond b 1 0 + x ≡ 0
    both e f = cc

pub first_anew : (ms : List ChunkState) → first_unheld (map unheld_chunk ms) ≡ 0
first_anew [] = refl
first_anew (Idle ∷ ms) = refl
first_anew (Sent ∷ ms) = refl
first_anew (Held ∷ ms) = refl

pub first_unsent : (ms : List ChunkState) → first_unheld (map unsent_chunk ms) ≡ first_unheld ms
first_unsent [] = refl
first_unsent (Idle ∷ ms) = refl
first_unsent (Sent ∷ ms) = refl
first_unsent (Held ∷ ms) = ap (λ n. 1 + n) (first_unsent ms)

-- One more is held: the least that isn't lies no lower.
pub first_held : (ms : List ChunkState) (c : ℕ) → first_unheld ms ≤ first_unheld (set ms c Held)
first_held [] c = omega arith
first_held (Idle ∷ ms) c = omega arith
first_held (Sent ∷ ms) c = omega arith
first_held (Held ∷ ms) zero = omega arith
first_held (Held ∷ ms) (suc c) = let h : first_unheld ms ≤ first_unheld (set ms c Held) = first_held ms c in omega arith

-- One that isn't held changes, and isn't held either.
pub first_same : (ms : List ChunkState) (c : ℕ) (m : ChunkState) → is_unheld m ≡ is_unheld (get_or ms c Idle) → first_unheld (set ms c m) ≡ first_unheld ms
first_same ms c m e = position_or_len-set is_unheld ms c m Idle e

-- The search for the least chunk that isn't held.
pub first_here : (ms : List ChunkState) (i : ℕ) → i ≤ first_unheld ms → i < length ms → is_unheld (get_or ms i Idle) ≡ true → i ≡ first_unheld ms
first_here [] i le within is = absurd (omega arith)
first_here (Idle ∷ ms) i le within is = omega arith
first_here (Sent ∷ ms) i le within is = omega arith
first_here (Held ∷ ms) zero le within is = absurd (cc)
first_here (Held ∷ ms) (suc i) le within is = let h : i ≡ first_unheld ms = first_here ms i (omega arith) (omega arith) is in omega arith

pub first_past : (ms : List ChunkState) (i : ℕ) → i ≤ first_unheld ms → i < length ms → get_or ms i Idle ≡ Held → i + 1 ≤ first_unheld ms
first_past [] i le within is = absurd (omega arith)
first_past (Idle ∷ ms) zero le within is = absurd (cc)
first_past (Idle ∷ ms) (suc i) le within is = absurd (omega arith)
first_past (Sent ∷ ms) zero le within is = absurd (cc)
first_past (Sent ∷ ms) (suc i) le within is = absurd (omega arith)
first_past (Held ∷ ms) zero le within is = omega arith
first_past (Held ∷ ms) (suc i) le within is = let h : i + 1 ≤ first_unheld ms = first_past ms i (omega arith) (omega arith) is in omega arith

pub first_within : (ms : List ChunkState) → first_unheld ms ≤ length ms
first_within [] = omega arith
first_within (Idle ∷ ms) = omega arith
first_within (Sent ∷ ms) = omega arith
first_within (Held ∷ ms) = let h : first_unheld ms ≤ length ms = first_within ms in omega arith

idle_is : (m : ChunkState) → is_unsent m ≡ true → m ≡ Idle
idle_is Idle is = refl
idle_is Sent is = absurd (cc)
idle_is Held is = absurd (cc)

-- What is found is there, and idle.
idle_at : (b : Bool) (ms : List ChunkState) (k : ℕ) → idle_place b ms ≡ Some k → (k < length ms) × (get_or ms k Idle ≡ Idle)
idle_at true ms k is = let h = last_place_is is_unsent ms k Idle is in (h.0, idle_is (get_or ms k Idle) h.1)
idle_at false ms k is = let h = position-Some is_unsent ms k Idle is in (h.0, idle_is (get_or ms k Idle) h.1)

in_take : (ms : List ChunkState) (n k : ℕ) → k < length (take n ms) → (k < length ms) × (get_or (take n ms) k Idle ≡ get_or ms k Idle)
in_take [] zero k within = absurd (omega arith)
in_take [] (suc n) k within = absurd (omega arith)
in_take (m ∷ ms) zero k within = absurd (omega arith)
in_take (m ∷ ms) (suc n) zero within = (omega arith, refl)
in_take (m ∷ ms) (suc n) (suc k) within = let h = in_take ms n k (omega arith) in (omega (arith, h.0), h.1)

in_range : (ms : List ChunkState) (a b k : ℕ) → k < length (slice_range ms a b) → (a + k < length ms) × (a + k < b) × (get_or (slice_range ms a b) k Idle ≡ get_or ms (a + k) Idle)
in_range ms a b k within =
    let h = in_take (drop a ms) (b - a) k within in
    (omega (arith, h.0, length-drop a ms), omega (arith, length-take (b - a) (drop a ms)), h.1 ∙ get_or-drop a ms k Idle)

-- The chunk that is sent next is there, in the present window, and idle.
pub next_idle : (s : PutState) (c : ℕ) → next_chunk s ≡ Some c → (c < length s.chunks) × (c < window_end s) × (get_or s.chunks c Idle ≡ Idle)
next_idle s c is = go (idle_place s.backward (present_window s)) refl is
  where
    go : (o : Option ℕ) → idle_place s.backward (present_window s) ≡ o → option_map (λ k. window_start s + k) o ≡ Some c
        → (c < length s.chunks) × (c < window_end s) × (get_or s.chunks c Idle ≡ Idle)
    go None e f = absurd (cc)
    go (Some k) e f =
        let at = idle_at s.backward (present_window s) k e in
        let there = in_range s.chunks (window_start s) (window_end s) k at.0 in
        let same : window_start s + k ≡ c = cc in
        subst (λ n. (n < length s.chunks) × (n < window_end s) × (get_or s.chunks n Idle ≡ Idle)) same (there.0, there.1, sym there.2 ∙ at.1)

pub some_within : (ms : List ChunkState) (o : Option ℕ) → last_place is_unsent ms ≡ o → IfSome o (λ k. k < length ms)
some_within ms None e = tt
some_within ms (Some k) e = (last_place_is is_unsent ms k Idle e).0

-- Where none is found none is idle.
last_none : (ms : List ChunkState) (k : ℕ) → last_place is_unsent ms ≡ None → k < length ms → is_unsent (get_or ms k Idle) ≡ false
last_none [] k none within = absurd (omega arith)
last_none (m ∷ ms) k none within = go (λ j f w. last_none ms j f w) (is_unsent m) refl (last_place is_unsent ms) refl none k within
  where
    go : ((j : ℕ) → last_place is_unsent ms ≡ None → j < length ms → is_unsent (get_or ms j Idle) ≡ false)
        → (b : Bool) → is_unsent m ≡ b → (o : Option ℕ) → last_place is_unsent ms ≡ o → place_behind b o ≡ None → (j : ℕ) → j < length (m ∷ ms) → is_unsent (get_or (m ∷ ms) j Idle) ≡ false
    go rest b e (Some i) f g j within = absurd (cc)
    go rest true e None f g j within = absurd (cc)
    go rest false e None f g zero within = e
    go rest false e None f g (suc j) within = rest j f (omega arith)

idle_past : (ms : List ChunkState) (k : ℕ) → length ms ≤ position_or_len is_unsent ms → k < length ms → is_unsent (get_or ms k Idle) ≡ false
idle_past [] k high within = absurd (omega arith)
idle_past (Idle ∷ ms) k high within = absurd (omega arith)
idle_past (Sent ∷ ms) zero high within = refl
idle_past (Sent ∷ ms) (suc k) high within = idle_past ms k (omega arith) (omega arith)
idle_past (Held ∷ ms) zero high within = refl
idle_past (Held ∷ ms) (suc k) high within = idle_past ms k (omega arith) (omega arith)

idle_none : (b : Bool) (ms : List ChunkState) (k : ℕ) → idle_place b ms ≡ None → k < length ms → is_unsent (get_or ms k Idle) ≡ false
idle_none true ms k none within = last_none ms k none within
idle_none false ms k none within = idle_past ms k (ltb-false (position_or_len is_unsent ms) (length ms) (test (nat_lt (position_or_len is_unsent ms) (length ms)) none)) within
  where
    test : (b : Bool) → cond b (Some (position_or_len is_unsent ms)) None ≡ None → b ≡ false
    test true e = absurd (cc)
    test false e = refl

-- The least chunk that isn't held isn't.
pub unheld_there : (ms : List ChunkState) → first_unheld ms < length ms → is_unheld (get_or ms (first_unheld ms) Idle) ≡ true
unheld_there [] within = absurd (omega arith)
unheld_there (Idle ∷ ms) within = refl
unheld_there (Sent ∷ ms) within = refl
unheld_there (Held ∷ ms) within =
    let same : 1 + first_unheld ms ≡ suc (first_unheld ms) = omega arith in
    subst (λ k. is_unheld (get_or (Held ∷ ms) k Idle) ≡ true) (sym same) (unheld_there ms (omega arith))

-- Where no chunk of the present window is to be sent, the WRITE of the least that isn't held is outstanding.
pub sent_there : (s : PutState) → 1 ≤ s.window → first_unheld s.chunks < length s.chunks → next_chunk s ≡ None → get_or s.chunks (first_unheld s.chunks) Idle ≡ Sent
sent_there s some within none = is_sent_state (get_or s.chunks (first_unheld s.chunks) Idle) not_idle (unheld_there s.chunks within)
  where
    no_place : (o : Option ℕ) → option_map (λ k. window_start s + k) o ≡ None → o ≡ None
    no_place None e = refl
    no_place (Some k) e = absurd (cc)

    near : first_unheld s.chunks % s.window < s.window
    near = mod_below (first_unheld s.chunks) s.window (omega arith)

    in_it : first_unheld s.chunks % s.window < length (present_window s)
    in_it = omega (arith, near, within, length-take (window_end s - window_start s) (drop (window_start s) s.chunks), length-drop (window_start s) s.chunks)

    same : window_start s + first_unheld s.chunks % s.window ≡ first_unheld s.chunks
    same = omega arith

    not_idle : is_unsent (get_or s.chunks (first_unheld s.chunks) Idle) ≡ false
    not_idle =
        subst (λ k. is_unsent (get_or s.chunks k Idle) ≡ false) same
        (sym (ap is_unsent (in_range s.chunks (window_start s) (window_end s) (first_unheld s.chunks % s.window) in_it).2)
        ∙ idle_none s.backward (present_window s) (first_unheld s.chunks % s.window) (no_place (idle_place s.backward (present_window s)) none) in_it)

    is_sent_state : (m : ChunkState) → is_unsent m ≡ false → is_unheld m ≡ true → m ≡ Sent
    is_sent_state Idle e f = absurd (cc)
    is_sent_state Sent e f = refl
    is_sent_state Held e f = absurd (cc)
