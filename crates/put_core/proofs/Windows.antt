-- Of how many chunks the WRITEs are outstanding: those of the present window, and a window's by each new beginning.
use Rattle.std.proofs.Common.{◌≡◌, ℕ, zero, suc, ◌+◌, ◌-◌, ◌*◌, ◌/◌, ◌%◌, min, ◌<◌, ◌≤◌, Bool, false, cond, List, [], ◌∷◌, refl, sym, ◌∙◌, ap, subst, arith, length, set, get_or, take, drop}
use Rattle.std.specs.Prelude.{count_by}
use Rattle.std.proofs.Math.Nat.{mul-le-mul_right}
use Rattle.std.proofs.lemmas.Nat.{div-add-mod', le-div}
use Rattle.std.proofs.lemmas.List.{length-take, length-set, drop-drop, drop-set-lt}
use Rattle.std.proofs.lemmas.List.Sums.{sum_by-cons, sum_by-take-drop, count_by-le-length}
use Rattle.put_core.specs.declared.call.ChunkState.{ChunkState}
use Rattle.put_core.specs.declared.call.ChunkState.TheVariants.{Idle, Sent, Held}
use Rattle.put_core.specs.Steps.{PutState, first_unheld, is_sent, is_unheld, window_start, window_end}
use Rattle.put_core.proofs.ChunkLists.{first_within, first_held, first_same}

abbrev pub one_if : (ChunkState → Bool) → ChunkState → ℕ
one_if p m = cond (p m) 1 0

-- No WRITE of a chunk below the least that isn't held is outstanding.
none_sent_before : (ms : List ChunkState) (i : ℕ) → i ≤ first_unheld ms → count_by is_sent (take i ms) ≡ 0
none_sent_before [] zero le = refl
none_sent_before [] (suc i) le = refl
none_sent_before (Idle ∷ ms) zero le = refl
none_sent_before (Idle ∷ ms) (suc i) le = absurd (omega arith)
none_sent_before (Sent ∷ ms) zero le = refl
none_sent_before (Sent ∷ ms) (suc i) le = absurd (omega arith)
none_sent_before (Held ∷ ms) zero le = refl
none_sent_before (Held ∷ ms) (suc i) le = omega (arith, sum_by-cons (one_if is_sent) Held (take i ms), none_sent_before ms i (omega arith))

-- Of n chunks more at most n more are.
count_take_more : (p : ChunkState → Bool) (ms : List ChunkState) (i n : ℕ) → count_by p (take (i + n) ms) ≤ count_by p (take i ms) + n
count_take_more p ms i n =
    omega (arith, sum_by-take-drop (one_if p) ms i, sum_by-take-drop (one_if p) ms (i + n), sum_by-take-drop (one_if p) (drop i ms) n, ap (count_by p) (drop-drop n i ms), count_by-le-length p (take n (drop i ms)), length-take n (drop i ms))

-- Behind a later place no more are.
count_drop_less : (p : ChunkState → Bool) (ms : List ChunkState) (i j : ℕ) → i ≤ j → count_by p (drop j ms) ≤ count_by p (drop i ms)
count_drop_less p ms i j le =
    let same : i + (j - i) ≡ j = omega arith in
    subst (λ k. count_by p (drop k ms) ≤ count_by p (drop i ms)) same (omega (arith, sum_by-take-drop (one_if p) (drop i ms) (j - i), ap (count_by p) (drop-drop (j - i) i ms)))

-- At most a window's WRITEs are outstanding up to the end of the present window.
sent_within : (ms : List ChunkState) (start n : ℕ) → start ≤ first_unheld ms → count_by is_sent ms ≤ n + count_by is_sent (drop (start + n) ms)
sent_within ms start n le =
    omega (arith, none_sent_before ms start le, count_take_more is_sent ms start n, sum_by-take-drop (one_if is_sent) ms (start + n))

pub sent_in_all : (s : PutState) → count_by is_sent s.chunks ≤ s.window + count_by is_sent (drop (window_end s) s.chunks)
sent_in_all s =
    let low : window_start s ≤ first_unheld s.chunks = omega arith in
    let most : first_unheld s.chunks ≤ length s.chunks = first_within s.chunks in
    let same : window_start s + (window_end s - window_start s) ≡ window_end s = omega arith in
    let all : count_by is_sent s.chunks ≤ (window_end s - window_start s) + count_by is_sent (drop (window_end s) s.chunks)
    = subst (λ k. count_by is_sent s.chunks ≤ (window_end s - window_start s) + count_by is_sent (drop k s.chunks)) same (sent_within s.chunks (window_start s) (window_end s - window_start s) low) in
    omega (arith, all)

-- where the window ends that the least chunk lies in that isn't held
abbrev pub end_from : ℕ → ℕ → ℕ → ℕ
end_from w first n = min (first - first % w + w) n

-- A window that begins later ends later.
window_goes_on : (w a b n : ℕ) → 1 ≤ w → a ≤ b → end_from w a n ≤ end_from w b n
window_goes_on w a b n some le =
    let here : a / w * w + a % w ≡ a = div-add-mod' a w in
    let there : b / w * w + b % w ≡ b = div-add-mod' b w in
    let later : a / w ≤ b / w = le-div (a / w) b w (omega arith) (omega arith) in
    let times : a / w * w ≤ b / w * w = mul-le-mul_right w later in
    omega arith

-- One more WRITE of the present window: behind it as many are outstanding as were.
pub ahead_same : (ms : List ChunkState) (c e : ℕ) (m : ChunkState) → c < e → count_by is_sent (drop e (set ms c m)) ≡ count_by is_sent (drop e ms)
ahead_same ms c e m below = ap (count_by is_sent) (drop-set-lt e ms c m below)

-- One WRITE less: behind no place more are outstanding than were.
pub ahead_less : (ms : List ChunkState) (c e : ℕ) (m : ChunkState) → is_sent m ≡ false → count_by is_sent (drop e (set ms c m)) ≤ count_by is_sent (drop e ms)
ahead_less ms c zero m none = set_less ms c m none
  where
    set_less : (ms : List ChunkState) (c : ℕ) (m : ChunkState) → is_sent m ≡ false → count_by is_sent (set ms c m) ≤ count_by is_sent ms
    set_less [] c m none = omega arith
    set_less (n ∷ ms) zero m none =
        let zero_more : cond (is_sent m) 1 0 ≡ 0 = ap {B = ℕ} (λ b. cond b 1 0) none in
        omega (arith, sum_by-cons (one_if is_sent) m ms, sum_by-cons (one_if is_sent) n ms, zero_more)
    set_less (n ∷ ms) (suc c) m none = omega (arith, sum_by-cons (one_if is_sent) n (set ms c m), sum_by-cons (one_if is_sent) n ms, set_less ms c m none)
ahead_less [] c (suc e) m none = omega arith
ahead_less (n ∷ ms) zero (suc e) m none = omega arith
ahead_less (n ∷ ms) (suc c) (suc e) m none = ahead_less ms c e m none

-- So many WRITEs at most are outstanding behind the present window: of chunks that are so far, where w chunks are a window.
abbrev pub AreAhead : ℕ → ℕ → List ChunkState → Type 0
AreAhead w most ms = count_by is_sent (drop (end_from w (first_unheld ms) (length ms)) ms) ≤ most

-- They are where a chunk changes that isn't held before and after, and no more WRITEs are outstanding behind the window.
pub ahead_changed : (w most : ℕ) (ms : List ChunkState) (c : ℕ) (m : ChunkState) → is_unheld m ≡ is_unheld (get_or ms c Idle)
    → ((e : ℕ) → e ≡ end_from w (first_unheld ms) (length ms) → count_by is_sent (drop e (set ms c m)) ≤ count_by is_sent (drop e ms)) → AreAhead w most ms → AreAhead w most (set ms c m)
ahead_changed w most ms c m alike less ahead =
    subst (λ e. count_by is_sent (drop e (set ms c m)) ≤ most) (sym same) (omega (arith, less (end_from w (first_unheld ms) (length ms)) refl, ahead))
  where
    same : end_from w (first_unheld (set ms c m)) (length (set ms c m)) ≡ end_from w (first_unheld ms) (length ms)
    same = ap (λ f. end_from w f (length (set ms c m))) (first_same ms c m alike) ∙ ap (λ n. end_from w (first_unheld ms) n) (length-set ms c m)

-- They are where one more chunk is held.
pub ahead_held : (w most : ℕ) (ms : List ChunkState) (c : ℕ) → 1 ≤ w → AreAhead w most ms → AreAhead w most (set ms c Held)
ahead_held w most ms c some ahead =
    subst (λ n. count_by is_sent (drop (end_from w (first_unheld (set ms c Held)) n) (set ms c Held)) ≤ most) (sym (length-set ms c Held))
    (omega (arith, count_drop_less is_sent (set ms c Held) (end_from w (first_unheld ms) (length ms)) (end_from w (first_unheld (set ms c Held)) (length ms)) (window_goes_on w (first_unheld ms) (first_unheld (set ms c Held)) (length ms) some (first_held ms c)), ahead_less ms c (end_from w (first_unheld ms) (length ms)) Held refl, ahead))

-- They are where no more are outstanding at all.
pub ahead_all : (w most : ℕ) (ms : List ChunkState) → count_by is_sent ms ≤ most → AreAhead w most ms
ahead_all w most ms all = omega (arith, all, sum_by-take-drop (one_if is_sent) ms (end_from w (first_unheld ms) (length ms)))

-- As many windows as there are beginnings, and one more.
pub window_more : (b w : ℕ) → (b + 1) * w ≡ b * w + w
window_more b w = grind arith

pub window_most : (b m w : ℕ) → b < m → b * w + w ≤ m * w
window_most b m w below =
    let more : (b + 1) * w ≤ m * w = mul-le-mul_right w (omega arith) in
    omega (arith, window_more b w)
