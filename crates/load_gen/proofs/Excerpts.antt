-- The transcript by its first window, its first file, and its first write.
use Rattle.std.proofs.Common.{◌≡◌, ℕ, zero, suc, ◌+◌, ◌-◌, ◌<◌, ◌≤◌, List, [], ◌∷◌, ◌++◌, length, take, drop, get_or, append_assoc, append-nil, refl, ap, ◌∙◌, arith}
use Rattle.std.specs.List.{range_with_len, enumerate_from, flat_map}
use Rattle.std.proofs.lemmas.List.{drop_all}
use Rattle.std.proofs.lemmas.List.FromFn.{length-range_with_len}
use Rattle.std.proofs.lemmas.List.Concat.{flat_map-append}
use Rattle.std.proofs.Math.Seq.{drop-cons, take-append_seam}
use Rattle.load_gen.specs.Shuffles.{shuffle}
use Rattle.load_gen.specs.declared.load.FileLoad.{FileLoad}
use Rattle.load_gen.specs.Load.{Excerpt, window_excerpt, windows_excerpt, file_excerpt, files_text}

range_more : (a n : ℕ) → range_with_len a (suc n) ≡ range_with_len a n ++ (a + n) ∷ []
range_more a zero = ap (λ (k : ℕ). k ∷ []) (omega arith)
range_more a (suc n) =
    let e : a + 1 + n ≡ a + suc n = omega arith in
    ap (λ (l : List ℕ). a ∷ l) (range_more (a + 1) n ∙ ap (λ (k : ℕ). range_with_len (a + 1) n ++ k ∷ []) e)

-- one line more of those that are made by their number
pub lines_more : (f : ℕ → List ℕ) (n : ℕ) → flat_map f (range_with_len 0 (n + 1)) ≡ flat_map f (range_with_len 0 n) ++ f n
lines_more f n =
    let e : 0 + n ≡ n = omega arith in
    let s : n + 1 ≡ suc n = omega arith in
    ap (λ (k : ℕ). flat_map f (range_with_len 0 k)) s
    ∙ ap (flat_map f) (range_more 0 n ∙ ap (λ (k : ℕ). range_with_len 0 n ++ k ∷ []) e)
    ∙ flat_map-append f (range_with_len 0 n) (n ∷ [])
    ∙ ap (λ (k : List ℕ). flat_map f (range_with_len 0 n) ++ k) (append-nil (f n))

-- one item of those that are left, with its number
pub numbered_step : (f : ℕ × ℕ → List ℕ) (first i : ℕ) (xs : List ℕ) → i < length xs
    → flat_map f (enumerate_from first (drop i xs)) ≡ f (first, get_or xs i 0) ++ flat_map f (enumerate_from (first + 1) (drop (i + 1) xs))
numbered_step f first i xs h =
    let e : suc i ≡ i + 1 = omega arith in
    ap (λ (l : List ℕ). flat_map f (enumerate_from first l)) (drop-cons xs i 0 h ∙ ap (λ (k : ℕ). get_or xs i 0 ∷ drop k xs) e)

pub windows_done : (l : FileLoad) (n first x : ℕ) → n ≡ 0 → windows_excerpt l n first x ≡ record { text = []; number = x }
unfolding windows_excerpt
windows_done l zero first x h = refl
windows_done l (suc n) first x h = absurd (omega arith)

abbrev pub then_windows : FileLoad → ℕ → ℕ → Excerpt → Excerpt
then_windows l windows first window =
    let rest = windows_excerpt l windows first window.number in record { text = window.text ++ rest.text; number = rest.number }

pub windows_step : (l : FileLoad) (n first x : ℕ) → 1 ≤ n
    → windows_excerpt l n first x ≡ then_windows l (n - 1) (first + 8) (window_excerpt l first x)
unfolding windows_excerpt
windows_step l zero first x h = absurd (omega arith)
windows_step l (suc n) first x h =
    let e : suc n - 1 ≡ n = omega arith in
    rw e refl

pub files_done : (start writes n place x : ℕ) → n ≡ 0 → files_text start writes n place x ≡ []
unfolding files_text
files_done start writes zero place x h = refl
files_done start writes (suc n) place x h = absurd (omega arith)

-- the first file, and those behind it
abbrev pub then_files : ℕ → ℕ → ℕ → ℕ → Excerpt → List ℕ
then_files start writes files place file = file.text ++ files_text start writes files place file.number

pub files_step : (start writes n place x : ℕ) → 1 ≤ n
    → files_text start writes n place x
    ≡ then_files start writes (n - 1) (place + 1) (file_excerpt (record { start = start; place = place; writes = writes }) x)
unfolding files_text
files_step start writes zero place x h = absurd (omega arith)
files_step start writes (suc n) place x h =
    let e : suc n - 1 ≡ n = omega arith in
    rw e refl

-- what is put behind the lines so far
pub lines_put : (f : ℕ → List ℕ) (n : ℕ) (begun text new : List ℕ) → new ≡ text ++ f n → text ≡ begun ++ flat_map f (range_with_len 0 n)
    → new ≡ begun ++ flat_map f (range_with_len 0 (n + 1))
lines_put f n begun text new e t = rw (e, t, lines_more f n) (append_assoc begun (flat_map f (range_with_len 0 n)) (f n))

pub numbered_done : (f : ℕ × ℕ → List ℕ) (first i : ℕ) (xs : List ℕ) → length xs ≤ i → flat_map f (enumerate_from first (drop i xs)) ≡ []
numbered_done f first i xs h = ap (λ (l : List ℕ). flat_map f (enumerate_from first l)) (drop_all i xs h)

-- the front of a range
pub range_front : (a n m : ℕ) → n ≤ m → take n (range_with_len a m) ≡ range_with_len a n
range_front a zero m h = refl
range_front a (suc n) zero h = absurd (omega arith)
range_front a (suc n) (suc m) h = ap (λ (l : List ℕ). a ∷ l) (range_front (a + 1) n m (omega arith))

-- a front of a window, shuffled
pub window_shuffled : (first count x : ℕ) (front : List ℕ) → front ≡ range_with_len first count
    → shuffle (length front - 1) front x ≡ shuffle (count - 1) (range_with_len first count) x
window_shuffled first count x front e = rw (e, length-range_with_len first count) refl

pub front_of : (n : ℕ) (xs ys : List ℕ) → length xs ≡ n → take n (xs ++ ys) ≡ xs
front_of n xs ys e = rw (← e) (take-append_seam xs ys)

-- Loops: what was put, and what the rest comes to, is what the whole comes to.
pub numbered_more : (f : ℕ × ℕ → List ℕ) (first next i : ℕ) (xs text new : List ℕ) → i < length xs → next ≡ first + 1
    → new ≡ text ++ f (first, get_or xs i 0)
    → new ++ flat_map f (enumerate_from next (drop (i + 1) xs)) ≡ text ++ flat_map f (enumerate_from first (drop i xs))
numbered_more f first next i xs text new h e n =
    rw (e, n, numbered_step f first i xs h) (append_assoc text (f (first, get_or xs i 0)) _)

pub record GoesOn (begun new : List ℕ) (whole rest : Excerpt) : Type 0 where
  pub text : new ++ rest.text ≡ begun ++ whole.text
  pub number : rest.number ≡ whole.number

pub windows_more : (l : FileLoad) (n left first next x y : ℕ) (text new : List ℕ) → 1 ≤ n → left ≡ n - 1 → next ≡ first + 8
    → new ≡ text ++ (window_excerpt l first x).text
    → y ≡ (window_excerpt l first x).number
    → GoesOn text new (windows_excerpt l n first x) (windows_excerpt l left next y)
windows_more l n left first next x y text new h e f t m =
    rw (e, f, t, m, windows_step l n first x h) (record { text = append_assoc text _ _; number = refl })

pub files_more : (start writes n left place next x y : ℕ) (text new : List ℕ) → 1 ≤ n → left ≡ n - 1 → next ≡ place + 1
    → new ≡ text ++ (file_excerpt (record { start = start; place = place; writes = writes }) x).text
    → y ≡ (file_excerpt (record { start = start; place = place; writes = writes }) x).number
    → new ++ files_text start writes left next y ≡ text ++ files_text start writes n place x
files_more start writes n left place next x y text new h e f t m =
    rw (e, f, t, m, files_step start writes n place x h) (append_assoc text _ _)
