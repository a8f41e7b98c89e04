-- Where no line feed is, and what a move or a read keeps of that.
use Rattle.std.proofs.Common.{◌≡◌, ℕ, ◌+◌, ◌-◌, ◌<◌, ◌≤◌, Bool, true, false, List, ◌∷◌, ◌++◌, length, get_or, take, drop, refl, sym, ◌∙◌, ap, subst, arith, length-take}
use Rattle.std.proofs.lemmas.List.{drop-take, drop-drop}
use Rattle.std.proofs.Math.Seq.{take-add}
use Rattle.std.proofs.lemmas.Grind.{common_steps}
use Rattle.memchr.specs.Find.{Nowhere, Passes, is_byte}
use Rattle.transcript.specs.Script.{HasNoFeed, TakesLine, is_feed, max_line}

not_true : (b : Bool) → (b ≡ true → ⊥) → b ≡ false
not_true true h = absurd (h refl)
not_true false h = refl

-- a search that passed n bytes saw no line feed among them
pub clear_passed : (bytes : List ℕ) (n : ℕ) → n ≤ length bytes → Nowhere (Passes (is_byte 10) bytes) 0 n → HasNoFeed (take n bytes)
clear_passed bytes n h none = λ k d inside.
    let below : k < n = omega (arith, length-take n bytes) in
    let there : get_or (take n bytes) k d ≡ get_or bytes k 0 = grind (arith, common_steps) in
    ap is_feed there ∙ not_true (is_feed (get_or bytes k 0)) (none k (omega arith) below)

-- the first n elements of a list begin with those before i, and go on with those behind the one at i
take_before : (rest : List ℕ) (n i : ℕ) → i ≤ n → take i (take n rest) ≡ take i rest
take_before rest n i h = grind (arith, common_steps)

drop_within : (rest : List ℕ) (n i : ℕ) → i ≤ n → drop i (take n rest) ≡ take (n - i) (drop i rest)
drop_within rest n i h =
    let whole : i + (n - i) ≡ n = omega arith in
    ap (λ k. drop i (take k rest)) (sym whole) ∙ drop-take i (n - i) rest

-- two lists that begin alike begin alike for fewer elements
take_fewer : (a b : List ℕ) (n m : ℕ) → n ≤ m → take m a ≡ take m b → take n a ≡ take n b
take_fewer a b n m h e = sym (take_before a m n h) ∙ ap (take n) e ∙ take_before b m n h

-- a line feed at i in what is held ends a line
pub takes_line : (items pending : List ℕ) (start end i : ℕ) → pending ≡ take (end - start) (drop start items) → start ≤ end → i < length pending
    → pending ≡ take i pending ++ 10 ∷ drop (i + 1) pending → HasNoFeed (take i pending) → i ≤ max_line
    → TakesLine (take i (drop start items)) pending (take (end - (start + (i + 1))) (drop (start + (i + 1)) items))
takes_line items pending start end i is h inside cut clear short =
    let rest = drop start items in
    let n = end - start in
    let below : i < n = omega (arith, ap length is, length-take n rest) in
    let line : take i pending ≡ take i rest = ap (take i) is ∙ take_before rest n i (omega arith) in
    let numbers : n - (i + 1) ≡ end - (start + (i + 1)) = omega arith in
    let later : drop (i + 1) pending ≡ take (end - (start + (i + 1))) (drop (start + (i + 1)) items) =
    ap (drop (i + 1)) is ∙ drop_within rest n (i + 1) (omega arith) ∙ ap (λ k. take k (drop (i + 1) rest)) numbers
    ∙ ap (take (end - (start + (i + 1)))) (drop-drop (i + 1) start items) in
    record {
      whole = cut ∙ ap (λ xs. xs ++ 10 ∷ drop (i + 1) pending) line ∙ ap (λ xs. take i rest ++ 10 ∷ xs) later;
      part = record { no_feed = subst HasNoFeed line clear; short = omega (arith, length-take i rest) };
    }

-- what is held in a moved and grown buffer is what was held, with as much of it searched
pub clear_kept : (old new : List ℕ) (n m : ℕ) → n ≤ m → take m new ≡ take m old → HasNoFeed (take n old) → HasNoFeed (take (n - 0) new)
clear_kept old new n m h same clear =
    let fewer : take n old ≡ take (n - 0) new = sym (take_fewer new old n m h same) ∙ ap (λ k. take k new) (omega arith) in
    subst HasNoFeed fewer clear

-- a read behind what is held adds to it
pub read_more : (old new : List ℕ) (n m : ℕ) → take n new ≡ old → take (n + m - 0) new ≡ old ++ take m (drop n new)
read_more old new n m same =
    let whole : n + m - 0 ≡ n + m = omega arith in
    rw whole (take-add n m new ∙ ap (λ xs. xs ++ take m (drop n new)) same)
