-- Two lists that are related one by one, up to a place, and equal from there on.
use Rattle.std.proofs.Common.{◌≡◌, ◌≤◌, ℕ, zero, suc, ◌+◌, ◌<◌, List, [], ◌∷◌, length, refl, sym, ◌∙◌, ap, subst, arith, set, get_or, drop, take, ◌++◌, map}
use Rattle.std.proofs.lemmas.Grind.{common_steps}
use Rattle.std.proofs.lemmas.List.Sums.{sum_by-cons}
use Rattle.std.specs.List.{AllByRecursion, AllZip}
use Rattle.replica_store.specs.Parts.{PartView, part_of, counts}

module _ {X : Type 0} where
  abbrev pub UpTo : (X → X → Type 0) → ℕ → List X → List X → Type 0
  UpTo R zero xs ys = ys ≡ xs
  UpTo R (suc i) [] [] = Unit {0}
  UpTo R (suc i) [] (y ∷ ys) = ⊥
  UpTo R (suc i) (x ∷ xs) [] = ⊥
  UpTo R (suc i) (x ∷ xs) (y ∷ ys) = R x y × UpTo R i xs ys

  one_more : (R : X → X → Type 0) (i : ℕ) (xs ys : List X) (d v : X) → UpTo R i xs ys → i < length ys → R (get_or ys i d) v → UpTo R (suc i) xs (set ys i v)
  one_more R zero xs [] d v same lt r = absurd (omega arith)
  one_more R zero [] (y ∷ ys) d v same lt r = cc
  one_more R zero (x ∷ xs) (y ∷ ys) d v same lt r = (subst (λ z. R z v) (ap (λ zs. get_or zs 0 d) same) r, ap (drop 1) same)
  one_more R (suc i) [] [] d v same lt r = absurd (omega arith)
  one_more R (suc i) [] (y ∷ ys) d v same lt r = absurd same
  one_more R (suc i) (x ∷ xs) [] d v same lt r = absurd same
  one_more R (suc i) (x ∷ xs) (y ∷ ys) d v same lt r = (same.0, one_more R i xs ys d v same.1 (omega arith) r)

  pub further : (R : X → X → Type 0) (i : ℕ) (xs ys : List X) (d v : X) → UpTo R i xs ys → i < length ys → R (get_or ys i d) v → UpTo R (i + 1) xs (set ys i v)
  further R i xs ys d v same lt r = let e : suc i ≡ i + 1 = omega arith in subst (λ n. UpTo R n xs (set ys i v)) e (one_more R i xs ys d v same lt r)

  all_pairs : (R : X → X → Type 0) (i : ℕ) (xs ys : List X) → UpTo R i xs ys → length ys ≤ i → AllZip R xs ys
  all_pairs R zero xs [] is all = rw (← is) tt
  all_pairs R zero xs (y ∷ ys) is all = absurd (omega arith)
  all_pairs R (suc i) [] [] is all = tt
  all_pairs R (suc i) [] (y ∷ ys) is all = absurd is
  all_pairs R (suc i) (x ∷ xs) [] is all = absurd is
  all_pairs R (suc i) (x ∷ xs) (y ∷ ys) is all = (is.0, all_pairs R i xs ys is.1 (omega arith))

  -- what a loop over a vector's slice left is what the vector has
  written : (xs ys : List X) → length ys ≡ length xs → take (length xs) (ys ++ drop (length ys) xs) ≡ ys
  written xs ys same = grind (arith, common_steps, same)

  pub all_written : (R : X → X → Type 0) (i n : ℕ) (start old ys : List X) → UpTo R i start ys → start ≡ old → length ys ≡ length start → length start ≡ n → length start ≤ i → AllZip R old (take n (ys ++ drop (length ys) old))
  all_written R i n start old ys is same long all over = subst (λ xs. AllZip R xs (take n (ys ++ drop (length ys) xs))) same
      (subst (λ m. AllZip R start (take m (ys ++ drop (length ys) start))) all
      (subst (λ zs. AllZip R start zs) (sym (written start ys long)) (all_pairs R i start ys is (omega (arith, long, over)))))

  -- what is true of all at the start is true of the next one
  pub next_is : (R : X → X → Type 0) (P : X → Type 0) (i : ℕ) (xs ys : List X) (d : X) → UpTo R i xs ys → AllByRecursion P xs → i < length ys → P (get_or ys i d)
  next_is R P zero xs [] d is all lt = absurd (omega arith)
  next_is R P zero [] (y ∷ ys) d is all lt = cc
  next_is R P zero (x ∷ xs) (y ∷ ys) d is all lt = subst P (sym (ap (λ zs. get_or zs 0 d) is)) all.0
  next_is R P (suc i) [] [] d is all lt = absurd (omega arith)
  next_is R P (suc i) [] (y ∷ ys) d is all lt = absurd is
  next_is R P (suc i) (x ∷ xs) [] d is all lt = absurd is
  next_is R P (suc i) (x ∷ xs) (y ∷ ys) d is all lt = next_is R P i xs ys d is.1 all.1 (omega arith)

  -- a loop that ends early leaves the others as they are
  all_rest : (R : X → X → Type 0) → ((x : X) → R x x) → (i : ℕ) (xs ys : List X) → UpTo R i xs ys → AllZip R xs ys
  all_rest R same zero [] [] is = tt
  all_rest R same zero [] (y ∷ ys) is = cc
  all_rest R same zero (x ∷ xs) [] is = cc
  all_rest R same zero (x ∷ xs) (y ∷ ys) is = (subst (λ z. R x z) (sym (ap (λ zs. get_or zs 0 x) is)) (same x), all_rest R same 0 xs ys (ap (drop 1) is))
  all_rest R same (suc i) [] [] is = tt
  all_rest R same (suc i) [] (y ∷ ys) is = absurd is
  all_rest R same (suc i) (x ∷ xs) [] is = absurd is
  all_rest R same (suc i) (x ∷ xs) (y ∷ ys) is = (is.0, all_rest R same i xs ys is.1)

  pub rest_written : (R : X → X → Type 0) → ((x : X) → R x x) → (i n : ℕ) (start old ys : List X) → UpTo R i start ys → start ≡ old → length ys ≡ length start → length start ≡ n → AllZip R old (take n (ys ++ drop (length ys) old))
  rest_written R refl_of i n start old ys is same long all = subst (λ xs. AllZip R xs (take n (ys ++ drop (length ys) xs))) same
      (subst (λ m. AllZip R start (take m (ys ++ drop (length ys) start))) all
      (subst (λ zs. AllZip R start zs) (sym (written start ys long)) (all_rest R refl_of i start ys is)))

  -- a relation that follows from another one
  pub weaker : (R S : X → X → Type 0) → ((x y : X) → R x y → S x y) → (i : ℕ) (xs ys : List X) → UpTo R i xs ys → UpTo S i xs ys
  weaker R S step zero xs ys is = is
  weaker R S step (suc i) [] [] is = is
  weaker R S step (suc i) [] (y ∷ ys) is = absurd is
  weaker R S step (suc i) (x ∷ xs) [] is = absurd is
  weaker R S step (suc i) (x ∷ xs) (y ∷ ys) is = (step x y is.0, weaker R S step i xs ys is.1)

  pub weaker_pairs : (R S : X → X → Type 0) → ((x y : X) → R x y → S x y) → (xs ys : List X) → AllZip R xs ys → AllZip S xs ys
  weaker_pairs R S step [] [] is = is
  weaker_pairs R S step [] (y ∷ ys) is = absurd is
  weaker_pairs R S step (x ∷ xs) [] is = absurd is
  weaker_pairs R S step (x ∷ xs) (y ∷ ys) is = (step x y is.0, weaker_pairs R S step xs ys is.1)

  -- with what is true of each of the first list
  pub weaker_where : (R S : X → X → Type 0) (P : X → Type 0) → ((x y : X) → P x → R x y → S x y) → (xs ys : List X) → AllByRecursion P xs → AllZip R xs ys → AllZip S xs ys
  weaker_where R S P step [] [] all is = is
  weaker_where R S P step [] (y ∷ ys) all is = absurd is
  weaker_where R S P step (x ∷ xs) [] all is = absurd is
  weaker_where R S P step (x ∷ xs) (y ∷ ys) all is = (step x y all.0 is.0, weaker_where R S P step xs ys all.1 is.1)

  pub same_length : (R : X → X → Type 0) (xs ys : List X) → AllZip R xs ys → length ys ≡ length xs
  same_length R [] [] all = refl
  same_length R [] (y ∷ ys) all = absurd all
  same_length R (x ∷ xs) [] all = absurd all
  same_length R (x ∷ xs) (y ∷ ys) all = let e = same_length R xs ys all.1 in omega (arith, e)

  -- what each keeps, all keep
  pub same_map : {Y : Type 0} (R : X → X → Type 0) (f : X → Y) → ((x y : X) → R x y → f y ≡ f x) → (xs ys : List X) → AllZip R xs ys → map f ys ≡ map f xs
  same_map R f same [] [] all = refl
  same_map R f same [] (y ∷ ys) all = absurd all
  same_map R f same (x ∷ xs) [] all = absurd all
  same_map R f same (x ∷ xs) (y ∷ ys) all = ap (λ a. a ∷ map f ys) (same x y all.0) ∙ ap (λ zs. f x ∷ zs) (same_map R f same xs ys all.1)

  -- two steps make one
  pub compose : (R S T : X → X → Type 0) (P : X → Type 0) → ((x y z : X) → R x y → P y → S y z → T x z) → (xs ys zs : List X) → AllZip R xs ys → AllByRecursion P ys → AllZip S ys zs → AllZip T xs zs
  compose R S T P step [] [] [] r p s = tt
  compose R S T P step [] [] (z ∷ zs) r p s = absurd s
  compose R S T P step [] (y ∷ ys) zs r p s = absurd r
  compose R S T P step (x ∷ xs) [] zs r p s = absurd r
  compose R S T P step (x ∷ xs) (y ∷ ys) [] r p s = absurd s
  compose R S T P step (x ∷ xs) (y ∷ ys) (z ∷ zs) r p s = (step x y z r.0 p.0 s.0, compose R S T P step xs ys zs r.1 p.1 s.1)

-- what is true of all is true at each place, and the other way round
pub at_part : (P : PartView → Type 0) (ps : List PartView) (k : ℕ) → AllByRecursion P ps → k < length ps → P (part_of ps k)
at_part P [] k all lt = absurd (omega arith)
at_part P (p ∷ ps) zero all lt = all.0
at_part P (p ∷ ps) (suc k) all lt = at_part P ps k all.1 (omega arith)

pub each_part : (P : PartView → Type 0) (ps : List PartView) → ((k : ℕ) → k < length ps → P (part_of ps k)) → AllByRecursion P ps
each_part P [] at = tt
each_part P (p ∷ ps) at = (at 0 (omega arith), each_part P ps (λ k lt. at (suc k) (omega arith)))

pub at_pair : (R : PartView → PartView → Type 0) (xs ys : List PartView) (k : ℕ) → AllZip R xs ys → k < length xs → R (part_of xs k) (part_of ys k)
at_pair R [] [] k all lt = absurd (omega arith)
at_pair R [] (y ∷ ys) k all lt = absurd all
at_pair R (x ∷ xs) [] k all lt = absurd all
at_pair R (x ∷ xs) (y ∷ ys) zero all lt = all.0
at_pair R (x ∷ xs) (y ∷ ys) (suc k) all lt = at_pair R xs ys k all.1 (omega arith)

-- counts that don't fall don't fall together
pub counts_grow : (R : PartView → PartView → Type 0) → ((x y : PartView) → R x y → x.count ≤ y.count) → (xs ys : List PartView) → AllZip R xs ys → counts xs ≤ counts ys
counts_grow R grows [] [] all = omega arith
counts_grow R grows [] (y ∷ ys) all = absurd all
counts_grow R grows (x ∷ xs) [] all = absurd all
counts_grow R grows (x ∷ xs) (y ∷ ys) all = let a = grows x y all.0 in let b = counts_grow R grows xs ys all.1 in omega (arith, a, b, sum_by-cons (λ p. p.count) x xs, sum_by-cons (λ p. p.count) y ys)
