-- A joined mark tells what it was made of.
use Rattle.std.proofs.Common.{◌≡◌, ℕ, List, [], ◌∷◌, ◌++◌, length, Some, None, refl, ◌∙◌, ap, arith}
use Rattle.gw_model.specs.declared.object.ObjectId.{ObjectId}
use Rattle.gw_model.specs.declared.object.ObjectId.TheVariants.{Log}
use Rattle.replica_store.specs.Marks.{joined, MarksTell}

head_is : (x y : ObjectId) (xs ys : List ObjectId) → x ∷ xs ≡ y ∷ ys → x ≡ y
head_is x y xs ys same = cc

tail_is : (x y : ObjectId) (xs ys : List ObjectId) → x ∷ xs ≡ y ∷ ys → xs ≡ ys
tail_is x y xs ys same = cc

number_is : (m n : ℕ) → Log m ≡ Log n → m ≡ n
number_is m n same = cc

split : (m n r s : List ObjectId) → length m ≡ length n → m ++ r ≡ n ++ s → (m ≡ n) × (r ≡ s)
split [] [] r s long same = (refl, same)
split [] (y ∷ n) r s long same = absurd (omega (arith, long))
split (x ∷ m) [] r s long same = absurd (omega (arith, long))
split (x ∷ m) (y ∷ n) r s long same =
    let rest = split m n r s (omega (arith, long)) (tail_is x y (m ++ r) (n ++ s) same) in
    let first = head_is x y (m ++ r) (n ++ s) same in
    (cons first rest.0, rest.1)
  where
    cons : x ≡ y → m ≡ n → x ∷ m ≡ y ∷ n
    cons a b = cc

pub marks_tell : MarksTell
marks_tell [] [] same = refl
marks_tell [] (None ∷ ys) same = cc
marks_tell [] (Some n ∷ ys) same = cc
marks_tell (None ∷ xs) [] same = cc
marks_tell (Some m ∷ xs) [] same = cc
marks_tell (None ∷ xs) (None ∷ ys) same = ap (λ zs. None ∷ zs) (marks_tell xs ys (tail_is _ _ _ _ same))
marks_tell (None ∷ xs) (Some n ∷ ys) same = let e = number_is 0 1 (head_is _ _ _ _ same) in absurd (omega (arith, e))
marks_tell (Some m ∷ xs) (None ∷ ys) same = let e = number_is 1 0 (head_is _ _ _ _ same) in absurd (omega (arith, e))
marks_tell (Some m ∷ xs) (Some n ∷ ys) same =
    let rest = tail_is _ _ _ _ same in
    let long = number_is (length m) (length n) (head_is _ _ _ _ rest) in
    let both = split m n (joined xs) (joined ys) long (tail_is _ _ _ _ rest) in
    ap (λ k. Some k ∷ xs) both.0 ∙ ap (λ zs. Some n ∷ zs) (marks_tell xs ys both.1)
