-- A loop over the members and their parts, up to a place; equal from there on.
use Rattle.std.proofs.Common.{◌≡◌, ◌≤◌, ℕ, zero, suc, ◌+◌, ◌<◌, List, [], ◌∷◌, length, refl, sym, ap, subst, arith, set, get_or, drop}
use Rattle.std.specs.List.{AllByRecursion, AllZip}
use Rattle.replica_store.specs.Steps.{Together}

module _ {X P : Type 0} where
  abbrev pub TogetherTo : (X → X → P → P → Type 0) → ℕ → List X → List X → List P → List P → Type 0
  TogetherTo R zero xs ys ps qs = (ys ≡ xs) × (qs ≡ ps)
  TogetherTo R (suc i) [] ys ps qs = ⊥
  TogetherTo R (suc i) (x ∷ xs) [] ps qs = ⊥
  TogetherTo R (suc i) (x ∷ xs) (y ∷ ys) [] qs = ⊥
  TogetherTo R (suc i) (x ∷ xs) (y ∷ ys) (p ∷ ps) [] = ⊥
  TogetherTo R (suc i) (x ∷ xs) (y ∷ ys) (p ∷ ps) (q ∷ qs) = R x y p q × TogetherTo R i xs ys ps qs

  first : (R : X → X → P → P → Type 0) (x y v : X) (p q w : P) (xs ys : List X) (ps qs : List P) → y ∷ ys ≡ x ∷ xs → q ∷ qs ≡ p ∷ ps → R y v q w → TogetherTo R 1 (x ∷ xs) (v ∷ ys) (p ∷ ps) (w ∷ qs)
  first R x y v p q w xs ys ps qs one two r =
      (subst (λ z. R z v p w) (ap (λ zs. get_or zs 0 y) one) (subst (λ z. R y v z w) (ap (λ zs. get_or zs 0 q) two) r), (ap (drop 1) one, ap (drop 1) two))

  one_more : (R : X → X → P → P → Type 0) (i : ℕ) (xs ys : List X) (ps qs : List P) (d v : X) (e w : P) → TogetherTo R i xs ys ps qs → i < length ys → i < length qs → R (get_or ys i d) v (get_or qs i e) w → TogetherTo R (suc i) xs (set ys i v) ps (set qs i w)
  one_more R zero xs [] ps qs d v e w is lt lq r = absurd (omega (arith, lt))
  one_more R zero xs (y ∷ ys) ps [] d v e w is lt lq r = absurd (omega (arith, lq))
  one_more R zero [] (y ∷ ys) ps (q ∷ qs) d v e w is lt lq r = let n = ap length is.0 in absurd (omega (arith, n))
  one_more R zero (x ∷ xs) (y ∷ ys) [] (q ∷ qs) d v e w is lt lq r = let n = ap length is.1 in absurd (omega (arith, n))
  one_more R zero (x ∷ xs) (y ∷ ys) (p ∷ ps) (q ∷ qs) d v e w is lt lq r = first R x y v p q w xs ys ps qs is.0 is.1 r
  one_more R (suc i) [] ys ps qs d v e w is lt lq r = absurd is
  one_more R (suc i) (x ∷ xs) [] ps qs d v e w is lt lq r = absurd is
  one_more R (suc i) (x ∷ xs) (y ∷ ys) [] qs d v e w is lt lq r = absurd is
  one_more R (suc i) (x ∷ xs) (y ∷ ys) (p ∷ ps) [] d v e w is lt lq r = absurd is
  one_more R (suc i) (x ∷ xs) (y ∷ ys) (p ∷ ps) (q ∷ qs) d v e w is lt lq r = (is.0, one_more R i xs ys ps qs d v e w is.1 (omega (arith, lt)) (omega (arith, lq)) r)

  pub together_further : (R : X → X → P → P → Type 0) (i : ℕ) (xs ys : List X) (ps qs : List P) (d s v : X) (e p w : P) → TogetherTo R i xs ys ps qs → s ≡ get_or ys i d → p ≡ get_or qs i e → i < length ys → i < length qs → R s v p w → TogetherTo R (i + 1) xs (set ys i v) ps (set qs i w)
  together_further R i xs ys ps qs d s v e p w is one two lt lq r =
      let n : suc i ≡ i + 1 = omega arith in
      subst (λ m. TogetherTo R m xs (set ys i v) ps (set qs i w)) n (one_more R i xs ys ps qs d v e w is lt lq (subst (λ z. R z v (get_or qs i e) w) one (subst (λ z. R s v z w) two r)))

  pub all_together : (R : X → X → P → P → Type 0) (i : ℕ) (xs ys : List X) (ps qs : List P) → TogetherTo R i xs ys ps qs → length ys ≤ i → length qs ≤ i → Together R xs ys ps qs
  all_together R zero [] [] [] [] is all each = tt
  all_together R zero [] [] (p ∷ ps) [] is all each = let n = ap length is.1 in absurd (omega (arith, n))
  all_together R zero (x ∷ xs) [] ps qs is all each = let n = ap length is.0 in absurd (omega (arith, n))
  all_together R zero xs (y ∷ ys) ps qs is all each = absurd (omega (arith, all))
  all_together R zero xs [] ps (q ∷ qs) is all each = absurd (omega (arith, each))
  all_together R (suc i) [] ys ps qs is all each = absurd is
  all_together R (suc i) (x ∷ xs) [] ps qs is all each = absurd is
  all_together R (suc i) (x ∷ xs) (y ∷ ys) [] qs is all each = absurd is
  all_together R (suc i) (x ∷ xs) (y ∷ ys) (p ∷ ps) [] is all each = absurd is
  all_together R (suc i) (x ∷ xs) (y ∷ ys) (p ∷ ps) (q ∷ qs) is all each = (is.0, all_together R i xs ys ps qs is.1 (omega (arith, all)) (omega (arith, each)))

  -- what is true of all at the start is true of the next one
  next_of : (R : X → X → P → P → Type 0) (Q : X → Type 0) (i : ℕ) (xs ys : List X) (ps qs : List P) (d : X) → TogetherTo R i xs ys ps qs → AllByRecursion Q xs → i < length ys → Q (get_or ys i d)
  next_of R Q zero xs [] ps qs d is all lt = absurd (omega (arith, lt))
  next_of R Q zero [] (y ∷ ys) ps qs d is all lt = let n = ap length is.0 in absurd (omega (arith, n))
  next_of R Q zero (x ∷ xs) (y ∷ ys) ps qs d is all lt = subst Q (sym (ap (λ zs. get_or zs 0 d) is.0)) all.0
  next_of R Q (suc i) [] ys ps qs d is all lt = absurd is
  next_of R Q (suc i) (x ∷ xs) [] ps qs d is all lt = absurd is
  next_of R Q (suc i) (x ∷ xs) (y ∷ ys) [] qs d is all lt = absurd is
  next_of R Q (suc i) (x ∷ xs) (y ∷ ys) (p ∷ ps) [] d is all lt = absurd is
  next_of R Q (suc i) (x ∷ xs) (y ∷ ys) (p ∷ ps) (q ∷ qs) d is all lt = next_of R Q i xs ys ps qs d is.1 all.1 (omega (arith, lt))

  pub together_next : (R : X → X → P → P → Type 0) (Q : X → Type 0) (i : ℕ) (xs ys : List X) (ps qs : List P) (d s : X) → TogetherTo R i xs ys ps qs → AllByRecursion Q xs → s ≡ get_or ys i d → i < length ys → Q s
  together_next R Q i xs ys ps qs d s is all one lt = subst Q (sym one) (next_of R Q i xs ys ps qs d is all lt)

  -- what each makes of itself and its part
  pub gather : (R : X → X → P → P → Type 0) (A : X → P → Type 0) (B : P → Type 0) (U : X → P → Type 0) → ((x y : X) (p q : P) → A x p → B p → R x y p q → U y q) → (xs ys : List X) (ps qs : List P) → AllZip A xs ps → AllByRecursion B ps → Together R xs ys ps qs → AllZip U ys qs
  gather R A B U step [] [] [] [] a b is = tt
  gather R A B U step [] [] [] (q ∷ qs) a b is = absurd is
  gather R A B U step [] [] (p ∷ ps) qs a b is = absurd is
  gather R A B U step [] (y ∷ ys) ps qs a b is = absurd is
  gather R A B U step (x ∷ xs) [] ps qs a b is = absurd is
  gather R A B U step (x ∷ xs) (y ∷ ys) [] qs a b is = absurd is
  gather R A B U step (x ∷ xs) (y ∷ ys) (p ∷ ps) [] a b is = absurd is
  gather R A B U step (x ∷ xs) (y ∷ ys) (p ∷ ps) (q ∷ qs) a b is = (step x y p q a.0 b.0 is.0, gather R A B U step xs ys ps qs a.1 b.1 is.1)

  pub gather_zip : (R : X → X → P → P → Type 0) (U : X → P → Type 0) → ((x y : X) (p q : P) → R x y p q → U y q) → (xs ys : List X) (ps qs : List P) → Together R xs ys ps qs → AllZip U ys qs
  gather_zip R U step [] [] [] [] is = tt
  gather_zip R U step [] [] [] (q ∷ qs) is = absurd is
  gather_zip R U step [] [] (p ∷ ps) qs is = absurd is
  gather_zip R U step [] (y ∷ ys) ps qs is = absurd is
  gather_zip R U step (x ∷ xs) [] ps qs is = absurd is
  gather_zip R U step (x ∷ xs) (y ∷ ys) [] qs is = absurd is
  gather_zip R U step (x ∷ xs) (y ∷ ys) (p ∷ ps) [] is = absurd is
  gather_zip R U step (x ∷ xs) (y ∷ ys) (p ∷ ps) (q ∷ qs) is = (step x y p q is.0, gather_zip R U step xs ys ps qs is.1)

  -- what each member does
  pub members_of : (R : X → X → P → P → Type 0) (S : X → X → Type 0) → ((x y : X) (p q : P) → R x y p q → S x y) → (xs ys : List X) (ps qs : List P) → Together R xs ys ps qs → AllZip S xs ys
  members_of R S step [] [] [] [] is = tt
  members_of R S step [] [] [] (q ∷ qs) is = absurd is
  members_of R S step [] [] (p ∷ ps) qs is = absurd is
  members_of R S step [] (y ∷ ys) ps qs is = absurd is
  members_of R S step (x ∷ xs) [] ps qs is = absurd is
  members_of R S step (x ∷ xs) (y ∷ ys) [] qs is = absurd is
  members_of R S step (x ∷ xs) (y ∷ ys) (p ∷ ps) [] is = absurd is
  members_of R S step (x ∷ xs) (y ∷ ys) (p ∷ ps) (q ∷ qs) is = (step x y p q is.0, members_of R S step xs ys ps qs is.1)

  -- the same, with what is known of each at the start
  pub members_where : (R : X → X → P → P → Type 0) (A : X → P → Type 0) (S : X → X → Type 0) → ((x y : X) (p q : P) → A x p → R x y p q → S x y) → (xs ys : List X) (ps qs : List P) → AllZip A xs ps → Together R xs ys ps qs → AllZip S xs ys
  members_where R A S step [] [] [] [] a is = tt
  members_where R A S step [] [] [] (q ∷ qs) a is = absurd is
  members_where R A S step [] [] (p ∷ ps) qs a is = absurd is
  members_where R A S step [] (y ∷ ys) ps qs a is = absurd is
  members_where R A S step (x ∷ xs) [] ps qs a is = absurd is
  members_where R A S step (x ∷ xs) (y ∷ ys) [] qs a is = absurd is
  members_where R A S step (x ∷ xs) (y ∷ ys) (p ∷ ps) [] a is = absurd is
  members_where R A S step (x ∷ xs) (y ∷ ys) (p ∷ ps) (q ∷ qs) a is = (step x y p q a.0 is.0, members_where R A S step xs ys ps qs a.1 is.1)

  -- what each part comes to
  pub parts_of : (R : X → X → P → P → Type 0) (A : X → P → Type 0) (B : P → Type 0) → ((x y : X) (p q : P) → A x p → R x y p q → B q) → (xs ys : List X) (ps qs : List P) → AllZip A xs ps → Together R xs ys ps qs → AllByRecursion B qs
  parts_of R A B step [] [] [] [] a is = tt
  parts_of R A B step [] [] [] (q ∷ qs) a is = absurd is
  parts_of R A B step [] [] (p ∷ ps) qs a is = absurd is
  parts_of R A B step [] (y ∷ ys) ps qs a is = absurd is
  parts_of R A B step (x ∷ xs) [] ps qs a is = absurd is
  parts_of R A B step (x ∷ xs) (y ∷ ys) [] qs a is = absurd is
  parts_of R A B step (x ∷ xs) (y ∷ ys) (p ∷ ps) [] a is = absurd is
  parts_of R A B step (x ∷ xs) (y ∷ ys) (p ∷ ps) (q ∷ qs) a is = (step x y p q a.0 is.0, parts_of R A B step xs ys ps qs a.1 is.1)

  pub parts_each : (R : X → X → P → P → Type 0) (B : P → Type 0) → ((x y : X) (p q : P) → R x y p q → B q) → (xs ys : List X) (ps qs : List P) → Together R xs ys ps qs → AllByRecursion B qs
  parts_each R B step [] [] [] [] is = tt
  parts_each R B step [] [] [] (q ∷ qs) is = absurd is
  parts_each R B step [] [] (p ∷ ps) qs is = absurd is
  parts_each R B step [] (y ∷ ys) ps qs is = absurd is
  parts_each R B step (x ∷ xs) [] ps qs is = absurd is
  parts_each R B step (x ∷ xs) (y ∷ ys) [] qs is = absurd is
  parts_each R B step (x ∷ xs) (y ∷ ys) (p ∷ ps) [] is = absurd is
  parts_each R B step (x ∷ xs) (y ∷ ys) (p ∷ ps) (q ∷ qs) is = (step x y p q is.0, parts_each R B step xs ys ps qs is.1)

  pub as_many : (R : X → X → P → P → Type 0) (xs ys : List X) (ps qs : List P) → Together R xs ys ps qs → (length ys ≡ length xs) × (length qs ≡ length ps) × (length ps ≡ length xs)
  as_many R [] [] [] [] is = (refl, refl, refl)
  as_many R [] [] [] (q ∷ qs) is = absurd is
  as_many R [] [] (p ∷ ps) qs is = absurd is
  as_many R [] (y ∷ ys) ps qs is = absurd is
  as_many R (x ∷ xs) [] ps qs is = absurd is
  as_many R (x ∷ xs) (y ∷ ys) [] qs is = absurd is
  as_many R (x ∷ xs) (y ∷ ys) (p ∷ ps) [] is = absurd is
  as_many R (x ∷ xs) (y ∷ ys) (p ∷ ps) (q ∷ qs) is = let n = as_many R xs ys ps qs is.1 in (omega (arith, n.0), omega (arith, n.1), omega (arith, n.2))

  -- what each member makes of itself and its part, by what is known of it at the start
  pub seats_zip : (R : X → X → P → P → Type 0) (A : X → Type 0) (U : X → P → Type 0) → ((x y : X) (p q : P) → A x → R x y p q → U y q) → (xs ys : List X) (ps qs : List P) → AllByRecursion A xs → Together R xs ys ps qs → AllZip U ys qs
  seats_zip R A U step [] [] [] [] a is = tt
  seats_zip R A U step [] [] [] (q ∷ qs) a is = absurd is
  seats_zip R A U step [] [] (p ∷ ps) qs a is = absurd is
  seats_zip R A U step [] (y ∷ ys) ps qs a is = absurd is
  seats_zip R A U step (x ∷ xs) [] ps qs a is = absurd is
  seats_zip R A U step (x ∷ xs) (y ∷ ys) [] qs a is = absurd is
  seats_zip R A U step (x ∷ xs) (y ∷ ys) (p ∷ ps) [] a is = absurd is
  seats_zip R A U step (x ∷ xs) (y ∷ ys) (p ∷ ps) (q ∷ qs) a is = (step x y p q a.0 is.0, seats_zip R A U step xs ys ps qs a.1 is.1)

  pub seats_parts : (R : X → X → P → P → Type 0) (A : X → Type 0) (B : P → Type 0) → ((x y : X) (p q : P) → A x → R x y p q → B q) → (xs ys : List X) (ps qs : List P) → AllByRecursion A xs → Together R xs ys ps qs → AllByRecursion B qs
  seats_parts R A B step [] [] [] [] a is = tt
  seats_parts R A B step [] [] [] (q ∷ qs) a is = absurd is
  seats_parts R A B step [] [] (p ∷ ps) qs a is = absurd is
  seats_parts R A B step [] (y ∷ ys) ps qs a is = absurd is
  seats_parts R A B step (x ∷ xs) [] ps qs a is = absurd is
  seats_parts R A B step (x ∷ xs) (y ∷ ys) [] qs a is = absurd is
  seats_parts R A B step (x ∷ xs) (y ∷ ys) (p ∷ ps) [] a is = absurd is
  seats_parts R A B step (x ∷ xs) (y ∷ ys) (p ∷ ps) (q ∷ qs) a is = (step x y p q a.0 is.0, seats_parts R A B step xs ys ps qs a.1 is.1)

  pub seats_seats : (R : X → X → P → P → Type 0) (B : X → Type 0) → ((x y : X) (p q : P) → R x y p q → B y) → (xs ys : List X) (ps qs : List P) → Together R xs ys ps qs → AllByRecursion B ys
  seats_seats R B step [] [] [] [] is = tt
  seats_seats R B step [] [] [] (q ∷ qs) is = absurd is
  seats_seats R B step [] [] (p ∷ ps) qs is = absurd is
  seats_seats R B step [] (y ∷ ys) ps qs is = absurd is
  seats_seats R B step (x ∷ xs) [] ps qs is = absurd is
  seats_seats R B step (x ∷ xs) (y ∷ ys) [] qs is = absurd is
  seats_seats R B step (x ∷ xs) (y ∷ ys) (p ∷ ps) [] is = absurd is
  seats_seats R B step (x ∷ xs) (y ∷ ys) (p ∷ ps) (q ∷ qs) is = (step x y p q is.0, seats_seats R B step xs ys ps qs is.1)

  -- a member afterwards, with its part before
  pub later_zip : (R : X → X → P → P → Type 0) (U : X → P → Type 0) → ((x y : X) (p q : P) → R x y p q → U y p) → (xs ys : List X) (ps qs : List P) → Together R xs ys ps qs → AllZip U ys ps
  later_zip R U step [] [] [] [] is = tt
  later_zip R U step [] [] [] (q ∷ qs) is = absurd is
  later_zip R U step [] [] (p ∷ ps) qs is = absurd is
  later_zip R U step [] (y ∷ ys) ps qs is = absurd is
  later_zip R U step (x ∷ xs) [] ps qs is = absurd is
  later_zip R U step (x ∷ xs) (y ∷ ys) [] qs is = absurd is
  later_zip R U step (x ∷ xs) (y ∷ ys) (p ∷ ps) [] is = absurd is
  later_zip R U step (x ∷ xs) (y ∷ ys) (p ∷ ps) (q ∷ qs) is = (step x y p q is.0, later_zip R U step xs ys ps qs is.1)

  -- one round and then another one
  pub then_members : (R S : X → X → P → P → Type 0) (A : X → Type 0) (W : X → X → Type 0) → ((x y z : X) (p q r : P) → A x → R x y p q → S y z q r → W x z) → (xs ys : List X) (ps qs : List P) (zs : List X) (rs : List P) → AllByRecursion A xs → Together R xs ys ps qs → Together S ys zs qs rs → AllZip W xs zs
  then_members R S A W step [] [] [] [] [] [] a is more = tt
  then_members R S A W step [] [] [] [] [] (r ∷ rs) a is more = absurd more
  then_members R S A W step [] [] [] [] (z ∷ zs) rs a is more = absurd more
  then_members R S A W step [] [] [] (q ∷ qs) zs rs a is more = absurd is
  then_members R S A W step [] [] (p ∷ ps) qs zs rs a is more = absurd is
  then_members R S A W step [] (y ∷ ys) ps qs zs rs a is more = absurd is
  then_members R S A W step (x ∷ xs) [] ps qs zs rs a is more = absurd is
  then_members R S A W step (x ∷ xs) (y ∷ ys) [] qs zs rs a is more = absurd is
  then_members R S A W step (x ∷ xs) (y ∷ ys) (p ∷ ps) [] zs rs a is more = absurd is
  then_members R S A W step (x ∷ xs) (y ∷ ys) (p ∷ ps) (q ∷ qs) [] rs a is more = absurd more
  then_members R S A W step (x ∷ xs) (y ∷ ys) (p ∷ ps) (q ∷ qs) (z ∷ zs) [] a is more = absurd more
  then_members R S A W step (x ∷ xs) (y ∷ ys) (p ∷ ps) (q ∷ qs) (z ∷ zs) (r ∷ rs) a is more = (step x y z p q r a.0 is.0 more.0, then_members R S A W step xs ys ps qs zs rs a.1 is.1 more.1)

  pub then_zip : (R S : X → X → P → P → Type 0) (A : X → Type 0) (U : X → P → Type 0) → ((x y z : X) (p q r : P) → A x → R x y p q → S y z q r → U z r) → (xs ys : List X) (ps qs : List P) (zs : List X) (rs : List P) → AllByRecursion A xs → Together R xs ys ps qs → Together S ys zs qs rs → AllZip U zs rs
  then_zip R S A W step [] [] [] [] [] [] a is more = tt
  then_zip R S A W step [] [] [] [] [] (r ∷ rs) a is more = absurd more
  then_zip R S A W step [] [] [] [] (z ∷ zs) rs a is more = absurd more
  then_zip R S A W step [] [] [] (q ∷ qs) zs rs a is more = absurd is
  then_zip R S A W step [] [] (p ∷ ps) qs zs rs a is more = absurd is
  then_zip R S A W step [] (y ∷ ys) ps qs zs rs a is more = absurd is
  then_zip R S A W step (x ∷ xs) [] ps qs zs rs a is more = absurd is
  then_zip R S A W step (x ∷ xs) (y ∷ ys) [] qs zs rs a is more = absurd is
  then_zip R S A W step (x ∷ xs) (y ∷ ys) (p ∷ ps) [] zs rs a is more = absurd is
  then_zip R S A W step (x ∷ xs) (y ∷ ys) (p ∷ ps) (q ∷ qs) [] rs a is more = absurd more
  then_zip R S A W step (x ∷ xs) (y ∷ ys) (p ∷ ps) (q ∷ qs) (z ∷ zs) [] a is more = absurd more
  then_zip R S A W step (x ∷ xs) (y ∷ ys) (p ∷ ps) (q ∷ qs) (z ∷ zs) (r ∷ rs) a is more = (step x y z p q r a.0 is.0 more.0, then_zip R S A W step xs ys ps qs zs rs a.1 is.1 more.1)
