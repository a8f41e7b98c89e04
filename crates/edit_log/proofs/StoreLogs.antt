-- The logs of a store by their generations, and of the store that a crash leaves.
use Rattle.std.proofs.Common.{◌≡◌, ◌≢◌, ◌⊎◌, inl, inr, ℕ, ◌<◌, Bool, true, false, cond, List, [], ◌∷◌, ◌++◌, map, take, Ok, refl, sym, ◌∙◌, ap, subst, arith, Err, None, Some, ◌+◌, ◌-◌, ◌^◌}
use Rattle.std.specs.Prelude.{Option, nat_lt, ◌==◌, Result, nat_le, if◌then◌else◌}
use Rattle.std.specs.List.{AllByRecursion}
use Rattle.std.specs.List.Sorted.{IsStrictlySortedBy}
use Rattle.std.specs.declared.cmp.Ordering.TheVariants.{Less, Equal, Greater}
use Rattle.std.proofs.lemmas.Bool.Decides.{nat_tests}
use Rattle.std.proofs.lemmas.Bool.{eqb-true}
use Rattle.std.proofs.lemmas.List.{take_all}
use Rattle.gw_model.specs.declared.object.KeptObject.{KeptObject}
use Rattle.gw_model.specs.declared.object.ObjectId.{ObjectId}
use Rattle.gw_model.specs.declared.object.ObjectId.TheVariants.{Log, Body}
use Rattle.append_store.specs.State.{ObjectState, Missing, Kept, Lent, IsThere, IsCrashImage, bytes_of}
use Rattle.append_store.specs.Calls.{Has, HasLength, IsRising, Lists, object_cmp}
use Rattle.name_tree.specs.declared.edit.Edit.{Edit}
use Rattle.name_tree.specs.Tree.{Tree, root_tree}
use Rattle.edit_log.specs.Edits.{InRange, edit_text, edit_texts, header, written_edits}
use Rattle.edit_log.specs.Log.{Holds}
use Rattle.edit_log.specs.Laws.{IsWhollyDurable}
use Rattle.edit_log.specs.Start.{Refusal, MissingBody, LastGeneration, RecoversUpTo, after_log, first_without_body, last_generation, log_in, logs_of, start_result, start_with_bodies, start_with_tree, tree_after_log, tree_after_logs, tree_with_bodies, tree_with_edits}
use Rattle.edit_log.proofs.CrashedLogs.{crashed, crashed_whole, tree_recovered}
use Rattle.edit_log.proofs.FetchedLogs.{known_there}
use Rattle.edit_log.proofs.LogsAfter.{and_then, logs_behind}

-- the generations of the logs in a list
abbrev generation_in : ObjectId → List ℕ → List ℕ
generation_in (Log g) rest = g ∷ rest
generation_in (Body file version) rest = rest

abbrev generations : List KeptObject → List ℕ
generations [] = []
generations (k ∷ ks) = generation_in k.object (generations ks)

abbrev logs_at : (ObjectId → ObjectState) → List ℕ → List (ℕ × List ℕ)
logs_at at [] = []
logs_at at (g ∷ gs) = (g, bytes_of (at (Log g))) ∷ logs_at at gs

by_generation : (at : ObjectId → ObjectState) (all : List KeptObject) → logs_of at all ≡ logs_at at (generations all)
by_generation at [] = refl
by_generation at (k ∷ ks) = go k.object (by_generation at ks)
  where
    go : (o : ObjectId) → logs_of at ks ≡ logs_at at (generations ks) → log_in o (at o) (logs_of at ks) ≡ logs_at at (generation_in o (generations ks))
    go (Log g) rest = ap (λ (r : List (ℕ × List ℕ)). (g, bytes_of (at (Log g))) ∷ r) rest
    go (Body file version) rest = rest

-- numbers in a list that rises

abbrev In : ℕ → List ℕ → Type 0
In n [] = ⊥
In n (g ∷ gs) = (g ≡ n) ⊎ In n gs

abbrev Rising : List ℕ → Type 0
Rising [] = Unit {0}
Rising (g ∷ gs) = ((n : ℕ) → In n gs → g < n) × Rising gs

heads_meet : (x y : ℕ) (xs ys : List ℕ) → ((n : ℕ) → In n xs → x < n) → ((n : ℕ) → In n ys → y < n) → (y ≡ x) ⊎ In x ys → (x ≡ y) ⊎ In y xs → x ≡ y
heads_meet x y xs ys rx ry (inl e) b = sym e
heads_meet x y xs ys rx ry (inr i) (inl e) = e
heads_meet x y xs ys rx ry (inr i) (inr j) = absurd (omega (arith, ry x i, rx y j))

tails_meet : (x y n : ℕ) (ys : List ℕ) → x ≡ y → x < n → (y ≡ n) ⊎ In n ys → In n ys
tails_meet x y n ys same less (inl e) = absurd (omega (arith, same, less, e))
tails_meet x y n ys same less (inr i) = i

same_numbers : (xs ys : List ℕ) → Rising xs → Rising ys → ((n : ℕ) → In n xs → In n ys) → ((n : ℕ) → In n ys → In n xs) → xs ≡ ys
same_numbers [] [] rx ry forth back = refl
same_numbers [] (y ∷ ys) rx ry forth back = absurd (back y (inl refl))
same_numbers (x ∷ xs) [] rx ry forth back = absurd (forth x (inl refl))
same_numbers (x ∷ xs) (y ∷ ys) rx ry forth back =
    let head : x ≡ y = heads_meet x y xs ys rx.0 ry.0 (forth x (inl refl)) (back y (inl refl)) in
    let tail : xs ≡ ys = same_numbers xs ys rx.1 ry.1 (λ n i. tails_meet x y n ys head (rx.0 n i) (forth n (inr i))) (λ n i. tails_meet y x n xs (sym head) (ry.0 n i) (back n (inr i))) in
    ap (λ (n : ℕ). n ∷ xs) head ∙ ap (λ (l : List ℕ). y ∷ l) tail

-- one number more at the end

in_front : (xs : List ℕ) (g n : ℕ) → In n xs → In n (xs ++ g ∷ [])
in_front [] g n i = absurd i
in_front (x ∷ xs) g n (inl e) = inl e
in_front (x ∷ xs) g n (inr i) = inr (in_front xs g n i)

in_last : (xs : List ℕ) (g n : ℕ) → g ≡ n → In n (xs ++ g ∷ [])
in_last [] g n e = inl e
in_last (x ∷ xs) g n e = inr (in_last xs g n e)

in_either : (xs : List ℕ) (g n : ℕ) → In n (xs ++ g ∷ []) → In n xs ⊎ (g ≡ n)
in_either [] g n (inl e) = inr e
in_either [] g n (inr i) = absurd i
in_either (x ∷ xs) g n (inl e) = inl (inl e)
in_either (x ∷ xs) g n (inr i) = go (in_either xs g n i)
  where
    go : In n xs ⊎ (g ≡ n) → ((x ≡ n) ⊎ In n xs) ⊎ (g ≡ n)
    go (inl j) = inl (inr j)
    go (inr e) = inr e

rising_more : (xs : List ℕ) (g : ℕ) → Rising xs → ((n : ℕ) → In n xs → n < g) → Rising (xs ++ g ∷ [])
rising_more [] g r below = (λ n i. absurd i, tt)
rising_more (x ∷ xs) g r below = (λ n i. go n (in_either xs g n i), rising_more xs g r.1 (λ n i. below n (inr i)))
  where
    go : (n : ℕ) → In n xs ⊎ (g ≡ n) → x < n
    go n (inl i) = r.0 n i
    go n (inr e) = subst (λ (k : ℕ). x < k) e (below x (inl refl))

logs_more : (at : ObjectId → ObjectState) (xs : List ℕ) (g : ℕ) → logs_at at (xs ++ g ∷ []) ≡ logs_at at xs ++ (g, bytes_of (at (Log g))) ∷ []
logs_more at [] g = refl
logs_more at (x ∷ xs) g = ap (λ (r : List (ℕ × List ℕ)). (x, bytes_of (at (Log x))) ∷ r) (logs_more at xs g)

logs_same : (at at' : ObjectId → ObjectState) (xs : List ℕ) → ((n : ℕ) → In n xs → at' (Log n) ≡ at (Log n)) → logs_at at' xs ≡ logs_at at xs
logs_same at at' [] same = refl
logs_same at at' (x ∷ xs) same =
    ap (λ (s : ObjectState). (x, bytes_of s) ∷ logs_at at' xs) (same x (inl refl))
    ∙ ap (λ (r : List (ℕ × List ℕ)). (x, bytes_of (at (Log x))) ∷ r) (logs_same at at' xs (λ n i. same n (inr i)))

-- which generations a list has

abbrev generation_of : ObjectId → ℕ
generation_of (Log g) = g
generation_of (Body file version) = 0

has_in : (all : List KeptObject) (g : ℕ) → Has all (Log g) → In g (generations all)
has_in [] g h = h
has_in (k ∷ ks) g h = go k.object h (has_in ks g)
  where
    go : (o : ObjectId) → (o ≡ Log g) ⊎ Has ks (Log g) → (Has ks (Log g) → In g (generations ks)) → In g (generation_in o (generations ks))
    go (Log n) (inl e) rest = inl (ap generation_of e)
    go (Log n) (inr i) rest = inr (rest i)
    go (Body file version) (inl e) rest = cc
    go (Body file version) (inr i) rest = rest i

in_there : (at : ObjectId → ObjectState) (all : List KeptObject) (g : ℕ) → AllByRecursion (λ k. HasLength (at k.object) k.length) all → In g (generations all) → IsThere (at (Log g))
in_there at [] g sound i = absurd i
in_there at (k ∷ ks) g sound i = go k.object k.length sound.0 i (in_there at ks g sound.1)
  where
    go : (o : ObjectId) (n : ℕ) → HasLength (at o) n → In g (generation_in o (generations ks)) → (In g (generations ks) → IsThere (at (Log g))) → IsThere (at (Log g))
    go (Log m) n h (inl e) rest = subst (λ (x : ℕ). IsThere (at (Log x))) e (known_there (at (Log m)) n h)
    go (Log m) n h (inr j) rest = rest j
    go (Body file version) n h j rest = rest j

log_below : (h m : ℕ) → object_cmp (Log h) (Log m) ≡ Less → h < m
log_below h m e = go (nat_lt h m) (h == m) refl e
  where
    go : (t s : Bool) → nat_lt h m ≡ t → cond t Less (cond s Equal Greater) ≡ Less → h < m
    go true s is e = grind (arith, nat_tests)
    go false true is e = cc
    go false false is e = cc

all_below : (g : ℕ) (ks : List KeptObject) (n : ℕ) → AllByRecursion (λ y. object_cmp (Log g) y ≡ Less) (map (λ k. k.object) ks) → In n (generations ks) → g < n
all_below g [] n below i = absurd i
all_below g (k ∷ ks) n below i = go k.object below.0 i (all_below g ks n below.1)
  where
    go : (o : ObjectId) → object_cmp (Log g) o ≡ Less → In n (generation_in o (generations ks)) → (In n (generations ks) → g < n) → g < n
    go (Log m) e (inl is) rest = subst (λ (x : ℕ). g < x) is (log_below g m e)
    go (Log m) e (inr j) rest = rest j
    go (Body file version) e j rest = rest j

rising_generations : (all : List KeptObject) → IsRising all → Rising (generations all)
unfolding IsStrictlySortedBy
rising_generations [] r = tt
rising_generations (k ∷ ks) r = go k.object r.0 (rising_generations ks r.1)
  where
    go : (o : ObjectId) → AllByRecursion (λ y. object_cmp o y ≡ Less) (map (λ k. k.object) ks) → Rising (generations ks) → Rising (generation_in o (generations ks))
    go (Log g) below rest = (λ n i. all_below g ks n below i, rest)
    go (Body file version) below rest = rest

-- a crash leaves what is wholly durable
stays : (s s' : ObjectState) → IsWhollyDurable s → IsCrashImage s s' → s' ≡ s
stays Missing s' whole crash = crash
stays (Kept bytes durable) s' whole crash =
    let n : crash.0 ≡ durable = omega (arith, whole, crash.1, crash.2) in
    crash.3 ∙ (ap (λ (m : ℕ). Kept (take m bytes) m) n ∙ ap (λ (b : List ℕ). Kept b durable) (take_all durable bytes (omega (arith, whole))))
stays (Lent mark) s' whole crash = absurd whole

there_now : (s : ObjectState) (content : List ℕ) (durable : ℕ) → IsCrashImage (Kept content durable) s → IsThere s
there_now s content durable crash = subst IsThere (sym crash.3) tt

-- the logs of the store that a crash leaves: the earlier ones, and the one that was out
crashed_logs : (at at' : ObjectId → ObjectState) (all all' : List KeptObject) (g durable : ℕ) (content : List ℕ)
    → Lists at all → IsRising all → ((h : ℕ) → IsThere (at (Log h)) → h < g)
    → ((h : ℕ) → h ≢ g → IsWhollyDurable (at (Log h)) × IsCrashImage (at (Log h)) (at' (Log h)))
    → IsCrashImage (Kept content durable) (at' (Log g)) → Lists at' all' → IsRising all' → logs_of at' all' ≡ logs_of at all ++ (g, bytes_of (at' (Log g))) ∷ []
crashed_logs at at' all all' g durable content lists rising less others crash lists' rising' =
    let kept : (h : ℕ) → h ≢ g → at' (Log h) ≡ at (Log h) = λ h ne. stays (at (Log h)) (at' (Log h)) (others h ne).0 (others h ne).1 in
    let there : (n : ℕ) → In n (generations all) → IsThere (at (Log n)) = λ n i. in_there at all n lists.sound i in
    let other : (n : ℕ) → In n (generations all) → n ≢ g = λ n i is. omega (arith, less n (there n i), is) in
    let ends : generations all' ≡ generations all ++ g ∷ [] = same_numbers (generations all') (generations all ++ g ∷ []) (rising_generations all' rising')
    (rising_more (generations all) g (rising_generations all rising) (λ n i. less n (there n i)))
    (λ n i. forth n (n == g) refl (in_there at' all' n lists'.sound i) kept)
    (λ n i. back n (in_either (generations all) g n i) (λ j. subst IsThere (sym (kept n (other n j))) (there n j))) in
    by_generation at' all' ∙ (ap (logs_at at') ends ∙ (logs_more at' (generations all) g
    ∙ ap (λ (l : List (ℕ × List ℕ)). l ++ (g, bytes_of (at' (Log g))) ∷ []) (logs_same at at' (generations all) (λ n i. kept n (other n i)) ∙ sym (by_generation at all))))
  where
    forth : (n : ℕ) (t : Bool) → (n == g) ≡ t → IsThere (at' (Log n)) → ((h : ℕ) → h ≢ g → at' (Log h) ≡ at (Log h)) → In n (generations all ++ g ∷ [])
    forth n true is there kept = in_last (generations all) g n (sym (eqb-true n g is))
    forth n false is there kept =
        let ne : n ≢ g = λ same. (let e : (n == g) ≡ true = grind (arith, nat_tests) in absurd (let f : true ≡ false = sym e ∙ is in cc)) in
        in_front (generations all) g n (has_in all n (lists.complete (Log n) (subst IsThere (kept n ne) there)))

    back : (n : ℕ) → In n (generations all) ⊎ (g ≡ n) → (In n (generations all) → IsThere (at' (Log n))) → In n (generations all')
    back n (inl i) there = has_in all' n (lists'.complete (Log n) (there i))
    back n (inr is) there = has_in all' n (lists'.complete (Log n) (subst (λ (x : ℕ). IsThere (at' (Log x))) is (there_now (at' (Log g)) content durable crash)))

pub store_recovered : (at at' : ObjectId → ObjectState) (all all' : List KeptObject) (g m durable : ℕ) (content : List ℕ) (failed : Option ℕ) (u : Tree) (es : List Edit) (e : Edit)
    → AllByRecursion InRange es → InRange e → Lists at all → IsRising all → ((h : ℕ) → IsThere (at (Log h)) → h < g) → tree_after_logs (logs_of at all) root_tree ≡ Ok u
    → ((h : ℕ) → h ≢ g → IsWhollyDurable (at (Log h)) × IsCrashImage (at (Log h)) (at' (Log h)))
    → Holds content durable failed (header ++ edit_texts es) (take m (edit_text e)) → IsCrashImage (Kept content durable) (at' (Log g))
    → Lists at' all' → IsRising all' → RecoversUpTo (tree_after_logs (logs_of at' all') root_tree) es e u
store_recovered at at' all all' g m durable content failed u es e range in_range lists rising less read others holds crash lists' rising' =
    subst (λ (l : List (ℕ × List ℕ)). RecoversUpTo (tree_after_logs l root_tree) es e u) (sym (crashed_logs at at' all all' g durable content lists rising less others crash lists' rising'))
    (tree_recovered (logs_of at all) g (bytes_of (at' (Log g))) root_tree u es e read (crashed content durable m failed es e (at' (Log g)) range in_range holds crash))

-- where no add failed
pub store_recovered_whole : (at at' : ObjectId → ObjectState) (all all' : List KeptObject) (g durable : ℕ) (content : List ℕ) (failed : Option ℕ) (u : Tree) (es : List Edit)
    → AllByRecursion InRange es → Lists at all → IsRising all → ((h : ℕ) → IsThere (at (Log h)) → h < g) → tree_after_logs (logs_of at all) root_tree ≡ Ok u
    → ((h : ℕ) → h ≢ g → IsWhollyDurable (at (Log h)) × IsCrashImage (at (Log h)) (at' (Log h)))
    → Holds content durable failed (header ++ edit_texts es) [] → IsCrashImage (Kept content durable) (at' (Log g))
    → Lists at' all' → IsRising all' → tree_after_logs (logs_of at' all') root_tree ≡ Ok (tree_with_edits (written_edits es) u)
store_recovered_whole at at' all all' g durable content failed u es range lists rising less read others holds crash lists' rising' =
    let last : List (ℕ × List ℕ) = (g, bytes_of (at' (Log g))) ∷ [] in
    ap (λ (l : List (ℕ × List ℕ)). tree_after_logs l root_tree) (crashed_logs at at' all all' g durable content lists rising less others crash lists' rising')
    ∙ (logs_behind (logs_of at all) last root_tree
    ∙ (ap (λ r. and_then r last) read
    ∙ ap (λ x. after_log g (tree_after_log x u) (λ v. Ok v)) (crashed_whole content durable failed es (at' (Log g)) range holds crash)))

-- a start has the tree of the logs, with the sizes of the bodies

abbrev found : ℕ × Tree → Result (ℕ × Tree) Refusal
found x = Ok x

abbrev start_if : Bool → ℕ × Tree → Result (ℕ × Tree) Refusal
start_if b x = if b then Err LastGeneration else Ok x

same_found : (x y : ℕ × Tree) → found x ≡ found y → x ≡ y
same_found x y h = cc

not_found : (r : Refusal) (y : ℕ × Tree) → Err r ≡ found y → ⊥
not_found r y h = cc

pub from_logs : (at : ObjectId → ObjectState) (all : List KeptObject) (g : ℕ) (t : Tree) → start_result at all ≡ Ok (g, t)
    → (u : Tree) × (tree_after_logs (logs_of at all) root_tree ≡ Ok u) × (t ≡ tree_with_bodies all u) × (g ≡ last_generation 0 all + 1)
unfolding start_result
from_logs at all g t h = go (tree_after_logs (logs_of at all) root_tree) h
  where
    last : (u : Tree) (b : Bool) → start_if b (last_generation 0 all + 1, tree_with_bodies all u) ≡ found (g, t) → (t ≡ tree_with_bodies all u) × (g ≡ last_generation 0 all + 1)
    last u true h = absurd (not_found LastGeneration (g, t) h)
    last u false h =
        let same = same_found (last_generation 0 all + 1, tree_with_bodies all u) (g, t) h in
        (sym (ap (λ (p : ℕ × Tree). p.1) same), sym (ap (λ (p : ℕ × Tree). p.0) same))

    bodies : (u : Tree) (m : Option ℕ) → start_with_bodies m (last_generation 0 all) all u ≡ Ok (g, t) → (t ≡ tree_with_bodies all u) × (g ≡ last_generation 0 all + 1)
    bodies u (Some file) h = absurd (not_found (MissingBody file) (g, t) h)
    bodies u None h = last u (nat_le (2 ^ 64 - 1) (last_generation 0 all)) h

    go : (r : Result Tree Refusal) → start_with_tree r (last_generation 0 all) all ≡ Ok (g, t) → (u : Tree) × (r ≡ Ok u) × (t ≡ tree_with_bodies all u) × (g ≡ last_generation 0 all + 1)
    go (Err refusal) h = absurd (not_found refusal (g, t) h)
    go (Ok u) h = let rest = bodies u (first_without_body all u.nodes) h in (u, refl, rest.0, rest.1)
