-- The index by name and the names by id: what is found by one is what stands in the other.
use Rattle.std.proofs.Common.{◌≡◌, ℕ, IsSome, Bool, true, false, cond, List, [], ◌∷◌, Option, None, Some, refl, sym, ◌∙◌, ap, subst, arith, Ordering, Less, Equal, Greater}
use Rattle.std.specs.Prelude.{◌==◌}
use Rattle.std.specs.List.Sorted.{IsStrictlySortedBy}
use Rattle.std.specs.Ordering.{nat_cmp, is_eq}
use Rattle.std.specs.Str.{bytes_eq}
use Rattle.std.specs.Cmp.Lexicographic.{bytes_decides, nat_list_eq_equiv}
use Rattle.std.specs.Map.{lookup, keys_of}
use Rattle.std.proofs.lemmas.Bool.Decides.{nat_tests}
use Rattle.std.proofs.lemmas.Bool.{eqb-true}
use Rattle.std.proofs.lemmas.Map.Keys.{sorted_head, sorted_tail}
use Rattle.std.proofs.lemmas.Map.Lookups.{exact_unsigned}
use Rattle.name_tree.specs.Rooms.{filled_entries, inner}
use Rattle.name_tree.specs.Directory.{Names, child_in, is_that_id, is_that_name}
use Rattle.name_tree.proofs.RoomEntries.{at, none_above_list, Above, filled_lookup}

-- the two agree, as functions
abbrev pub Agree : (List ℕ → Option ℕ) → (ℕ → Option (List ℕ)) → Type 0
Agree f g = (q : List ℕ) (i : ℕ) → is_that_id i (f q) ≡ is_that_name q (g i)

same_name : (a b : List ℕ) → bytes_eq a b ≡ true → a ≡ b
same_name a b h = (bytes_decides a b).0 h

pub name_self : (a : List ℕ) → bytes_eq a a ≡ true
name_self a = nat_list_eq_equiv.refl a

name_turn : (a b : List ℕ) → bytes_eq a b ≡ bytes_eq b a
name_turn a b = nat_list_eq_equiv.symm a b

id_self : (i : ℕ) → (i == i) ≡ true
id_self i = grind (arith, nat_tests)

id_turn : (i j : ℕ) → (i == j) ≡ (j == i)
id_turn i j = grind (arith, nat_tests)

pub has_some : (o : Option ℕ) (j : ℕ) → is_that_id j o ≡ true → o ≡ Some j
has_some None j h = absurd (cc)
has_some (Some i) j h = ap (λ k. Some k) (sym (eqb-true j i h))

-- one more name under a new id
pub agree_added : (f f' : List ℕ → Option ℕ) (g g' : ℕ → Option (List ℕ)) (name : List ℕ) (id : ℕ) → Agree f g → f name ≡ None → g id ≡ None
    → ((q : List ℕ) → f' q ≡ cond (bytes_eq name q) (Some id) (f q)) → ((i : ℕ) → g' i ≡ cond (id == i) (Some name) (g i)) → Agree f' g'
agree_added f f' g g' name id agree free fresh fs gs q i = ap (is_that_id i) (fs q) ∙ (go (bytes_eq name q) refl (id == i) refl ∙ ap (is_that_name q) (sym (gs i)))
  where
    go : (b : Bool) → bytes_eq name q ≡ b → (c : Bool) → (id == i) ≡ c → is_that_id i (cond b (Some id) (f q)) ≡ is_that_name q (cond c (Some name) (g i))
    go true b true c = id_turn i id ∙ (c ∙ sym (name_turn q name ∙ b))
    go true b false c = id_turn i id ∙ (c ∙ sym (ap (λ n. is_that_name n (g i)) (sym (same_name name q b)) ∙ sym (agree name i) ∙ ap (is_that_id i) free))
    go false b true c = agree q i ∙ (ap (λ j. is_that_name q (g j)) (sym (eqb-true id i c)) ∙ (ap (is_that_name q) fresh ∙ sym (name_turn q name ∙ b)))
    go false b false c = agree q i

-- a name taken out
pub agree_taken : (f f' : List ℕ → Option ℕ) (g g' : ℕ → Option (List ℕ)) (name : List ℕ) (id : ℕ) → Agree f g → f name ≡ Some id
    → ((q : List ℕ) → f' q ≡ cond (bytes_eq name q) None (f q)) → ((i : ℕ) → g' i ≡ cond (id == i) None (g i)) → Agree f' g'
agree_taken f f' g g' name id agree there fs gs q i = ap (is_that_id i) (fs q) ∙ (go (bytes_eq name q) refl (id == i) refl ∙ ap (is_that_name q) (sym (gs i)))
  where
    other : (o : Option (List ℕ)) → bytes_eq name q ≡ false → is_that_name name o ≡ true → is_that_name q o ≡ false
    other None b h = refl
    other (Some n) b h = ap (bytes_eq q) (sym (same_name name n h)) ∙ (name_turn q name ∙ b)

    go : (b : Bool) → bytes_eq name q ≡ b → (c : Bool) → (id == i) ≡ c → is_that_id i (cond b None (f q)) ≡ is_that_name q (cond c None (g i))
    go true b true c = refl
    go true b false c = sym (ap (λ n. is_that_name n (g i)) (sym (same_name name q b)) ∙ (sym (agree name i) ∙ (ap (is_that_id i) there ∙ (id_turn i id ∙ c))))
    go false b true c = agree q i ∙ other (g i) b (sym (agree name i) ∙ (ap (is_that_id i) there ∙ (id_turn i id ∙ c)))
    go false b false c = agree q i

cmp_self : (i : ℕ) → nat_cmp i i ≡ Equal
cmp_self i = grind (arith, nat_tests)

-- The name that is found first stands under its id.
found_in : (es : Names) (q : List ℕ) (j : ℕ) → IsStrictlySortedBy nat_cmp (keys_of es) → child_in q es ≡ Some j → is_that_name q (lookup (at j) es) ≡ true
found_in [] q j s h = absurd (cc)
found_in ((k, n) ∷ es) q j s h = go (bytes_eq q n) refl h (found_in es q j (sorted_tail nat_cmp k (keys_of es) s))
  where
    later : (o : Ordering) → nat_cmp j k ≡ o → is_that_name q (lookup (at j) es) ≡ true → is_that_name q (cond (is_eq o) (Some n) (lookup (at j) es)) ≡ true
    later Less o rest = rest
    later Equal o rest = absurd (let none : is_that_name q (lookup (at j) es) ≡ false = ap (is_that_name q) (none_above_list es j (subst (λ i. Above i es) (sym (exact_unsigned j k o)) (sorted_head nat_cmp k (keys_of es) s))) in cc)
    later Greater o rest = rest

    go : (b : Bool) → bytes_eq q n ≡ b → cond b (Some k) (child_in q es) ≡ Some j → (child_in q es ≡ Some j → is_that_name q (lookup (at j) es) ≡ true) → is_that_name q (lookup (at j) ((k, n) ∷ es)) ≡ true
    go true b h rest = let same : k ≡ j = cc in subst (λ i. is_that_name q (lookup (at i) ((k, n) ∷ es)) ≡ true) same (ap (λ o. is_that_name q (cond (is_eq o) (Some n) (lookup (at k) es))) (cmp_self k) ∙ b)
    go false b h rest = later (nat_cmp j k) refl (rest h)

-- A name that isn't found stands nowhere.
missing_in : (es : Names) (q : List ℕ) (i : ℕ) → child_in q es ≡ None → is_that_name q (lookup (at i) es) ≡ false
missing_in [] q i h = refl
missing_in ((k, n) ∷ es) q i h = go (bytes_eq q n) refl h (nat_cmp i k) (missing_in es q i)
  where
    go : (b : Bool) → bytes_eq q n ≡ b → cond b (Some k) (child_in q es) ≡ None → (o : Ordering) → (child_in q es ≡ None → is_that_name q (lookup (at i) es) ≡ false) → is_that_name q (cond (is_eq o) (Some n) (lookup (at i) es)) ≡ false
    go true b h o rest = absurd (cc)
    go false b h Less rest = rest h
    go false b h Equal rest = b
    go false b h Greater rest = rest h

has_none : (o : Option ℕ) → ((i : ℕ) → is_that_id i o ≡ false) → o ≡ None
has_none None h = refl
has_none (Some j) h = absurd (let yes : (j == j) ≡ true = id_self j in let no_ : (j == j) ≡ false = h j in cc)

-- what the index finds is what the list of names finds
pub child_is : (f : List ℕ → Option ℕ) (es : Names) → IsStrictlySortedBy nat_cmp (keys_of es) → Agree f (λ i. lookup (at i) es) → (q : List ℕ) → f q ≡ child_in q es
child_is f es s agree q = go (child_in q es) refl
  where
    go : (o : Option ℕ) → child_in q es ≡ o → f q ≡ o
    go None h = has_none (f q) (λ i. agree q i ∙ missing_in es q i h)
    go (Some j) h = has_some (f q) j (agree q j ∙ found_in es q j s h)

pub there_is : {A : Type 0} (o : Option (Option A)) (x : A) → inner o ≡ Some x → IsSome o
there_is None x h = cc
there_is (Some o) x h = refl

-- what is found by name has its place by id
pub id_there : (f : List ℕ → Option ℕ) (es : List (ℕ × Option (List ℕ))) (name : List ℕ) (id : ℕ) → IsStrictlySortedBy nat_cmp (keys_of es) → Agree f (λ i. lookup (at i) (filled_entries es)) → f name ≡ Some id → IsSome (lookup (at id) es)
id_there f es name id s agree h = go (lookup (at id) es) refl
  where
    named : is_that_name name (inner (lookup (at id) es)) ≡ true
    named = ap (is_that_name name) (sym (filled_lookup es id s)) ∙ (sym (agree name id) ∙ (ap (is_that_id id) h ∙ id_self id))

    go : (o : Option (Option (List ℕ))) → lookup (at id) es ≡ o → IsSome o
    go None e = let no_name : is_that_name name None ≡ true = ap (λ o. is_that_name name (inner o)) (sym e) ∙ named in absurd (cc)
    go (Some o) e = refl

-- the id's old name forgotten, and then the new one
pub agree_put : (f f1 f' : List ℕ → Option ℕ) (g g' : ℕ → Option (List ℕ)) (name : List ℕ) (id : ℕ) → Agree f g → f name ≡ None
    → ((q : List ℕ) → f1 q ≡ cond (is_that_name q (g id)) None (f q))
    → ((q : List ℕ) → f' q ≡ cond (bytes_eq name q) (Some id) (f1 q)) → ((i : ℕ) → g' i ≡ cond (id == i) (Some name) (g i)) → Agree f' g'
agree_put f f1 f' g g' name id agree free f1s fs gs q i = ap (is_that_id i) (fs q ∙ ap (λ o. cond (bytes_eq name q) (Some id) o) (f1s q)) ∙ (go (bytes_eq name q) refl (id == i) refl ∙ ap (is_that_name q) (sym (gs i)))
  where
    -- what isn't the id's name stands under another id
    other : (b : Bool) → is_that_name q (g id) ≡ b → (id == i) ≡ true → is_that_id i (cond b None (f q)) ≡ false
    other true b c = refl
    other false b c = agree q i ∙ (ap (λ j. is_that_name q (g j)) (sym (eqb-true id i c)) ∙ b)

    -- where the name is the id's, no other id has it
    apart : (b : Bool) → is_that_name q (g id) ≡ b → (id == i) ≡ false → is_that_id i (cond b None (f q)) ≡ is_that_name q (g i)
    apart true b c = sym (sym (agree q i) ∙ (ap (is_that_id i) (has_some (f q) id (agree q id ∙ b)) ∙ (id_turn i id ∙ c)))
    apart false b c = agree q i

    go : (b : Bool) → bytes_eq name q ≡ b → (c : Bool) → (id == i) ≡ c → is_that_id i (cond b (Some id) (cond (is_that_name q (g id)) None (f q))) ≡ is_that_name q (cond c (Some name) (g i))
    go true b true c = id_turn i id ∙ (c ∙ sym (name_turn q name ∙ b))
    go true b false c = id_turn i id ∙ (c ∙ sym (ap (λ n. is_that_name n (g i)) (sym (same_name name q b)) ∙ sym (agree name i) ∙ ap (is_that_id i) free))
    go false b true c = other (is_that_name q (g id)) refl c ∙ sym (name_turn q name ∙ b)
    go false b false c = apart (is_that_name q (g id)) refl c

-- what is found after a name was taken out
taken_finds : (f f' : List ℕ → Option ℕ) (old new : Names) (name : List ℕ) (id : ℕ) (q : List ℕ) → IsStrictlySortedBy nat_cmp (keys_of old) → IsStrictlySortedBy nat_cmp (keys_of new)
    → Agree f (λ i. lookup (at i) old) → child_in name old ≡ Some id → ((q : List ℕ) → f' q ≡ cond (bytes_eq name q) None (f q)) → ((i : ℕ) → lookup (at i) new ≡ cond (id == i) None (lookup (at i) old))
    → child_in q new ≡ cond (bytes_eq name q) None (child_in q old)
taken_finds f f' old new name id q s t agree there fs gs =
    let there' : f name ≡ Some id = child_is f old s agree name ∙ there in
    sym (child_is f' new t (agree_taken f f' (λ i. lookup (at i) old) (λ i. lookup (at i) new) name id agree there' fs gs) q) ∙ (fs q ∙ ap (λ o. cond (bytes_eq name q) None o) (child_is f old s agree q))

pub taken_gone : (f f' : List ℕ → Option ℕ) (old new : Names) (name : List ℕ) (id : ℕ) → IsStrictlySortedBy nat_cmp (keys_of old) → IsStrictlySortedBy nat_cmp (keys_of new)
    → Agree f (λ i. lookup (at i) old) → child_in name old ≡ Some id → ((q : List ℕ) → f' q ≡ cond (bytes_eq name q) None (f q)) → ((i : ℕ) → lookup (at i) new ≡ cond (id == i) None (lookup (at i) old))
    → child_in name new ≡ None
taken_gone f f' old new name id s t agree there fs gs = taken_finds f f' old new name id name s t agree there fs gs ∙ ap (λ b. cond b None (child_in name old)) (name_self name)

pub taken_absent : (f f' : List ℕ → Option ℕ) (old new : Names) (name : List ℕ) (id : ℕ) (q : List ℕ) → IsStrictlySortedBy nat_cmp (keys_of old) → IsStrictlySortedBy nat_cmp (keys_of new)
    → Agree f (λ i. lookup (at i) old) → child_in name old ≡ Some id → ((q : List ℕ) → f' q ≡ cond (bytes_eq name q) None (f q)) → ((i : ℕ) → lookup (at i) new ≡ cond (id == i) None (lookup (at i) old))
    → child_in q old ≡ None → child_in q new ≡ None
taken_absent f f' old new name id q s t agree there fs gs none = taken_finds f f' old new name id q s t agree there fs gs ∙ stays (bytes_eq name q) (child_in q old) none
  where
    stays : (b : Bool) (o : Option ℕ) → o ≡ None → cond b None o ≡ None
    stays true o none = refl
    stays false o none = none
