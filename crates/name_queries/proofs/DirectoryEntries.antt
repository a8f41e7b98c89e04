-- The entries of a directory that are left behind a cookie, one after another.
use Rattle.std.proofs.Common.{◌≡◌, ℕ, zero, suc, Bool, true, false, cond, List, [], ◌∷◌, map, Option, None, Some, refl, sym, ◌∙◌, ap, subst, arith, Less}
use Rattle.std.specs.Prelude.{nat_lt}
use Rattle.std.specs.List.{AllByRecursion, filter}
use Rattle.std.specs.List.Sorted.{IsStrictlySortedBy}
use Rattle.std.specs.Ordering.{nat_cmp}
use Rattle.std.specs.Map.{keys_of}
use Rattle.std.proofs.lemmas.Bool.Decides.{nat_tests}
use Rattle.nfs_wire.specs.Results.{EntryText}
use Rattle.name_tree.specs.Rooms.{first_above}
use Rattle.name_tree.specs.Directory.{Names}
use Rattle.name_tree.specs.Tree.{Node, NameEntry, Tree, entry_after, entry_in, entry_past, is_directory, named_entry, node}
use Rattle.name_tree.specs.Flat.{AreSoundNames, HasSoundNames, IsSoundTree}
use Rattle.name_queries.specs.Listings.{entries_in, entries_left, entries_past, has_greater_id, name_entry, names_past}

-- each id is above k
abbrev AllAbove : ℕ → Names → Type 0
AllAbove k es = AllByRecursion (λ (y : ℕ). nat_cmp k y ≡ Less) (keys_of es)

above_lt : (k j : ℕ) → nat_cmp k j ≡ Less → nat_lt k j ≡ true
above_lt k j h = grind (arith, nat_tests)

less_through : (c k j : ℕ) → nat_lt c k ≡ true → nat_cmp k j ≡ Less → nat_cmp c j ≡ Less
less_through c k j a b = grind (arith, nat_tests)

all_through : (c k : ℕ) (es : Names) → nat_lt c k ≡ true → AllAbove k es → AllAbove c es
all_through c k [] h a = a
all_through c k (e ∷ es) h a = (less_through c k e.0 h a.0, all_through c k es h a.1)

not_self : (k : ℕ) → nat_lt k k ≡ false
not_self k = grind (arith, nat_tests)

not_below : (c k j : ℕ) → nat_lt c k ≡ false → nat_lt c j ≡ true → nat_lt j k ≡ false
not_below c k j a b = grind (arith, nat_tests)

-- all of them are left behind a lower cookie
all_left : (c : ℕ) (es : Names) → AllAbove c es → names_past c es ≡ map name_entry es
all_left c [] a = refl
all_left c (e ∷ es) a = rw (above_lt c e.0 a.0) (ap (λ (rest : List EntryText). name_entry e ∷ rest) (all_left c es a.1))

first_is_above : (c : ℕ) (es : Names) (e : ℕ × List ℕ) → first_above c es ≡ Some e → nat_lt c e.0 ≡ true
first_is_above c [] e h = absurd (cc)
first_is_above c (x ∷ es) e h = go (nat_lt c x.0) refl h (first_is_above c es e)
  where
    go : (b : Bool) → nat_lt c x.0 ≡ b → cond b (Some x) (first_above c es) ≡ Some e → (first_above c es ≡ Some e → nat_lt c e.0 ≡ true)
        → nat_lt c e.0 ≡ true
    go true is k rest = let same : x ≡ e = cc in ap (λ (y : ℕ × List ℕ). nat_lt c y.0) (sym same) ∙ is
    go false is k rest = rest k

names_next : (c : ℕ) (es : Names) (e : ℕ × List ℕ) → IsStrictlySortedBy nat_cmp (keys_of es) → first_above c es ≡ Some e
    → names_past c es ≡ name_entry e ∷ names_past e.0 es
unfolding IsStrictlySortedBy
names_next c [] e s h = absurd (cc)
names_next c (x ∷ es) e s h = go (nat_lt c x.0) refl h (names_next c es e s.1)
  where
    taken : (b : Bool) → b ≡ false → map name_entry (cond b (x ∷ filter (has_greater_id e.0) es) (filter (has_greater_id e.0) es)) ≡ names_past e.0 es
    taken true k = absurd (cc)
    taken false k = refl

    go : (b : Bool) → nat_lt c x.0 ≡ b → cond b (Some x) (first_above c es) ≡ Some e
        → (first_above c es ≡ Some e → names_past c es ≡ name_entry e ∷ names_past e.0 es)
        → map name_entry (cond b (x ∷ filter (has_greater_id c) es) (filter (has_greater_id c) es)) ≡ name_entry e ∷ names_past e.0 (x ∷ es)
    go true is k more =
        let same : x ≡ e = cc in
        let here : nat_lt e.0 x.0 ≡ false = ap (λ (y : ℕ × List ℕ). nat_lt y.0 x.0) (sym same) ∙ not_self x.0 in
        let above : AllAbove e.0 es = subst (λ (y : ℕ × List ℕ). AllAbove y.0 es) same s.0 in
        let rest : names_past c es ≡ names_past e.0 es = all_left c es (all_through c x.0 es is s.0) ∙ sym (all_left e.0 es above) in
        ap (λ (y : ℕ × List ℕ). name_entry y ∷ names_past c es) same
        ∙ ap (λ (r : List EntryText). name_entry e ∷ r) (rest ∙ sym (taken (nat_lt e.0 x.0) here))
    go false is k more =
        let below : nat_lt e.0 x.0 ≡ false = not_below c x.0 e.0 is (first_is_above c es e k) in
        more k ∙ ap (λ (r : List EntryText). name_entry e ∷ r) (sym (taken (nat_lt e.0 x.0) below))

names_end : (c : ℕ) (es : Names) → first_above c es ≡ None → names_past c es ≡ []
names_end c [] h = refl
names_end c (x ∷ es) h = go (nat_lt c x.0) h (names_end c es)
  where
    go : (b : Bool) → cond b (Some x) (first_above c es) ≡ None → (first_above c es ≡ None → names_past c es ≡ [])
        → map name_entry (cond b (x ∷ filter (has_greater_id c) es) (filter (has_greater_id c) es)) ≡ []
    go true k rest = absurd (cc)
    go false k rest = rest k

-- an entry of the tree as it is listed
abbrev listed_text : NameEntry → EntryText
listed_text e = record { file = e.file; name = e.name; cookie = e.cookie }

past_two : (k : ℕ) (dir : ℕ) (n : Node) → nat_lt 1 k ≡ true → entries_past dir k n ≡ names_past k n.names
past_two zero dir n h = absurd (cc)
past_two (suc zero) dir n h = absurd (cc)
past_two (suc (suc k)) dir n h = refl

above_one : (c k : ℕ) → nat_lt (suc (suc c)) k ≡ true → nat_lt 1 k ≡ true
above_one c k h = grind (arith, nat_tests)

named_next : (c dir : ℕ) (n : Node) (e : NameEntry) → AreSoundNames n.names → named_entry (first_above (suc (suc c)) n.names) ≡ Some e
    → names_past (suc (suc c)) n.names ≡ listed_text e ∷ entries_past dir e.cookie n
named_next c dir n e s h = go (first_above (suc (suc c)) n.names) refl h
  where
    go : (o : Option (ℕ × List ℕ)) → first_above (suc (suc c)) n.names ≡ o → named_entry o ≡ Some e
        → names_past (suc (suc c)) n.names ≡ listed_text e ∷ entries_past dir e.cookie n
    go None is k = absurd (cc)
    go (Some x) is k =
        let same : record { file = x.0; name = x.1; cookie = x.0 } ≡ e = cc in
        let far : entries_past dir x.0 n ≡ names_past x.0 n.names = past_two x.0 dir n (above_one c x.0 (first_is_above (suc (suc c)) n.names x is)) in
        names_next (suc (suc c)) n.names x s.ordered is
        ∙ ap (λ (r : List EntryText). name_entry x ∷ r) (sym far)
        ∙ ap (λ (y : NameEntry). listed_text y ∷ entries_past dir y.cookie n) same

past_next : (dir cookie : ℕ) (n : Node) (e : NameEntry) → AreSoundNames n.names → entry_past dir cookie n ≡ Some e
    → entries_past dir cookie n ≡ listed_text e ∷ entries_past dir e.cookie n
past_next dir zero n e s h =
    let same : record { file = dir; name = 46 ∷ []; cookie = 1 } ≡ e = cc in ap (λ (y : NameEntry). listed_text y ∷ entries_past dir y.cookie n) same
past_next dir (suc zero) n e s h =
    let same : record { file = n.parent; name = 46 ∷ 46 ∷ []; cookie = 2 } ≡ e = cc in
    ap (λ (y : NameEntry). listed_text y ∷ entries_past dir y.cookie n) same
past_next dir (suc (suc c)) n e s h = named_next c dir n e s h

past_end : (dir cookie : ℕ) (n : Node) → entry_past dir cookie n ≡ None → entries_past dir cookie n ≡ []
past_end dir zero n h = absurd (cc)
past_end dir (suc zero) n h = absurd (cc)
past_end dir (suc (suc c)) n h = go (first_above (suc (suc c)) n.names) refl h
  where
    go : (o : Option (ℕ × List ℕ)) → first_above (suc (suc c)) n.names ≡ o → named_entry o ≡ None → names_past (suc (suc c)) n.names ≡ []
    go None is k = names_end (suc (suc c)) n.names is
    go (Some x) is k = absurd (cc)

in_next : (dir cookie : ℕ) (o : Option Node) (e : NameEntry) → HasSoundNames o → entry_in dir cookie o ≡ Some e
    → entries_in dir cookie o ≡ listed_text e ∷ entries_in dir e.cookie o
in_next dir cookie None e s h = absurd (cc)
in_next dir cookie (Some n) e s h = go (is_directory n.attr.kind) h
  where
    go : (b : Bool) → cond b (entry_past dir cookie n) None ≡ Some e
        → cond b (entries_past dir cookie n) [] ≡ listed_text e ∷ cond b (entries_past dir e.cookie n) []
    go true k = past_next dir cookie n e s k
    go false k = absurd (cc)

in_end : (dir cookie : ℕ) (o : Option Node) → entry_in dir cookie o ≡ None → entries_in dir cookie o ≡ []
in_end dir cookie None h = refl
in_end dir cookie (Some n) h = go (is_directory n.attr.kind) h
  where
    go : (b : Bool) → cond b (entry_past dir cookie n) None ≡ None → cond b (entries_past dir cookie n) [] ≡ []
    go true k = past_end dir cookie n k
    go false k = refl

pub entry_next : (t : Tree) (dir cookie : ℕ) (e : NameEntry) → IsSoundTree t → entry_after t dir cookie ≡ Some e
    → entries_left t dir cookie ≡ record { file = e.file; name = e.name; cookie = e.cookie } ∷ entries_left t dir e.cookie
entry_next t dir cookie e s h = in_next dir cookie (node t dir) e (s.names dir) h

pub entries_end : (t : Tree) (dir cookie : ℕ) → entry_after t dir cookie ≡ None → entries_left t dir cookie ≡ []
entries_end t dir cookie h = in_end dir cookie (node t dir) h
