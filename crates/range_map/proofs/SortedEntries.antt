-- Entries in order: one is put in, or changed where it stands.
use Rattle.std.proofs.Common.{◌≡◌, ℕ, zero, suc, ◌<◌, ◌≤◌, Bool, true, false, Option, Some, None, List, [], ◌∷◌, ◌++◌, map, length, take, drop, get_or, refl, sym, ap, ◌∙◌, arith}
use Rattle.std.specs.Prelude.{◌==◌, ◌&&◌, not, nat_lt, nat_le, slice_get, slice_set, find, position, insert, if◌then◌else◌, IsSome}
use Rattle.std.specs.List.{list_all, position_or_len}
use Rattle.std.proofs.lemmas.Bool.Decides.{nat_tests}
use Rattle.std.proofs.lemmas.List.Folds.{find_at}
use Rattle.std.proofs.lemmas.Option.{slice_get_within, get_or_from_slice_get, slice_get_past}
use Rattle.range_map.specs.declared.entry.Entry.{Entry}
use Rattle.range_map.specs.Entries.{is_before, is_in_order, is_new, with_entry, is_at}
use Rattle.range_map.specs.Laws.{with_newest}

-- Tests.

pub and_true : (a b : Bool) → a && b ≡ true → (a ≡ true) × (b ≡ true)
and_true true b h = (refl, h)
and_true false b h = absurd (cc)

pub both_true : (a b : Bool) → a ≡ true → b ≡ true → a && b ≡ true
both_true a b p q = rw (p, q) refl

-- Two entries.

before-trans : (a b d : Entry) → is_before a b ≡ true → is_before b d ≡ true → is_before a d ≡ true
before-trans a b d p q = grind (arith, nat_tests)

before_other : (a b : Entry) → not (a.number == b.number) ≡ true → is_before a b ≡ false → is_before b a ≡ true
before_other a b n p = grind (arith, nat_tests)

-- an offset and a number name one entry at most
pub not_at_later : (offset number : ℕ) (a b : Entry) → is_before a b ≡ true → is_at offset number a ≡ true → is_at offset number b ≡ false
not_at_later offset number a b p q = grind (arith, nat_tests)

pub not_at_sooner : (offset number : ℕ) (a b : Entry) → is_before a b ≡ true → is_at offset number b ≡ true → is_at offset number a ≡ false
not_at_sooner offset number a b p q = grind (arith, nat_tests)

-- One more entry.

pub before_all : (a b : Entry) (es : List Entry) → is_before a b ≡ true → list_all (is_before b) es ≡ true → list_all (is_before a) es ≡ true
before_all a b [] p h = refl
before_all a b (x ∷ xs) p h =
    let q = and_true (is_before b x) (list_all (is_before b) xs) h in
    both_true _ _ (before-trans a b x p q.0) (before_all a b xs p q.1)

all-put_in : (t : Entry → Bool) (e : Entry) (es : List Entry) → t e ≡ true → list_all t es ≡ true → list_all t (with_entry e es) ≡ true
all-put_in t e [] p h = both_true _ _ p refl
all-put_in t e (x ∷ xs) p h =
    let q = and_true (t x) (list_all t xs) h in
    let go : (b : Bool) → is_before x e ≡ b → list_all t (with_entry e (x ∷ xs)) ≡ true = elim [
      | true ↦ λ is. rw is (both_true _ _ q.0 (all-put_in t e xs p q.1))
      | false ↦ λ is. rw is (both_true _ _ p h)
    ] in
    go (is_before x e) refl

pub put_in-in_order : (e : Entry) (es : List Entry) → is_in_order es ≡ true → is_new e.number es ≡ true → is_in_order (with_entry e es) ≡ true
put_in-in_order e [] h new = refl
put_in-in_order e (x ∷ xs) h new =
    let q = and_true (list_all (is_before x) xs) (is_in_order xs) h in
    let n = and_true (not (x.number == e.number)) (is_new e.number xs) new in
    let go : (b : Bool) → is_before x e ≡ b → is_in_order (with_entry e (x ∷ xs)) ≡ true = elim [
      | true ↦ λ is. rw is (both_true _ _ (all-put_in (is_before x) e xs is q.0) (put_in-in_order e xs q.1 n.1))
      | false ↦ λ is.
          let first : is_before e x ≡ true = before_other x e n.0 is in
          rw is (both_true _ _ (both_true _ _ first (before_all e x xs first q.0)) h)
    ] in
    go (is_before x e) refl

newest_first : (e x : Entry) → nat_lt x.number e.number ≡ true → is_before x e ≡ nat_le x.offset e.offset
newest_first e x lt = grind (arith, nat_tests)

pub put_in-newest : (e : Entry) (es : List Entry) → list_all (λ x. nat_lt x.number e.number) es ≡ true → with_entry e es ≡ with_newest e es
put_in-newest e [] h = refl
put_in-newest e (x ∷ xs) h =
    let q = and_true (nat_lt x.number e.number) (list_all (λ y. nat_lt y.number e.number) xs) h in
    rw (newest_first e x q.0, put_in-newest e xs q.1) refl

-- after an insert that was done, or wasn't
pub inserted-in_order : (done : Bool) (e : Entry) (es new : List Entry) (k : ℕ) → is_in_order es ≡ true → is_new e.number es ≡ true
    → with_entry e es ≡ take k es ++ e ∷ drop k es → new ≡ (if done then insert es k e else es) → is_in_order new ≡ true
inserted-in_order true e es new k h fresh put is = ap is_in_order (is ∙ sym put) ∙ put_in-in_order e es h fresh
inserted-in_order false e es new k h fresh put is = ap is_in_order is ∙ h

-- Entries are changed, and keep their offsets and numbers.

abbrev pub Keeps : (Entry → Entry) → Type 0
Keeps f = (e : Entry) → ((f e).offset ≡ e.offset) × ((f e).number ≡ e.number)

before-kept : (f : Entry → Entry) → Keeps f → (a b : Entry) → is_before (f a) (f b) ≡ is_before a b
before-kept f k a b = rw ((k a).0, (k a).1, (k b).0, (k b).1) refl

all_before-map : (f : Entry → Entry) → Keeps f → (x : Entry) (es : List Entry) → list_all (is_before (f x)) (map f es) ≡ list_all (is_before x) es
all_before-map f k x [] = refl
all_before-map f k x (y ∷ ys) = rw (before-kept f k x y, all_before-map f k x ys) refl

pub in_order-map : (f : Entry → Entry) → Keeps f → (es : List Entry) → is_in_order (map f es) ≡ is_in_order es
in_order-map f k [] = refl
in_order-map f k (x ∷ xs) = rw (all_before-map f k x xs, in_order-map f k xs) refl

-- The entry of a name is changed.

abbrev pub changed : ℕ → ℕ → (Entry → Entry) → Entry → Entry
changed offset number f e = if is_at offset number e then f e else e

pub changed-keeps : (offset number : ℕ) (f : Entry → Entry) → Keeps f → Keeps (changed offset number f)
changed-keeps offset number f k e =
    let go : (b : Bool) → is_at offset number e ≡ b → ((changed offset number f e).offset ≡ e.offset) × ((changed offset number f e).number ≡ e.number) = elim [
      | true ↦ λ is. rw is (k e)
      | false ↦ λ is. rw is (refl, refl)
    ] in
    go (is_at offset number e) refl

-- behind it nothing has its name
pub none_changed : (offset number : ℕ) (f : Entry → Entry) (x : Entry) (es : List Entry) → list_all (is_before x) es ≡ true → is_at offset number x ≡ true
    → map (changed offset number f) es ≡ es
none_changed offset number f x [] h at = refl
none_changed offset number f x (y ∷ ys) h at =
    let q = and_true (is_before x y) (list_all (is_before x) ys) h in
    let no = not_at_later offset number x y q.0 at in
    let head : changed offset number f y ≡ y = rw no refl in
    ap (λ (z : Entry). z ∷ map (changed offset number f) ys) head ∙ ap (λ (l : List Entry). y ∷ l) (none_changed offset number f x ys q.1 at)

all_at : (t : Entry → Bool) (es : List Entry) (k : ℕ) (d : Entry) → list_all t es ≡ true → k < length es → t (get_or es k d) ≡ true
all_at t [] k d h lt = absurd (omega (arith, lt))
all_at t (x ∷ xs) zero d h lt = (and_true (t x) (list_all t xs) h).0
all_at t (x ∷ xs) (suc k) d h lt = all_at t xs k d (and_true (t x) (list_all t xs) h).1 (omega (arith, lt))

set-changed : (offset number : ℕ) (f : Entry → Entry) (es : List Entry) (k : ℕ) (e : Entry) → is_in_order es ≡ true → e ≡ get_or es k e → k < length es → is_at offset number e ≡ true
    → slice_set es k (f e) ≡ map (changed offset number f) es
set-changed offset number f [] k e h is lt at = absurd (omega (arith, lt))
set-changed offset number f (x ∷ xs) zero e h is lt at =
    let q = and_true (list_all (is_before x) xs) (is_in_order xs) h in
    let same : is_at offset number x ≡ true = ap (is_at offset number) (sym is) ∙ at in
    let head : changed offset number f x ≡ f e = rw same (ap f (sym is)) in
    ap (λ (z : Entry). z ∷ xs) (sym head) ∙ ap (λ (l : List Entry). changed offset number f x ∷ l) (sym (none_changed offset number f x xs q.0 same))
set-changed offset number f (x ∷ xs) (suc k) e h is lt at =
    let q = and_true (list_all (is_before x) xs) (is_in_order xs) h in
    let sooner : is_before x e ≡ true = ap (is_before x) is ∙ all_at (is_before x) xs k e q.0 (omega (arith, lt)) in
    let no = not_at_sooner offset number x e sooner at in
    let head : changed offset number f x ≡ x = rw no refl in
    ap (λ (z : Entry). z ∷ slice_set xs k (f e)) (sym head)
    ∙ ap (λ (l : List Entry). changed offset number f x ∷ l) (set-changed offset number f xs k e q.1 is (omega (arith, lt)) at)

-- What is found.

find_passes : (t : Entry → Bool) (es : List Entry) (x : Entry) → find t es ≡ Some x → t x ≡ true
find_passes t [] x h = absurd (cc)
find_passes t (y ∷ ys) x h =
    let go : (b : Bool) → t y ≡ b → t x ≡ true = elim [
      | true ↦ λ is.
          let same : Some y ≡ Some x = rw is at h in
          let e : y ≡ x = cc in
          ap t (sym e) ∙ is
      | false ↦ λ is. find_passes t ys x (rw is at h)
    ] in
    go (t y) refl

pub find-at : (t : Entry → Bool) (es : List Entry) (k : ℕ) (e : Entry) → slice_get es k ≡ find t es → IsSome (find t es) → e ≡ get_or es k e
    → (k < length es) × (t e ≡ true) × (find t es ≡ Some e)
find-at t es k e h some at =
    let go : (o : Option Entry) → find t es ≡ o → (k < length es) × (t e ≡ true) × (find t es ≡ Some e) = elim [
      | None ↦ λ is. let no : false ≡ true = rw is at some in absurd (cc)
      | Some x ↦ λ is.
          let g : slice_get es k ≡ Some x = h ∙ is in
          let same : e ≡ x = at ∙ get_or_from_slice_get es k x e g in
          (slice_get_within es k x g, ap t same ∙ find_passes t es x is, is ∙ ap Some (sym same))
    ] in
    go (find t es) refl

-- the entry that is found is changed
pub set-found : (offset number : ℕ) (f : Entry → Entry) (es : List Entry) (k : ℕ) (e : Entry) → is_in_order es ≡ true → slice_get es k ≡ find (is_at offset number) es
    → IsSome (find (is_at offset number) es) → e ≡ get_or es k e → slice_set es k (f e) ≡ map (changed offset number f) es
set-found offset number f es k e h here some at =
    let found = find-at (is_at offset number) es k e here some at in
    set-changed offset number f es k e h at found.0 found.1

-- and all stays in order
pub set-in_order : (offset number : ℕ) (f : Entry → Entry) (es : List Entry) (k : ℕ) (e : Entry) → is_in_order es ≡ true → slice_get es k ≡ find (is_at offset number) es
    → IsSome (find (is_at offset number) es) → e ≡ get_or es k e → ((x : Entry) → ((f x).offset ≡ x.offset) × ((f x).number ≡ x.number)) → is_in_order (slice_set es k (f e)) ≡ true
set-in_order offset number f es k e h here some at keeps =
    ap is_in_order (set-found offset number f es k e h here some at) ∙ (in_order-map (changed offset number f) (changed-keeps offset number f keeps) es ∙ h)

pub position-found : (t : Entry → Bool) (es : List Entry) (k : ℕ) → position t es ≡ Some k → slice_get es k ≡ find t es
position-found t es k h =
    let go : (b : Bool) → nat_lt (position_or_len t es) (length es) ≡ b → slice_get es k ≡ find t es = elim [
      | true ↦ λ is.
          let same : Some (position_or_len t es) ≡ Some k = rw is at h in
          let e : position_or_len t es ≡ k = cc in
          ap (slice_get es) (sym e) ∙ sym (find_at t es)
      | false ↦ λ is. let no : None ≡ Some k = rw is at h in absurd (cc)
    ] in
    go (nat_lt (position_or_len t es) (length es)) refl

pub position-none : (t : Entry → Bool) (es : List Entry) → position t es ≡ None → find t es ≡ None
position-none t es h =
    let go : (b : Bool) → nat_lt (position_or_len t es) (length es) ≡ b → find t es ≡ None = elim [
      | true ↦ λ is. let no : Some (position_or_len t es) ≡ None = rw is at h in absurd (cc)
      | false ↦ λ is. let past : length es ≤ position_or_len t es = grind (arith, nat_tests) in find_at t es ∙ slice_get_past es (position_or_len t es) past
    ] in
    go (nat_lt (position_or_len t es) (length es)) refl
