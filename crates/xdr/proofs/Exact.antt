-- Readings that are made of exact ones are exact.
use Rattle.std.proofs.Common.{◌≡◌, ℕ, ◌+◌, Bool, true, false, cond, ◌==◌, List, [], ◌∷◌, ◌++◌, length, refl, sym, ap, ◌∙◌, subst, Option, Some, None, Ok}
use Rattle.std.proofs.lemmas.Bool.{eqb-true}
use Rattle.xdr.specs.Items.{SpellsU32}
use Rattle.xdr.specs.Reading.{Cursor, Reading, Takes, u32_at, u64_at, bool_at, fixed_at, opaque_at}
use Rattle.xdr.proofs.Numbers.{u32_forth, u32_back, u64_forth, u64_back, bool_forth, bool_back}
use Rattle.xdr.proofs.Opaques.{fixed_forth, fixed_back, opaque_forth, opaque_back}
use Rattle.xdr.specs.Rows.{Item, Word, Long, Fixed, Opaque, SpellsItem, Spells, text, word_row, long_row, flag, option_row}
use Rattle.xdr.specs.Forms.{◌&◌, map_at, constant_at, presence_at, option_at, arm_at, union_at}
use Rattle.xdr.specs.Exact.{IsExact, IsReadAgain}
use Rattle.xdr.proofs.Texts.{spells_text}
use Rattle.xdr.proofs.Taken.{bind_ok, bind_is, got, got_is, moved, takes_none, none_taken, takes_one, one_taken, takes_then, takes_parts}

-- what was taken under a part of a fact
retaken : {A B : Type 0} (S : List ℕ → A → Type 0) (T : List ℕ → B → Type 0) (c d : Cursor) (x : A) (y : B) → ((bytes : List ℕ) → S bytes x → T bytes y) → Takes S c x d → Takes T c y d
retaken S T c d x y f t = record { front = t.front; spelled = f t.front t.spelled; left = t.left; place = t.place }

pub exact_u32 : IsExact u32_at word_row
exact_u32 c d n =
    (λ e. takes_one (Word n) c d (retaken SpellsU32 SpellsItem c d n (Word n) (λ bytes s. s) (u32_forth c d n e)), λ t. u32_back c d n (retaken SpellsItem SpellsU32 c d (Word n) n (λ bytes s. s) (one_taken (Word n) c d t)))

pub exact_u64 : IsExact u64_at long_row
exact_u64 c d n =
    (λ e. let t = u64_forth c d n e in takes_one (Long n) c d (record { front = t.front; spelled = t.spelled; left = t.left; place = t.place }), λ t. let s = one_taken (Long n) c d t in u64_back c d n (record { front = s.front; spelled = s.spelled; left = s.left; place = s.place }))

abbrev pub flag_row : Bool → List Item
flag_row b = Word (flag b) ∷ []

pub exact_bool : IsExact bool_at flag_row
exact_bool c d b =
    (λ e. let t = bool_forth c d b e in takes_one (Word (flag b)) c d (record { front = t.front; spelled = t.spelled; left = t.left; place = t.place }), λ t. let s = one_taken (Word (flag b)) c d t in bool_back c d b (record { front = s.front; spelled = s.spelled; left = s.left; place = s.place }))

pub exact_fixed : (len : ℕ) → IsExact (fixed_at len) (λ v. Fixed len v ∷ [])
exact_fixed len c d v =
    (λ e. let t = fixed_forth len c d v e in takes_one (Fixed len v) c d (record { front = t.1.front; spelled = (t.0, t.1.spelled); left = t.1.left; place = t.1.place }), λ t. let s = one_taken (Fixed len v) c d t in fixed_back len c d v (s.spelled.0, record { front = s.front; spelled = s.spelled.1; left = s.left; place = s.place }))

pub exact_opaque : (most : ℕ) → IsExact (opaque_at most) (λ v. Opaque most v ∷ [])
exact_opaque most c d v =
    (λ e. let t = opaque_forth most c d v e in takes_one (Opaque most v) c d (record { front = t.1.front; spelled = (t.0, t.1.spelled); left = t.1.left; place = t.1.place }), λ t. let s = one_taken (Opaque most v) c d t in opaque_back most c d v (s.spelled.0, record { front = s.front; spelled = s.spelled.1; left = s.left; place = s.place }))

-- one value behind another
both_forth : {A B : Type 0} (r : Cursor → Reading A) (s : Cursor → Reading B) (p : A → List Item) (q : B → List Item) → IsExact r p → IsExact s q → (c d : Cursor) (t : A × B) → (r & s) c ≡ Ok (t, d) → Takes Spells c (p t.0 ++ q t.1) d
both_forth {A = A} {B = B} r s p q f g c d t e =
    let x = bind_ok (r c) _ _ e in
    let y = bind_ok (s x.0.1) _ _ x.2 in
    let made_of : A × B = (x.0.0, y.0.0) in
    let same = got_is made_of t y.0.1 d y.2 in
    let taken = takes_then c x.0.1 y.0.1 (p x.0.0) (q y.0.0) ((f c x.0.1 x.0.0).0 x.1) ((g x.0.1 y.0.1 y.0.0).0 y.1) in
    moved c y.0.1 d (p x.0.0 ++ q y.0.0) (p t.0 ++ q t.1) (ap (λ (k : A × B). p k.0 ++ q k.1) same.0) same.1 taken

both_back : {A B : Type 0} (r : Cursor → Reading A) (s : Cursor → Reading B) (p : A → List Item) (q : B → List Item) → IsExact r p → IsExact s q → (c d : Cursor) (t : A × B) → Takes Spells c (p t.0 ++ q t.1) d → (r & s) c ≡ Ok (t, d)
both_back r s p q f g c d t taken =
    let k = takes_parts c d (p t.0) (q t.1) taken in
    bind_is (r c) _ (t.0, k.between) _ ((f c k.between t.0).1 k.first) (bind_is (s k.between) _ (t.1, d) _ ((g k.between d t.1).1 k.second) refl)

pub both : {A B : Type 0} (r : Cursor → Reading A) (s : Cursor → Reading B) (p : A → List Item) (q : B → List Item) → IsExact r p → IsExact s q → IsExact (r & s) (λ t. p t.0 ++ q t.1)
both r s p q f g c d t = (both_forth r s p q f g c d t, both_back r s p q f g c d t)

-- what is made of a value, and can be taken apart again
pub made_forth : {A B : Type 0} (make : A → B) (r : Cursor → Reading A) (p : A → List Item) → IsExact r p → (c d : Cursor) (y : B) → map_at make r c ≡ Ok (y, d) → (x : A) × (make x ≡ y) × Takes Spells c (p x) d
made_forth make r p f c d y e =
    let x = bind_ok (r c) _ _ e in
    let same = got_is (make x.0.0) y x.0.1 d x.2 in
    (x.0.0, same.0, moved c x.0.1 d (p x.0.0) (p x.0.0) refl same.1 ((f c x.0.1 x.0.0).0 x.1))

pub made_back : {A B : Type 0} (make : A → B) (r : Cursor → Reading A) (p : A → List Item) → IsExact r p → (c d : Cursor) (x : A) → Takes Spells c (p x) d → map_at make r c ≡ Ok (make x, d)
made_back make r p f c d x t = bind_is (r c) _ (x, d) _ ((f c d x).1 t) refl

pub remade : {A B : Type 0} (make : A → B) (parts : B → A) (r : Cursor → Reading A) (p : A → List Item) (q : B → List Item) → IsExact r p → ((y : B) → make (parts y) ≡ y) → ((x : A) → q (make x) ≡ p x) → IsExact (map_at make r) q
remade {B = B} make parts r p q f whole same c d y = (
  λ e. let x = made_forth make r p f c d y e in moved c d d (p x.0) (q y) (sym (same x.0) ∙ ap q x.1) refl x.2,
  λ t. subst (λ (k : B). map_at make r c ≡ Ok (k, d)) (whole y) (made_back make r p f c d (parts y) (moved c d d (q y) (p (parts y)) (ap q (sym (whole y)) ∙ same (parts y)) refl t)),
)

-- a value that may be left out
there_forth : {A : Type 0} (r : Cursor → Reading A) (p : A → List Item) → IsExact r p → (b : Bool) (c d : Cursor) (y : Option A) → presence_at r b c ≡ Ok (y, d) → (tail : List Item) × (option_row p y ≡ Word (flag b) ∷ tail) × Takes Spells c tail d
there_forth r p f false c d y e = let same = got_is None y c d e in ([], ap (option_row p) (sym same.0), takes_none c d same.1)
there_forth r p f true c d y e =
    let x = bind_ok (r c) _ _ e in
    let same = got_is (Some x.0.0) y x.0.1 d x.2 in
    (p x.0.0, ap (option_row p) (sym same.0), moved c x.0.1 d (p x.0.0) (p x.0.0) refl same.1 ((f c x.0.1 x.0.0).0 x.1))

option_forth : {A : Type 0} (r : Cursor → Reading A) (p : A → List Item) → IsExact r p → (c d : Cursor) (y : Option A) → option_at r c ≡ Ok (y, d) → Takes Spells c (option_row p y) d
option_forth r p f c d y e =
    let b = bind_ok (bool_at c) _ _ e in
    let t = there_forth r p f b.0.0 b.0.1 d y b.2 in
    moved c d d (flag_row b.0.0 ++ t.0) (option_row p y) (sym t.1) refl (takes_then c b.0.1 d (flag_row b.0.0) t.0 ((exact_bool c b.0.1 b.0.0).0 b.1) t.2)

option_back : {A : Type 0} (r : Cursor → Reading A) (p : A → List Item) → IsExact r p → (c d : Cursor) (y : Option A) → Takes Spells c (option_row p y) d → option_at r c ≡ Ok (y, d)
option_back r p f c d None t =
    let k = takes_parts c d (flag_row false) [] t in
    bind_is (bool_at c) _ (false, k.between) _ ((exact_bool c k.between false).1 k.first) (ap (got None) (none_taken k.between d k.second))
option_back r p f c d (Some x) t =
    let k = takes_parts c d (flag_row true) (p x) t in
    bind_is (bool_at c) _ (true, k.between) _ ((exact_bool c k.between true).1 k.first) (bind_is (r k.between) _ (x, d) _ ((f k.between d x).1 k.second) refl)

pub option : {A : Type 0} (r : Cursor → Reading A) (p : A → List Item) → IsExact r p → IsExact (option_at r) (option_row p)
option r p f c d y = (option_forth r p f c d y, option_back r p f c d y)

-- a word, and what it says that follows

-- what this arm reads has its word in front
abbrev pub IsArm : {A : Type 0} → (A → List Item) → ℕ → (Cursor → Reading A) → Type 0
IsArm {A = A} row k r = (c d : Cursor) (y : A) → r c ≡ Ok (y, d) → (tail : List Item) × (row y ≡ Word k ∷ tail) × Takes Spells c tail d

abbrev pub AreArms : {A : Type 0} → (A → List Item) → List (ℕ × (Cursor → Reading A)) → Type 0
AreArms row [] = Unit {0}
AreArms row (arm ∷ arms) = IsArm row arm.0 arm.1 × AreArms row arms

-- the arm that reads this value
pub record HasArm {A : Type 0} (row : A → List Item) (arms : List (ℕ × (Cursor → Reading A))) (y : A) : Type 0 where
  pub word : ℕ
  pub tail : List Item
  pub head : row y ≡ Word word ∷ tail
  pub reads : (place : ℕ) (c d : Cursor) → Takes Spells c tail d → arm_at arms word place c ≡ Ok (y, d)

pub given_arm : {A : Type 0} (row : A → List Item) (k : ℕ) (x : A) → row x ≡ Word k ∷ [] → IsArm row k (constant_at x)
given_arm row k x h c d y e = let same = got_is x y c d e in ([], ap row (sym same.0) ∙ h, takes_none c d same.1)

pub made_arm : {A B : Type 0} (row : B → List Item) (k : ℕ) (make : A → B) (r : Cursor → Reading A) (p : A → List Item) → IsExact r p → ((x : A) → row (make x) ≡ Word k ∷ p x) → IsArm row k (map_at make r)
made_arm row k make r p f h c d y e = let x = made_forth make r p f c d y e in (p x.0, ap row (sym x.1) ∙ h x.0, x.2)

pub has_given : {A : Type 0} (row : A → List Item) (arms : List (ℕ × (Cursor → Reading A))) (k : ℕ) (x : A) → row x ≡ Word k ∷ [] → ((place : ℕ) (c : Cursor) → arm_at arms k place c ≡ constant_at x c) → HasArm row arms x
has_given row arms k x h picks = record { word = k; tail = []; head = h; reads = λ place c d t. picks place c ∙ ap (got x) (none_taken c d t) }

pub has_made : {A B : Type 0} (row : B → List Item) (arms : List (ℕ × (Cursor → Reading B))) (k : ℕ) (make : A → B) (r : Cursor → Reading A) (p : A → List Item) → IsExact r p → (x : A) → row (make x) ≡ Word k ∷ p x → ((place : ℕ) (c : Cursor) → arm_at arms k place c ≡ map_at make r c) → HasArm row arms (make x)
has_made row arms k make r p f x h picks = record { word = k; tail = p x; head = h; reads = λ place c d t. picks place c ∙ made_back make r p f c d x t }

arm_forth : {A : Type 0} (row : A → List Item) (arms : List (ℕ × (Cursor → Reading A))) → AreArms row arms → (n place : ℕ) (c d : Cursor) (y : A) → arm_at arms n place c ≡ Ok (y, d) → (tail : List Item) × (row y ≡ Word n ∷ tail) × Takes Spells c tail d
arm_forth row [] are n place c d y e = cc
arm_forth {A = A} row (arm ∷ arms) are n place c d y e = go (n == arm.0) refl e (λ h. arm_forth row arms are.1 n place c d y h) where
  go : (b : Bool) → (n == arm.0) ≡ b → cond b (arm.1 c) (arm_at arms n place c) ≡ Ok (y, d) → (arm_at arms n place c ≡ Ok (y, d) → (tail : List Item) × (row y ≡ Word n ∷ tail) × Takes Spells c tail d) → (tail : List Item) × (row y ≡ Word n ∷ tail) × Takes Spells c tail d
  go true p h later = let t = are.0 c d y h in (t.0, t.1 ∙ ap (λ (k : ℕ). Word k ∷ t.0) (sym (eqb-true n arm.0 p)), t.2)
  go false p h later = later h

union_forth : {A : Type 0} (row : A → List Item) (arms : List (ℕ × (Cursor → Reading A))) → AreArms row arms → (c d : Cursor) (y : A) → union_at arms c ≡ Ok (y, d) → Takes Spells c (row y) d
union_forth row arms are c d y e =
    let w = bind_ok (u32_at c) _ _ e in
    let t = arm_forth row arms are w.0.0 c.place w.0.1 d y w.2 in
    moved c d d (word_row w.0.0 ++ t.0) (row y) (sym t.1) refl (takes_then c w.0.1 d (word_row w.0.0) t.0 ((exact_u32 c w.0.1 w.0.0).0 w.1) t.2)

union_back : {A : Type 0} (row : A → List Item) (arms : List (ℕ × (Cursor → Reading A))) (c d : Cursor) (y : A) → HasArm row arms y → Takes Spells c (row y) d → union_at arms c ≡ Ok (y, d)
union_back row arms c d y h t =
    let k = takes_parts c d (word_row h.word) h.tail (moved c d d (row y) (word_row h.word ++ h.tail) h.head refl t) in
    bind_is (u32_at c) _ (h.word, k.between) _ ((exact_u32 c k.between h.word).1 k.first) (h.reads c.place k.between d k.second)

pub union : {A : Type 0} (row : A → List Item) (arms : List (ℕ × (Cursor → Reading A))) → AreArms row arms → ((y : A) → HasArm row arms y) → IsExact (union_at arms) row
union row arms are has c d y = (union_forth row arms are c d y, λ t. union_back row arms c d y (has y) t)

-- what was written is read again
pub read_again : {A : Type 0} (r : Cursor → Reading A) (row : A → List Item) → IsExact r row → IsReadAgain r row
read_again r row f place x rest fits =
    (f (record { place = place; left = text (row x) ++ rest }) (record { place = place + length (text (row x)); left = rest }) x).1 (record { front = text (row x); spelled = spells_text (row x) fits; left = refl; place = refl })
