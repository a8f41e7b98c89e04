-- Rows that are taken from a message one behind the other.
use Rattle.std.proofs.Common.{◌≡◌, ℕ, ◌+◌, List, [], ◌∷◌, ◌++◌, length, refl, sym, ap, ◌∙◌, subst, arith, length-append, append_assoc, append-nil, add-zero, Result, Ok, Err}
use Rattle.xdr.specs.declared.fault.XdrFault.{XdrFault}
use Rattle.xdr.specs.Reading.{Cursor, Reading, Takes}
use Rattle.xdr.proofs.Fronts.{same_cursor}
use Rattle.xdr.specs.Rows.{Item, SpellsItem, Spells}
use Rattle.xdr.specs.Forms.{◌>>=◌}

-- the value of a step that was done, and what was done behind it
pub bind_ok : {A B : Type 0} (r : Result A XdrFault) (f : A → Result B XdrFault) (y : B) → (r >>= f) ≡ Ok y → (x : A) × (r ≡ Ok x) × (f x ≡ Ok y)
bind_ok (Ok x) f y e = (x, refl, e)
bind_ok (Err fault) f y e = cc

-- and back
pub bind_is : {A B : Type 0} (r : Result A XdrFault) (f : A → Result B XdrFault) (x : A) (y : B) → r ≡ Ok x → f x ≡ Ok y → (r >>= f) ≡ Ok y
bind_is (Ok z) f x y e h = let same : z ≡ x = cc in ap f same ∙ h
bind_is (Err fault) f x y e h = cc

abbrev done : {A : Type 0} → A → Result A XdrFault
done x = Ok x

ok_is : {A : Type 0} (x y : A) → done x ≡ done y → x ≡ y
ok_is x y e = cc

abbrev pub got : {A : Type 0} → A → Cursor → Reading A
got x c = Ok (x, c)

-- what two readings that are equal gave
pub got_is : {A : Type 0} (x y : A) (c d : Cursor) → got x c ≡ got y d → (x ≡ y) × (c ≡ d)
got_is {A = A} x y c d e = let p = ok_is (x, c) (y, d) e in (ap (λ (k : A × Cursor). k.0) p, ap (λ (k : A × Cursor). k.1) p)

pub moved : (from to to' : Cursor) (row row' : List Item) → row ≡ row' → to ≡ to' → Takes Spells from row to → Takes Spells from row' to'
moved from to to' row row' e h t = subst (λ (k : Cursor). Takes Spells from row' k) h (subst (λ (k : List Item). Takes Spells from k to) e t)

pub takes_none : (c d : Cursor) → c ≡ d → Takes Spells c [] d
takes_none c d e = subst (λ (k : Cursor). Takes Spells c [] k) e (record { front = []; spelled = refl; left = refl; place = sym (add-zero c.place) })

pub none_taken : (c d : Cursor) → Takes Spells c [] d → c ≡ d
none_taken c d t =
    let p : c.place ≡ d.place = sym (t.place ∙ ap (λ (k : List ℕ). c.place + length k) t.spelled ∙ add-zero c.place) in
    same_cursor c d p (t.left ∙ ap (λ (k : List ℕ). k ++ d.left) t.spelled)

-- one item
pub takes_one : (item : Item) (c d : Cursor) → Takes SpellsItem c item d → Takes Spells c (item ∷ []) d
takes_one item c d t = record { front = t.front; spelled = (t.front, [], sym (append-nil t.front), t.spelled, refl); left = t.left; place = t.place }

pub one_taken : (item : Item) (c d : Cursor) → Takes Spells c (item ∷ []) d → Takes SpellsItem c item d
one_taken item c d t =
    let s = t.spelled in
    let e : t.front ≡ s.0 = s.2 ∙ ap (λ (k : List ℕ). s.0 ++ k) s.4 ∙ append-nil s.0 in
    record { front = t.front; spelled = subst (λ (k : List ℕ). SpellsItem k item) (sym e) s.3; left = t.left; place = t.place }

-- one spelling behind another
spells_append : (front rest : List ℕ) (xs ys : List Item) → Spells front xs → Spells rest ys → Spells (front ++ rest) (xs ++ ys)
spells_append front rest [] ys s t = subst (λ (k : List ℕ). Spells k ys) (ap (λ (k : List ℕ). k ++ rest) (sym s)) t
spells_append front rest (item ∷ xs) ys s t =
    (s.0, s.1 ++ rest, ap (λ (k : List ℕ). k ++ rest) s.2 ∙ append_assoc s.0 s.1 rest, s.3, spells_append s.1 rest xs ys s.4 t)

-- where the first of two rows ends
spells_parts : (bytes : List ℕ) (xs ys : List Item) → Spells bytes (xs ++ ys) → (front : List ℕ) × (rest : List ℕ) × (bytes ≡ front ++ rest) × Spells front xs × Spells rest ys
spells_parts bytes [] ys s = ([], bytes, refl, refl, s)
spells_parts bytes (item ∷ xs) ys s =
    let p = spells_parts s.1 xs ys s.4 in
    (s.0 ++ p.0, p.1, s.2 ∙ ap (λ (k : List ℕ). s.0 ++ k) p.2 ∙ sym (append_assoc s.0 p.0 p.1), (s.0, p.0, refl, s.3, p.3), p.4)

pub takes_then : (a b c : Cursor) (xs ys : List Item) → Takes Spells a xs b → Takes Spells b ys c → Takes Spells a (xs ++ ys) c
takes_then a b c xs ys p q =
    record {
      front = p.front ++ q.front;
      spelled = spells_append p.front q.front xs ys p.spelled q.spelled;
      left = p.left ∙ ap (λ (k : List ℕ). p.front ++ k) q.left ∙ sym (append_assoc p.front q.front c.left);
      place = omega (arith, p.place, q.place, length-append p.front q.front);
    }

pub record Parted (a : Cursor) (xs ys : List Item) (c : Cursor) : Type 0 where
  pub between : Cursor
  pub first : Takes Spells a xs between
  pub second : Takes Spells between ys c

pub takes_parts : (a c : Cursor) (xs ys : List Item) → Takes Spells a (xs ++ ys) c → Parted a xs ys c
takes_parts a c xs ys t =
    let p = spells_parts t.front xs ys t.spelled in
    record {
      between = record { place = a.place + length p.0; left = p.1 ++ c.left };
      first = record { front = p.0; spelled = p.3; left = t.left ∙ ap (λ (k : List ℕ). k ++ c.left) p.2 ∙ append_assoc p.0 p.1 c.left; place = refl };
      second = record { front = p.1; spelled = p.4; left = refl; place = omega (arith, t.place, ap length p.2, length-append p.0 p.1) };
    }
