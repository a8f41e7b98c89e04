-- A front of known length, and where a cursor stands behind it.
use Rattle.std.proofs.Common.{◌≡◌, ℕ, ◌+◌, ◌≤◌, List, ◌++◌, length, take, drop, sym, ap, ◌∙◌, subst, arith, length-append}
use Rattle.std.proofs.Math.Seq.{take-append_seam, drop-append_seam}
use Rattle.std.proofs.lemmas.List.{take-append-drop, length-take-le}
use Rattle.xdr.specs.Reading.{Cursor, advance, Takes}

pub take_front : (n : ℕ) (front rest : List ℕ) → length front ≡ n → take n (front ++ rest) ≡ front
take_front n front rest e = subst (λ (k : ℕ). take k (front ++ rest) ≡ front) e (take-append_seam front rest)

pub drop_front : (n : ℕ) (front rest : List ℕ) → length front ≡ n → drop n (front ++ rest) ≡ rest
drop_front n front rest e = subst (λ (k : ℕ). drop k (front ++ rest) ≡ rest) e (drop-append_seam front rest)

abbrev at : ℕ → List ℕ → Cursor
at place left = record { place = place; left = left }

pub same_cursor : (c d : Cursor) → c.place ≡ d.place → c.left ≡ d.left → c ≡ d
same_cursor c d p l = ap (λ (k : ℕ). at k c.left) p ∙ ap (λ (k : List ℕ). at d.place k) l

-- behind a front of n bytes
pub advanced : (n : ℕ) (front : List ℕ) (from to : Cursor) → length front ≡ n → from.left ≡ front ++ to.left → to.place ≡ from.place + length front → advance n from ≡ to
advanced n front from to e l p =
    same_cursor (advance n from) to (ap (λ (k : ℕ). from.place + k) (sym e) ∙ sym p) (ap (λ (k : List ℕ). drop n k) l ∙ drop_front n front to.left e)

-- a front of n bytes is there
pub fits : (n : ℕ) (front : List ℕ) (from to : Cursor) → length front ≡ n → from.left ≡ front ++ to.left → n ≤ length from.left
fits n front from to e l = omega (arith, ap length l, length-append front to.left)

-- what was taken is the front
pub takes : {A : Type 0} (Spells : List ℕ → A → Type 0) (from to : Cursor) (value : A) (n : ℕ) → n ≤ length from.left → advance n from ≡ to → Spells (take n from.left) value → Takes Spells from value to
takes Spells from to value n few e s =
    record { front = take n from.left; spelled = s; left = sym (take-append-drop n from.left) ∙ ap (λ (c : Cursor). take n from.left ++ c.left) e; place = sym (ap (λ (c : Cursor). c.place) e) ∙ ap (λ (k : ℕ). from.place + k) (sym (length-take-le n from.left few)) }
