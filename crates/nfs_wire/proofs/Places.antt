-- Where a cursor stands in its message.
use Rattle.std.proofs.Common.{◌≡◌, ℕ, ◌+◌, ◌-◌, ◌≤◌, List, ◌++◌, length, take, drop, refl, sym, ap, ◌∙◌, subst, arith, length-append, length-drop, append_assoc}
use Rattle.std.proofs.lemmas.List.{drop-drop}
use Rattle.xdr.specs.Reading.{Cursor, Takes, start, opaque_at}
use Rattle.xdr.proofs.Opaques.{opaque_forth}
use Rattle.xdr.proofs.Fronts.{take_front, drop_front}
use Rattle.xdr.specs.Rows.{Item, Spells}
use Rattle.nfs_wire.specs.Places.{StandsIn}
use Rattle.std.specs.Prelude.{slice_range, Ok}

pub stands_first : (message : List ℕ) → StandsIn message (start message)
stands_first message = refl

pub stands_more : (message : List ℕ) (c d : Cursor) (row : List Item) → StandsIn message c → Takes Spells c row d → StandsIn message d
stands_more message c d row s t =
    let n = length t.front in
    let front : drop n (drop c.place message) ≡ d.left = ap (λ (k : List ℕ). drop n k) (sym s ∙ t.left) ∙ drop_front n t.front d.left refl in
    sym (ap (λ (k : ℕ). drop k message) t.place ∙ sym (drop-drop n c.place message) ∙ front)

-- where the bytes of an opaque lie
pub record LiesIn (message : List ℕ) (place : ℕ) (v : List ℕ) : Type 0 where
  pub room : place + length v ≤ length message
  pub part : slice_range message place (place + length v) ≡ v

lies : (most : ℕ) (message v : List ℕ) (c d : Cursor) → StandsIn message c → opaque_at most c ≡ Ok (v, d) → LiesIn message (c.place + 4) v
lies most message v c d s e =
    let t = (opaque_forth most c d v e).1 in
    let sp = t.spelled in
    let rest = sp.padding ++ d.left in
    let whole : drop c.place message ≡ sp.count ++ (v ++ rest) =
    sym s ∙ t.left ∙ ap (λ (k : List ℕ). k ++ d.left) sp.text ∙ append_assoc sp.count (v ++ sp.padding) d.left ∙ ap (λ (k : List ℕ). sp.count ++ k) (append_assoc v sp.padding d.left) in
    let behind : drop (c.place + 4) message ≡ v ++ rest = sym (drop-drop 4 c.place message) ∙ ap (λ (k : List ℕ). drop 4 k) whole ∙ drop_front 4 sp.count (v ++ rest) sp.counted.four in
    let size : length (drop c.place message) ≡ 4 + length (v ++ rest) = ap length whole ∙ length-append sp.count (v ++ rest) ∙ ap (λ (k : ℕ). k + length (v ++ rest)) sp.counted.four in
    let n : (c.place + 4 + length v) - (c.place + 4) ≡ length v = omega arith in
    record {
      room = omega (arith, size, length-drop c.place message, length-append v rest);
      part = ap (λ (k : ℕ). take k (drop (c.place + 4) message)) n ∙ ap (λ (k : List ℕ). take (length v) k) behind ∙ take_front (length v) v rest refl;
    }

pub lies_in : (most place : ℕ) (message v : List ℕ) (c d : Cursor) → place ≡ c.place → StandsIn message c → opaque_at most c ≡ Ok (v, d) → LiesIn message (place + 4) v
lies_in most place message v c d p s e = subst (λ (k : ℕ). LiesIn message (k + 4) v) (sym p) (lies most message v c d s e)
