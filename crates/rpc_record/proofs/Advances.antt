-- What a stage of a walk leaves.
use Rattle.std.proofs.Common.{◌⊎◌, inl, inr, ◌≡◌, ℕ, ◌+◌, ◌-◌, ◌<◌, ◌≤◌, Bool, true, false, List, [], ◌∷◌, ◌++◌, length, get_or, take, drop, refl, sym, ap, ◌∙◌, subst, arith, append-nil}
use Rattle.std.specs.Bool.{OnFalse}
use Rattle.std.proofs.lemmas.Bool.{cases_lt}
use Rattle.std.proofs.lemmas.List.{drop_more, drop-drop, take_all, take_rest, take-take, length-take}
use Rattle.rpc_record.specs.declared.place.Place.{Place}
use Rattle.rpc_record.specs.declared.present.Present.{Present}
use Rattle.rpc_record.specs.Records.{is_last, Open, front}
use Rattle.rpc_record.specs.Places.{with_byte, in_body, HasRoom}
use Rattle.rpc_record.specs.Presents.{IsWalk, whole_headers, held_of, Stands, IsShort, IsPresent, IsEnd, Extends}
use Rattle.rpc_record.proofs.Walks.{walk_on, walk_open, walk_byte, walk_header, walk_body, walk_finish, walk_whole_kept, walk_whole_sound}

pub first_of : (s : Present) (refused : Bool) (rest all : List ℕ) → 0 < length rest → Stands s refused rest all → Stands s refused (get_or rest 0 0 ∷ drop 1 rest) all
first_of s refused rest all some w = subst (λ (k : List ℕ). Stands s refused k all) (drop_more rest 0 0 some) w

-- a byte of a header
pub advance_byte : (s : Present) (q : Place) (refused : Bool) (rest all : List ℕ) → 0 < length rest → s.place.filled < 4 → q.done ≡ s.place.done
    → (s.place.filled + 1 < 4 → q ≡ with_byte s.place (get_or rest 0 0))
    → (s.place.filled ≡ 3 → HasRoom (with_byte s.place (get_or rest 0 0)) × (q ≡ in_body (with_byte s.place (get_or rest 0 0))))
    → Stands s refused rest all → Stands (record s { place = q }) refused (drop 1 rest) all
advance_byte s q refused rest all some early done part good w = go (cases_lt (s.place.filled + 1) 4) where
  first : ℕ
  first = get_or rest 0 0

  now : Stands s refused (first ∷ drop 1 rest) all
  now = first_of s refused rest all some w

  goal_at : Place → Type 0
  goal_at k = IsWalk (take s.place.done s.finished) k s.joined.items refused (drop 1 rest) all

  words : goal_at q → Stands (record s { place = q }) refused (drop 1 rest) all
  words g = subst (λ (k : ℕ). IsWalk (take k s.finished) q s.joined.items refused (drop 1 rest) all) (sym done) g

  go : (s.place.filled + 1 < 4) ⊎ (4 ≤ s.place.filled + 1) → Stands (record s { place = q }) refused (drop 1 rest) all
  go (inl h) = words (subst goal_at (sym (part h)) (walk_byte (whole_headers s) s.place s.joined.items refused first (drop 1 rest) all now h))
  go (inr h) =
      let three : s.place.filled ≡ 3 = omega arith in
      let g = good three in
      words (subst goal_at (sym g.1) (walk_header (whole_headers s) s.place s.joined.items refused first (drop 1 rest) all now three g.0))

on_false : (b : Bool) (X : Type 0) → OnFalse b X → b ≡ false → X
on_false false X x e = x
on_false true X x e = absurd (cc)

-- n bytes of the present fragment
pub advance_body : (s t : Present) (refused cut : Bool) (rest all : List ℕ) (n : ℕ) → s.place.filled ≡ 4 → n ≤ s.place.lacks → n ≤ length rest → t.place ≡ record s.place { lacks = s.place.lacks - n } → t.finished ≡ s.finished
    → OnFalse cut ((refused ≡ false) × (t.joined.items ≡ s.joined.items ++ take n rest)) → Stands s refused rest all → Stands t cut (drop n rest) all
advance_body s t refused cut rest all n whole few within place finished kept w =
    let next = walk_body (whole_headers s) s.place s.joined.items refused rest all w whole t.joined.items cut n few within (on_false cut _ kept) in
    rw (place, finished) next

-- what was kept is kept
pub extends_same : (s t : Present) → t.finished ≡ s.finished → s.place.done ≤ t.place.done → t.joined.items ≡ s.joined.items → Extends s t
extends_same s t f d j = record { words = ap (λ (k : List (List ℕ)). take s.place.done k) f; done = d; joined = ap (λ (k : List ℕ). take (length s.joined.items) k) j ∙ take_all (length s.joined.items) s.joined.items (omega arith) }

-- at the end of a record
pub end_last : (s : Present) → s.place.filled ≡ 4 → s.place.lacks ≡ 0 → is_last s.place.header ≡ true → IsEnd s
end_last s whole none last = λ refused rest all w.
    (walk_whole_kept (whole_headers s) s.place s.joined.items refused rest all w whole none last, walk_whole_sound (whole_headers s) s.place s.joined.items refused rest all w whole none last)

-- at the end of another fragment
pub end_more : (s t : Present) → s.place.filled ≡ 4 → s.place.lacks ≡ 0 → is_last s.place.header ≡ false → whole_headers t ≡ whole_headers s ++ s.place.header ∷ [] → t.place ≡ record s.place { done = s.place.done + 1; filled = 0 } → t.joined ≡ s.joined
    → (refused : Bool) (rest all : List ℕ) → Stands s refused rest all → Stands t refused rest all
end_more s t whole none last words place joined refused rest all w =
    rw (words, place, joined) (walk_finish (whole_headers s) s.place s.joined.items refused rest all w whole none last)

pub extends_then : (s t u : Present) → Extends s t → Extends t u → Extends s u
extends_then s t u a b =
    let n = s.place.done in
    let m = length s.joined.items in
    let few : m ≤ length t.joined.items = omega (arith, ap length a.joined, length-take m t.joined.items) in
    let words : take n u.finished ≡ take n t.finished = sym (take-take n t.place.done u.finished a.done) ∙ ap (λ (k : List (List ℕ)). take n k) b.words ∙ take-take n t.place.done t.finished a.done in
    let joined : take m u.joined.items ≡ take m t.joined.items = sym (take-take m (length t.joined.items) u.joined.items few) ∙ ap (λ (k : List ℕ). take m k) b.joined in
    record { words = words ∙ a.words; done = omega (arith, a.done, b.done); joined = joined ∙ a.joined }

-- the rest of a piece as the code cuts it
pub ahead : (s : Present) (refused : Bool) (piece all : List ℕ) (taken : ℕ) → Stands s refused (drop taken piece) all → Stands s refused (take (length piece - taken) (drop taken piece)) all
ahead s refused piece all taken w = subst (λ (k : List ℕ). Stands s refused k all) (sym (take_rest piece taken)) w

pub passed : (s : Present) (refused : Bool) (piece all : List ℕ) (taken count : ℕ) → Stands s refused (drop count (take (length piece - taken) (drop taken piece))) all → Stands s refused (drop (taken + count) piece) all
passed s refused piece all taken count w = subst (λ (k : List ℕ). Stands s refused k all) (ap (λ (k : List ℕ). drop count k) (take_rest piece taken) ∙ drop-drop count taken piece) w

-- at the start of a piece
pub piece_start : (s : Present) (piece : List ℕ) → IsPresent s → Stands s false (drop 0 piece) (held_of s ++ piece)
piece_start s piece p = walk_on (whole_headers s) s.place s.joined.items [] (held_of s) piece p.0

-- at the end of a piece
pub piece_end : (s : Present) (refused : Bool) (rest all : List ℕ) → rest ≡ [] → Stands s refused rest all → IsShort s.place → front all ≡ Open
piece_end s refused rest all none w short = walk_open (whole_headers s) s.place s.joined.items refused all (subst (λ (k : List ℕ). Stands s refused k all) none w) short

pub piece_kept : (s : Present) (refused : Bool) (rest all : List ℕ) → rest ≡ [] → Stands s refused rest all → IsShort s.place → refused ≡ false → IsPresent s × (held_of s ≡ all)
piece_kept s refused rest all none w short kept =
    let now : Stands s refused [] all = subst (λ (k : List ℕ). Stands s refused k all) none w in
    let held : held_of s ≡ all = sym (append-nil (held_of s)) ∙ (now.kept kept).2 in
    let whole : Stands s false [] (held_of s) = subst (λ (k : List ℕ). Stands s false [] k) (sym held) (subst (λ (b : Bool). Stands s b [] all) kept now) in
    ((whole, short), held)

pub some_left_at : (s : Present) (refused : Bool) (rest all : List ℕ) → Stands s refused rest all → s.place.filled ≡ 4 → s.place.done < 64
some_left_at s refused rest all w whole = (w.place.in_body whole).0

-- back from a walk
pub returned : (s t u : Present) → Extends s t → u.place ≡ s.place → u.finished ≡ t.finished → u.joined.items ≡ take (length s.joined.items) t.joined.items → IsPresent s → IsPresent u × (held_of u ≡ held_of s)
returned s t u e place finished joined p =
    let items : u.joined.items ≡ s.joined.items = joined ∙ e.joined in
    let words : take s.place.done u.finished ≡ whole_headers s = ap (λ (k : List (List ℕ)). take s.place.done k) finished ∙ e.words in
    rw (place, items, words) (p, refl)
