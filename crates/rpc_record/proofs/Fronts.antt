-- The first record of a stream is spelled by its front, and more bytes behind a decided front change nothing.
use Rattle.std.proofs.Common.{◌⊎◌, inl, inr, ◌≡◌, ℕ, zero, suc, ◌+◌, ◌-◌, ◌%◌, ◌^◌, ◌<◌, ◌≤◌, nat_le, Bool, true, false, List, [], ◌++◌, length, take, drop, refl, sym, ap, ◌∙◌, subst, arith, add-one, length-append, length-drop, append_assoc, append-nil}
use Rattle.std.specs.Int.{w32, from_be_bytes}
use Rattle.std.proofs.lemmas.Bool.{cases_lt}
use Rattle.std.proofs.lemmas.List.{take-append-drop, length-take-le, take-append-le, drop-append-le}
use Rattle.std.proofs.Math.Seq.{take-append_seam, drop-append_seam}
use Rattle.rpc_record.specs.declared.fault.FrameFault.{FrameFault}
use Rattle.rpc_record.specs.declared.fault.FrameFault.TheVariants.{TooLong}
use Rattle.rpc_record.specs.Records.{record_max, header, fragment_len, is_last, fragment_body, bytes_behind, Front, Open, Fault, Whole, front, front_from, SpellsFrom, SpellsRecord}
use Rattle.rpc_record.proofs.Steps.{open_short, too_many, too_long, open_cut, whole_last, front_more}
use Rattle.rpc_record.proofs.Scanning.{Joining, some_left, some_room, some_body, join_last, join_more}

-- bytes behind a header don't change it
header_front : (xs ys : List ℕ) → 4 ≤ length xs → header (xs ++ ys) ≡ header xs
header_front xs ys h = ap (λ (k : List ℕ). from_be_bytes w32 k) (take-append-le 4 xs ys h)

pub len_front : (xs ys : List ℕ) → 4 ≤ length xs → fragment_len (xs ++ ys) ≡ fragment_len xs
len_front xs ys h = ap (λ (k : List ℕ). from_be_bytes w32 k % 2 ^ 31) (take-append-le 4 xs ys h)

pub last_front : (xs ys : List ℕ) → 4 ≤ length xs → is_last (xs ++ ys) ≡ is_last xs
last_front xs ys h = ap (λ (k : List ℕ). nat_le (2 ^ 31) (from_be_bytes w32 k)) (take-append-le 4 xs ys h)

body_front : (xs ys : List ℕ) → 4 + fragment_len xs ≤ length xs → fragment_body (xs ++ ys) ≡ fragment_body xs
body_front xs ys h =
    let four : 4 ≤ length xs = omega arith in
    ap (λ (k : ℕ). take k (drop 4 (xs ++ ys))) (len_front xs ys four) ∙ ap (λ (k : List ℕ). take (fragment_len xs) k) (drop-append-le 4 xs ys four) ∙ take-append-le (fragment_len xs) (drop 4 xs) ys (omega (arith, length-drop 4 xs))

behind_front : (xs ys : List ℕ) → 4 + fragment_len xs ≤ length xs → bytes_behind (xs ++ ys) ≡ bytes_behind xs ++ ys
behind_front xs ys h =
    let four : 4 ≤ length xs = omega arith in
    ap (λ (k : ℕ). drop (4 + k) (xs ++ ys)) (len_front xs ys four) ∙ drop-append-le (4 + fragment_len xs) xs ys h

pub take_all : (n : ℕ) (xs : List ℕ) → length xs ≡ n → take n xs ≡ xs
take_all n xs e = subst (λ (k : ℕ). take k xs ≡ xs) e (ap (λ (k : List ℕ). take (length xs) k) (sym (append-nil xs)) ∙ take-append_seam xs [])

drop_all : (n : ℕ) (xs : List ℕ) → length xs ≡ n → drop n xs ≡ []
drop_all n xs e = subst (λ (k : ℕ). drop k xs ≡ []) e (ap (λ (k : List ℕ). drop (length xs) k) (sym (append-nil xs)) ∙ drop-append_seam xs [])

-- a fragment, and what follows it
pub body_of : (fragment more : List ℕ) → length fragment ≡ 4 + fragment_len fragment → fragment_body (fragment ++ more) ≡ drop 4 fragment
body_of fragment more e =
    body_front fragment more (omega arith) ∙ take_all (fragment_len fragment) (drop 4 fragment) (length-drop 4 fragment ∙ omega arith)

pub behind_of : (fragment more : List ℕ) → length fragment ≡ 4 + fragment_len fragment → bytes_behind (fragment ++ more) ≡ more
behind_of fragment more e = behind_front fragment more (omega arith) ∙ ap (λ (k : List ℕ). k ++ more) (drop_all (4 + fragment_len fragment) fragment e)

-- the fragment that stands in front
record Cut (xs : List ℕ) : Type 0 where
  fragment : List ℕ
  whole : xs ≡ fragment ++ bytes_behind xs
  size : length fragment ≡ 4 + fragment_len fragment
  same_len : fragment_len fragment ≡ fragment_len xs
  same_last : is_last fragment ≡ is_last xs
  same_body : drop 4 fragment ≡ fragment_body xs

cut_front : (xs : List ℕ) → 4 + fragment_len xs ≤ length xs → Cut xs
cut_front xs h =
    let n = 4 + fragment_len xs in
    let f = take n xs in
    let w : xs ≡ f ++ bytes_behind xs = sym (take-append-drop n xs) in
    let l : length f ≡ n = length-take-le n xs h in
    let four : 4 ≤ length f = omega arith in
    let len : fragment_len f ≡ fragment_len xs = sym (len_front f (bytes_behind xs) four) ∙ ap (λ (k : List ℕ). fragment_len k) (sym w) in
    let s : length f ≡ 4 + fragment_len f = l ∙ ap (λ (k : ℕ). 4 + k) (sym len) in
    record { fragment = f; whole = w; size = s; same_len = len; same_last = sym (last_front f (bytes_behind xs) four) ∙ ap (λ (k : List ℕ). is_last k) (sym w); same_body = sym (body_of f (bytes_behind xs) s) ∙ ap (λ (k : List ℕ). fragment_body k) (sym w) }

-- forth: a whole record stands there as its fragments
pub record Spelled (left : ℕ) (have xs joined rest : List ℕ) : Type 0 where
  pub text : List ℕ
  pub parts : xs ≡ text ++ rest
  pub spelled : SpellsFrom left have text joined
  pub four : 4 ≤ length text

abbrev next_of : Bool → ℕ → List ℕ → List ℕ → List ℕ → List ℕ → Type 0
next_of last left have fragment more joined = elim last [ true ↦ (more ≡ []) × (joined ≡ have ++ drop 4 fragment) | false ↦ SpellsFrom left (have ++ drop 4 fragment) more joined ]

spell_last : (left : ℕ) (have xs joined : List ℕ) (c : Cut xs) → length have + fragment_len xs ≤ record_max → is_last xs ≡ true → joined ≡ have ++ fragment_body xs → SpellsFrom (suc left) have c.fragment joined
spell_last left have xs joined c room t e =
    (c.fragment, [], sym (append-nil c.fragment), c.size, rw c.same_len room, subst (λ (b : Bool). next_of b left have c.fragment [] joined) (sym (c.same_last ∙ t)) (refl, e ∙ ap (λ (k : List ℕ). have ++ k) (sym c.same_body)))

spell_more : (left : ℕ) (have xs joined text : List ℕ) (c : Cut xs) → length have + fragment_len xs ≤ record_max → is_last xs ≡ false → SpellsFrom left (have ++ fragment_body xs) text joined → SpellsFrom (suc left) have (c.fragment ++ text) joined
spell_more left have xs joined text c room t s =
    (c.fragment, text, refl, c.size, rw c.same_len room, subst (λ (b : Bool). next_of b left have c.fragment text joined) (sym (c.same_last ∙ t)) (subst (λ (k : List ℕ). SpellsFrom left (have ++ k) text joined) (sym c.same_body) s))

abbrev Forth : ℕ → Type 0
Forth left = (have xs joined rest : List ℕ) → front_from left have xs ≡ Whole joined rest → Spelled left have xs joined rest

forth_step : (left : ℕ) → Forth left → (have xs joined rest : List ℕ) → front_from (suc left) have xs ≡ Whole joined rest → Spelled (suc left) have xs joined rest
forth_step left ih have xs joined rest e = go (is_last xs) refl where
  f : Front
  f = front_from (suc left) have xs

  j : Joining (suc left) have xs f rest
  j = record { so_far = refl; whole = joined; ends = e }

  room : length have + fragment_len xs ≤ record_max
  room = some_room (suc left) have xs f rest j

  c : Cut xs
  c = cut_front xs (some_body (suc left) have xs f rest j)

  less : suc left - 1 ≡ left
  less = omega arith

  go : (b : Bool) → is_last xs ≡ b → Spelled (suc left) have xs joined rest
  go true t =
      let l = join_last (suc left) have xs f rest j t in
      let same : Whole joined rest ≡ Whole (have ++ fragment_body xs) rest = sym e ∙ l.0 in
      let is : joined ≡ have ++ fragment_body xs = cc in
      record { text = c.fragment; parts = c.whole ∙ ap (λ (k : List ℕ). c.fragment ++ k) l.1; spelled = spell_last left have xs joined c room t is; four = let s = c.size in omega arith }
  go false t =
      let m = join_more (suc left) have xs f rest j t in
      let next : front_from left (have ++ fragment_body xs) (bytes_behind xs) ≡ Whole joined rest = ap (λ (k : ℕ). front_from k (have ++ fragment_body xs) (bytes_behind xs)) (sym less) ∙ sym m.so_far ∙ e in
      let s = ih (have ++ fragment_body xs) (bytes_behind xs) joined rest next in
      record { text = c.fragment ++ s.text; parts = c.whole ∙ ap (λ (k : List ℕ). c.fragment ++ k) s.parts ∙ sym (append_assoc c.fragment s.text rest); spelled = spell_more left have xs joined s.text c room t s.spelled; four = let z = c.size in omega (arith, length-append c.fragment s.text) }

pub spelled_forth : (left : ℕ) (have xs joined rest : List ℕ) → front_from left have xs ≡ Whole joined rest → Spelled left have xs joined rest
spelled_forth zero have xs joined rest e =
    let j : Joining 0 have xs (front_from 0 have xs) rest = record { so_far = refl; whole = joined; ends = e } in
    let some : 0 < 0 = some_left 0 have xs (front_from 0 have xs) rest j in
    absurd (omega arith)
spelled_forth (suc left) have xs joined rest e = forth_step left (λ h x j r d. spelled_forth left h x j r d) have xs joined rest e

-- back: fragments of a record are a whole record, whatever follows
abbrev Back : ℕ → Type 0
Back left = (have text joined ys : List ℕ) → SpellsFrom left have text joined → front_from left have (text ++ ys) ≡ Whole joined ys

back_step : (left : ℕ) → Back left → (have text joined ys : List ℕ) → SpellsFrom (suc left) have text joined → front_from (suc left) have (text ++ ys) ≡ Whole joined ys
back_step left ih have text joined ys s = go (is_last fragment) refl s.5 where
  fragment : List ℕ
  fragment = s.0

  more : List ℕ
  more = s.1

  tail : List ℕ
  tail = more ++ ys

  all : text ++ ys ≡ fragment ++ tail
  all = ap (λ (k : List ℕ). k ++ ys) s.2 ∙ append_assoc fragment more ys

  four : 4 ≤ length fragment
  four = let e = s.3 in omega arith

  len : fragment_len (fragment ++ tail) ≡ fragment_len fragment
  len = len_front fragment tail four

  fits : 4 + fragment_len (fragment ++ tail) ≤ length (fragment ++ tail)
  fits = let e = s.3 in rw len (omega (arith, length-append fragment tail))

  room : length have + fragment_len (fragment ++ tail) ≤ record_max
  room = rw len s.4

  go : (b : Bool) → is_last fragment ≡ b → next_of b left have fragment more joined → front_from (suc left) have (text ++ ys) ≡ Whole joined ys
  go true t n =
      let w = whole_last (suc left) left have (fragment ++ tail) (sym (add-one left)) fits room (last_front fragment tail four ∙ t) in
      let joins : have ++ fragment_body (fragment ++ tail) ≡ joined = ap (λ (k : List ℕ). have ++ k) (body_of fragment tail s.3) ∙ sym n.1 in
      let rests : bytes_behind (fragment ++ tail) ≡ ys = behind_of fragment tail s.3 ∙ ap (λ (k : List ℕ). k ++ ys) n.0 in
      ap (λ (k : List ℕ). front_from (suc left) have k) all ∙ w ∙ ap (λ (k : List ℕ). Whole k (bytes_behind (fragment ++ tail))) joins ∙ ap (λ (k : List ℕ). Whole joined k) rests
  go false t n =
      let w = front_more (suc left) left have (fragment ++ tail) (sym (add-one left)) fits room (last_front fragment tail four ∙ t) in
      ap (λ (k : List ℕ). front_from (suc left) have k) all ∙ w ∙ ap (λ (k : List ℕ). front_from left (have ++ k) (bytes_behind (fragment ++ tail))) (body_of fragment tail s.3) ∙ ap (λ (k : List ℕ). front_from left (have ++ drop 4 fragment) k) (behind_of fragment tail s.3) ∙ ih (have ++ drop 4 fragment) more joined ys n

pub spelled_back : (left : ℕ) (have text joined ys : List ℕ) → SpellsFrom left have text joined → front_from left have (text ++ ys) ≡ Whole joined ys
spelled_back zero have text joined ys s = absurd s
spelled_back (suc left) have text joined ys s = back_step left (λ h t j y d. spelled_back left h t j y d) have text joined ys s

pub front_forth : (xs joined rest : List ℕ) → front xs ≡ Whole joined rest → Spelled 64 [] xs joined rest
unfolding front
front_forth xs joined rest e = spelled_forth 64 [] xs joined rest e

pub front_back : (text joined ys : List ℕ) → SpellsFrom 64 [] text joined → front (text ++ ys) ≡ Whole joined ys
unfolding front
front_back text joined ys s = spelled_back 64 [] text joined ys s

pub front_law_forth : (xs joined rest : List ℕ) → front xs ≡ Whole joined rest → (text : List ℕ) × (xs ≡ text ++ rest) × SpellsRecord text joined
unfolding SpellsRecord
front_law_forth xs joined rest e = let s = front_forth xs joined rest e in (s.text, s.parts, s.spelled)

pub front_law_back : (xs joined rest : List ℕ) → (text : List ℕ) × (xs ≡ text ++ rest) × SpellsRecord text joined → front xs ≡ Whole joined rest
unfolding SpellsRecord
front_law_back xs joined rest s = ap front s.1 ∙ front_back s.0 joined rest s.2

-- more bytes
pub whole_more : (xs ys joined rest : List ℕ) → front xs ≡ Whole joined rest → front (xs ++ ys) ≡ Whole joined (rest ++ ys)
whole_more xs ys joined rest e =
    let s = front_forth xs joined rest e in
    ap (λ (k : List ℕ). front (k ++ ys)) s.parts ∙ ap front (append_assoc s.text rest ys) ∙ front_back s.text joined (rest ++ ys) s.spelled

abbrev Faulted : ℕ → Type 0
Faulted left = (have xs ys : List ℕ) (fault : FrameFault) → front_from left have xs ≡ Fault fault → front_from left have (xs ++ ys) ≡ Fault fault

fault_step : (left : ℕ) → Faulted left → (have xs ys : List ℕ) (fault : FrameFault) → front_from (suc left) have xs ≡ Fault fault → front_from (suc left) have (xs ++ ys) ≡ Fault fault
fault_step left ih have xs ys fault e = header_there (cases_lt (length xs) 4) where
  one : suc left ≡ left + 1
  one = sym (add-one left)

  body_there : 4 ≤ length xs → length have + fragment_len xs ≤ record_max → 4 + fragment_len xs ≤ length xs → (b : Bool) → is_last xs ≡ b → front_from (suc left) have (xs ++ ys) ≡ Fault fault
  body_there h r f true t = let w = whole_last (suc left) left have xs one f r t in absurd (cc)
  body_there h r f false t =
      let m = front_more (suc left) left have xs one f r t in
      let fits : 4 + fragment_len (xs ++ ys) ≤ length (xs ++ ys) = rw (len_front xs ys h) (omega (arith, length-append xs ys)) in
      let room : length have + fragment_len (xs ++ ys) ≤ record_max = rw (len_front xs ys h) r in
      front_more (suc left) left have (xs ++ ys) one fits room (last_front xs ys h ∙ t)
      ∙ ap (λ (k : List ℕ). front_from left (have ++ k) (bytes_behind (xs ++ ys))) (body_front xs ys f)
      ∙ ap (λ (k : List ℕ). front_from left (have ++ fragment_body xs) k) (behind_front xs ys f)
      ∙ ih (have ++ fragment_body xs) (bytes_behind xs) ys fault (sym m ∙ e)

  all_there : 4 ≤ length xs → length have + fragment_len xs ≤ record_max → (length xs < 4 + fragment_len xs) ⊎ (4 + fragment_len xs ≤ length xs) → front_from (suc left) have (xs ++ ys) ≡ Fault fault
  all_there h r (inl c) = let o = open_cut (suc left) left have xs one h r c in absurd (cc)
  all_there h r (inr f) = body_there h r f (is_last xs) refl

  room_there : 4 ≤ length xs → (record_max < length have + fragment_len xs) ⊎ (length have + fragment_len xs ≤ record_max) → front_from (suc left) have (xs ++ ys) ≡ Fault fault
  room_there h (inl l) =
      let same = too_long (suc left) left have xs one h l in
      too_long (suc left) left have (xs ++ ys) one (omega (arith, length-append xs ys)) (rw (len_front xs ys h) l) ∙ ap (λ (k : ℕ). Fault (TooLong (length have + k))) (len_front xs ys h) ∙ sym same ∙ e
  room_there h (inr r) = all_there h r (cases_lt (length xs) (4 + fragment_len xs))

  header_there : (length xs < 4) ⊎ (4 ≤ length xs) → front_from (suc left) have (xs ++ ys) ≡ Fault fault
  header_there (inl h) = let o = open_short (suc left) have xs h in absurd (cc)
  header_there (inr h) = room_there h (cases_lt record_max (length have + fragment_len xs))

fault_from : (left : ℕ) (have xs ys : List ℕ) (fault : FrameFault) → front_from left have xs ≡ Fault fault → front_from left have (xs ++ ys) ≡ Fault fault
fault_from zero have xs ys fault e = go (cases_lt (length xs) 4) where
  go : (length xs < 4) ⊎ (4 ≤ length xs) → front_from 0 have (xs ++ ys) ≡ Fault fault
  go (inl h) = let o = open_short 0 have xs h in absurd (cc)
  go (inr h) = too_many have (xs ++ ys) (omega (arith, length-append xs ys)) ∙ sym (too_many have xs h) ∙ e
fault_from (suc left) have xs ys fault e = fault_step left (λ h x y f d. fault_from left h x y f d) have xs ys fault e

pub fault_more : (xs ys : List ℕ) (fault : FrameFault) → front xs ≡ Fault fault → front (xs ++ ys) ≡ Fault fault
unfolding front
fault_more xs ys fault e = fault_from 64 [] xs ys fault e

pub front_empty : front [] ≡ Open
unfolding front
front_empty = open_short 64 [] [] (omega arith)

pub whole_shrinks : (xs joined rest : List ℕ) → front xs ≡ Whole joined rest → length rest + 4 ≤ length xs
whole_shrinks xs joined rest e =
    let s = front_forth xs joined rest e in
    let f = s.four in
    omega (arith, ap length s.parts, length-append s.text rest)

-- the record alone
pub whole_cut : (xs joined rest : List ℕ) → front xs ≡ Whole joined rest → front (take (length xs - length rest) xs) ≡ Whole joined []
whole_cut xs joined rest e =
    let s = front_forth xs joined rest e in
    let n : length xs - length rest ≡ length s.text = omega (arith, ap length s.parts, length-append s.text rest) in
    let t : take (length xs - length rest) xs ≡ s.text = ap (λ (k : ℕ). take k xs) n ∙ ap (λ (k : List ℕ). take (length s.text) k) s.parts ∙ take-append_seam s.text rest in
    ap front (t ∙ sym (append-nil s.text)) ∙ front_back s.text joined [] s.spelled

-- A record that wasn't whole before ends in the bytes that came.
pub open_before : (xs ys joined rest : List ℕ) → front xs ≡ Open → front (xs ++ ys) ≡ Whole joined rest → length rest ≤ length ys
open_before xs ys joined rest o e = go (cases_lt (length ys) (length rest)) where
  s : Spelled 64 [] (xs ++ ys) joined rest
  s = front_forth (xs ++ ys) joined rest e

  go : (length ys < length rest) ⊎ (length rest ≤ length ys) → length rest ≤ length ys
  go (inr h) = h
  go (inl h) =
      let n : length s.text ≤ length xs = omega (arith, ap length s.parts, length-append s.text rest, length-append xs ys) in
      let t : s.text ≡ take (length s.text) xs = sym (take-append_seam s.text rest) ∙ ap (λ (k : List ℕ). take (length s.text) k) (sym s.parts) ∙ take-append-le (length s.text) xs ys n in
      let w : xs ≡ s.text ++ drop (length s.text) xs = sym (take-append-drop (length s.text) xs) ∙ ap (λ (k : List ℕ). k ++ drop (length s.text) xs) (sym t) in
      let b : front xs ≡ Whole joined (drop (length s.text) xs) = ap front w ∙ front_back s.text joined (drop (length s.text) xs) s.spelled in
      absurd (cc)
