-- The laws of numbers and booleans.
use Rattle.std.proofs.Common.{◌≡◌, ℕ, ◌+◌, ◌≤◌, ◌<◌, ◌^◌, Bool, true, false, cond, ◌==◌, nat_lt, List, ◌++◌, length, take, get_or, refl, sym, ap, ◌∙◌, arith, Ok, Err, All}
use Rattle.std.specs.Int.{w32, w64, from_be_bytes}
use Rattle.std.proofs.lemmas.Nat.{from_be_bytes-to_be_bytes_4, from_be_bytes-to_be_bytes_8, be_bytes_4, be_bytes_8}
use Rattle.std.proofs.lemmas.Bool.{le-ltb}
use Rattle.std.proofs.lemmas.Bool.Decides.{nat_tests}
use Rattle.std.proofs.lemmas.List.{length-take-le}
use Rattle.std.proofs.lemmas.Grind.{common_steps}
use Rattle.xdr.specs.declared.fault.XdrFault.{XdrFault}
use Rattle.xdr.specs.declared.fault.XdrFault.TheVariants.{Short, BadBool}
use Rattle.xdr.specs.Items.{word, long, bool_text, SpellsU32, SpellsU64, SpellsBool}
use Rattle.xdr.specs.Reading.{Cursor, Reading, advance, next_word, next_long, Takes, u32_at, u64_at, bool_at}
use Rattle.xdr.proofs.Fronts.{take_front, advanced, fits, takes}

-- a reading that was done had no fault
pub done : {A : Type 0} (b : Bool) (e : XdrFault) (x y : A) → cond b (Err e) (Ok x) ≡ Ok y → (b ≡ false) × (x ≡ y)
done true e x y h = cc
done false e x y h = (refl, cc)

pub enough : (a b : ℕ) → nat_lt a b ≡ false → b ≤ a
enough a b h = grind (arith, nat_tests)

pub u32_forth : (from to : Cursor) (n : ℕ) → u32_at from ≡ Ok (n, to) → Takes SpellsU32 from n to
unfolding u32_at
u32_forth from to n h =
    let d = done (nat_lt (length from.left) 4) (Short from.place) (next_word from, advance 4 from) (n, to) h in
    let few = enough (length from.left) 4 d.0 in
    takes SpellsU32 from to n 4 few (ap (λ (p : ℕ × Cursor). p.1) d.1) (record { four = length-take-le 4 from.left few; worth = ap (λ (p : ℕ × Cursor). p.0) d.1 })

pub word_front : (from to : Cursor) (n : ℕ) (front : List ℕ) → SpellsU32 front n → from.left ≡ front ++ to.left → next_word from ≡ n
word_front from to n front s l = ap (λ (k : List ℕ). from_be_bytes w32 (take 4 k)) l ∙ ap (λ (k : List ℕ). from_be_bytes w32 k) (take_front 4 front to.left s.four) ∙ s.worth

pub u32_back : (from to : Cursor) (n : ℕ) → Takes SpellsU32 from n to → u32_at from ≡ Ok (n, to)
unfolding u32_at
u32_back from to n t =
    rw (le-ltb (length from.left) 4 (fits 4 t.front from to t.spelled.four t.left), word_front from to n t.front t.spelled t.left, advanced 4 t.front from to t.spelled.four t.left t.place) refl

pub word_spells : (n : ℕ) → n < 2 ^ 32 → SpellsU32 (word n) n
unfolding word
word_spells n h = record { four = refl; worth = from_be_bytes-to_be_bytes_4 n h }

pub word_again : (place n : ℕ) (rest : List ℕ) → n < 2 ^ 32 → u32_at (record { place = place; left = word n ++ rest }) ≡ Ok (n, record { place = place + 4; left = rest })
word_again place n rest h =
    let from : Cursor = record { place = place; left = word n ++ rest } in
    let s = word_spells n h in
    u32_back from (record { place = place + 4; left = rest }) n (record { front = word n; spelled = s; left = refl; place = ap (λ (k : ℕ). place + k) (sym s.four) })

-- each item of a list of bytes is a byte
byte_at : (bytes : List ℕ) (i : ℕ) → All (λ b. b < 256) bytes → get_or bytes i 0 < 256
byte_at bytes i all = grind (arith, common_steps)

pub word_only : (bytes : List ℕ) (n : ℕ) → All (λ b. b < 256) bytes → SpellsU32 bytes n → bytes ≡ word n
unfolding word
word_only bytes n all s = sym (be_bytes_4 bytes n s.four (λ i. byte_at bytes i all) (sym s.worth))

pub u64_forth : (from to : Cursor) (n : ℕ) → u64_at from ≡ Ok (n, to) → Takes SpellsU64 from n to
unfolding u64_at
u64_forth from to n h =
    let d = done (nat_lt (length from.left) 8) (Short from.place) (next_long from, advance 8 from) (n, to) h in
    let few = enough (length from.left) 8 d.0 in
    takes SpellsU64 from to n 8 few (ap (λ (p : ℕ × Cursor). p.1) d.1) (record { eight = length-take-le 8 from.left few; worth = ap (λ (p : ℕ × Cursor). p.0) d.1 })

long_front : (from to : Cursor) (n : ℕ) (front : List ℕ) → SpellsU64 front n → from.left ≡ front ++ to.left → next_long from ≡ n
long_front from to n front s l = ap (λ (k : List ℕ). from_be_bytes w64 (take 8 k)) l ∙ ap (λ (k : List ℕ). from_be_bytes w64 k) (take_front 8 front to.left s.eight) ∙ s.worth

pub u64_back : (from to : Cursor) (n : ℕ) → Takes SpellsU64 from n to → u64_at from ≡ Ok (n, to)
unfolding u64_at
u64_back from to n t =
    rw (le-ltb (length from.left) 8 (fits 8 t.front from to t.spelled.eight t.left), long_front from to n t.front t.spelled t.left, advanced 8 t.front from to t.spelled.eight t.left t.place) refl

pub long_spells : (n : ℕ) → n < 2 ^ 64 → SpellsU64 (long n) n
unfolding long
long_spells n h = record { eight = refl; worth = from_be_bytes-to_be_bytes_8 n h }

pub long_again : (place n : ℕ) (rest : List ℕ) → n < 2 ^ 64 → u64_at (record { place = place; left = long n ++ rest }) ≡ Ok (n, record { place = place + 8; left = rest })
long_again place n rest h =
    let from : Cursor = record { place = place; left = long n ++ rest } in
    let s = long_spells n h in
    u64_back from (record { place = place + 8; left = rest }) n (record { front = long n; spelled = s; left = refl; place = ap (λ (k : ℕ). place + k) (sym s.eight) })

pub long_only : (bytes : List ℕ) (n : ℕ) → All (λ b. b < 256) bytes → SpellsU64 bytes n → bytes ≡ long n
unfolding long
long_only bytes n all s = sym (be_bytes_8 bytes n s.eight (λ i. byte_at bytes i all) (sym s.worth))

-- the word of a boolean
abbrev truth_of : XdrFault → XdrFault → Cursor → Bool → Bool → Bool → Reading Bool
truth_of e e' c s z o = cond s (Err e) (cond z (Ok (false, c)) (cond o (Ok (true, c)) (Err e')))

abbrev taken : Bool → Cursor → Reading Bool
taken b c = Ok (b, c)

same_pair : (a b : Bool) (c d : Cursor) → taken a c ≡ taken b d → (a ≡ b) × (c ≡ d)
same_pair a b c d e = let p = done false (Short 0) (a, c) (b, d) e in (ap (λ (k : Bool × Cursor). k.0) p.1, ap (λ (k : Bool × Cursor). k.1) p.1)

zero_word : (n : ℕ) (b : Bool) → b ≡ false → (n == 0) ≡ true → n ≡ cond b 1 0
zero_word n b e p = rw e (grind (arith, nat_tests))

one_word : (n : ℕ) (b : Bool) → b ≡ true → (n == 1) ≡ true → n ≡ cond b 1 0
one_word n b e p = rw e (grind (arith, nat_tests))

truth : (n : ℕ) (b : Bool) (e e' : XdrFault) (c to : Cursor) (s : Bool) → truth_of e e' c s (n == 0) (n == 1) ≡ Ok (b, to) → (s ≡ false) × (n ≡ cond b 1 0) × (c ≡ to)
truth n b e e' c to true h = cc
truth n b e e' c to false h = go (n == 0) refl (n == 1) refl h where
  go : (z : Bool) → (n == 0) ≡ z → (o : Bool) → (n == 1) ≡ o → truth_of e e' c false z o ≡ Ok (b, to) → (false ≡ false) × (n ≡ cond b 1 0) × (c ≡ to)
  go true p o q f = let v = same_pair false b c to f in (refl, zero_word n b (sym v.0) p, v.1)
  go false p true q f = let v = same_pair true b c to f in (refl, one_word n b (sym v.0) q, v.1)
  go false p false q f = cc

pub bool_forth : (from to : Cursor) (b : Bool) → bool_at from ≡ Ok (b, to) → Takes SpellsBool from b to
unfolding bool_at
bool_forth from to b h =
    let d = truth (next_word from) b (Short from.place) (BadBool from.place) (advance 4 from) to (nat_lt (length from.left) 4) h in
    let few = enough (length from.left) 4 d.0 in
    takes SpellsBool from to b 4 few d.2 (record { four = length-take-le 4 from.left few; worth = d.1 })

pub bool_back : (from to : Cursor) (b : Bool) → Takes SpellsBool from b to → bool_at from ≡ Ok (b, to)
unfolding bool_at
bool_back from to false t =
    rw (le-ltb (length from.left) 4 (fits 4 t.front from to t.spelled.four t.left), word_front from to 0 t.front t.spelled t.left, advanced 4 t.front from to t.spelled.four t.left t.place) refl
bool_back from to true t =
    rw (le-ltb (length from.left) 4 (fits 4 t.front from to t.spelled.four t.left), word_front from to 1 t.front t.spelled t.left, advanced 4 t.front from to t.spelled.four t.left t.place) refl

pub bool_spells : (b : Bool) → SpellsBool (bool_text b) b
unfolding bool_text
bool_spells true = word_spells 1 (omega arith)
bool_spells false = word_spells 0 (omega arith)

pub bool_again : (place : ℕ) (b : Bool) (rest : List ℕ) → bool_at (record { place = place; left = bool_text b ++ rest }) ≡ Ok (b, record { place = place + 4; left = rest })
bool_again place b rest =
    let from : Cursor = record { place = place; left = bool_text b ++ rest } in
    let s = bool_spells b in
    bool_back from (record { place = place + 4; left = rest }) b (record { front = bool_text b; spelled = s; left = refl; place = ap (λ (k : ℕ). place + k) (sym s.four) })
