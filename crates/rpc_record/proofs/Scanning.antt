-- A record that is whole, at a header of it.
use Rattle.std.proofs.Common.{◌⊎◌, inl, inr, ◌≡◌, ℕ, zero, suc, ◌+◌, ◌-◌, ◌<◌, ◌≤◌, true, false, List, ◌++◌, length, sym, ap, ◌∙◌, arith}
use Rattle.std.proofs.lemmas.Bool.{cases_lt}
use Rattle.rpc_record.specs.Records.{record_max, fragment_len, is_last, fragment_body, bytes_behind, Front, Whole, front_from}
use Rattle.rpc_record.proofs.Steps.{open_short, too_many, too_long, open_cut, whole_last, front_more}

-- What holds at a header where the record is whole, and `after` follows it.
pub record Joining (left : ℕ) (have rest : List ℕ) (f : Front) (after : List ℕ) : Type 0 where
  pub so_far : f ≡ front_from left have rest
  pub whole : List ℕ
  pub ends : f ≡ Whole whole after

pub some_header : (left : ℕ) (have rest : List ℕ) (f : Front) (after : List ℕ) → Joining left have rest f after → 4 ≤ length rest
some_header left have rest f after j = go (cases_lt (length rest) 4) where
  go : (length rest < 4) ⊎ (4 ≤ length rest) → 4 ≤ length rest
  go (inl h) = let e = sym j.so_far ∙ j.ends in let o = open_short left have rest h in absurd (cc)
  go (inr h) = h

pub some_left : (left : ℕ) (have rest : List ℕ) (f : Front) (after : List ℕ) → Joining left have rest f after → 0 < left
some_left zero have rest f after j = let e = sym j.so_far ∙ j.ends in let o = too_many have rest (some_header 0 have rest f after j) in absurd (cc)
some_left (suc left) have rest f after j = omega arith

pub some_room : (left : ℕ) (have rest : List ℕ) (f : Front) (after : List ℕ) → Joining left have rest f after → length have + fragment_len rest ≤ record_max
some_room left have rest f after j = go (cases_lt record_max (length have + fragment_len rest)) where
  go : (record_max < length have + fragment_len rest) ⊎ (length have + fragment_len rest ≤ record_max) → length have + fragment_len rest ≤ record_max
  go (inl h) =
      let some = some_left left have rest f after j in
      let e = sym j.so_far ∙ j.ends in
      let o = too_long left (left - 1) have rest (omega arith) (some_header left have rest f after j) h in
      absurd (cc)
  go (inr h) = h

pub some_body : (left : ℕ) (have rest : List ℕ) (f : Front) (after : List ℕ) → Joining left have rest f after → 4 + fragment_len rest ≤ length rest
some_body left have rest f after j = go (cases_lt (length rest) (4 + fragment_len rest)) where
  go : (length rest < 4 + fragment_len rest) ⊎ (4 + fragment_len rest ≤ length rest) → 4 + fragment_len rest ≤ length rest
  go (inl h) =
      let some = some_left left have rest f after j in
      let e = sym j.so_far ∙ j.ends in
      let o = open_cut left (left - 1) have rest (omega arith) (some_header left have rest f after j) (some_room left have rest f after j) h in
      absurd (cc)
  go (inr h) = h

pub join_last : (left : ℕ) (have rest : List ℕ) (f : Front) (after : List ℕ) → Joining left have rest f after → is_last rest ≡ true → (f ≡ Whole (have ++ fragment_body rest) after) × (bytes_behind rest ≡ after)
join_last left have rest f after j t =
    let some = some_left left have rest f after j in
    let e : f ≡ Whole (have ++ fragment_body rest) (bytes_behind rest) = j.so_far ∙ whole_last left (left - 1) have rest (omega arith) (some_body left have rest f after j) (some_room left have rest f after j) t in
    let same : Whole (have ++ fragment_body rest) (bytes_behind rest) ≡ Whole j.whole after = sym e ∙ j.ends in
    let none : bytes_behind rest ≡ after = cc in
    (e ∙ ap (λ (k : List ℕ). Whole (have ++ fragment_body rest) k) none, none)

pub join_more : (left : ℕ) (have rest : List ℕ) (f : Front) (after : List ℕ) → Joining left have rest f after → is_last rest ≡ false → Joining (left - 1) (have ++ fragment_body rest) (bytes_behind rest) f after
join_more left have rest f after j t =
    let some = some_left left have rest f after j in
    record { so_far = j.so_far ∙ front_more left (left - 1) have rest (omega arith) (some_body left have rest f after j) (some_room left have rest f after j) t; whole = j.whole; ends = j.ends }
