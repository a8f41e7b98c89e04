-- What an assembler makes of a piece, as the stream sees it.
use Rattle.std.proofs.Common.{◌≡◌, ℕ, ◌+◌, ◌-◌, ◌<◌, ◌≤◌, Option, None, Some, Result, Ok, Err, List, [], ◌++◌, length, take, drop, refl, sym, ◌∙◌, ap, append_assoc, length-append, length-drop, arith}
use Rattle.std.proofs.lemmas.List.{take-append-drop}
use Rattle.rpc_record.specs.declared.fault.FrameFault.{FrameFault}
use Rattle.rpc_record.specs.Records.{Front, Open, Fault, Whole, front}
use Rattle.rpc_record.specs.Assembly.{Assembly, FeedResult, feed_by_front, feed_result}
use Rattle.rpc_record.proofs.Fronts.{front_empty, whole_more, whole_shrinks}
use Rattle.rpc_record.proofs.Pieces.{by_fault, record_alone}

-- what is ready after a piece of which n bytes were taken, and what is held
abbrev pub Takes : Option (List ℕ) → List ℕ → List ℕ → ℕ → List ℕ → Type 0
Takes None held piece n new = (front (held ++ piece) ≡ Open) × (new ≡ held ++ piece)
Takes (Some message) held piece n new = (front (held ++ piece) ≡ Whole message (drop n piece)) × (n ≤ length piece) × (new ≡ [])

-- the bytes behind a record that a piece completes
behind_record : (held piece joined rest : List ℕ) → front held ≡ Open → front (held ++ piece) ≡ Whole joined rest → front (held ++ piece) ≡ Whole joined (drop (length piece - length rest) piece)
behind_record held piece joined rest o w =
    let n = length piece - length rest in
    let alone = whole_more (held ++ take n piece) (drop n piece) joined [] (record_alone held piece joined rest o w).1 in
    let all : (held ++ take n piece) ++ drop n piece ≡ held ++ piece = append_assoc held (take n piece) (drop n piece) ∙ ap (λ x. held ++ x) (take-append-drop n piece) in
    ap front (sym all) ∙ alone

module _ (s t : Assembly) (piece : List ℕ) (sound : s.fault ≡ None) (o : front s.held ≡ Open) where
  pub feeds_ok : (n : ℕ) → s.ready ≡ None → feed_result s piece ≡ (Ok n, t) → Takes t.ready s.held piece n t.held × (t.fault ≡ None) × (front t.held ≡ Open)
  feeds_ok n none e = go (front (s.held ++ piece)) refl (sym (by_fault s piece sound) ∙ e)
    where
      go : (f : Front) → front (s.held ++ piece) ≡ f → feed_by_front s piece f ≡ (Ok n, t) → Takes t.ready s.held piece n t.held × (t.fault ≡ None) × (front t.held ≡ Open)
      go Open is q =
          let after : record s { held = s.held ++ piece } ≡ t = ap (λ (k : FeedResult). k.1) q in
          rw (← after, none, sound) ((is, refl), refl, is)
      go (Fault fault) is q = let no : (let r : Result ℕ FrameFault = Err fault in r) ≡ Ok n = ap (λ (k : FeedResult). k.0) q in absurd (cc no)
      go (Whole joined rest) is q =
          let after : record s { held = []; ready = Some joined } ≡ t = ap (λ (k : FeedResult). k.1) q in
          let count : (let r : Result ℕ FrameFault = Ok (length piece - length rest) in r) ≡ Ok n = ap (λ (k : FeedResult). k.0) q in
          let m : length piece - length rest ≡ n = cc in
          let behind : front (s.held ++ piece) ≡ Whole joined (drop n piece) = behind_record s.held piece joined rest o is ∙ ap (λ k. Whole joined (drop k piece)) m in
          rw (← after, sound) ((behind, omega (arith, m), refl), refl, front_empty)

  pub feeds_fault : (fault : FrameFault) → feed_result s piece ≡ (Err fault, t) → front (s.held ++ piece) ≡ Fault fault
  feeds_fault fault e = go (front (s.held ++ piece)) refl (sym (by_fault s piece sound) ∙ e)
    where
      go : (f : Front) → front (s.held ++ piece) ≡ f → feed_by_front s piece f ≡ (Err fault, t) → front (s.held ++ piece) ≡ Fault fault
      go Open is q = let no : (let r : Result ℕ FrameFault = Ok (length piece) in r) ≡ Err fault = ap (λ (k : FeedResult). k.0) q in absurd (cc no)
      go (Fault other) is q =
          let same : (let r : Result ℕ FrameFault = Err other in r) ≡ Err fault = ap (λ (k : FeedResult). k.0) q in
          let f : other ≡ fault = cc in
          is ∙ ap Fault f
      go (Whole joined rest) is q = let no : (let r : Result ℕ FrameFault = Ok (length piece - length rest) in r) ≡ Err fault = ap (λ (k : FeedResult). k.0) q in absurd (cc no)

-- what completes a record is that record alone
pub record_taken : (held piece message : List ℕ) (taken : ℕ) → front held ≡ Open → front (held ++ piece) ≡ Whole message (drop taken piece) → taken ≤ length piece
    → front (held ++ take taken piece) ≡ Whole message []
record_taken held piece message taken o whole within =
    let size = length-drop taken piece in
    let count : length piece - length (drop taken piece) ≡ taken = omega (arith, size) in
    ap (λ (k : ℕ). front (held ++ take k piece)) (sym count) ∙ (record_alone held piece message (drop taken piece) o whole).1

-- each record takes bytes away
pub less_ahead : (held rest message : List ℕ) (taken : ℕ) → front (held ++ rest) ≡ Whole message (drop taken rest) → length (drop taken rest) < length held + length rest
less_ahead held rest message taken whole =
    let shorter = whole_shrinks (held ++ rest) message (drop taken rest) whole in
    let both = length-append held rest in
    omega (arith, shorter, both)
