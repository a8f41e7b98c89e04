-- A piece, whatever was taken before.
use Rattle.std.proofs.Common.{◌≡◌, ℕ, ◌+◌, ◌-◌, ◌≤◌, List, [], ◌∷◌, ◌++◌, length, take, drop, refl, sym, ap, ◌∙◌, subst, arith, length-append, length-drop, append-nil, Option, Some, None, Result, Ok, Err}
use Rattle.std.proofs.Math.Seq.{take-append-add}
use Rattle.rpc_record.specs.declared.fault.FrameFault.{FrameFault}
use Rattle.rpc_record.specs.Records.{Front, Open, Fault, Whole, front, Rest, Broken, Records, then_record, records}
use Rattle.rpc_record.specs.Assembly.{Assembly, empty_assembly, FeedResult, feed_by_front, feed_result_after, feed_result, ready_records, MatchesStream}
use Rattle.rpc_record.proofs.Fronts.{front_empty, whole_cut, open_before, take_all}
use Rattle.rpc_record.proofs.Streams.{records_open, records_fault, records_whole, goes_on, rest_open, stays_broken}

pub stands_start : MatchesStream [] [] empty_assembly
stands_start = let r = records_open [] front_empty in record { whole = ap (λ (k : Records). k.whole) r; end = ap (λ (k : Records). k.end) r }

pub stands_next : (given : List (List ℕ)) (bytes : List ℕ) (s : Assembly) → MatchesStream given bytes s → MatchesStream (given ++ ready_records s.ready) bytes (record s { ready = None })
stands_next given bytes s h = record { whole = h.whole ∙ sym (append-nil (given ++ ready_records s.ready)); end = h.end }

-- the records after a piece, where nothing was at fault or ready
whole_after : (given : List (List ℕ)) (bytes piece : List ℕ) (held : List ℕ) → (records bytes).whole ≡ given ++ [] → (records bytes).end ≡ Rest held → (records (bytes ++ piece)).whole ≡ given ++ (records (held ++ piece)).whole
whole_after given bytes piece held w e =
    ap (λ (k : Records). k.whole) (goes_on bytes held piece e) ∙ ap (λ (k : List (List ℕ)). k ++ (records (held ++ piece)).whole) (w ∙ append-nil given)

end_after : (bytes piece held : List ℕ) → (records bytes).end ≡ Rest held → (records (bytes ++ piece)).end ≡ (records (held ++ piece)).end
end_after bytes piece held e = ap (λ (k : Records). k.end) (goes_on bytes held piece e)

-- an assembly at rest
abbrev resting : List ℕ → Assembly
resting held = record { held = held; ready = None; fault = None }

abbrev of_fed : Result ℕ FrameFault → Assembly → FeedResult
of_fed r t = (r, t)

abbrev ok_of : ℕ → Result ℕ FrameFault
ok_of n = Ok n

abbrev err_of : FrameFault → Result ℕ FrameFault
err_of f = Err f

ok_parts : (m n : ℕ) (s t : Assembly) → of_fed (Ok m) s ≡ of_fed (Ok n) t → (m ≡ n) × (s ≡ t)
ok_parts m n s t e =
    let r : ok_of m ≡ ok_of n = ap (λ (k : FeedResult). k.0) e in
    let same : m ≡ n = cc in
    (same, ap (λ (k : FeedResult). k.1) e)

err_parts : (m n : FrameFault) (s t : Assembly) → of_fed (Err m) s ≡ of_fed (Err n) t → (m ≡ n) × (s ≡ t)
err_parts m n s t e =
    let r : err_of m ≡ err_of n = ap (λ (k : FeedResult). k.0) e in
    let same : m ≡ n = cc in
    (same, ap (λ (k : FeedResult). k.1) e)

ok_not_err : (m : ℕ) (f : FrameFault) (s t : Assembly) → of_fed (Ok m) s ≡ of_fed (Err f) t → ⊥
ok_not_err m f s t e = let r : ok_of m ≡ err_of f = ap (λ (k : FeedResult). k.0) e in cc

err_not_ok : (m : ℕ) (f : FrameFault) (s t : Assembly) → of_fed (Err f) s ≡ of_fed (Ok m) t → ⊥
err_not_ok m f s t e = let r : err_of f ≡ ok_of m = ap (λ (k : FeedResult). k.0) e in cc

-- the bytes of a whole record that are taken
pub record_alone : (held piece joined rest : List ℕ) → front held ≡ Open → front (held ++ piece) ≡ Whole joined rest → (length rest ≤ length piece) × (front (held ++ take (length piece - length rest) piece) ≡ Whole joined [])
record_alone held piece joined rest o w =
    let few = open_before held piece joined rest o w in
    let n : length (held ++ piece) - length rest ≡ length held + (length piece - length rest) = omega (arith, length-append held piece) in
    let t : take (length (held ++ piece) - length rest) (held ++ piece) ≡ held ++ take (length piece - length rest) piece = ap (λ (k : ℕ). take k (held ++ piece)) n ∙ take-append-add held piece (length piece - length rest) in
    (few, ap front (sym t) ∙ whole_cut (held ++ piece) joined rest w)

taken_step : (given : List (List ℕ)) (bytes piece held : List ℕ) (t : Assembly) (count : ℕ) → MatchesStream given bytes (resting held) → (f : Front) → front (held ++ piece) ≡ f → feed_by_front (resting held) piece f ≡ of_fed (Ok count) t
    → (count ≤ length piece) × MatchesStream given (bytes ++ take count piece) t
taken_step given bytes piece held t count s Open e h =
    let p = ok_parts (length piece) count (resting (held ++ piece)) t h in
    let all : bytes ++ take count piece ≡ bytes ++ piece = ap (λ (k : List ℕ). bytes ++ k) (take_all count piece p.0) in
    let r = records_open (held ++ piece) e in
    let stands : MatchesStream given (bytes ++ piece) (resting (held ++ piece)) =
    record { whole = whole_after given bytes piece held s.whole s.end ∙ ap (λ (k : Records). given ++ k.whole) r; end = end_after bytes piece held s.end ∙ ap (λ (k : Records). k.end) r } in
    (omega (arith, p.0), subst (λ (k : Assembly). MatchesStream given (bytes ++ take count piece) k) p.1 (subst (λ (k : List ℕ). MatchesStream given k (resting (held ++ piece))) (sym all) stands))
taken_step given bytes piece held t count s (Fault fault) e h = absurd (err_not_ok count fault _ t h)
taken_step given bytes piece held t count s (Whole joined rest) e h =
    let after : Assembly = record { held = []; ready = Some joined; fault = None } in
    let n = length piece - length rest in
    let p = ok_parts n count after t h in
    let o = rest_open bytes held s.end in
    let alone = record_alone held piece joined rest o e in
    let part = take n piece in
    let nothing = records_open [] front_empty in
    let r : records (held ++ part) ≡ record { whole = joined ∷ []; end = Rest [] } = records_whole (held ++ part) joined [] alone.1 ∙ ap (λ (k : Records). then_record joined k) nothing in
    let stands : MatchesStream given (bytes ++ part) after =
    record { whole = whole_after given bytes part held s.whole s.end ∙ ap (λ (k : Records). given ++ k.whole) r; end = end_after bytes part held s.end ∙ ap (λ (k : Records). k.end) r } in
    (omega (arith, p.0), subst (λ (k : Assembly). MatchesStream given (bytes ++ take count piece) k) p.1 (subst (λ (k : ℕ). MatchesStream given (bytes ++ take k piece) after) p.0 stands))

fault_step : (given : List (List ℕ)) (bytes piece held : List ℕ) (t : Assembly) (fault : FrameFault) → MatchesStream given bytes (resting held) → (f : Front) → front (held ++ piece) ≡ f → feed_by_front (resting held) piece f ≡ of_fed (Err fault) t
    → ((records (bytes ++ piece)).end ≡ Broken fault) × MatchesStream given (bytes ++ piece) t
fault_step given bytes piece held t fault s Open e h = absurd (ok_not_err (length piece) fault _ t h)
fault_step given bytes piece held t fault s (Whole joined rest) e h = absurd (ok_not_err (length piece - length rest) fault _ t h)
fault_step given bytes piece held t fault s (Fault other) e h =
    let after : Assembly = record { held = held; ready = None; fault = Some other } in
    let p = err_parts other fault after t h in
    let r = records_fault (held ++ piece) other e in
    let ends : (records (bytes ++ piece)).end ≡ Broken other = end_after bytes piece held s.end ∙ ap (λ (k : Records). k.end) r in
    let stands : MatchesStream given (bytes ++ piece) after =
    record { whole = whole_after given bytes piece held s.whole s.end ∙ ap (λ (k : Records). given ++ k.whole) r; end = ends } in
    (ends ∙ ap (λ (k : FrameFault). Broken k) p.0, subst (λ (k : Assembly). MatchesStream given (bytes ++ piece) k) p.1 stands)

broken_stands : (given : List (List ℕ)) (bytes piece held : List ℕ) (fault : FrameFault) → MatchesStream given bytes (record { held = held; ready = None; fault = Some fault }) → ((records (bytes ++ piece)).end ≡ Broken fault) × MatchesStream given (bytes ++ piece) (record { held = held; ready = None; fault = Some fault })
broken_stands given bytes piece held fault s =
    let same = stays_broken bytes piece fault s.end in
    let ends : (records (bytes ++ piece)).end ≡ Broken fault = ap (λ (k : Records). k.end) same ∙ s.end in
    (ends, record { whole = ap (λ (k : Records). k.whole) same ∙ s.whole; end = ends })

taken_by : (given : List (List ℕ)) (bytes piece held : List ℕ) (ready : Option (List ℕ)) (fault : Option FrameFault) (t : Assembly) (count : ℕ)
    → MatchesStream given bytes (record { held = held; ready = ready; fault = fault }) → ready ≡ None → feed_result (record { held = held; ready = ready; fault = fault }) piece ≡ of_fed (Ok count) t → (count ≤ length piece) × MatchesStream given (bytes ++ take count piece) t
unfolding feed_result
taken_by given bytes piece held (Some r) fault t count s e h = absurd (cc)
taken_by given bytes piece held None (Some fault) t count s e h = absurd (err_not_ok count fault _ t h)
taken_by given bytes piece held None None t count s e h = taken_step given bytes piece held t count s (front (held ++ piece)) refl h

pub stands_taken : (given : List (List ℕ)) (bytes piece : List ℕ) (s t : Assembly) (count : ℕ) → MatchesStream given bytes s → s.ready ≡ None → feed_result s piece ≡ (Ok count, t) → (count ≤ length piece) × MatchesStream given (bytes ++ take count piece) t
stands_taken given bytes piece s t count h e f = taken_by given bytes piece s.held s.ready s.fault t count h e f

fault_by : (given : List (List ℕ)) (bytes piece held : List ℕ) (ready : Option (List ℕ)) (fault : Option FrameFault) (t : Assembly) (answer : FrameFault)
    → MatchesStream given bytes (record { held = held; ready = ready; fault = fault }) → ready ≡ None → feed_result (record { held = held; ready = ready; fault = fault }) piece ≡ of_fed (Err answer) t → ((records (bytes ++ piece)).end ≡ Broken answer) × MatchesStream given (bytes ++ piece) t
unfolding feed_result
fault_by given bytes piece held (Some r) fault t answer s e h = absurd (cc)
fault_by given bytes piece held None (Some fault) t answer s e h =
    let p = err_parts fault answer _ t h in
    let b = broken_stands given bytes piece held fault s in
    (b.0 ∙ ap (λ (k : FrameFault). Broken k) p.0, subst (λ (k : Assembly). MatchesStream given (bytes ++ piece) k) p.1 b.1)
fault_by given bytes piece held None None t answer s e h = fault_step given bytes piece held t answer s (front (held ++ piece)) refl h

pub stands_fault : (given : List (List ℕ)) (bytes piece : List ℕ) (s t : Assembly) (fault : FrameFault) → MatchesStream given bytes s → s.ready ≡ None → feed_result s piece ≡ (Err fault, t) → ((records (bytes ++ piece)).end ≡ Broken fault) × MatchesStream given (bytes ++ piece) t
stands_fault given bytes piece s t fault h e f = fault_by given bytes piece s.held s.ready s.fault t fault h e f

-- What a piece does, by what stands in front.
pub fed_broken : (s : Assembly) (piece : List ℕ) (fault : FrameFault) → s.fault ≡ Some fault → feed_result s piece ≡ (Err fault, s)
unfolding feed_result
fed_broken s piece fault e = ap (λ (k : Option FrameFault). feed_result_after k s piece) e

pub by_fault : (s : Assembly) (piece : List ℕ) → s.fault ≡ None → feed_result s piece ≡ feed_by_front s piece (front (s.held ++ piece))
unfolding feed_result
by_fault s piece e = ap (λ (k : Option FrameFault). feed_result_after k s piece) e

pub fed_open : (s : Assembly) (piece : List ℕ) → s.fault ≡ None → front (s.held ++ piece) ≡ Open → feed_result s piece ≡ (Ok (length piece), record s { held = s.held ++ piece })
fed_open s piece e o = by_fault s piece e ∙ ap (λ (k : Front). feed_by_front s piece k) o

pub fed_fault : (s : Assembly) (piece : List ℕ) (fault : FrameFault) → s.fault ≡ None → front (s.held ++ piece) ≡ Fault fault → feed_result s piece ≡ (Err fault, record s { fault = Some fault })
fed_fault s piece fault e o = by_fault s piece e ∙ ap (λ (k : Front). feed_by_front s piece k) o

pub fed_whole : (s : Assembly) (piece joined rest : List ℕ) → s.fault ≡ None → front (s.held ++ piece) ≡ Whole joined rest → feed_result s piece ≡ (Ok (length piece - length rest), record s { held = []; ready = Some joined })
fed_whole s piece joined rest e o = by_fault s piece e ∙ ap (λ (k : Front). feed_by_front s piece k) o

-- What a piece does, as the program keeps it.
module _ (s : Assembly) (piece held : List ℕ) (sound : s.fault ≡ None) where
  pub fed_all : front (s.held ++ piece) ≡ Open → held ≡ s.held ++ piece → feed_result s piece ≡ (Ok (length piece), record s { held = held })
  fed_all o e = fed_open s piece sound o ∙ ap (λ (k : List ℕ). (Ok (length piece), record s { held = k })) (sym e)

  pub fed_record : (message : List ℕ) (count : ℕ) → front (s.held ++ piece) ≡ Whole message (drop count piece) → count ≤ length piece → held ≡ [] → feed_result s piece ≡ (Ok count, record s { held = held; ready = Some message })
  fed_record message count o few e =
      let size : length piece - length (drop count piece) ≡ count = omega (arith, length-drop count piece) in
      fed_whole s piece message (drop count piece) sound o ∙ ap (λ (k : ℕ). (Ok k, record s { held = []; ready = Some message })) size ∙ ap (λ (k : List ℕ). (Ok count, record s { held = k; ready = Some message })) (sym e)

  pub fed_refusal : (fault : FrameFault) → front (s.held ++ piece) ≡ Fault fault → held ≡ s.held → feed_result s piece ≡ (Err fault, record s { held = held; fault = Some fault })
  fed_refusal fault o e = fed_fault s piece fault sound o ∙ ap (λ (k : List ℕ). (Err fault, record s { held = k; fault = Some fault })) (sym e)
