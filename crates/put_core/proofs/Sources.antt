-- The contents of its chunks, end to end, are the source.
use Rattle.std.proofs.Common.{◌≡◌, ℕ, zero, suc, ◌+◌, ◌*◌, ◌<◌, ◌≤◌, Bool, true, cond, List, [], ◌++◌, refl, sym, ◌∙◌, ap, arith, length, take, drop}
use Rattle.std.specs.List.{flat_map, range_with_len}
use Rattle.std.proofs.Math.Seq.{take-add}
use Rattle.std.proofs.lemmas.List.{drop-drop, take_all}
use Rattle.std.proofs.lemmas.Grind.{div_ceil_times}
use Rattle.put_core.specs.Steps.{chunk_count}
use Rattle.put_core.specs.Network.{is_in, after_events, new_upload, chunk_content, DoneIsSource}
use Rattle.put_core.proofs.Network.{done_is_durable}

-- The contents of the chunks from a on, all of them durable, are the bytes from there on.
contents_from : (source durable : List ℕ) (chunk n a m : ℕ) → m ≡ n * chunk → ((c : ℕ) → a ≤ c → c < a + n → is_in (c * chunk) durable ≡ true)
    → flat_map (λ c. cond (is_in (c * chunk) durable) (chunk_content source chunk c) []) (range_with_len a n) ≡ take m (drop (a * chunk) source)
contents_from source durable chunk zero a m is all =
    let none : m ≡ 0 = grind arith in
    rw none refl
contents_from source durable chunk (suc n) a m is all =
    let here : is_in (a * chunk) durable ≡ true = all a (omega arith) (omega arith) in
    let next : (a + 1) * chunk ≡ a * chunk + chunk = grind arith in
    let more : m ≡ chunk + n * chunk = is ∙ grind arith in
    let rest : flat_map (λ c. cond (is_in (c * chunk) durable) (chunk_content source chunk c) []) (range_with_len (a + 1) n) ≡ take (n * chunk) (drop ((a + 1) * chunk) source)
    = contents_from source durable chunk n (a + 1) (n * chunk) refl (λ c low high. all c (omega arith) (omega arith)) in
    ap (λ (b : Bool). cond b (chunk_content source chunk a) [] ++ flat_map (λ c. cond (is_in (c * chunk) durable) (chunk_content source chunk c) []) (range_with_len (a + 1) n)) here
    ∙ (ap (λ (xs : List ℕ). chunk_content source chunk a ++ xs) (rest ∙ (ap (λ (k : ℕ). take (n * chunk) (drop k source)) next ∙ ap (λ (xs : List ℕ). take (n * chunk) xs) (sym (drop-drop chunk (a * chunk) source))))
    ∙ (sym (take-add chunk (n * chunk) (drop (a * chunk) source)) ∙ ap (λ (k : ℕ). take k (drop (a * chunk) source)) (sym more)))

pub done_is_source : DoneIsSource
done_is_source source chunk window verifier backward events v some is =
    let n : ℕ = chunk_count (length source) chunk in
    let none : 0 * chunk ≡ 0 = grind arith in
    contents_from source (after_events events (new_upload (length source) chunk window backward verifier)).peer.durable chunk n 0 (n * chunk) refl (λ c low high. done_is_durable (length source) chunk window verifier backward events v is c (omega arith))
    ∙ (ap (λ (k : ℕ). take (n * chunk) (drop k source)) none ∙ take_all (n * chunk) source (div_ceil_times (length source) chunk some).0)
