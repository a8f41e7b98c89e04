-- The bytes of a record that isn't whole, as they were received.
use Rattle.std.proofs.Common.{◌≡◌, ℕ, ◌+◌, ◌≤◌, List, [], ◌∷◌, ◌++◌, length, take, drop, refl, sym, ap, ◌∙◌, arith, append_assoc, append-nil, length-drop}
use Rattle.std.proofs.lemmas.List.{take-append-drop, take-append-le, drop-append-le}
use Rattle.rpc_record.specs.Records.{fragment_len}
use Rattle.rpc_record.specs.Presents.{bytes_under, received}

nothing : (xs : List ℕ) → length xs ≡ 0 → xs ≡ []
nothing [] e = refl
nothing (x ∷ xs) e = absurd (omega arith)

-- more of a header, where the bytes of the whole fragments are all
pub received_header : (words : List (List ℕ)) (part more joined : List ℕ) → bytes_under words ≡ length joined → received words (part ++ more) joined ≡ received words part joined ++ more
received_header [] part more joined e =
    let none = nothing joined (sym e) in
    ap (λ (k : List ℕ). (part ++ more) ++ k) none ∙ append-nil (part ++ more) ∙ ap (λ (k : List ℕ). k ++ more) (sym (append-nil part)) ∙ ap (λ (k : List ℕ). (part ++ k) ++ more) (sym none)
received_header (word ∷ words) part more joined e =
    let n = fragment_len word in
    let size : bytes_under words ≡ length (drop n joined) = omega (arith, length-drop n joined) in
    let step = received_header words part more (drop n joined) size in
    ap (λ (k : List ℕ). word ++ take n joined ++ k) step ∙ sym (append_assoc (word ++ take n joined) (received words part (drop n joined)) more)

-- more bytes of the present fragment
pub received_bytes : (words : List (List ℕ)) (part joined more : List ℕ) → bytes_under words ≤ length joined → received words part (joined ++ more) ≡ received words part joined ++ more
received_bytes [] part joined more h = sym (append_assoc part joined more)
received_bytes (word ∷ words) part joined more h =
    let n = fragment_len word in
    let within : n ≤ length joined = omega arith in
    let size : bytes_under words ≤ length (drop n joined) = omega (arith, length-drop n joined) in
    let step = received_bytes words part (drop n joined) more size in
    ap (λ (k : List ℕ). word ++ k ++ received words part (drop n (joined ++ more))) (take-append-le n joined more within)
    ∙ ap (λ (k : List ℕ). word ++ take n joined ++ received words part k) (drop-append-le n joined more within)
    ∙ ap (λ (k : List ℕ). word ++ take n joined ++ k) step ∙ sym (append_assoc (word ++ take n joined) (received words part (drop n joined)) more)

-- the present fragment is whole
pub received_finish : (words : List (List ℕ)) (part joined : List ℕ) → received (words ++ part ∷ []) [] joined ≡ received words part joined
received_finish [] part joined =
    let n = fragment_len part in
    append_assoc part (take n joined) (drop n joined) ∙ ap (λ (k : List ℕ). part ++ k) (take-append-drop n joined)
received_finish (word ∷ words) part joined = ap (λ (k : List ℕ). word ++ take (fragment_len word) joined ++ k) (received_finish words part (drop (fragment_len word) joined))

pub bytes_under_more : (words : List (List ℕ)) (word : List ℕ) → bytes_under (words ++ word ∷ []) ≡ bytes_under words + fragment_len word
bytes_under_more [] word = omega arith
bytes_under_more (first ∷ words) word = omega (arith, bytes_under_more words word)
