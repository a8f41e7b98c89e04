-- Words that are read one by one.
use Rattle.std.proofs.Common.{◌≡◌, ℕ, suc, ◌+◌, List, [], ◌∷◌, ◌++◌, refl, sym, ap, ◌∙◌, add-one, append_assoc, append-nil, Ok, Err}
use Rattle.xdr.specs.declared.fault.XdrFault.{XdrFault}
use Rattle.xdr.specs.Reading.{Cursor, Reading, u32_at}
use Rattle.rpc_msg.specs.Calls.{◌>>=◌, words_at}

-- words that were read before, in front of a reading
abbrev pub joined_words : List ℕ → Reading (List ℕ) → Reading (List ℕ)
joined_words ws (Ok p) = Ok (ws ++ p.0, p.1)
joined_words ws (Err fault) = Err fault

abbrev with_first : ℕ → Reading (List ℕ) → Reading (List ℕ)
with_first w r = r >>= (λ vs. Ok (w ∷ vs.0, vs.1))

abbrev after_word : ℕ → ℕ × Cursor → Reading (List ℕ)
after_word n w = words_at n w.1 >>= (λ ws. Ok (w.0 ∷ ws.0, ws.1))

words_step : (n : ℕ) (c : Cursor) → words_at (suc n) c ≡ (u32_at c >>= (λ w. after_word n w))
unfolding words_at
words_step n c = refl

words_done : (c : Cursor) → words_at 0 c ≡ Ok ([], c)
unfolding words_at
words_done c = refl

pub words_start : (n : ℕ) (c : Cursor) → joined_words [] (words_at n c) ≡ words_at n c
words_start n c = go (words_at n c) where
  go : (r : Reading (List ℕ)) → joined_words [] r ≡ r
  go (Ok p) = refl
  go (Err fault) = refl

first_joined : (ws : List ℕ) (w : ℕ) (r : Reading (List ℕ)) → joined_words ws (with_first w r) ≡ joined_words (ws ++ w ∷ []) r
first_joined ws w (Ok p) = ap (λ (k : List ℕ). Ok (k, p.1)) (sym (append_assoc ws (w ∷ []) p.0))
first_joined ws w (Err fault) = refl

pub words_more : (n left w : ℕ) (c to : Cursor) (ws : List ℕ) → n ≡ left + 1 → u32_at c ≡ Ok (w, to) → joined_words ws (words_at n c) ≡ joined_words (ws ++ w ∷ []) (words_at left to)
words_more n left w c to ws e h =
    ap (λ (k : ℕ). joined_words ws (words_at k c)) (e ∙ add-one left)
    ∙ ap (λ (r : Reading (List ℕ)). joined_words ws r) (words_step left c ∙ ap (λ (r : Reading ℕ). r >>= (λ v. after_word left v)) h)
    ∙ first_joined ws w (words_at left to)

pub words_fault : (n left : ℕ) (c : Cursor) (fault : XdrFault) (ws : List ℕ) → n ≡ left + 1 → u32_at c ≡ Err fault → joined_words ws (words_at n c) ≡ Err fault
words_fault n left c fault ws e h =
    ap (λ (k : ℕ). joined_words ws (words_at k c)) (e ∙ add-one left)
    ∙ ap (λ (r : Reading (List ℕ)). joined_words ws r) (words_step left c ∙ ap (λ (r : Reading ℕ). r >>= (λ v. after_word left v)) h)

pub words_end : (n : ℕ) (c : Cursor) (ws : List ℕ) → n ≡ 0 → joined_words ws (words_at n c) ≡ Ok (ws, c)
words_end n c ws e =
    ap (λ (k : ℕ). joined_words ws (words_at k c)) e ∙ ap (λ (r : Reading (List ℕ)). joined_words ws r) (words_done c) ∙ ap (λ (k : List ℕ). Ok (k, c)) (append-nil ws)
