-- What a store counts, call after call.
use Rattle.std.proofs.Common.{◌≡◌, ℕ, ◌+◌, ◌≤◌, true, false, List, [], ◌∷◌, ◌++◌, sym, ◌∙◌, ap, arith}
use Rattle.gw_outside.specs.Causes.{Rose}
use Rattle.gw_outside.specs.declared.tally.Tally.{Tally}
use Rattle.gw_outside.specs.Tally.{calls_tally, joined_tally, one_call, no_calls}
use Rattle.gw_outside.proofs.Sums.{calls_tally-add, calls_tally-none, joined-calls, joined-none}
use Rattle.gw_model.specs.Ahead.{Outcome, Done, Failed, NoMemory, call_count, failure_count}
use Rattle.gw_model.proofs.Counts.{call_count-append, failure_count-append}
use Rattle.file_calls.specs.Counts.{Counts, IsCounted, joined_counts}

-- no call
pub counted_none : (c : Counts) → IsCounted [] c c
counted_none c = record { calls = sym (calls_tally-none c.tally); fails = omega arith }

-- memory was refused, and there was no call
pub counted_refusal : (event request : ℕ) (c : Counts) → IsCounted (NoMemory event request ∷ []) c c
counted_refusal event request c = record { calls = sym (calls_tally-none c.tally); fails = omega arith }

-- one call that was done, and one that failed
pub counted_done : (a b : Counts) → a.faults ≤ b.faults → b.tally ≡ one_call false a.tally → IsCounted (Done ∷ []) a b
counted_done a b up calls = record { calls = calls; fails = omega (arith, up) }

pub counted_failed : (kept : ℕ) (a b : Counts) → Rose a.faults b.faults → a.faults ≤ b.faults → b.tally ≡ one_call true a.tally → IsCounted (Failed kept ∷ []) a b
counted_failed kept a b rose up calls = record { calls = calls; fails = omega (arith, rose) }

-- the count of faults rose, and no call was made
pub counted_later : (a b : Counts) → a.faults ≤ b.faults → b.tally ≡ a.tally → IsCounted [] a b
counted_later a b up same = record { calls = same ∙ sym (calls_tally-none a.tally); fails = omega (arith, up) }

-- calls after calls
pub counted_trans : (s t : List Outcome) (a b c : Counts) → IsCounted s a b → IsCounted t b c → IsCounted (s ++ t) a c
counted_trans s t a b c p q =
    let calls = call_count-append s t in
    let fails = failure_count-append s t in
    let first = p.fails in
    let second = q.fails in
    record {
      calls = q.calls ∙ ap (calls_tally (call_count t) (failure_count t)) p.calls ∙ calls_tally-add (call_count s) (failure_count s) (call_count t) (failure_count t) a.tally
          ∙ ap (λ n. calls_tally n (failure_count s + failure_count t) a.tally) (sym calls) ∙ ap (λ n. calls_tally (call_count (s ++ t)) n a.tally) (sym fails);
      fails = omega (arith, fails, first, second);
    }

-- calls of a file that is out are calls of its store
pub counted_out : (n : Counts) (s : List Outcome) (a b : Counts) → IsCounted s a b → IsCounted s (joined_counts n a) (joined_counts n b)
counted_out n s a b p =
    let fails = p.fails in
    record {
      calls = ap (joined_tally n.tally) p.calls ∙ joined-calls (call_count s) (failure_count s) n.tally a.tally;
      fails = omega (arith, fails);
    }

-- a file that was just taken counted nothing
pub counts_fresh : (n given : Counts) → given.faults ≡ 0 → given.tally ≡ no_calls → joined_counts n given ≡ n
counts_fresh n given none calls =
    let same : n.faults + given.faults ≡ n.faults = omega (arith, none) in
    ap (λ f. let c : Counts = record { faults = f; tally = joined_tally n.tally given.tally } in c) same
    ∙ ap (λ t. let c : Counts = record { faults = n.faults; tally = joined_tally n.tally t } in c) calls
    ∙ ap (λ t. let c : Counts = record { faults = n.faults; tally = t } in c) (joined-none n.tally)

-- calls, and then memory was refused
pub with_refusal_counted : (s : List Outcome) (a b : Counts) (event request : ℕ) → IsCounted s a b → IsCounted (s ++ NoMemory event request ∷ []) a b
with_refusal_counted s a b event request p = counted_trans s (NoMemory event request ∷ []) a b b p (counted_refusal event request b)

-- a call, by what the store says of it
pub call_done : {n m : ℕ} {t u : Tally} → n ≤ m → u ≡ one_call false t → IsCounted (Done ∷ []) (record { faults = n; tally = t }) (record { faults = m; tally = u })
call_done {n} {m} {t} {u} up calls = counted_done (record { faults = n; tally = t }) (record { faults = m; tally = u }) up calls

pub call_failed : {n m : ℕ} {t u : Tally} → Rose n m → n ≤ m → u ≡ one_call true t → IsCounted (Failed 0 ∷ []) (record { faults = n; tally = t }) (record { faults = m; tally = u })
call_failed {n} {m} {t} {u} rose up calls = counted_failed 0 (record { faults = n; tally = t }) (record { faults = m; tally = u }) rose up calls

-- a file that made no call was given back
pub counted_back : (s : List Outcome) (a b c : Counts) (given : Tally) → IsCounted s a b → b.faults ≤ c.faults → c.tally ≡ joined_tally b.tally given → given ≡ no_calls → IsCounted s a c
counted_back s a b c given p on calls none =
    let fails = p.fails in
    record { calls = calls ∙ ap (joined_tally b.tally) none ∙ joined-none b.tally ∙ p.calls; fails = omega (arith, fails, on) }

pub taken_back : {n m k : ℕ} {t u v w : Tally} → n ≤ m → u ≡ one_call false t → m ≤ k → v ≡ joined_tally u w → w ≡ no_calls
    → IsCounted (Done ∷ []) (record { faults = n; tally = t }) (record { faults = k; tally = v })
taken_back {n} {m} {k} {t} {u} {v} {w} up calls on given none =
    counted_back (Done ∷ []) (record { faults = n; tally = t }) (record { faults = m; tally = u }) (record { faults = k; tally = v }) w
    (counted_done (record { faults = n; tally = t }) (record { faults = m; tally = u }) up calls) on given none
