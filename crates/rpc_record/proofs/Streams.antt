-- The records of a stream and of a longer one.
use Rattle.std.proofs.Common.{◌≡◌, ℕ, zero, suc, ◌+◌, ◌≤◌, List, [], ◌∷◌, ◌++◌, length, refl, sym, ap, ◌∙◌, arith, add-one}
use Rattle.rpc_record.specs.declared.fault.FrameFault.{FrameFault}
use Rattle.rpc_record.specs.Records.{Front, Open, Fault, Whole, front, Rest, Broken, Records, then_record, records_from, records}
use Rattle.rpc_record.proofs.Fronts.{whole_more, fault_more, front_empty, whole_shrinks}

split_by : Front → List ℕ → (List ℕ → Records) → Records
split_by f bytes go = elim f [
  | Open ↦ record { whole = []; end = Rest bytes }
  | Fault fault ↦ record { whole = []; end = Broken fault }
  | Whole joined rest ↦ then_record joined (go rest)
]

records_step : (fuel : ℕ) (bytes : List ℕ) → records_from (suc fuel) bytes ≡ split_by (front bytes) bytes (λ k. records_from fuel k)
unfolding records_from split_by
records_step fuel bytes = refl

split_open : (bytes : List ℕ) (go : List ℕ → Records) → split_by Open bytes go ≡ record { whole = []; end = Rest bytes }
unfolding split_by
split_open bytes go = refl

split_fault : (fault : FrameFault) (bytes : List ℕ) (go : List ℕ → Records) → split_by (Fault fault) bytes go ≡ record { whole = []; end = Broken fault }
unfolding split_by
split_fault fault bytes go = refl

split_whole : (joined rest bytes : List ℕ) (go : List ℕ → Records) → split_by (Whole joined rest) bytes go ≡ then_record joined (go rest)
unfolding split_by
split_whole joined rest bytes go = refl

from_open : (fuel : ℕ) (bytes : List ℕ) → front bytes ≡ Open → records_from fuel bytes ≡ record { whole = []; end = Rest bytes }
unfolding records_from
from_open zero bytes e = refl
from_open (suc fuel) bytes e = records_step fuel bytes ∙ ap (λ (f : Front). split_by f bytes (λ k. records_from fuel k)) e ∙ split_open bytes (λ k. records_from fuel k)

from_fault : (fuel : ℕ) (bytes : List ℕ) (fault : FrameFault) → front bytes ≡ Fault fault → records_from (suc fuel) bytes ≡ record { whole = []; end = Broken fault }
from_fault fuel bytes fault e = records_step fuel bytes ∙ ap (λ (f : Front). split_by f bytes (λ k. records_from fuel k)) e ∙ split_fault fault bytes (λ k. records_from fuel k)

from_whole : (fuel : ℕ) (bytes joined rest : List ℕ) → front bytes ≡ Whole joined rest → records_from (suc fuel) bytes ≡ then_record joined (records_from fuel rest)
from_whole fuel bytes joined rest e = records_step fuel bytes ∙ ap (λ (f : Front). split_by f bytes (λ k. records_from fuel k)) e ∙ split_whole joined rest bytes (λ k. records_from fuel k)

-- as many steps as bytes are enough
abbrev Enough : ℕ → Type 0
Enough n = (m : ℕ) (bytes : List ℕ) → length bytes ≤ n → length bytes ≤ m → records_from n bytes ≡ records_from m bytes

no_bytes : (bytes : List ℕ) → length bytes ≤ 0 → bytes ≡ []
no_bytes [] h = refl
no_bytes (b ∷ bytes) h = absurd (omega (arith, h))

empty_open : (bytes : List ℕ) → length bytes ≤ 0 → front bytes ≡ Open
empty_open bytes h = ap front (no_bytes bytes h) ∙ front_empty

enough_step : (n m : ℕ) (bytes : List ℕ) → Enough n → length bytes ≤ n + 1 → length bytes ≤ m + 1 → (f : Front) → front bytes ≡ f → records_from (suc n) bytes ≡ records_from (suc m) bytes
enough_step n m bytes ih p q Open e = from_open (suc n) bytes e ∙ sym (from_open (suc m) bytes e)
enough_step n m bytes ih p q (Fault fault) e = from_fault n bytes fault e ∙ sym (from_fault m bytes fault e)
enough_step n m bytes ih p q (Whole joined rest) e =
    let s = whole_shrinks bytes joined rest e in
    from_whole n bytes joined rest e ∙ ap (λ (k : Records). then_record joined k) (ih m rest (omega arith) (omega arith)) ∙ sym (from_whole m bytes joined rest e)

enough_fuel : (n : ℕ) → Enough n
enough_fuel zero m bytes p q = from_open 0 bytes (empty_open bytes p) ∙ sym (from_open m bytes (empty_open bytes p))
enough_fuel (suc n) zero bytes p q = from_open (suc n) bytes (empty_open bytes q) ∙ sym (from_open 0 bytes (empty_open bytes q))
enough_fuel (suc n) (suc m) bytes p q = enough_step n m bytes (λ k b x y. enough_fuel n k b x y) (rw (add-one n) p) (rw (add-one m) q) (front bytes) refl

-- the three cases of a stream
pub records_open : (bytes : List ℕ) → front bytes ≡ Open → records bytes ≡ record { whole = []; end = Rest bytes }
unfolding records
records_open bytes e = from_open (length bytes) bytes e

pub records_fault : (bytes : List ℕ) (fault : FrameFault) → front bytes ≡ Fault fault → records bytes ≡ record { whole = []; end = Broken fault }
unfolding records
records_fault [] fault e = let o = front_empty in absurd (cc)
records_fault (b ∷ bytes) fault e = from_fault (length bytes) (b ∷ bytes) fault e

pub records_whole : (bytes joined rest : List ℕ) → front bytes ≡ Whole joined rest → records bytes ≡ then_record joined (records rest)
unfolding records
records_whole [] joined rest e = let o = front_empty in absurd (cc)
records_whole (b ∷ bytes) joined rest e =
    let s = whole_shrinks (b ∷ bytes) joined rest e in
    let less : length rest ≤ length bytes = omega arith in
    from_whole (length bytes) (b ∷ bytes) joined rest e ∙ ap (λ (k : Records). then_record joined k) (enough_fuel (length bytes) (length rest) rest less (omega arith))

-- A stream that ends in a rest goes on as its rest does.
abbrev after_records : List (List ℕ) → Records → Records
after_records front_records rs = record { whole = front_records ++ rs.whole; end = rs.end }

abbrev GoesOn : List ℕ → List ℕ → List ℕ → Type 0
GoesOn bytes held more = records (bytes ++ more) ≡ after_records (records bytes).whole (records (held ++ more))

abbrev Shorter : ℕ → Type 0
Shorter n = (bytes held more : List ℕ) → length bytes ≤ n → (records bytes).end ≡ Rest held → GoesOn bytes held more

goes_open : (bytes held more : List ℕ) → (records bytes).end ≡ Rest held → front bytes ≡ Open → GoesOn bytes held more
goes_open bytes held more h e =
    let r = records_open bytes e in
    let s : Rest bytes ≡ Rest held = ap (λ (k : Records). k.end) (sym r) ∙ h in
    let same : bytes ≡ held = cc in
    let none : (records bytes).whole ≡ [] = ap (λ (k : Records). k.whole) r in
    ap (λ (k : List ℕ). records (k ++ more)) same ∙ ap (λ (k : List (List ℕ)). after_records k (records (held ++ more))) (sym none)

goes_step : (n : ℕ) (bytes held more : List ℕ) → Shorter n → length bytes ≤ n + 1 → (records bytes).end ≡ Rest held → (f : Front) → front bytes ≡ f → GoesOn bytes held more
goes_step n bytes held more ih p h Open e = goes_open bytes held more h e
goes_step n bytes held more ih p h (Fault fault) e =
    let r = records_fault bytes fault e in
    let s : Broken fault ≡ Rest held = ap (λ (k : Records). k.end) (sym r) ∙ h in
    absurd (cc)
goes_step n bytes held more ih p h (Whole joined rest) e =
    let r = records_whole bytes joined rest e in
    let s = whole_shrinks bytes joined rest e in
    let h' : (records rest).end ≡ Rest held = ap (λ (k : Records). k.end) (sym r) ∙ h in
    let g = ih rest held more (omega arith) h' in
    records_whole (bytes ++ more) joined (rest ++ more) (whole_more bytes more joined rest e) ∙ ap (λ (k : Records). then_record joined k) g ∙ ap (λ (k : List (List ℕ)). after_records k (records (held ++ more))) (ap (λ (k : Records). k.whole) (sym r))

goes_on_within : (n : ℕ) → Shorter n
goes_on_within zero bytes held more p h = goes_open bytes held more h (empty_open bytes p)
goes_on_within (suc n) bytes held more p h = goes_step n bytes held more (λ b k m q g. goes_on_within n b k m q g) (rw (add-one n) p) h (front bytes) refl

pub goes_on : (bytes held more : List ℕ) → (records bytes).end ≡ Rest held → GoesOn bytes held more
goes_on bytes held more h = goes_on_within (length bytes) bytes held more (omega arith) h

-- a rest is no whole record
abbrev RestOpen : ℕ → Type 0
RestOpen n = (bytes held : List ℕ) → length bytes ≤ n → (records bytes).end ≡ Rest held → front held ≡ Open

rest_at_open : (bytes held : List ℕ) → (records bytes).end ≡ Rest held → front bytes ≡ Open → front held ≡ Open
rest_at_open bytes held h e =
    let r = records_open bytes e in
    let s : Rest bytes ≡ Rest held = ap (λ (k : Records). k.end) (sym r) ∙ h in
    let same : bytes ≡ held = cc in
    ap front (sym same) ∙ e

rest_step : (n : ℕ) (bytes held : List ℕ) → RestOpen n → length bytes ≤ n + 1 → (records bytes).end ≡ Rest held → (f : Front) → front bytes ≡ f → front held ≡ Open
rest_step n bytes held ih p h Open e = rest_at_open bytes held h e
rest_step n bytes held ih p h (Fault fault) e =
    let r = records_fault bytes fault e in
    let s : Broken fault ≡ Rest held = ap (λ (k : Records). k.end) (sym r) ∙ h in
    absurd (cc)
rest_step n bytes held ih p h (Whole joined rest) e =
    let s = whole_shrinks bytes joined rest e in
    ih rest held (omega arith) (ap (λ (k : Records). k.end) (sym (records_whole bytes joined rest e)) ∙ h)

rest_open_within : (n : ℕ) → RestOpen n
rest_open_within zero bytes held p h = rest_at_open bytes held h (empty_open bytes p)
rest_open_within (suc n) bytes held p h = rest_step n bytes held (λ b k q g. rest_open_within n b k q g) (rw (add-one n) p) h (front bytes) refl

pub rest_open : (bytes held : List ℕ) → (records bytes).end ≡ Rest held → front held ≡ Open
rest_open bytes held h = rest_open_within (length bytes) bytes held (omega arith) h

-- A stream at fault stays as it is.
abbrev StaysBroken : ℕ → Type 0
StaysBroken n = (bytes more : List ℕ) (fault : FrameFault) → length bytes ≤ n → (records bytes).end ≡ Broken fault → records (bytes ++ more) ≡ records bytes

open_not_broken : (bytes : List ℕ) (fault : FrameFault) → (records bytes).end ≡ Broken fault → front bytes ≡ Open → ⊥
open_not_broken bytes fault h e =
    let s : Rest bytes ≡ Broken fault = ap (λ (k : Records). k.end) (sym (records_open bytes e)) ∙ h in
    cc

broken_step : (n : ℕ) (bytes more : List ℕ) (fault : FrameFault) → StaysBroken n → length bytes ≤ n + 1 → (records bytes).end ≡ Broken fault → (f : Front) → front bytes ≡ f → records (bytes ++ more) ≡ records bytes
broken_step n bytes more fault ih p h Open e = absurd (open_not_broken bytes fault h e)
broken_step n bytes more fault ih p h (Fault other) e = records_fault (bytes ++ more) other (fault_more bytes more other e) ∙ sym (records_fault bytes other e)
broken_step n bytes more fault ih p h (Whole joined rest) e =
    let s = whole_shrinks bytes joined rest e in
    let r = records_whole bytes joined rest e in
    let g = ih rest more fault (omega arith) (ap (λ (k : Records). k.end) (sym r) ∙ h) in
    records_whole (bytes ++ more) joined (rest ++ more) (whole_more bytes more joined rest e) ∙ ap (λ (k : Records). then_record joined k) g ∙ sym r

broken_within : (n : ℕ) → StaysBroken n
broken_within zero bytes more fault p h = absurd (open_not_broken bytes fault h (empty_open bytes p))
broken_within (suc n) bytes more fault p h = broken_step n bytes more fault (λ b k f q g. broken_within n b k f q g) (rw (add-one n) p) h (front bytes) refl

pub stays_broken : (bytes more : List ℕ) (fault : FrameFault) → (records bytes).end ≡ Broken fault → records (bytes ++ more) ≡ records bytes
stays_broken bytes more fault h = broken_within (length bytes) bytes more fault (omega arith) h
