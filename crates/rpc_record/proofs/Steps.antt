-- The first record of a stream, one fragment at a time.
use Rattle.std.proofs.Common.{◌≡◌, ℕ, zero, suc, ◌+◌, ◌^◌, ◌<◌, ◌≤◌, Bool, true, false, nat_lt, List, ◌++◌, length, refl, sym, ap, ◌∙◌, arith, add-one}
use Rattle.std.proofs.lemmas.Bool.{le-ltb, lt-ltb}
use Rattle.std.proofs.lemmas.Bool.Decides.{nat_tests}
use Rattle.rpc_record.specs.declared.fault.FrameFault.TheVariants.{TooLong, TooMany}
use Rattle.rpc_record.specs.Records.{record_max, header, fragment_len, is_last, fragment_body, bytes_behind, Front, Open, Fault, Whole, front_from}

pub last_is : (bytes : List ℕ) → 2 ^ 31 ≤ header bytes → is_last bytes ≡ true
last_is bytes h = grind (arith, nat_tests)

pub not_last_is : (bytes : List ℕ) → header bytes < 2 ^ 31 → is_last bytes ≡ false
not_last_is bytes h = grind (arith, nat_tests)

-- The four tests of a header, and what each leads to.
chosen : Bool → Bool → Bool → Bool → Front → Front → Front → Front
chosen short long cut last fault whole more = elim short [ true ↦ Open | false ↦ elim long [ true ↦ fault | false ↦ elim cut [ true ↦ Open | false ↦ elim last [ true ↦ whole | false ↦ more ] ] ] ]

chosen_short : (long cut last : Bool) (fault whole more : Front) → chosen true long cut last fault whole more ≡ Open
unfolding chosen
chosen_short long cut last fault whole more = refl

chosen_long : (cut last : Bool) (fault whole more : Front) → chosen false true cut last fault whole more ≡ fault
unfolding chosen
chosen_long cut last fault whole more = refl

chosen_cut : (last : Bool) (fault whole more : Front) → chosen false false true last fault whole more ≡ Open
unfolding chosen
chosen_cut last fault whole more = refl

chosen_last : (fault whole more : Front) → chosen false false false true fault whole more ≡ whole
unfolding chosen
chosen_last fault whole more = refl

chosen_more : (fault whole more : Front) → chosen false false false false fault whole more ≡ more
unfolding chosen
chosen_more fault whole more = refl

front_step : (left : ℕ) (have bytes : List ℕ)
    → front_from (suc left) have bytes ≡ chosen (nat_lt (length bytes) 4) (nat_lt record_max (length have + fragment_len bytes)) (nat_lt (length bytes) (4 + fragment_len bytes)) (is_last bytes) (Fault (TooLong (length have + fragment_len bytes))) (Whole (have ++ fragment_body bytes) (bytes_behind bytes)) (front_from left (have ++ fragment_body bytes) (bytes_behind bytes))
unfolding front_from chosen
front_step left have bytes = refl

-- how a header is judged where n fragments may still come
judged : (n left : ℕ) (have bytes : List ℕ) (short long cut last : Bool) → n ≡ left + 1 → nat_lt (length bytes) 4 ≡ short → nat_lt record_max (length have + fragment_len bytes) ≡ long → nat_lt (length bytes) (4 + fragment_len bytes) ≡ cut → is_last bytes ≡ last
    → front_from n have bytes ≡ chosen short long cut last (Fault (TooLong (length have + fragment_len bytes))) (Whole (have ++ fragment_body bytes) (bytes_behind bytes)) (front_from left (have ++ fragment_body bytes) (bytes_behind bytes))
judged n left have bytes short long cut last e p q r t =
    let fault = Fault (TooLong (length have + fragment_len bytes)) in
    let whole = Whole (have ++ fragment_body bytes) (bytes_behind bytes) in
    let more = front_from left (have ++ fragment_body bytes) (bytes_behind bytes) in
    ap (λ (k : ℕ). front_from k have bytes) (e ∙ add-one left) ∙ front_step left have bytes
    ∙ ap (λ (b : Bool). chosen b (nat_lt record_max (length have + fragment_len bytes)) (nat_lt (length bytes) (4 + fragment_len bytes)) (is_last bytes) fault whole more) p
    ∙ ap (λ (b : Bool). chosen short b (nat_lt (length bytes) (4 + fragment_len bytes)) (is_last bytes) fault whole more) q
    ∙ ap (λ (b : Bool). chosen short long b (is_last bytes) fault whole more) r
    ∙ ap (λ (b : Bool). chosen short long cut b fault whole more) t

-- at no fragment more
none_left : Bool → Front
none_left short = elim short [ true ↦ Open | false ↦ Fault TooMany ]

none_step : (have bytes : List ℕ) → front_from 0 have bytes ≡ none_left (nat_lt (length bytes) 4)
unfolding front_from none_left
none_step have bytes = refl

none_short : none_left true ≡ Open
unfolding none_left
none_short = refl

none_more : none_left false ≡ Fault TooMany
unfolding none_left
none_more = refl

-- fewer than four bytes
pub open_short : (left : ℕ) (have bytes : List ℕ) → length bytes < 4 → front_from left have bytes ≡ Open
open_short zero have bytes h = none_step have bytes ∙ ap none_left (lt-ltb (length bytes) 4 h) ∙ none_short
open_short (suc left) have bytes h =
    judged (suc left) left have bytes true (nat_lt record_max (length have + fragment_len bytes)) (nat_lt (length bytes) (4 + fragment_len bytes)) (is_last bytes) (sym (add-one left)) (lt-ltb (length bytes) 4 h) refl refl refl
    ∙ chosen_short (nat_lt record_max (length have + fragment_len bytes)) (nat_lt (length bytes) (4 + fragment_len bytes)) (is_last bytes) _ _ _

-- one header too many
pub too_many : (have bytes : List ℕ) → 4 ≤ length bytes → front_from 0 have bytes ≡ Fault TooMany
too_many have bytes h = none_step have bytes ∙ ap none_left (le-ltb (length bytes) 4 h) ∙ none_more

-- n fragments may still come, and n is more than 0
pub too_long : (n left : ℕ) (have bytes : List ℕ) → n ≡ left + 1 → 4 ≤ length bytes → record_max < length have + fragment_len bytes → front_from n have bytes ≡ Fault (TooLong (length have + fragment_len bytes))
too_long n left have bytes e h l =
    judged n left have bytes false true (nat_lt (length bytes) (4 + fragment_len bytes)) (is_last bytes) e (le-ltb (length bytes) 4 h) (lt-ltb record_max (length have + fragment_len bytes) l) refl refl
    ∙ chosen_long (nat_lt (length bytes) (4 + fragment_len bytes)) (is_last bytes) _ _ _

pub open_cut : (n left : ℕ) (have bytes : List ℕ) → n ≡ left + 1 → 4 ≤ length bytes → length have + fragment_len bytes ≤ record_max → length bytes < 4 + fragment_len bytes → front_from n have bytes ≡ Open
open_cut n left have bytes e h l c =
    judged n left have bytes false false true (is_last bytes) e (le-ltb (length bytes) 4 h) (le-ltb record_max (length have + fragment_len bytes) l) (lt-ltb (length bytes) (4 + fragment_len bytes) c) refl
    ∙ chosen_cut (is_last bytes) _ _ _

pub whole_last : (n left : ℕ) (have bytes : List ℕ) → n ≡ left + 1 → 4 + fragment_len bytes ≤ length bytes → length have + fragment_len bytes ≤ record_max → is_last bytes ≡ true → front_from n have bytes ≡ Whole (have ++ fragment_body bytes) (bytes_behind bytes)
whole_last n left have bytes e c l t =
    let h : 4 ≤ length bytes = omega arith in
    judged n left have bytes false false false true e (le-ltb (length bytes) 4 h) (le-ltb record_max (length have + fragment_len bytes) l) (le-ltb (length bytes) (4 + fragment_len bytes) c) t ∙ chosen_last _ _ _

pub front_more : (n left : ℕ) (have bytes : List ℕ) → n ≡ left + 1 → 4 + fragment_len bytes ≤ length bytes → length have + fragment_len bytes ≤ record_max → is_last bytes ≡ false → front_from n have bytes ≡ front_from left (have ++ fragment_body bytes) (bytes_behind bytes)
front_more n left have bytes e c l t =
    let h : 4 ≤ length bytes = omega arith in
    judged n left have bytes false false false false e (le-ltb (length bytes) 4 h) (le-ltb record_max (length have + fragment_len bytes) l) (le-ltb (length bytes) (4 + fragment_len bytes) c) t ∙ chosen_more _ _ _
