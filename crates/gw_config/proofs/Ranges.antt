-- Where no key is refused, each number is in its range.
use Rattle.std.proofs.Common.{◌≡◌, ℕ, ◌-◌, ◌^◌, ◌≤◌, min, ℤ, pos, negsuc, Bool, true, false, nat_le, if◌then◌else◌, List, codes, Option, Some, None, option_and_then, Ordering, Less, Equal, Greater, nat_cmp, is_eq, refl, sym, ap, ◌∙◌, subst, arith}
use Rattle.std.proofs.lemmas.Bool.{and_parts}
use Rattle.std.proofs.lemmas.Bool.Decides.{nat_tests}
use Rattle.std.proofs.lemmas.Option.{none-some, same_Some}
use Rattle.std.specs.Cmp.Lexicographic.{slice_cmp, texts_ties, bytes_decides}
use Rattle.std.specs.Ordering.{match_ordering}
use Rattle.toml.specs.Data.{Data, Members, no_members, member, get_member, as_integer}
use Rattle.gw_config.specs.Keys.{kind_of}
use Rattle.gw_config.specs.Settings.{Settings, number_at, whole_or, limits_of, settings_of}
use Rattle.gw_config.specs.Ranges.{IsBetween, AreInRange, AreLimitsInRange}
use Rattle.gw_config.specs.Refusals.{ConfigRefusal, number_refusal, key_refusal, first_of, first_refusal}

none_of_two : (first later : Option ConfigRefusal) → first_of first later ≡ None → (first ≡ None) × (later ≡ None)
none_of_two None later none = (refl, none)
none_of_two (Some refusal) later none = absurd (none-some _ (sym none))

same_bytes : (key other : List ℕ) → slice_cmp nat_cmp key other ≡ Equal → key ≡ other
same_bytes key other equal = (bytes_decides key other).0 (texts_ties key other ∙ ap is_eq equal)

-- what is found at a key isn't refused: at the first member, or behind it
found_at : (order : Ordering) (key other : List ℕ) (here v : Data) (rest : Option Data) → slice_cmp nat_cmp key other ≡ order
    → key_refusal other here ≡ None → (rest ≡ Some v → key_refusal key v ≡ None) → match_ordering order rest (Some here) rest ≡ Some v
    → key_refusal key v ≡ None
found_at Less key other here v rest is passed behind found = behind found
found_at Equal key other here v rest is passed behind found =
    ap (λ k. key_refusal k v) (same_bytes key other is) ∙ ap (key_refusal other) (sym (same_Some _ _ found)) ∙ passed
found_at Greater key other here v rest is passed behind found = behind found

passed_at : (key : List ℕ) (v : Data) (t : Members) → first_refusal t ≡ None → get_member key t ≡ Some v → key_refusal key v ≡ None
passed_at key v no_members passed found = absurd (none-some _ found)
passed_at key v (member other here rest) passed found =
    let (first, later) = none_of_two (key_refusal other here) (first_refusal rest) passed in
    found_at (slice_cmp nat_cmp key other) key other here v (get_member key rest) refl first (passed_at key v rest later) found

test_passed : (test : Bool) (refusal : ConfigRefusal) → (if test then None else Some refusal) ≡ None → test ≡ true
test_passed true refusal none = refl
test_passed false refusal none = absurd (none-some _ (sym none))

number_passed : (key : List ℕ) (low high usual : ℕ) (z : Option ℤ) → IsBetween low high usual → number_refusal key low high z ≡ None
    → IsBetween low high (whole_or usual z)
number_passed key low high usual None inside passed = inside
number_passed key low high usual (Some (negsuc n)) inside passed = inside
number_passed key low high usual (Some (pos n)) inside passed =
    let tests = and_parts (nat_le low n) (nat_le n high) (test_passed _ _ passed) in
    let least : low ≤ n = grind (arith, nat_tests, tests) in
    let most : n ≤ high = grind (arith, nat_tests, tests) in
    (least, most)

value_passed : (key : List ℕ) (low high usual : ℕ) (found : Option Data) → IsBetween low high usual
    → ((v : Data) → found ≡ Some v → number_refusal key low high (as_integer v) ≡ None) → IsBetween low high (whole_or usual (option_and_then as_integer found))
value_passed key low high usual None inside passed = inside
value_passed key low high usual (Some v) inside passed = number_passed key low high usual (as_integer v) inside (passed v refl)

-- the number at a key of this range
module _ (t : Members) (passed : first_refusal t ≡ None) where
  in_range : (key : List ℕ) (low high usual : ℕ) → ((v : Data) → key_refusal key v ≡ number_refusal key low high (as_integer v))
      → IsBetween low high usual → IsBetween low high (number_at key usual t)
  in_range key low high usual is inside = value_passed key low high usual (get_member key t) inside (λ v found. sym (is v) ∙ passed_at key v t passed found)

  limits_in_range : AreLimitsInRange (limits_of t)
  unfolding kind_of
  limits_in_range =
      let cap = in_range (codes "memory_cap") 1 8388608 8388608 (λ v. refl) (omega arith, omega arith) in
      record {
        commits = in_range (codes "commits") 1 1024 1024 (λ v. refl) (omega arith, omega arith);
        history = in_range (codes "history") 1 131072 131072 (λ v. refl) (omega arith, omega arith);
        line_slots = in_range (codes "line_slots") 1 8 8 (λ v. refl) (omega arith, omega arith);
        memory_cap = cap;
        memory_mark = in_range (codes "memory_mark") 0 8388608 (min (number_at (codes "memory_cap") 8388608 t) 1048576) (λ v. refl) (omega arith, omega (arith, cap.1));
        pending_max = in_range (codes "pending_max") 1 65536 65536 (λ v. refl) (omega arith, omega arith);
        ready_cap = in_range (codes "ready_cap") 1 8388608 8388608 (λ v. refl) (omega arith, omega arith);
        spill_size = in_range (codes "spill_size") 0 (2 ^ 40) 67108864 (λ v. refl) (omega arith, omega arith);
        timeout_ms = in_range (codes "timeout_ms") 1 (2 ^ 53) 600000 (λ v. refl) (omega arith, omega arith);
      }

  all_in_range : AreInRange (settings_of t)
  unfolding kind_of
  all_in_range = record {
    calls = in_range (codes "calls") 1 256 256 (λ v. refl) (omega arith, omega arith);
    contexts = in_range (codes "contexts") 1 128 128 (λ v. refl) (omega arith, omega arith);
    fsid = in_range (codes "fsid") 0 (2 ^ 63 - 1) 1 (λ v. refl) (omega arith, omega arith);
    limits = limits_in_range;
    workers = in_range (codes "workers") 1 16 4 (λ v. refl) (omega arith, omega arith);
  }

  pub are_in_range : (settings : Settings) → settings ≡ settings_of t → AreInRange settings
  are_in_range settings same = subst AreInRange (sym same) all_in_range
