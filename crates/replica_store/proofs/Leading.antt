-- The one that kept the most, among the first of the files.
use Rattle.std.proofs.Common.{◌≡◌, ◌≤◌, ◌<◌, ℕ, true, false, List, Option, Some, None, length, IfSome, IfNone, arith}
use Rattle.std.specs.List.{AllByRecursion}
use Rattle.replica_store.specs.Parts.{PartView, IsLead, part_of}
use Rattle.replica_store.proofs.Pairs.{each_part}

abbrev pub LeadsTo : List PartView → ℕ → Option ℕ → ℕ → Type 0
LeadsTo parts i None most = (k : ℕ) → k < i → (part_of parts k).live ≡ false
LeadsTo parts i (Some lead) most = (lead < i) × ((part_of parts lead).live ≡ true) × ((part_of parts lead).kept ≡ most) × ((k : ℕ) → k < i → (part_of parts k).live ≡ true → (part_of parts k).kept ≤ most)

pub leads : (parts : List PartView) (i : ℕ) (lead : Option ℕ) (most : ℕ) → LeadsTo parts i lead most → length parts ≤ i → i ≤ length parts → IfSome lead (λ lead. IsLead parts lead)
leads parts i None most is all within = tt
leads parts i (Some lead) most is all within = record {
  there = omega (arith, is.0);
  live = is.1;
  most = each_part _ parts (λ k lt live. let b = is.3 k (omega arith) live in omega (arith, b, is.2));
}

pub none_leads : (parts : List PartView) (i : ℕ) (lead : Option ℕ) (most : ℕ) → LeadsTo parts i lead most → length parts ≤ i → IfNone lead (AllByRecursion (λ p. p.live ≡ false) parts)
none_leads parts i None most is all = each_part _ parts (λ k lt. is k (omega arith))
none_leads parts i (Some lead) most is all = tt
