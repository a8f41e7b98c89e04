-- What a directory's names find after one was put or taken out, where they are sound.
use Rattle.std.proofs.Common.{◌≡◌, ℕ, cond, List, Option, None, Some, refl, sym, ◌∙◌, ap}
use Rattle.std.specs.Ordering.{nat_cmp}
use Rattle.std.specs.Str.{bytes_eq}
use Rattle.std.specs.BTreeMap.{insert_entry}
use Rattle.std.specs.Map.{lookup, remove_entry}
use Rattle.name_tree.specs.Directory.{Names, child_in, is_that_id, is_that_name}
use Rattle.name_tree.specs.Flat.{AreSoundNames}
use Rattle.name_tree.proofs.RoomEntries.{at}
use Rattle.name_tree.proofs.DirectoryIndex.{Agree, agree_put, agree_taken, child_is}
use Rattle.name_tree.proofs.SortedEntries.{lookup_insert, lookup_remove, sorted_insert, sorted_remove}

-- a name under an id that had none
abbrev named : ℕ → List ℕ → Names → List ℕ → Option ℕ
named id name ns q = cond (bytes_eq name q) (Some id) (cond (is_that_name q (lookup (at id) ns)) None (child_in q ns))

insert_agrees : (ns : Names) (id : ℕ) (name : List ℕ) → AreSoundNames ns → child_in name ns ≡ None
    → Agree (λ q. named id name ns q) (λ i. lookup (at i) (insert_entry nat_cmp ns id name))
insert_agrees ns id name s free =
    agree_put (λ q. child_in q ns) (λ q. cond (is_that_name q (lookup (at id) ns)) None (child_in q ns)) (λ q. named id name ns q)
    (λ i. lookup (at i) ns) (λ i. lookup (at i) (insert_entry nat_cmp ns id name)) name id s.distinct free
    (λ q. refl) (λ q. refl) (λ i. lookup_insert ns id name i)

pub insert_finds : (ns : Names) (id : ℕ) (name q : List ℕ) → AreSoundNames ns → child_in name ns ≡ None
    → child_in q (insert_entry nat_cmp ns id name)
    ≡ cond (bytes_eq name q) (Some id) (cond (is_that_name q (lookup (at id) ns)) None (child_in q ns))
insert_finds ns id name q s free =
    sym (child_is (λ q. named id name ns q) (insert_entry nat_cmp ns id name) (sorted_insert ns id name s.ordered) (insert_agrees ns id name s free) q)

pub insert_sound : (ns : Names) (id : ℕ) (name : List ℕ) → AreSoundNames ns → child_in name ns ≡ None → AreSoundNames (insert_entry nat_cmp ns id name)
insert_sound ns id name s free = record {
  ordered = sorted_insert ns id name s.ordered;
  distinct = λ q i. ap (is_that_id i) (insert_finds ns id name q s free) ∙ insert_agrees ns id name s free q i;
}

abbrev left : List ℕ → Names → List ℕ → Option ℕ
left name ns q = cond (bytes_eq name q) None (child_in q ns)

remove_agrees : (ns : Names) (id : ℕ) (name : List ℕ) → AreSoundNames ns → child_in name ns ≡ Some id
    → Agree (λ q. left name ns q) (λ i. lookup (at i) (remove_entry (at id) ns))
remove_agrees ns id name s there =
    agree_taken (λ q. child_in q ns) (λ q. left name ns q) (λ i. lookup (at i) ns) (λ i. lookup (at i) (remove_entry (at id) ns)) name id s.distinct there
    (λ q. refl) (λ i. lookup_remove ns id i s.ordered)

pub remove_finds : (ns : Names) (id : ℕ) (name q : List ℕ) → AreSoundNames ns → child_in name ns ≡ Some id
    → child_in q (remove_entry (at id) ns) ≡ cond (bytes_eq name q) None (child_in q ns)
remove_finds ns id name q s there =
    sym (child_is (λ q. left name ns q) (remove_entry (at id) ns) (sorted_remove ns id s.ordered) (remove_agrees ns id name s there) q)

pub remove_sound : (ns : Names) (id : ℕ) (name : List ℕ) → AreSoundNames ns → child_in name ns ≡ Some id → AreSoundNames (remove_entry (at id) ns)
remove_sound ns id name s there = record {
  ordered = sorted_remove ns id s.ordered;
  distinct = λ q i. ap (is_that_id i) (remove_finds ns id name q s there) ∙ remove_agrees ns id name s there q i;
}
