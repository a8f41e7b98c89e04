-- One object after another.
use Rattle.std.proofs.Common.{◌≡◌, inl, inr, ℕ, ◌+◌, ◌-◌, ◌^◌, ◌≤◌, ◌<◌, Bool, true, false, List, [], ◌∷◌, ◌++◌, Option, Some, None, Ok, Err, refl, sym, ◌∙◌, ap, subst, arith}
use Rattle.std.specs.Prelude.{is_none, not, ◌&&◌, nat_le, if◌then◌else◌, max}
use Rattle.std.specs.Map.{lookup}
use Rattle.std.specs.BTreeMap.{is_at}
use Rattle.std.specs.Ordering.{nat_cmp}
use Rattle.std.proofs.lemmas.Bool.Decides.{nat_tests}
use Rattle.gw_model.specs.declared.object.KeptObject.{KeptObject}
use Rattle.gw_model.specs.declared.object.ObjectId.{ObjectId}
use Rattle.gw_model.specs.declared.object.ObjectId.TheVariants.{Log, Body}
use Rattle.gw_model.specs.Views.{TraceState}
use Rattle.append_store.specs.State.{ObjectState, Missing, Kept, Lent, IsThere, IsAway}
use Rattle.append_store.specs.Calls.{Has, Lists}
use Rattle.name_tree.specs.Tree.{Tree, Node, root_tree, first_file_without, is_regular}
use Rattle.edit_log.specs.Notes.{EndsAfter, Notes, done_calls, reads_in, read_count}
use Rattle.edit_log.specs.declared.fault.StartFault.{StartFault}
use Rattle.edit_log.specs.Start.{LastGeneration, log_in, logs_of, tree_after_logs, has_body, first_without_body, start_with_bodies, start_with_tree, last_generation, greater_generation, tree_with_bodies, start_result}
use Rattle.edit_log.proofs.LogsAfter.{and_then, logs_behind}
use Rattle.edit_log.proofs.FetchedLogs.{done_then, ends_later, ends_within}

in_front : (o : ObjectId) (s : ObjectState) (rest : List (ℕ × List ℕ)) → log_in o s rest ≡ log_in o s [] ++ rest
in_front (Log generation) s rest = refl
in_front (Body file version) s rest = refl

-- an object's log is read before those behind it
pub one_object : (at : ObjectId → ObjectState) (k : KeptObject) (ks : List KeptObject) (s : ObjectState) (t u : Tree) → s ≡ at k.object → tree_after_logs (log_in k.object s []) t ≡ Ok u → tree_after_logs (logs_of at (k ∷ ks)) t ≡ tree_after_logs (logs_of at ks) u
one_object at k ks s t u same h =
    ap (λ x. tree_after_logs (log_in k.object x (logs_of at ks)) t) (sym same)
    ∙ (ap (λ x. tree_after_logs x t) (in_front k.object s (logs_of at ks))
    ∙ (logs_behind (log_in k.object s []) (logs_of at ks) t
    ∙ ap (λ r. and_then r (logs_of at ks)) h))

-- the notes of one object more
pub objects_noted : (all left : List KeptObject) (k : KeptObject) (n : ℕ) (a b c : TraceState) → n + read_count (k ∷ left) ≡ read_count all → Notes a b (done_calls n) → Notes b c (done_calls (reads_in k.object k.length)) → (m : ℕ) × (m + read_count left ≡ read_count all) × Notes a c (done_calls m)
objects_noted all left k n a b c sum h i = (n + reads_in k.object k.length, omega (arith, sum), done_then n (reads_in k.object k.length) a b c h i)

pub objects_ended : (all left : List KeptObject) (k : KeptObject) (n : ℕ) (fault : StartFault) (a b c : TraceState) → n + read_count (k ∷ left) ≡ read_count all → Notes a b (done_calls n) → EndsAfter (reads_in k.object k.length) 0 fault b c → EndsAfter (read_count all) 0 fault a c
objects_ended all left k n fault a b c sum h i =
    ends_within (n + reads_in k.object k.length) (read_count all) 0 fault a c (omega (arith, sum)) (ends_later n (reads_in k.object k.length) 0 fault a b c h i)

found_without : (es : List (ℕ × ℕ)) (all : List KeptObject) (ns : List (ℕ × Node)) → ((q : ℕ) → is_none (lookup (is_at (nat_cmp q)) es) ≡ not (has_body all q)) → first_file_without es ns ≡ first_without_body all ns
found_without es all [] h = refl
found_without es all (n ∷ ns) h =
    ap (λ (b : Bool). if is_regular n.1.attr.kind && b then Some n.0 else first_file_without es ns) (h n.0)
    ∙ ap (λ (m : Option ℕ). if is_regular n.1.attr.kind && not (has_body all n.0) then Some n.0 else m) (found_without es all ns h)

-- once the logs are read
pub logs_read : (at : ObjectId → ObjectState) (all : List KeptObject) (t : Tree) (es : List (ℕ × ℕ)) → tree_after_logs (logs_of at all) root_tree ≡ Ok t → ((q : ℕ) → is_none (lookup (is_at (nat_cmp q)) es) ≡ not (has_body all q))
    → start_result at all ≡ start_with_bodies (first_file_without es t.nodes) (last_generation 0 all) all t
unfolding start_result
logs_read at all t es read h =
    ap (λ r. start_with_tree r (last_generation 0 all) all) read ∙ ap (λ (m : Option ℕ). start_with_bodies m (last_generation 0 all) all t) (sym (found_without es all t.nodes h))

pub is_last : (last : ℕ) (all : List KeptObject) (t : Tree) → 2 ^ 64 - 1 ≤ last → start_with_bodies None last all t ≡ Err LastGeneration
is_last last all t h =
    let test : nat_le (2 ^ 64 - 1) last ≡ true = grind (arith, nat_tests) in
    ap (λ (b : Bool). if b then Err LastGeneration else Ok (last + 1, tree_with_bodies all t)) test

pub isnt_last : (last : ℕ) (all : List KeptObject) (t : Tree) → last < 2 ^ 64 - 1 → start_with_bodies None last all t ≡ Ok (last + 1, tree_with_bodies all t)
isnt_last last all t h =
    let test : nat_le (2 ^ 64 - 1) last ≡ false = grind (arith, nat_tests) in
    ap (λ (b : Bool). if b then Err LastGeneration else Ok (last + 1, tree_with_bodies all t)) test

-- no log has the next generation

not_less : (n : ℕ) (all : List KeptObject) → n ≤ last_generation n all
not_less n [] = omega arith
not_less n (k ∷ ks) = let more = not_less (greater_generation n k.object) ks in omega (arith, step k.object, more)
  where
    step : (o : ObjectId) → n ≤ greater_generation n o
    step (Log g) = omega arith
    step (Body f v) = omega arith

has_log : (all : List KeptObject) (n g : ℕ) → Has all (Log g) → g ≤ last_generation n all
has_log [] n g h = absurd h
has_log (k ∷ ks) n g (inl is) =
    let at : greater_generation n k.object ≡ max n g = ap (greater_generation n) is in
    let more = not_less (greater_generation n k.object) ks in
    omega arith
has_log (k ∷ ks) n g (inr h) = has_log ks (greater_generation n k.object) g h

pub later_than_all : (at : ObjectId → ObjectState) (all : List KeptObject) (g : ℕ) → Lists at all → g ≡ last_generation 0 all + 1 → (h : ℕ) → IsThere (at (Log h)) → h < g
later_than_all at all g lists is h there = let less = has_log all 0 h (lists.complete (Log h) there) in omega (arith, is, less)

pub fresh : (at : ObjectId → ObjectState) (all : List KeptObject) (g : ℕ) → Lists at all → ((q : ObjectId) → IsAway (at q) → ⊥) → g ≡ last_generation 0 all + 1 → at (Log g) ≡ Missing
fresh at all g lists back is = go (at (Log g)) refl
  where
    go : (s : ObjectState) → at (Log g) ≡ s → s ≡ Missing
    go Missing e = refl
    go (Kept bytes durable) e = absurd (let less = has_log all 0 g (lists.complete (Log g) (subst IsThere (sym e) tt)) in omega arith)
    go (Lent mark) e = absurd (back (Log g) (subst IsAway (sym e) tt))
