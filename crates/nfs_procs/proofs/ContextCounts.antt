-- What a store and the files that are out count together, whatever one file's part of it is.
use Rattle.std.proofs.Common.{◌≡◌, ℕ, ◌-◌, ◌^◌, ◌≤◌, min, Bool, true, false, cond, Option, Some, None, List, [], ◌∷◌, refl, sym, ◌∙◌, ap, subst, arith}
use Rattle.std.specs.declared.cmp.Ordering.{Ordering}
use Rattle.std.specs.declared.cmp.Ordering.TheVariants.{Less, Equal, Greater}
use Rattle.std.specs.Ordering.{nat_cmp, is_eq, match_ordering}
use Rattle.std.specs.BTreeMap.{insert_entry, is_at}
use Rattle.std.specs.Map.{set_value}
use Rattle.gw_outside.specs.Causes.{Rose}
use Rattle.gw_outside.specs.declared.tally.Tally.{Tally}
use Rattle.gw_outside.specs.Tally.{capped_sum, calls_tally, joined_tally}
use Rattle.gw_outside.proofs.Sums.{tallies}
use Rattle.gw_model.specs.Ahead.{Outcome, call_count, failure_count}
use Rattle.file_cell.specs.State.{CellState}
use Rattle.file_calls.specs.Counts.{Counts, IsCounted, file_counts, joined_counts}
use Rattle.file_calls.specs.Outside.{counts_at}
use Rattle.nfs_procs.specs.World.{entry_at, put_by, put_at}
use Rattle.nfs_procs.specs.Contexts.{IsContextKept, other_cells, total_counts}
use Rattle.nfs_procs.proofs.ContextMaps.{at_itself}

capped_sum-swap : (a b c : ℕ) → capped_sum (capped_sum a b) c ≡ capped_sum (capped_sum a c) b
capped_sum-swap a b c = omega arith

calls-swap : (m f n g : ℕ) (t : Tally) → calls_tally m f (calls_tally n g t) ≡ calls_tally n g (calls_tally m f t)
calls-swap m f n g t = tallies _ _ (capped_sum-swap t.made n m) (capped_sum-swap t.failed g f)

both_counts : (a b : Counts) → a.faults ≡ b.faults → a.tally ≡ b.tally → a ≡ b
both_counts a b faults calls =
    ap (λ n. let c : Counts = record { faults = n; tally = a.tally } in c) faults ∙ ap (λ t. let c : Counts = record { faults = b.faults; tally = t } in c) calls

-- in which order counts are joined makes no difference
joined-swap : (n a b : Counts) → joined_counts (joined_counts n a) b ≡ joined_counts (joined_counts n b) a
joined-swap n a b = both_counts _ _ (omega arith) (calls-swap b.tally.made b.tally.failed a.tally.made a.tally.failed n.tally)

total_joined : (es : List (ℕ × CellState)) (n given : Counts) → total_counts es (joined_counts n given) ≡ joined_counts (total_counts es n) given
total_joined [] n given = refl
total_joined (e ∷ es) n given =
    ap (total_counts es) (joined-swap n given (file_counts e.1.file)) ∙ total_joined es (joined_counts n (file_counts e.1.file)) given

-- the others' counts are joined to those of one file's part
total_split : (k : ℕ) (es : List (ℕ × CellState)) (n : Counts) → total_counts es n ≡ total_counts (other_cells k es) (counts_at n (entry_at k es))
total_split k [] n = refl
total_split k (e ∷ es) n = go (is_at (nat_cmp k) e.0) (entry_at k es) (total_split k es (joined_counts n (file_counts e.1.file)))
  where
    go : (b : Bool) (o : Option CellState) → total_counts es (joined_counts n (file_counts e.1.file)) ≡ total_counts (other_cells k es) (counts_at (joined_counts n (file_counts e.1.file)) o)
        → total_counts es (joined_counts n (file_counts e.1.file)) ≡ total_counts (cond b es (e ∷ other_cells k es)) (counts_at n (cond b (Some e.1) o))
    go true o rest = refl
    go false None rest = rest
    go false (Some c) rest = rest ∙ ap (total_counts (other_cells k es)) (joined-swap n (file_counts e.1.file) (file_counts c.file))

others_none : (k : ℕ) (es : List (ℕ × CellState)) → entry_at k es ≡ None → other_cells k es ≡ es
others_none k [] none = refl
others_none k (e ∷ es) none = go (is_at (nat_cmp k) e.0) none (λ h. others_none k es h)
  where
    go : (b : Bool) → cond b (Some e.1) (entry_at k es) ≡ None → (entry_at k es ≡ None → other_cells k es ≡ es) → cond b es (e ∷ other_cells k es) ≡ e ∷ es
    go true none rest = absurd (cc none)
    go false none rest = ap (λ xs. e ∷ xs) (rest none)

pub others_set : (k : ℕ) (es : List (ℕ × CellState)) (d : CellState) → other_cells k (set_value (is_at (nat_cmp k)) es d) ≡ other_cells k es
others_set k [] d = refl
others_set k (e ∷ es) d = go (is_at (nat_cmp k) e.0) refl (others_set k es d)
  where
    go : (b : Bool) → is_at (nat_cmp k) e.0 ≡ b → other_cells k (set_value (is_at (nat_cmp k)) es d) ≡ other_cells k es
        → other_cells k (cond b ((e.0, d) ∷ es) (e ∷ set_value (is_at (nat_cmp k)) es d)) ≡ cond b es (e ∷ other_cells k es)
    go true is rest = ap (λ b. cond b es ((e.0, d) ∷ other_cells k es)) is
    go false is rest = ap (λ b. cond b (set_value (is_at (nat_cmp k)) es d) (e ∷ other_cells k (set_value (is_at (nat_cmp k)) es d))) is ∙ ap (λ xs. e ∷ xs) rest

others_insert : (k : ℕ) (es : List (ℕ × CellState)) (d : CellState) → entry_at k es ≡ None → other_cells k (insert_entry nat_cmp es k d) ≡ es
others_insert k [] d none = ap (λ b. cond b [] ((k, d) ∷ [])) (at_itself k)
others_insert k (e ∷ es) d none = go (nat_cmp k e.0) refl (λ h. others_insert k es d h)
  where
    go : (o : Ordering) → nat_cmp k e.0 ≡ o → (entry_at k es ≡ None → other_cells k (insert_entry nat_cmp es k d) ≡ es)
        → other_cells k (match_ordering o ((k, d) ∷ e ∷ es) ((e.0, d) ∷ es) (e ∷ insert_entry nat_cmp es k d)) ≡ e ∷ es
    go Less is rest = ap (λ b. cond b (e ∷ es) ((k, d) ∷ other_cells k (e ∷ es))) (at_itself k)
    go Equal is rest = let some : Some e.1 ≡ None = ap (λ b. cond b (Some e.1) (entry_at k es)) (sym (ap is_eq is)) ∙ none in absurd (cc some)
    go Greater is rest =
        let other : is_at (nat_cmp k) e.0 ≡ false = ap is_eq is in
        let later : entry_at k es ≡ None = ap (λ b. cond b (Some e.1) (entry_at k es)) (sym other) ∙ none in
        ap (λ b. cond b (insert_entry nat_cmp es k d) (e ∷ other_cells k (insert_entry nat_cmp es k d))) other ∙ ap (λ xs. e ∷ xs) (rest later)

others_put : (k : ℕ) (o : Option CellState) (es : List (ℕ × CellState)) → IsContextKept (entry_at k es) o → other_cells k (put_at k o es) ≡ other_cells k es
others_put k o es kept = go (entry_at k es) o refl kept
  where
    go : (a o : Option CellState) → entry_at k es ≡ a → IsContextKept a o → other_cells k (put_by a o k es) ≡ other_cells k es
    go None None is h = refl
    go None (Some d) is h = others_insert k es d is ∙ sym (others_none k es is)
    go (Some c) (Some d) is h = others_set k es d
    go (Some c) None is h = absurd h

-- calls that were counted are counted with the files that are out

total_counted : (es : List (ℕ × CellState)) (s : List Outcome) (a b : Counts) → IsCounted s a b → IsCounted s (total_counts es a) (total_counts es b)
total_counted [] s a b p = p
total_counted (e ∷ es) s a b p =
    let given = file_counts e.1.file in
    let fails = p.fails in
    total_counted es s (joined_counts a given) (joined_counts b given) (record {
      calls = ap (λ t. joined_tally t given.tally) p.calls ∙ calls-swap given.tally.made given.tally.failed (call_count s) (failure_count s) a.tally;
      fails = omega (arith, fails);
    })

-- of one file's part
pub part_counted : (k : ℕ) (es es' : List (ℕ × CellState)) (s : List Outcome) (n n' : Counts) → other_cells k es' ≡ other_cells k es
    → IsCounted s (counts_at n (entry_at k es)) (counts_at n' (entry_at k es')) → IsCounted s (total_counts es n) (total_counts es' n')
part_counted k es es' s n n' same p =
    let old = total_split k es n in
    let new = total_split k es' n' ∙ ap (λ xs. total_counts xs (counts_at n' (entry_at k es'))) same in
    subst (λ x. IsCounted s x (total_counts es' n')) (sym old) (subst (IsCounted s (total_counts (other_cells k es) (counts_at n (entry_at k es)))) (sym new)
    (total_counted (other_cells k es) s (counts_at n (entry_at k es)) (counts_at n' (entry_at k es')) p))

-- where its context was kept, and where it is gone
pub others_kept : (k : ℕ) (es es' : List (ℕ × CellState)) → es' ≡ put_at k (entry_at k es') es → IsContextKept (entry_at k es) (entry_at k es') → other_cells k es' ≡ other_cells k es
others_kept k es es' is kept = ap (other_cells k) is ∙ others_put k (entry_at k es') es kept

pub others_equal : (k : ℕ) (es es' : List (ℕ × CellState)) → es' ≡ es → other_cells k es' ≡ other_cells k es
others_equal k es es' is = ap (other_cells k) is

pub others_gone : (k : ℕ) (es : List (ℕ × CellState)) → entry_at k (other_cells k es) ≡ None → other_cells k (other_cells k es) ≡ other_cells k es
others_gone k es none = others_none k (other_cells k es) none

-- a count that rose

pub total_rose : (es : List (ℕ × CellState)) (a b : Counts) → Rose a.faults b.faults → Rose (total_counts es a).faults (total_counts es b).faults
total_rose [] a b p = p
total_rose (e ∷ es) a b p = total_rose es (joined_counts a (file_counts e.1.file)) (joined_counts b (file_counts e.1.file)) (omega (arith, p))

-- files that are given back

pub total_least : (es : List (ℕ × CellState)) (a b : Counts) → min a.faults (2 ^ 64 - 1) ≤ b.faults → min (total_counts es a).faults (2 ^ 64 - 1) ≤ (total_counts es b).faults
total_least [] a b p = p
total_least (e ∷ es) a b p = total_least es (joined_counts a (file_counts e.1.file)) (joined_counts b (file_counts e.1.file)) (omega (arith, p))

pub total_tally : (es : List (ℕ × CellState)) (a b : Counts) → b.tally ≡ a.tally → (total_counts es b).tally ≡ (total_counts es a).tally
total_tally [] a b p = p
total_tally (e ∷ es) a b p = total_tally es (joined_counts a (file_counts e.1.file)) (joined_counts b (file_counts e.1.file)) (ap (λ t. joined_tally t e.1.file.tally) p)
