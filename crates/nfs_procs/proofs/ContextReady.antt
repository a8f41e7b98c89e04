-- Contexts are ready, one by one and all.
use Rattle.std.proofs.Common.{◌≡◌, ℕ, Bool, true, false, cond, Option, Some, None, List, [], ◌∷◌, refl, sym, ◌∙◌, ap, subst}
use Rattle.std.specs.declared.cmp.Ordering.{Ordering}
use Rattle.std.specs.declared.cmp.Ordering.TheVariants.{Less, Equal, Greater}
use Rattle.std.specs.Ordering.{nat_cmp, match_ordering}
use Rattle.std.specs.BTreeMap.{insert_entry, is_at}
use Rattle.std.specs.Map.{set_value}
use Rattle.gw_model.specs.declared.limits.Limits.{Limits}
use Rattle.file_cell.specs.State.{CellState}
use Rattle.file_calls.specs.PartSteps.{IsCellReady, SameSettings}
use Rattle.nfs_procs.specs.World.{entry_at}
use Rattle.nfs_procs.specs.Contexts.{AreCellsReady, other_cells}
use Rattle.nfs_procs.proofs.ContextMaps.{at_is, equal_is}

abbrev cell_or : CellState → Option CellState → CellState
cell_or c None = c
cell_or c (Some d) = d

ready_cond : (limits : Limits) (k : ℕ) (x : ℕ × CellState) (o : Option CellState) (c : CellState) (b : Bool) → is_at (nat_cmp k) x.0 ≡ b → IsCellReady limits x.0 x.1 → cond b (Some x.1) o ≡ Some c → (o ≡ Some c → IsCellReady limits k c) → IsCellReady limits k c
ready_cond limits k x o c true is h e rest = subst (IsCellReady limits k) (ap (cell_or c) e) (h.0, h.1, h.2 ∙ sym (at_is k x.0 is))
ready_cond limits k x o c false is h e rest = rest e

pub ready_at : (limits : Limits) (k : ℕ) (es : List (ℕ × CellState)) (c : CellState) → AreCellsReady limits es → entry_at k es ≡ Some c → IsCellReady limits k c
ready_at limits k [] c h e = absurd (cc e)
ready_at limits k (x ∷ xs) c h e = ready_cond limits k x (entry_at k xs) c (is_at (nat_cmp k) x.0) refl (h.0, h.1, h.2) e (λ g. ready_at limits k xs c h.3 g)

-- a context after a step
pub ready_same : (limits : Limits) (k : ℕ) (c d : CellState) → IsCellReady limits k c → d.left ≡ [] → SameSettings c d → IsCellReady limits k d
ready_same limits k c d h none same = (none, same.0 ∙ h.1, ap (λ i. i.0) same.1 ∙ h.2)

pub ready_set : (limits : Limits) (k : ℕ) (es : List (ℕ × CellState)) (d : CellState) → AreCellsReady limits es → IsCellReady limits k d → AreCellsReady limits (set_value (is_at (nat_cmp k)) es d)
ready_set limits k [] d h r = tt
ready_set limits k (x ∷ xs) d h r = go (is_at (nat_cmp k) x.0) refl (ready_set limits k xs d h.3 r)
  where
    go : (b : Bool) → is_at (nat_cmp k) x.0 ≡ b → AreCellsReady limits (set_value (is_at (nat_cmp k)) xs d) → AreCellsReady limits (cond b ((x.0, d) ∷ xs) (x ∷ set_value (is_at (nat_cmp k)) xs d))
    go true is rest = (r.0, r.1, r.2 ∙ at_is k x.0 is, h.3)
    go false is rest = (h.0, h.1, h.2, rest)

ready_insert : (limits : Limits) (k : ℕ) (es : List (ℕ × CellState)) (d : CellState) → AreCellsReady limits es → IsCellReady limits k d → AreCellsReady limits (insert_entry nat_cmp es k d)
ready_insert limits k [] d h r = (r.0, r.1, r.2, tt)
ready_insert limits k (x ∷ xs) d h r = go (nat_cmp k x.0) refl (ready_insert limits k xs d h.3 r)
  where
    go : (o : Ordering) → nat_cmp k x.0 ≡ o → AreCellsReady limits (insert_entry nat_cmp xs k d) → AreCellsReady limits (match_ordering o ((k, d) ∷ x ∷ xs) ((x.0, d) ∷ xs) (x ∷ insert_entry nat_cmp xs k d))
    go Less is rest = (r.0, r.1, r.2, h)
    go Equal is rest = (r.0, r.1, r.2 ∙ equal_is k x.0 is, h.3)
    go Greater is rest = (h.0, h.1, h.2, rest)

pub inserted_ready : (limits : Limits) (k : ℕ) (es es' : List (ℕ × CellState)) (d : CellState) → es' ≡ insert_entry nat_cmp es k d → AreCellsReady limits es → IsCellReady limits k d → AreCellsReady limits es'
inserted_ready limits k es es' d is h r = subst (AreCellsReady limits) (sym is) (ready_insert limits k es d h r)

pub ready_removed : (limits : Limits) (k : ℕ) (es : List (ℕ × CellState)) → AreCellsReady limits es → AreCellsReady limits (other_cells k es)
ready_removed limits k [] h = tt
ready_removed limits k (x ∷ xs) h = go (is_at (nat_cmp k) x.0) (ready_removed limits k xs h.3)
  where
    go : (b : Bool) → AreCellsReady limits (other_cells k xs) → AreCellsReady limits (cond b xs (x ∷ other_cells k xs))
    go true rest = h.3
    go false rest = (h.0, h.1, h.2, rest)
