-- What the entries in memory weigh as one comes, goes or moves to the device.
use Rattle.std.proofs.Common.{◌≡◌, ℕ, ◌+◌, Bool, true, false, cond, Option, Some, None, List, [], ◌∷◌, ◌++◌, Result, Ok, Err, refl, sym, ◌∙◌, ap, subst, arith}
use Rattle.std.specs.Prelude.{IsSomeAnd}
use Rattle.std.specs.Result.{OnOk}
use Rattle.range_map.specs.declared.entry.Entry.{Entry}
use Rattle.range_map.specs.declared.entry.Place.TheVariants.{Spilled}
use Rattle.range_map.specs.Entries.{is_before, is_in_memory, is_in_order, with_entry, with_place_at}
use Rattle.pending_writes.specs.declared.reports.SpillMove.{SpillMove}
use Rattle.pending_writes.specs.declared.reports.SpillMove.TheVariants as move
use Rattle.pending_writes.specs.Moves.{FitsBehindLast, IsMoved, IsNotMoved, MovesLast, last_of_memory, next_extent}
use Rattle.pending_writes.specs.Weights.{entries_weight, moved_weight, weight_here}
use Rattle.pending_writes.specs.Writes.{PendingState}
use Rattle.pending_writes.proofs.LastEntries.{between_placed, last_between}

weight_put_in : (e : Entry) (es : List Entry) → is_in_memory e ≡ true → entries_weight (with_entry e es) ≡ e.weight + entries_weight es
weight_put_in e [] here = rw here refl
weight_put_in e (x ∷ xs) here =
    let rest = weight_put_in e xs here in
    let mine : weight_here e ≡ e.weight = rw here refl in
    let go : (b : Bool) → entries_weight (cond b (x ∷ with_entry e xs) (e ∷ x ∷ xs)) ≡ e.weight + (weight_here x + entries_weight xs) = elim [
      | true ↦ omega (arith, rest)
      | false ↦ omega (arith, mine)
    ] in
    go (is_before x e)

pub weight_inserted : {T E : Type 0} (r : Result T E) (e : Entry) (old new : List Entry) → is_in_memory e ≡ true → OnOk r (new ≡ with_entry e old)
    → OnOk r (entries_weight new ≡ e.weight + entries_weight old)
weight_inserted (Ok x) e old new here ok = ap entries_weight ok ∙ weight_put_in e old here
weight_inserted (Err x) e old new here ok = ok

-- one moves to the device
weight_exchange : (e e' : Entry) (before after : List Entry) → weight_here e ≡ e.weight → weight_here e' ≡ 0 → entries_weight (before ++ e ∷ after) ≡ e.weight + entries_weight (before ++ e' ∷ after)
weight_exchange e e' [] after here there = omega (arith, here, there)
weight_exchange e e' (x ∷ xs) after here there = let rest = weight_exchange e e' xs after here there in omega (arith, rest)

weight_moved_one : (tells : Type 0) (e : Entry) (old new : PendingState) → last_of_memory old.entries ≡ Some e → is_in_order old.entries ≡ true → IsMoved tells e old new
    → entries_weight old.entries ≡ e.weight + entries_weight new.entries
weight_moved_one tells e old new found ordered moved =
    let b = last_between is_in_memory old.entries e found in
    let x = next_extent old e in
    let placed : new.entries ≡ b.before ++ record e { place = Spilled x } ∷ b.after =
    moved.entries ∙ ap (with_place_at e.offset e.number (Spilled x)) b.are ∙ between_placed e (Spilled x) b.before b.after (subst (λ (ys : List Entry). is_in_order ys ≡ true) b.are ordered) in
    let here : weight_here e ≡ e.weight = ap (λ (t : Bool). cond t e.weight 0) b.passes in
    ap entries_weight b.are ∙ weight_exchange e (record e { place = Spilled x }) b.before b.after here refl ∙ sym (ap (λ (es : List Entry). e.weight + entries_weight es) placed)

as_before : (old new : PendingState) → new.entries ≡ old.entries → entries_weight old.entries ≡ 0 + entries_weight new.entries
as_before old new is = let same : entries_weight new.entries ≡ entries_weight old.entries = ap entries_weight is in omega (arith, same)

pub weight_moved : (tells : Type 0) (r : SpillMove) (old new : PendingState) → is_in_order old.entries ≡ true → MovesLast tells r old new
    → entries_weight old.entries ≡ moved_weight r + entries_weight new.entries
weight_moved tells move.Nothing old new ordered h = as_before old new (ap (λ (s : PendingState). s.entries) h.1)
weight_moved tells move.NoRoom old new ordered h = as_before old new (ap (λ (s : PendingState). s.entries) h.1)
weight_moved tells move.Memory old new ordered h = as_before old new (ap (λ (s : PendingState). s.entries) h.1)
weight_moved tells move.Fault old new ordered h =
    let go : (o : Option Entry) → IsSomeAnd o (λ e. FitsBehindLast old e × IsNotMoved tells e old new) → entries_weight old.entries ≡ 0 + entries_weight new.entries = elim [
      | None ↦ λ h. absurd h
      | Some e ↦ λ h. as_before old new h.1.entries
    ] in
    go (last_of_memory old.entries) h
weight_moved tells (move.Moved number weight start) old new ordered h =
    let go : (o : Option Entry) → last_of_memory old.entries ≡ o
    → IsSomeAnd o (λ e. FitsBehindLast old e × (number ≡ e.number) × (weight ≡ e.weight) × (start ≡ old.spill.next) × IsMoved tells e old new) → entries_weight old.entries ≡ weight + entries_weight new.entries = elim [
      | None ↦ λ is h. absurd h
      | Some e ↦ λ is h. weight_moved_one tells e old new is ordered h.4 ∙ sym (ap (λ (n : ℕ). n + entries_weight new.entries) h.2)
    ] in
    go (last_of_memory old.entries) refl h
