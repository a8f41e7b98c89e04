-- What is recovered of a log after a crash.
use Rattle.std.proofs.Common.{◌≡◌, inl, inr, ℕ, zero, suc, ◌+◌, ◌-◌, ◌≤◌, List, [], ◌∷◌, ◌++◌, length, take, Ok, refl, sym, ◌∙◌, ap, subst, arith, append_assoc, append-nil, length-append}
use Rattle.std.specs.Prelude.{Option}
use Rattle.std.specs.List.{AllByRecursion}
use Rattle.std.proofs.lemmas.List.{length-take, take-take}
use Rattle.std.proofs.Math.Seq.{take-append-add}
use Rattle.append_store.specs.State.{ObjectState, Kept, IsCrashImage, bytes_of}
use Rattle.name_tree.specs.declared.edit.Edit.{Edit}
use Rattle.name_tree.specs.Tree.{Tree}
use Rattle.edit_log.specs.Edits.{Edits, InRange, ReadsUpTo, edit_text, edit_texts, edits_of, header, written_edits}
use Rattle.edit_log.specs.Log.{Holds}
use Rattle.edit_log.specs.Start.{RecoversUpTo, after_log, tree_after_log, tree_after_logs}
use Rattle.edit_log.proofs.LoggedEdits.{front_read, log_whole, more_texts}
use Rattle.edit_log.proofs.LogsAfter.{and_then, logs_behind}

pub leaves : (content answered rest : List ℕ) (durable : ℕ) (failed : Option ℕ) (state : ObjectState) → Holds content durable failed answered rest → IsCrashImage (Kept content durable) state
    → (n : ℕ) × (n ≤ length rest) × (state ≡ Kept (answered ++ take n rest) (length answered + n))
leaves content answered rest durable failed state h crash =
    let n = crash.0 in
    let more : length answered ≤ n = omega (arith, h.safe, crash.1) in
    let all : n ≤ length answered + length rest = omega (arith, crash.2, ap length h.bytes, length-append answered rest) in
    let split : n ≡ length answered + (n - length answered) = omega arith in
    let bytes : take n content ≡ answered ++ take (n - length answered) rest = ap (take n) h.bytes ∙ (ap (λ m. take m (answered ++ rest)) split ∙ take-append-add answered rest (n - length answered)) in
    (n - length answered, omega arith, crash.3 ∙ (ap (λ (b : List ℕ). Kept b n) bytes ∙ ap (λ m. Kept (answered ++ take (n - length answered) rest) m) split))

-- after a crash the edits that were answered are read, and perhaps the one that was being added
pub crashed : (content : List ℕ) (durable m : ℕ) (failed : Option ℕ) (es : List Edit) (e : Edit) (state : ObjectState) → AllByRecursion InRange es → InRange e
    → Holds content durable failed (header ++ edit_texts es) (take m (edit_text e)) → IsCrashImage (Kept content durable) state → ReadsUpTo (edits_of (bytes_of state)) es e
crashed content durable m failed es e state all r h crash =
    let left = leaves content (header ++ edit_texts es) (take m (edit_text e)) durable failed state h crash in
    let n = left.0 in
    let less : n ≤ m = omega (arith, left.1, length-take m (edit_text e)) in
    let both : take n (take m (edit_text e)) ≡ take n (edit_text e) = take-take n m (edit_text e) less in
    let bytes : bytes_of state ≡ header ++ (edit_texts es ++ take n (edit_text e)) = ap bytes_of left.2 ∙ (append_assoc header (edit_texts es) (take n (take m (edit_text e))) ∙ ap (λ (x : List ℕ). header ++ (edit_texts es ++ x)) both) in
    subst (λ (x : List ℕ). ReadsUpTo (edits_of x) es e) (sym bytes) (front_read es e n all r)

-- where nothing was being added, they and no more
pub crashed_whole : (content : List ℕ) (durable : ℕ) (failed : Option ℕ) (es : List Edit) (state : ObjectState) → AllByRecursion InRange es
    → Holds content durable failed (header ++ edit_texts es) [] → IsCrashImage (Kept content durable) state → edits_of (bytes_of state) ≡ Edits (written_edits es)
crashed_whole content durable failed es state all h crash =
    let left = leaves content (header ++ edit_texts es) [] durable failed state h crash in
    ap (λ (s : ObjectState). edits_of (bytes_of s)) left.2 ∙ (ap (λ (x : List ℕ). edits_of ((header ++ edit_texts es) ++ x)) (none_of left.0) ∙ (ap edits_of (append-nil (header ++ edit_texts es)) ∙ log_whole es all))
  where
    none_of : (n : ℕ) → take {A = ℕ} n [] ≡ []
    none_of zero = refl
    none_of (suc n) = refl

pub tree_recovered : (ls : List (ℕ × List ℕ)) (g : ℕ) (bytes : List ℕ) (t u : Tree) (es : List Edit) (e : Edit) → tree_after_logs ls t ≡ Ok u → ReadsUpTo (edits_of bytes) es e → RecoversUpTo (tree_after_logs (ls ++ (g, bytes) ∷ []) t) es e u
tree_recovered ls g bytes t u es e before (inl reads) = inl (logs_behind ls ((g, bytes) ∷ []) t ∙ (ap (λ r. and_then r ((g, bytes) ∷ [])) before ∙ ap (λ x. after_log g (tree_after_log x u) (λ v. Ok v)) reads))
tree_recovered ls g bytes t u es e before (inr reads) = inr (logs_behind ls ((g, bytes) ∷ []) t ∙ (ap (λ r. and_then r ((g, bytes) ∷ [])) before ∙ ap (λ x. after_log g (tree_after_log x u) (λ v. Ok v)) reads))

-- an edit more that was answered
pub added_behind : (content : List ℕ) (durable : ℕ) (failed : Option ℕ) (es : List Edit) (e : Edit) → Holds content durable failed ((header ++ edit_texts es) ++ edit_text e) [] → Holds content durable failed (header ++ edit_texts (es ++ e ∷ [])) []
added_behind content durable failed es e h =
    subst (λ (x : List ℕ). Holds content durable failed x []) (append_assoc header (edit_texts es) (edit_text e) ∙ ap (λ (x : List ℕ). header ++ x) (sym (more_texts es e))) h
