-- One edit after another.
use Rattle.std.proofs.Common.{◌≡◌, ℕ, zero, suc, ◌+◌, ◌-◌, ◌<◌, ◌≤◌, List, [], ◌∷◌, ◌++◌, Ok, refl, sym, ◌∙◌, ap, arith, append_assoc, append-nil}
use Rattle.name_tree.specs.declared.edit.Edit.{Edit}
use Rattle.name_tree.specs.Tree.{Tree}
use Rattle.edit_log.specs.Start.{tree_after_log, tree_with_edit}
use Rattle.edit_log.specs.Edits.{Logged, Edits, DamagedAt, with_edit, with_edits, edit_ahead, bytes_behind, size_ahead, edits_with, edits_from}

pub step : (n place : ℕ) (bytes : List ℕ) → 0 < n → edits_from n place bytes ≡ edits_with (edit_ahead bytes) place (edits_from (n - 1) (place + 4 + size_ahead bytes) (bytes_behind bytes))
unfolding edits_from
step zero place bytes some = absurd (omega arith)
step (suc n) place bytes some = let less : n ≡ suc n - 1 = omega arith in ap (λ m. edits_with (edit_ahead bytes) place (edits_from m (place + 4 + size_ahead bytes) (bytes_behind bytes))) less

pub one : (es : List Edit) (e : Edit) (n place next : ℕ) (bytes rest : List ℕ) → 0 < n → edit_ahead bytes ≡ Ok e → next ≡ place + 4 + size_ahead bytes → rest ≡ bytes_behind bytes
    → with_edits (es ++ e ∷ []) (edits_from (n - 1) next rest) ≡ with_edits es (edits_from n place bytes)
one es e n place next bytes rest some h at is =
    ap (λ m. with_edits (es ++ e ∷ []) (edits_from (n - 1) m rest)) at ∙ (ap (λ r. with_edits (es ++ e ∷ []) (edits_from (n - 1) (place + 4 + size_ahead bytes) r)) is
    ∙ (joined (edits_from (n - 1) (place + 4 + size_ahead bytes) (bytes_behind bytes))
    ∙ sym (ap (with_edits es) (step n place bytes some ∙ ap (λ r. edits_with r place (edits_from (n - 1) (place + 4 + size_ahead bytes) (bytes_behind bytes))) h))))
  where
    joined : (l : Logged) → with_edits (es ++ e ∷ []) l ≡ with_edits es (with_edit e l)
    joined (Edits fs) = ap (λ xs. Edits xs) (append_assoc es (e ∷ []) fs)
    joined (DamagedAt p) = refl

pub spent : (es : List Edit) (n place : ℕ) (bytes : List ℕ) → n ≤ 0 → with_edits es (edits_from n place bytes) ≡ Edits es
unfolding edits_from
spent es zero place bytes none = ap (λ fs. Edits fs) (append-nil es)
spent es (suc n) place bytes none = absurd (omega arith)

-- the edit in front is done before those behind it
put_first : (e : Edit) (l : Logged) (t : Tree) → tree_after_log (with_edit e l) t ≡ tree_after_log l (tree_with_edit e t)
put_first e (Edits es) t = refl
put_first e (DamagedAt place) t = refl

pub one_done : (e : Edit) (n place next : ℕ) (bytes rest : List ℕ) (t : Tree) → 0 < n → edit_ahead bytes ≡ Ok e → next ≡ place + 4 + size_ahead bytes → rest ≡ bytes_behind bytes
    → tree_after_log (edits_from (n - 1) next rest) (tree_with_edit e t) ≡ tree_after_log (edits_from n place bytes) t
one_done e n place next bytes rest t some h at is =
    ap (λ m. tree_after_log (edits_from (n - 1) m rest) (tree_with_edit e t)) at ∙ (ap (λ r. tree_after_log (edits_from (n - 1) (place + 4 + size_ahead bytes) r) (tree_with_edit e t)) is
    ∙ (sym (put_first e (edits_from (n - 1) (place + 4 + size_ahead bytes) (bytes_behind bytes)) t)
    ∙ sym (ap (λ l. tree_after_log l t) (step n place bytes some ∙ ap (λ r. edits_with r place (edits_from (n - 1) (place + 4 + size_ahead bytes) (bytes_behind bytes))) h))))

pub none_left : (n place : ℕ) (bytes : List ℕ) (t : Tree) → n ≤ 0 → tree_after_log (edits_from n place bytes) t ≡ Ok t
unfolding edits_from
none_left zero place bytes t none = refl
none_left (suc n) place bytes t none = absurd (omega arith)
