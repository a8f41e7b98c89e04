-- What is stored of a change.
use Rattle.std.proofs.Common.{◌≡◌, ◌⊎◌, inl, inr, ℕ, ◌≤◌, List, [], ◌++◌, Option, None, Some, refl, sym, ◌∙◌, ap, subst, arith, append-nil}
use Rattle.std.specs.Prelude.{◌≢◌, IsSome}
use Rattle.gw_outside.specs.Causes.{Rose}
use Rattle.gw_outside.specs.declared.tally.Tally.{Tally}
use Rattle.gw_outside.proofs.Sums.{calls_tally-none}
use Rattle.gw_model.specs.Views.{TraceState}
use Rattle.gw_model.specs.declared.object.ObjectId.{ObjectId}
use Rattle.append_store.specs.Calls.{MayCreate}
use Rattle.edit_log.specs.Edits.{edit_text}
use Rattle.edit_log.specs.Log.{Holds}
use Rattle.name_tree.specs.declared.edit.Edit.{Edit}
use Rattle.name_changes.specs.declared.change.Changed.{Changed}
use Rattle.name_changes.specs.declared.change.Changed.TheVariants.{Durable, Failed}
use Rattle.name_changes.specs.Changes.{AreBothCounted, HasBody, HoldsBy, new_body}
use Rattle.name_changes.specs.Answers.{Asked, Alters}
use Rattle.name_changes.specs.Stores.{HoldsAsked, IsStored, LogSeen, StoreSeen}

pub with_left : {A B C : Type 0} → (A → B) → A ⊎ C → B ⊎ C
with_left f (inl x) = inl (f x)
with_left f (inr y) = inr y

none_counted : (n n' : TraceState) (t u : Tally) → n'.outcomes ≡ n.outcomes → AreBothCounted n n' t t u u
none_counted n n' t u same = record {
  between = n;
  store_counted = record { outcomes = []; noted = sym (append-nil n.outcomes); tally = sym (calls_tally-none t) };
  log_counted = record { outcomes = []; noted = same ∙ sym (append-nil n.outcomes); tally = sym (calls_tally-none u) };
}

-- room for notes is none
counted_from : (n r n' : TraceState) (s s' l l' : Tally) → r.outcomes ≡ n.outcomes → AreBothCounted r n' s s' l l' → AreBothCounted n n' s s' l l'
counted_from n r n' s s' l l' same h = record {
  between = h.between;
  store_counted = record {
    outcomes = h.store_counted.outcomes;
    noted = h.store_counted.noted ∙ ap (λ x. x ++ h.store_counted.outcomes) same;
    tally = h.store_counted.tally;
  };
  log_counted = h.log_counted;
}

holds_same : (asked : Option Asked) (l : LogSeen) (answered : List ℕ) → l.failed ≡ None → Holds l.content l.durable None answered []
    → HoldsAsked None asked l answered
holds_same asked l answered fresh h = subst (λ f. Holds l.content l.durable f answered []) (sym fresh) h

not_ended : {X : Type 0} (c : Changed) → None ≡ Some c → X
not_ended c h = absurd (cc)

ended_so : (c d : Changed) → Some c ≡ Some d → c ≡ d
ended_so c d h = cc

not_none : {X : Type 0} (c : Changed) → Some c ≡ None → X
not_none c h = absurd (cc)

-- no change was begun
pub untouched : (tells : Type 0) (asked : Option Asked) (s : StoreSeen) (l : LogSeen) (n n' : TraceState) → n'.outcomes ≡ n.outcomes
    → IsStored tells asked None s s l l n n'
untouched tells asked s l n n' same = record {
  none = λ e. refl;
  holds = λ t answered fresh h. holds_same asked l answered fresh h;
  body = λ h. not_ended Durable h;
  may = λ t q. inl refl;
  others = λ t q apart. refl;
  cause = λ h. not_ended Failed h;
  fails = λ h. not_ended Failed h;
  later = omega arith;
  log_later = omega arith;
  mark = refl;
  generation = refl;
  counted = none_counted n n' s.tally l.tally same;
}

-- the same of what is asked for, by another name
pub stored_as : (tells : Type 0) (asked asked' : Option Asked) (ending : Option Changed) (s s' : StoreSeen) (l l' : LogSeen) (n n' : TraceState)
    → asked' ≡ asked → IsStored tells asked ending s s' l l' n n' → IsStored tells asked' ending s s' l l' n n'
stored_as tells asked asked' ending s s' l l' n n' same h = subst (λ a. IsStored tells a ending s s' l l' n n') (sym same) h

-- memory was refused before the log was called
pub change_refused : (tells : Type 0) (e e' : Edit) (s s' : StoreSeen) (l l' : LogSeen) (n r n' : TraceState) → e' ≡ e → r.outcomes ≡ n.outcomes
    → l' ≡ l → (tells → (q : ObjectId) → MayCreate (s.at q) (s'.at q)) → (tells → (q : ObjectId) → new_body e' ≢ Some q → s'.at q ≡ s.at q)
    → s.count ≤ s'.count → AreBothCounted r n' s.tally s'.tally l.tally l'.tally
    → IsStored tells (Some (Alters e)) None s s' l l' n n'
change_refused tells e e' s s' l l' n r n' is room same may others later counted = record {
  none = λ h. same;
  holds = λ t answered fresh h. subst (λ x. HoldsAsked None (Some (Alters e)) x answered) (sym same) (holds_same (Some (Alters e)) l answered fresh h);
  body = λ h. not_ended Durable h;
  may = may;
  others = subst (λ x. tells → (q : ObjectId) → new_body x ≢ Some q → s'.at q ≡ s.at q) is others;
  cause = λ h. not_ended Failed h;
  fails = λ h. not_ended Failed h;
  later = later;
  log_later = omega (arith, ap (λ (x : LogSeen). x.count) same);
  mark = ap (λ (x : LogSeen). x.mark) same;
  generation = ap (λ (x : LogSeen). x.generation) same;
  counted = counted_from n r n' s.tally s'.tally l.tally l'.tally room counted;
}

-- a change that was made, or failed
pub change_stored : (tells : Type 0) (e e' : Edit) (text : List ℕ) (c : Changed) (s s' : StoreSeen) (l l' : LogSeen) (n r n' : TraceState)
    → e' ≡ e → text ≡ edit_text e → r.outcomes ≡ n.outcomes
    → (tells → (answered : List ℕ) → l.failed ≡ None → Holds l.content l.durable None answered []
    → HoldsBy c l'.content l'.durable l'.failed answered text)
    → (c ≡ Durable → tells → HasBody (new_body e') s.at s'.at)
    → (tells → (q : ObjectId) → MayCreate (s.at q) (s'.at q)) → (tells → (q : ObjectId) → new_body e' ≢ Some q → s'.at q ≡ s.at q)
    → (c ≡ Failed → Rose s.count s'.count ⊎ (IsSome l.failed ⊎ Rose l.count l'.count)) → (c ≡ Failed → (l' ≡ l) ⊎ IsSome l'.failed)
    → s.count ≤ s'.count → l.count ≤ l'.count → l'.mark ≡ l.mark → l'.generation ≡ l.generation
    → AreBothCounted r n' s.tally s'.tally l.tally l'.tally
    → IsStored tells (Some (Alters e)) (Some c) s s' l l' n n'
change_stored tells e e' text c s s' l l' n r n' is word room holds body may others cause fails later log_later mark generation counted = record {
  none = λ h. not_none c h;
  holds = λ t answered fresh h.
      subst (λ x. HoldsBy c l'.content l'.durable l'.failed answered x) word (holds t answered fresh h);
  body = λ h t. subst (λ x. HasBody (new_body x) s.at s'.at) is (body (ended_so c Durable h) t);
  may = may;
  others = subst (λ x. tells → (q : ObjectId) → new_body x ≢ Some q → s'.at q ≡ s.at q) is others;
  cause = λ h. cause (ended_so c Failed h);
  fails = λ h. fails (ended_so c Failed h);
  later = later;
  log_later = log_later;
  mark = mark;
  generation = generation;
  counted = counted_from n r n' s.tally s'.tally l.tally l'.tally room counted;
}
