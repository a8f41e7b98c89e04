-- What is told of a change is the answer of the definition.
use Rattle.std.proofs.Common.{◌≡◌, inl, inr, ℕ, Bool, true, false, cond, List, Option, None, Some, Ok, Err, refl, sym, ◌∙◌, ap, subst}
use Rattle.std.specs.Option.{option_map}
use Rattle.gw_model.specs.Statuses as status
use Rattle.gw_model.specs.declared.FileId.{FileId}
use Rattle.nfs_wire.specs.declared.args.Args.{Args}
use Rattle.nfs_wire.specs.Results.{Results}
use Rattle.name_tree.specs.Tree.{Tree}
use Rattle.name_tree.specs.Table.{NameJudgement, Refuse, Same, Change}
use Rattle.name_tree.specs.declared.edit.Edit.{Edit}
use Rattle.dup_cache.specs.CallList.{CallList, with_used}
use Rattle.name_changes.specs.declared.change.Changed.{Changed}
use Rattle.name_changes.specs.declared.change.Changed.TheVariants.{Durable, Failed}
use Rattle.name_changes.specs.declared.change.Replies.{Replies}
use Rattle.name_changes.specs.declared.call.NameDone.{NameDone}
use Rattle.name_changes.specs.Changes.{Keeps, reply_by, tree_by}
use Rattle.name_changes.specs.Answers.{Answer, Asked, Again, Alters, Tells, answer_to, asked_again, asked_new, asked_unsupported, changed_results, edit_answer, refused_results, removed_by, reply_text}
use Rattle.name_changes.specs.Answered.{Answered, Answers, IsAnswer, KeepsAnswer, KeepsAsked, KeepsNew, answer_seen, removed_if}

same_answer : (x y : Answer) → x.reply ≡ y.reply → x.removed ≡ y.removed → x.tree ≡ y.tree → x ≡ y
same_answer x y reply removed tree =
    ap (λ (r : List ℕ). record { reply = r; removed = x.removed; tree = x.tree }) reply
    ∙ (ap (λ (r : Option ℕ). record { reply = y.reply; removed = r; tree = x.tree }) removed
    ∙ ap (λ (t : Tree). record { reply = y.reply; removed = y.removed; tree = t }) tree)

abbrev number : Option FileId → Option ℕ
number o = option_map (λ (f : FileId). f.0) o

ended_answer : (xid : ℕ) (a : Args) (fsid moment : ℕ) (t t' : Tree) (e : Edit) (c : Changed) (replies : Replies) (removed : Option FileId)
    (d : NameDone) → replies.done.items ≡ reply_text xid (changed_results a fsid moment e)
    → replies.io.items ≡ reply_text xid (refused_results a status.io) → number removed ≡ removed_by t e
    → t' ≡ tree_by c e moment t → d.text.items ≡ reply_by c replies → d.removed ≡ removed_if c removed
    → edit_answer xid a fsid moment t e c ≡ answer_seen d t'
ended_answer xid a fsid moment t t' e Durable replies removed d done io gone tree text told =
    same_answer _ _ (sym (text ∙ done)) (sym (ap number told ∙ gone)) (sym tree)
ended_answer xid a fsid moment t t' e Failed replies removed d done io gone tree text told =
    same_answer _ _ (sym (text ∙ io)) (sym (ap number told)) (sym tree)

pub told_change : (xid : ℕ) (a : Args) (fsid moment : ℕ) (t t' : Tree) (e : Edit) (c : Changed) (replies : Replies) (removed : Option FileId)
    (d : NameDone) → replies.done.items ≡ reply_text xid (changed_results a fsid moment e)
    → replies.io.items ≡ reply_text xid (refused_results a status.io) → number removed ≡ removed_by t e
    → t' ≡ tree_by c e moment t → d.text.items ≡ reply_by c replies → d.removed ≡ removed_if c removed → d.ending ≡ Some c
    → IsAnswer xid a fsid moment t t' (Some (Alters e)) d
told_change xid a fsid moment t t' e c replies removed d done io gone tree text told ending = record {
  asks = Alters e;
  is = refl;
  answer = ap (answer_to xid a fsid moment t (Alters e)) ending
      ∙ ap (λ x. Some x) (ended_answer xid a fsid moment t t' e c replies removed d done io gone tree text told);
}

pub told_results : (xid : ℕ) (a : Args) (fsid moment : ℕ) (t : Tree) (asked : Option Asked) (is_kept : Bool) (results : Results) (d : NameDone)
    → asked ≡ Some (Tells is_kept results) → d.text.items ≡ reply_text xid results → d.removed ≡ None → d.ending ≡ None
    → IsAnswer xid a fsid moment t t asked d
told_results xid a fsid moment t asked is_kept results d is text gone ending = record {
  asks = Tells is_kept results;
  is = is;
  answer = ap (answer_to xid a fsid moment t (Tells is_kept results)) ending
      ∙ ap (λ x. Some x) (same_answer _ (answer_seen d t) (sym text) (sym (ap number gone)) refl);
}

pub told_again : (xid : ℕ) (a : Args) (fsid moment : ℕ) (t : Tree) (asked : Option Asked) (reply : List ℕ) (d : NameDone)
    → asked ≡ Some (Again reply) → d.text.items ≡ reply → d.removed ≡ None → d.ending ≡ None
    → IsAnswer xid a fsid moment t t asked d
told_again xid a fsid moment t asked reply d is text gone ending = record {
  asks = Again reply;
  is = is;
  answer = ap (answer_to xid a fsid moment t (Again reply)) ending
      ∙ ap (λ x. Some x) (same_answer _ (answer_seen d t) (sym text) (sym (ap number gone)) refl);
}

pub answers_as : (xid : ℕ) (a : Args) (fsid moment : ℕ) (t t' : Tree) (asked asked' : Option Asked) (r : Answered) → asked' ≡ asked
    → Answers xid a fsid moment t t' asked r → Answers xid a fsid moment t t' asked' r
answers_as xid a fsid moment t t' asked asked' r same h = subst (λ q. Answers xid a fsid moment t t' q r) (sym same) h

-- what a call asks for, by whether it is a change, and the reply that it had

pub asked_first_time : (b : Bool) (reply : Option (List ℕ)) (first other : Option Asked) → b ≡ true → reply ≡ None
    → cond b (asked_again reply first) other ≡ first
asked_first_time b reply first other change fresh =
    ap (λ x. cond x (asked_again reply first) other) change ∙ ap (λ x. asked_again x first) fresh

pub asked_once_more : (b : Bool) (reply : Option (List ℕ)) (text : List ℕ) (first other : Option Asked) → b ≡ true → reply ≡ Some text
    → cond b (asked_again reply first) other ≡ Some (Again text)
asked_once_more b reply text first other change there =
    ap (λ x. cond x (asked_again reply first) other) change ∙ ap (λ x. asked_again x first) there

pub asked_otherwise : (b : Bool) (changing other : Option Asked) → b ≡ false → cond b changing other ≡ other
asked_otherwise b changing other is = ap (λ x. cond x changing other) is

-- keeping

keeps_first : (a : Args) (t : Tree) (fsid : ℕ) (j : NameJudgement) (key text : List ℕ) (old new : CallList)
    → Keeps key text (with_used key old) new → KeepsAsked (Some (asked_new a t fsid j)) key text old new
keeps_first a t fsid (Refuse refusal) key text old new h = h
keeps_first a t fsid (Same file) key text old new h = h
keeps_first a t fsid (Change edit) key text old new h = h

pub keeps_answer : (xid : ℕ) (a : Args) (fsid moment : ℕ) (t t' : Tree) (j : NameJudgement) (asked : Option Asked) (r : Answered) (key : List ℕ)
    (old new : CallList) → asked ≡ Some (asked_new a t fsid j) → Answers xid a fsid moment t t' (Some (asked_new a t fsid j)) r
    → KeepsNew key r (with_used key old) new → KeepsAnswer asked key r old new
keeps_answer xid a fsid moment t t' j asked (Ok (Some d)) key old new is h kept =
    subst (λ q. KeepsAsked q key d.text.items old new) (sym is) (keeps_first a t fsid j key d.text.items old new kept)
keeps_answer xid a fsid moment t t' j asked (Ok None) key old new is h kept = some_asked (asked_new a t fsid j) h.0
  where
    some_asked : {X : Type 0} (q : Asked) → Some q ≡ None → X
    some_asked q e = absurd (cc)
keeps_answer xid a fsid moment t t' j asked (Err e) key old new is h kept = inr kept

pub keeps_unsupported : (xid : ℕ) (a : Args) (fsid moment : ℕ) (t t' : Tree) (refusal : Option ℕ) (r : Answered) (key : List ℕ) (calls : CallList)
    → Answers xid a fsid moment t t' (asked_unsupported a refusal) r → KeepsAnswer (asked_unsupported a refusal) key r calls calls
keeps_unsupported xid a fsid moment t t' refusal (Err e) key calls h = inl refl
keeps_unsupported xid a fsid moment t t' refusal (Ok None) key calls h = refl
keeps_unsupported xid a fsid moment t t' (Some status) (Ok (Some d)) key calls h = refl
keeps_unsupported xid a fsid moment t t' None (Ok (Some d)) key calls h = nothing_asked h.asks h.is
  where
    nothing_asked : {X : Type 0} (q : Asked) → None ≡ Some q → X
    nothing_asked q e = absurd (cc)
