-- What an answer of the code means.
use Rattle.std.specs.Prelude.{◌≡◌, ◌⊎◌, ℕ, List, true, false, Option, Some, None, Result, Ok, Err}
use Rattle.std.specs.Option.{option_map}
use Rattle.gw_model.specs.declared.FileId.{FileId}
use Rattle.gw_model.specs.declared.NoMemory.{NoMemory}
use Rattle.gw_model.specs.Statuses as status
use Rattle.edit_log.specs.Edits.{edit_text}
use Rattle.nfs_wire.specs.declared.args.Args.{Args}
use Rattle.name_tree.specs.declared.edit.Edit.{Edit}
use Rattle.name_changes.specs.declared.change.Replies.{Replies}
use Rattle.name_tree.specs.Tree.{Tree}
use Rattle.dup_cache.specs.CallList.{CallList, with_used}
use Rattle.name_changes.specs.declared.change.Changed.{Changed}
use Rattle.name_changes.specs.declared.change.Changed.TheVariants.{Durable, Failed}
use Rattle.name_changes.specs.declared.call.NameDone.{NameDone}
use Rattle.name_changes.specs.Changes.{Keeps}
use Rattle.name_changes.specs.Answers.{Answer, Asked, Again, Tells, Alters, answer_to, changed_results, refused_results, removed_by, reply_text}

abbrev pub Answered : Type 0
Answered = Result (Option NameDone) NoMemory

-- how a change ended, where there was one to be made
abbrev pub ending_of : Answered → Option Changed
ending_of (Ok (Some done)) = done.ending
ending_of _ = None

abbrev pub removed_if : Changed → Option FileId → Option FileId
removed_if Durable removed = removed
removed_if Failed removed = None

-- what is told, with the tree that it leaves
abbrev pub answer_seen : NameDone → Tree → Answer
answer_seen done t = record { reply = done.text.items; removed = option_map (λ (f : FileId). f.0) done.removed; tree = t }

-- a call that asks for this has this answer
pub record IsAnswer (xid : ℕ) (a : Args) (fsid moment : ℕ) (t t' : Tree) (asked : Option Asked) (done : NameDone) : Type 0 where
  pub asks : Asked
  pub is : asked ≡ Some asks
  pub answer : answer_to xid a fsid moment t asks done.ending ≡ Some (answer_seen done t')

-- Want of memory leaves the tree as it is.
abbrev pub Answers : ℕ → Args → (fsid moment : ℕ) → Tree → Tree → Option Asked → Answered → Type 0
Answers xid a fsid moment t t' asked (Ok (Some done)) = IsAnswer xid a fsid moment t t' asked done
Answers xid a fsid moment t t' asked (Ok None) = (asked ≡ None) × (t' ≡ t)
Answers xid a fsid moment t t' asked (Err e) = t' ≡ t

-- The text of an edit, the replies to its call, and the file that it takes out are those of the definition.
pub record IsPrepared (xid : ℕ) (a : Args) (fsid moment : ℕ) (t : Tree) (edit : Edit) (at : ℕ) (word : List ℕ) (replies : Replies)
    (removed : Option ℕ) : Type 0 where
  pub is_now : at ≡ moment
  pub word_is : word ≡ edit_text edit
  pub done : replies.done.items ≡ reply_text xid (changed_results a fsid at edit)
  pub io : replies.io.items ≡ reply_text xid (refused_results a status.io)
  pub gone : removed ≡ removed_by t edit

-- the calls that were answered, behind an answer to a call of this key

-- the call may have become the last used
abbrev pub MayUse : List ℕ → CallList → CallList → Type 0
MayUse key old new = (new ≡ old) ⊎ (new ≡ with_used key old)

abbrev pub KeepsAsked : Option Asked → List ℕ → List ℕ → CallList → CallList → Type 0
KeepsAsked (Some (Again reply)) key text old new = new ≡ with_used key old
KeepsAsked (Some (Tells true results)) key text old new = Keeps key text (with_used key old) new
KeepsAsked (Some (Tells false results)) key text old new = new ≡ old
KeepsAsked (Some (Alters edit)) key text old new = Keeps key text (with_used key old) new
KeepsAsked None key text old new = ⊥

abbrev pub KeepsAnswer : Option Asked → List ℕ → Answered → CallList → CallList → Type 0
KeepsAnswer asked key (Ok (Some done)) old new = KeepsAsked asked key done.text.items old new
KeepsAnswer asked key (Ok None) old new = new ≡ old
KeepsAnswer asked key (Err e) old new = MayUse key old new

-- so where the call wasn't answered before
abbrev pub KeepsNew : List ℕ → Answered → CallList → CallList → Type 0
KeepsNew key (Ok (Some done)) old new = Keeps key done.text.items old new
KeepsNew key (Ok None) old new = new ≡ old
KeepsNew key (Err e) old new = new ≡ old
