-- What an answer leaves of the store and of the log.
use Rattle.std.specs.Prelude.{◌≡◌, ◌≢◌, ◌⊎◌, ◌≤◌, ℕ, List, [], Option, Some, None, IsSome}
use Rattle.gw_outside.specs.Causes.{Rose}
use Rattle.gw_outside.specs.declared.tally.Tally.{Tally}
use Rattle.gw_model.specs.Views.{TraceState}
use Rattle.gw_model.specs.declared.object.ObjectId.{ObjectId}
use Rattle.append_store.specs.declared.store.AppendFile.{Ghosts as FileGhosts}
use Rattle.append_store.specs.declared.store.Cluster.{Ghosts}
use Rattle.append_store.specs.State.{ObjectState}
use Rattle.append_store.specs.Calls.{MayCreate}
use Rattle.edit_log.specs.Edits.{edit_text}
use Rattle.edit_log.specs.Log.{Holds}
use Rattle.name_changes.specs.declared.change.Changed.{Changed}
use Rattle.name_changes.specs.declared.change.Changed.TheVariants.{Durable, Failed}
use Rattle.name_changes.specs.Changes.{AreBothCounted, HasBody, HoldsBy, new_body}
use Rattle.name_changes.specs.Answers.{Asked, Alters}

-- what a store tells, how often it failed, and the calls that it counted
pub record StoreSeen : Type 0 where
  pub at : ObjectId → ObjectState
  pub count : ℕ
  pub tally : Tally

abbrev pub store_seen : {C F : Type 0} → Ghosts C F → C → StoreSeen
store_seen g c = record { at = g.at c; count = g.count c; tally = g.tally c }

-- what the log's file tells, how often it failed, the calls that it counted, which file it is, and whether the log has failed
pub record LogSeen : Type 0 where
  pub content : List ℕ
  pub durable : ℕ
  pub count : ℕ
  pub tally : Tally
  pub mark : List ObjectId
  pub failed : Option ℕ
  pub generation : ℕ

abbrev pub log_seen : {F : Type 0} → FileGhosts F → F → Option ℕ → ℕ → LogSeen
log_seen g file failed generation = record {
  content = g.content file;
  durable = g.durable file;
  count = g.count file;
  tally = g.tally file;
  mark = g.mark file;
  failed = failed;
  generation = generation;
}

-- the body that is to be there
abbrev pub body_asked : Option Asked → Option ObjectId
body_asked (Some (Alters edit)) = new_body edit
body_asked _ = None

-- What was answered before is durable; so is the edit of a change that is. Of one that failed some of the text may stand behind.
abbrev pub HoldsAsked : Option Changed → Option Asked → LogSeen → List ℕ → Type 0
HoldsAsked (Some ending) (Some (Alters edit)) l answered = HoldsBy ending l.content l.durable l.failed answered (edit_text edit)
HoldsAsked _ _ l answered = Holds l.content l.durable l.failed answered []

-- By what a call asks for, and how its change ended.
pub record IsStored (tells : Type 0) (asked : Option Asked) (ending : Option Changed) (s s' : StoreSeen) (l l' : LogSeen)
    (noted noted' : TraceState) : Type 0 where
  -- no edit is added where no change is made
  pub none : ending ≡ None → l' ≡ l
  pub holds : tells → (answered : List ℕ) → l.failed ≡ None → Holds l.content l.durable None answered []
      → HoldsAsked ending asked l' answered
  -- the body of a new file is there where its edit is
  pub body : ending ≡ Some Durable → tells → HasBody (body_asked asked) s.at s'.at
  pub may : tells → (q : ObjectId) → MayCreate (s.at q) (s'.at q)
  pub others : tells → (q : ObjectId) → body_asked asked ≢ Some q → s'.at q ≡ s.at q
  -- A change fails where the store or the log does. The log has then failed too, or is as it was.
  pub cause : ending ≡ Some Failed → Rose s.count s'.count ⊎ (IsSome l.failed ⊎ Rose l.count l'.count)
  pub fails : ending ≡ Some Failed → (l' ≡ l) ⊎ IsSome l'.failed
  pub later : s.count ≤ s'.count
  pub log_later : l.count ≤ l'.count
  pub mark : l'.mark ≡ l.mark
  pub generation : l'.generation ≡ l.generation
  pub counted : AreBothCounted noted noted' s.tally s'.tally l.tally l'.tally
