-- What a change of the tree leaves of the store, the log, the tree and the calls that were answered.
use Rattle.std.specs.Prelude.{◌≡◌, ◌≤◌, ℕ, ◌==◌, if◌then◌else◌, List, [], ◌++◌, length, take, Option, Some, None}
use Rattle.gw_outside.specs.declared.tally.Tally.{Tally}
use Rattle.gw_model.specs.Views.{TraceState}
use Rattle.gw_model.specs.declared.object.ObjectId.{ObjectId}
use Rattle.gw_model.specs.declared.object.ObjectId.TheVariants.{Body}
use Rattle.append_store.specs.State.{ObjectState}
use Rattle.append_store.specs.Calls.{Creates}
use Rattle.edit_log.specs.Log.{Holds}
use Rattle.edit_log.specs.Notes.{AreCounted}
use Rattle.name_tree.specs.Tree.{Tree, tree_after}
use Rattle.name_tree.specs.declared.edit.Edit.{Edit}
use Rattle.name_tree.specs.declared.edit.Edit.TheVariants.{Make}
use Rattle.dup_cache.specs.CallList.{CallList, with_begun, with_filled}
use Rattle.name_changes.specs.declared.change.Changed.{Changed}
use Rattle.name_changes.specs.declared.change.Changed.TheVariants.{Durable, Failed}
use Rattle.name_changes.specs.declared.change.Replies.{Replies}

-- the body of a new file
abbrev pub new_body : Edit → Option ObjectId
new_body (Make parent id kind mode uid gid name path atime mtime verifier) = if kind == 1 then Some (Body id 1) else None
new_body _ = None

-- it was created where it wasn't there
abbrev pub HasBody : Option ObjectId → (ObjectId → ObjectState) → (ObjectId → ObjectState) → Type 0
HasBody None at at' = Unit {0}
HasBody (Some q) at at' = Creates (at q) (at' q)

abbrev pub tree_by : Changed → Edit → ℕ → Tree → Tree
tree_by Durable e moment t = tree_after e moment t
tree_by Failed e moment t = t

abbrev pub reply_by : Changed → Replies → List ℕ
reply_by Durable replies = replies.done.items
reply_by Failed replies = replies.io.items

-- What was answered before is durable: with the edit's text where the change is durable, and else perhaps with some of it behind.
abbrev pub HoldsBy : Changed → List ℕ → ℕ → Option ℕ → List ℕ → List ℕ → Type 0
HoldsBy Durable content durable failed answered text = Holds content durable failed (answered ++ text) []
HoldsBy Failed content durable failed answered text =
    (n : ℕ) × (n ≤ length text) × Holds content durable failed answered (take n text)

-- A call is kept with this reply, and is the last used.
pub record Keeps (key reply : List ℕ) (old new : CallList) : Type 0 where
  pub room : ℕ
  pub kept : new ≡ with_filled key reply (with_begun key room old)

-- Just the calls that were noted were counted: those on the store, and then those on the log's file.
pub record AreBothCounted (noted noted' : TraceState) (store store' log log' : Tally) : Type 0 where
  pub between : TraceState
  pub store_counted : AreCounted noted between store store'
  pub log_counted : AreCounted between noted' log log'
