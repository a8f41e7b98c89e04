-- What a start makes of what a store lists: the recovered tree and the next generation, or why there is none.
use Rattle.std.specs.Prelude.{◌≡◌, ◌⊎◌, ◌≤◌, ◌++◌, ℕ, ◌+◌, ◌-◌, ◌^◌, max, Bool, false, not, ◌&&◌, ◌||◌, List, [], ◌∷◌, Option, Some, None, Result, Ok, Err, nat_le, ◌==◌, if◌then◌else◌}
use Rattle.gw_model.specs.declared.object.KeptObject.{KeptObject}
use Rattle.gw_model.specs.declared.object.ObjectId.{ObjectId}
use Rattle.gw_model.specs.declared.object.ObjectId.TheVariants.{Log, Body}
use Rattle.gw_model.specs.Ahead as note
use Rattle.gw_model.specs.Views.{TraceState}
use Rattle.append_store.specs.State.{ObjectState, bytes_of}
use Rattle.append_store.specs.Calls.{IsRising, Lists}
use Rattle.name_tree.specs.declared.edit.Edit.{Edit}
use Rattle.name_tree.specs.declared.edit.Edit.TheVariants.{Make, Remove, Rename, Set}
use Rattle.name_tree.specs.Tree.{Tree, Node, is_regular, node, root_tree, tree_after, tree_past, tree_with_size}
use Rattle.edit_log.specs.Edits.{Logged, Edits, DamagedAt, edits_of, written_edits}
use Rattle.edit_log.specs.Notes.{Notes, done_calls, failed_call, read_count}
use Rattle.edit_log.specs.declared.fault.StartFault.{StartFault}
use Rattle.edit_log.specs.declared.fault.StartFault.TheVariants as fault
use Rattle.edit_log.specs.declared.gauge.Cut.{Cut}
use Rattle.edit_log.specs.declared.reading.ReadFault.{ReadFault}
use Rattle.edit_log.specs.declared.reading.ReadFault.TheVariants.{Cut as Faulty, Memory}
use Rattle.edit_log.specs.declared.reading.EditFault.{EditFault}
use Rattle.edit_log.specs.declared.reading.EditFault.TheVariants.{Damaged as DamagedText, Memory as NoRoom}

-- Why a start comes to nothing, but for the store and memory.
pub data Refusal : Type 0 where
  Damaged : (generation place : ℕ) → Refusal
  MissingBody : (file : ℕ) → Refusal
  LastGeneration : Refusal

-- the recovered tree

-- the id of an edit is passed, whether the edit fits or not
abbrev pub tree_past_edit : Edit → Tree → Tree
tree_past_edit (Make parent id kind mode uid gid name path atime mtime verifier) t = tree_past id t
tree_past_edit (Remove parent name) t = t
tree_past_edit (Rename parent name to_parent to_name) t = t
tree_past_edit (Set id mode uid gid atime mtime) t = tree_past id t

-- after an edit of a log: at moment 0
abbrev pub tree_with_edit : Edit → Tree → Tree
tree_with_edit e t = tree_past_edit e (tree_after e 0 t)

abbrev pub tree_with_edits : List Edit → Tree → Tree
tree_with_edits [] t = t
tree_with_edits (e ∷ es) t = tree_with_edits es (tree_with_edit e t)

-- after what a log holds, or the place of the damage
abbrev pub tree_after_log : Logged → Tree → Result Tree ℕ
tree_after_log (Edits es) t = Ok (tree_with_edits es t)
tree_after_log (DamagedAt place) t = Err place

abbrev pub log_in : ObjectId → ObjectState → List (ℕ × List ℕ) → List (ℕ × List ℕ)
log_in (Log generation) state rest = (generation, bytes_of state) ∷ rest
log_in (Body file version) state rest = rest

-- the logs with their generations, as they are listed
abbrev pub logs_of : (ObjectId → ObjectState) → List KeptObject → List (ℕ × List ℕ)
logs_of at [] = []
logs_of at (k ∷ ks) = log_in k.object (at k.object) (logs_of at ks)

abbrev pub after_log : ℕ → Result Tree ℕ → (Tree → Result Tree Refusal) → Result Tree Refusal
after_log generation (Ok t) go = go t
after_log generation (Err place) go = Err (Damaged generation place)

abbrev pub tree_after_logs : List (ℕ × List ℕ) → Tree → Result Tree Refusal
tree_after_logs [] t = Ok t
tree_after_logs (l ∷ ls) t = after_log l.0 (tree_after_log (edits_of l.1) t) (λ u. tree_after_logs ls u)

-- the bodies

-- the first version is the body
abbrev pub is_body_of : ℕ → ObjectId → Bool
is_body_of q (Log generation) = false
is_body_of q (Body file version) = (version == 1) && (file == q)

abbrev pub has_body : List KeptObject → ℕ → Bool
has_body [] q = false
has_body (k ∷ ks) q = is_body_of q k.object || has_body ks q

-- the first regular file that has no body
abbrev pub first_without_body : List KeptObject → List (ℕ × Node) → Option ℕ
first_without_body all [] = None
first_without_body all (n ∷ ns) = if is_regular n.1.attr.kind && not (has_body all n.0) then Some n.0 else first_without_body all ns

abbrev pub is_file : Option Node → Bool
is_file None = false
is_file (Some n) = is_regular n.attr.kind

abbrev pub tree_with_length : ℕ → ℕ → Tree → Tree
tree_with_length file size t = if is_file (node t file) then tree_with_size file size None t else t

-- a body's id is passed, and a file's size is its body's length
abbrev pub tree_with_body : ObjectId → ℕ → Tree → Tree
tree_with_body (Log generation) size t = t
tree_with_body (Body file version) size t = if version == 1 then tree_with_length file size (tree_past file t) else t

abbrev pub tree_with_bodies : List KeptObject → Tree → Tree
tree_with_bodies [] t = t
tree_with_bodies (k ∷ ks) t = tree_with_bodies ks (tree_with_body k.object k.length t)

-- the generation

abbrev pub greater_generation : ℕ → ObjectId → ℕ
greater_generation n (Log generation) = max n generation
greater_generation n (Body file version) = n

-- the greatest of these and n
abbrev pub last_generation : ℕ → List KeptObject → ℕ
last_generation n [] = n
last_generation n (k ∷ ks) = last_generation (greater_generation n k.object) ks

-- the start

abbrev pub start_with_bodies : Option ℕ → ℕ → List KeptObject → Tree → Result (ℕ × Tree) Refusal
start_with_bodies (Some file) last all t = Err (MissingBody file)
start_with_bodies None last all t = if nat_le (2 ^ 64 - 1) last then Err LastGeneration else Ok (last + 1, tree_with_bodies all t)

abbrev pub start_with_tree : Result Tree Refusal → ℕ → List KeptObject → Result (ℕ × Tree) Refusal
start_with_tree (Err refusal) last all = Err refusal
start_with_tree (Ok t) last all = start_with_bodies (first_without_body all t.nodes) last all t

-- The new generation and the recovered tree: the root, the edits of all logs in the order of their generations, and the sizes of
-- the bodies.
unfoldable pub start_result : (ObjectId → ObjectState) → List KeptObject → Result (ℕ × Tree) Refusal
start_result at all = start_with_tree (tree_after_logs (logs_of at all) root_tree) (last_generation 0 all) all

-- the tree after these edits, or after these and one more
abbrev pub RecoversUpTo : Result Tree Refusal → List Edit → Edit → Tree → Type 0
RecoversUpTo r es e t = (r ≡ Ok (tree_with_edits (written_edits es) t)) ⊎ (r ≡ Ok (tree_with_edits (written_edits (es ++ e ∷ [])) t))

-- what the code answers

-- an error is that of the definition, but for the store and memory
abbrev pub Stops : {A : Type 0} → StartFault → Result A Refusal → Type 0
Stops fault.Store r = Unit {0}
Stops (fault.Damaged generation place) r = r ≡ Err (Damaged generation place)
Stops (fault.MissingBody file) r = r ≡ Err (MissingBody file)
Stops fault.LastGeneration r = r ≡ Err LastGeneration
Stops fault.Memory r = Unit {0}

-- A log's edits were done, or its damage was found, or memory was wanting.
abbrev pub DoesLog : {T : Type 0} → Result T EditFault → Tree → Result Tree ℕ → Type 0
DoesLog (Ok x) t r = r ≡ Ok t
DoesLog (Err (DamagedText place)) t r = r ≡ Err place
DoesLog (Err NoRoom) t r = Unit {0}

-- Logs were read, or why not.
abbrev pub DoesLogs : {T : Type 0} → Result T StartFault → Tree → Result Tree Refusal → Type 0
DoesLogs (Ok x) t r = r ≡ Ok t
DoesLogs (Err e) t r = Stops e r

-- The edit in front was done, or the tree stands as it was, or memory was wanting.
abbrev pub DoesEdit : {T : Type 0} → Result T ReadFault → Result Edit Cut → Tree → Tree → Type 0
DoesEdit (Ok x) r t u = (e : Edit) × (r ≡ Ok e) × (u ≡ tree_with_edit e t)
DoesEdit (Err (Faulty cut)) r t u = (r ≡ Err cut) × (u ≡ t)
DoesEdit (Err Memory) r t u = Unit {0}

-- A start's tree and generation were found, or why not.
abbrev pub Finds : {T : Type 0} → (T → ℕ × Tree) → Result T StartFault → Result (ℕ × Tree) Refusal → Type 0
Finds f (Ok x) r = r ≡ Ok (f x)
Finds f (Err e) r = Stops e r

-- Of the list that the store gives, this comes of a start.
pub record Starts (at : ObjectId → ObjectState) (found : ℕ × Tree) : Type 0 where
  pub all : List KeptObject
  pub lists : Lists at all
  pub rising : IsRising all
  pub starts : start_result at all ≡ Ok found

-- Of the list that the store gives, this refusal comes.
pub record Refuses (at : ObjectId → ObjectState) (fault : StartFault) : Type 0 where
  pub all : List KeptObject
  pub lists : Lists at all
  pub rising : IsRising all
  pub stops : Stops fault (start_result at all)

-- What a start notes: the list, the reads of all logs, and the four calls that begin the log.
pub record StartNotes (tells : Type 0) (at : ObjectId → ObjectState) (old new : TraceState) : Type 0 where
  pub all : List KeptObject
  pub lists : tells → Lists at all
  pub rising : IsRising all
  pub notes : Notes old new (note.Listed all ∷ done_calls (read_count all + 4))

-- the list was noted, and then calls up to the one that failed
pub record ListedThen (tells : Type 0) (at : ObjectId → ObjectState) (fault : StartFault) (old new : TraceState) : Type 0 where
  pub all : List KeptObject
  pub lists : tells → Lists at all
  pub rising : IsRising all
  pub done : ℕ
  pub few : done ≤ read_count all + 3
  pub kept : ℕ
  pub notes : Notes old new (note.Listed all ∷ (done_calls done ++ failed_call fault kept))

-- What a start notes that comes to nothing: the list failed, or wasn't asked for; or it was, and later calls too.
abbrev pub StopNotes : Type 0 → (ObjectId → ObjectState) → StartFault → TraceState → TraceState → Type 0
StopNotes tells at fault old new = Notes old new (failed_call fault 0) ⊎ ListedThen tells at fault old new
