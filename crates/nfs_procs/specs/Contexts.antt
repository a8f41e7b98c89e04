-- What the program keeps of many files, which worlds it stands for, and what operations leave of both.
use Rattle.std.specs.Prelude.{◌≡◌, ◌≢◌, ℕ, ◌⊎◌, Bool, true, false, List, [], ◌∷◌, ◌++◌, length, Option, Some, None, is_some, string_bytes}
use Rattle.std.specs.Ordering.{nat_cmp}
use Rattle.std.specs.BTreeMap.{is_at}
use Rattle.std.specs.Map.{remove_entry}
use Rattle.gw_model.specs.declared.limits.Limits.{Limits}
use Rattle.gw_model.specs.declared.object.ObjectId.{ObjectId}
use Rattle.gw_model.specs.Ahead.{Outcome}
use Rattle.append_store.specs.declared.store.Cluster.{Ghosts}
use Rattle.append_store.specs.State.{ObjectState, Missing}
use Rattle.gw_config.specs.Settings.{Settings}
use Rattle.file_cell.specs.State.{CellState}
use Rattle.file_cell.specs.Files.{StandsFor}
use Rattle.file_calls.specs.Counts.{Counts, IsCounted, file_counts, joined_counts}
use Rattle.file_calls.specs.OneReply.{Speaks}
use Rattle.file_calls.specs.Outside.{TrackerState, new_tracker, PartState, Scene, Store, part_state, store_counts, body_id, body_at, scene, IsBodySafe, IsBodyHome, IsAfter, ahead_at}
use Rattle.file_calls.specs.declared.hull.ClosedHull.{ClosedHull}
use Rattle.file_requests.specs.Messages.{is_file}
use Rattle.file_requests.specs.Targets.{Target}
use Rattle.nfs_procs.specs.World.{World, Operation, WorldResult, entry_at, put_at, target_by_state, names_after, world_bodies, next, operations_result}
use Rattle.nfs_procs.specs.declared.served.Served.{Served}
use Rattle.file_calls.specs.declared.part.StepResult.{StepResult}
use Rattle.file_calls.specs.declared.part.StepResult.TheVariants as stepped

-- what the program keeps

-- the names in the root, the contexts by rising number, and the requests that wait, with the settings
pub record ProgramState : Type 0 where
  pub names : List (List ℕ × ℕ)
  pub cells : List (ℕ × CellState)
  pub tracker : TrackerState
  -- what was lost of files that were closed, by rising number
  pub hulls : List (ℕ × Option ClosedHull)

abbrev pub initial_state : Settings → ProgramState
initial_state settings = record { names = []; cells = []; tracker = new_tracker settings; hulls = [] }

abbrev pub file_count : ProgramState → ℕ
file_count k = length k.names

-- what was lost of one file
abbrev pub lost_in : Option (Option ClosedHull) → Option ClosedHull
lost_in None = None
lost_in (Some lost) = lost

abbrev pub lost_at : ℕ → List (ℕ × Option ClosedHull) → Option ClosedHull
lost_at k hulls = lost_in (entry_at k hulls)

-- it can be kept without memory
abbrev pub has_place : ℕ → List (ℕ × Option ClosedHull) → Bool
has_place k hulls = is_some (entry_at k hulls)

-- one file's part
abbrev pub state_at : ℕ → ProgramState → PartState
state_at k s = part_state (lost_at k s.hulls) (entry_at k s.cells) s.tracker

-- an operation is of this, and makes no file
abbrev pub HasTarget : ProgramState → Operation → Target → Type 0
HasTarget s operation target = (target_by_state s.tracker.settings s.names s.cells operation ≡ target) × (names_after operation s.names ≡ s.names)

-- what a store has under each name, how often each was lost, and what the store counts
pub record StoreState : Type 0 where
  pub at : ObjectId → ObjectState
  pub losses : ObjectId → ℕ
  pub counts : Counts

abbrev pub store_state : {C F : Type 0} → Ghosts C F → C → StoreState
store_state g c = record { at = g.at c; losses = g.losses c; counts = store_counts g c }

-- of one body
abbrev pub body_store : ℕ → StoreState → Store
body_store k s = record { body = s.at (body_id k); counts = s.counts }

abbrev pub scene_at : ℕ → ProgramState → StoreState → Scene
scene_at k kept s = scene (state_at k kept) (body_store k s)

-- what the store counts, with what the files count that are out
abbrev pub total_counts : List (ℕ × CellState) → Counts → Counts
total_counts [] n = n
total_counts (e ∷ es) n = total_counts es (joined_counts n (file_counts e.1.file))

-- The same with what is seen outside: what each body holds, and what the store counts, with what the files count that are
-- out.
pub record WorldScene : Type 0 where
  pub kept : ProgramState
  pub bodies : ℕ → List ℕ
  pub counts : Counts

abbrev pub bodies_at : (ObjectId → ObjectState) → List (ℕ × CellState) → ℕ → List ℕ
bodies_at at cells k = body_at (at (body_id k)) (entry_at k cells)

abbrev pub world_scene : ProgramState → StoreState → WorldScene
world_scene kept s = record { kept = kept; bodies = bodies_at s.at kept.cells; counts = total_counts kept.cells s.counts }

abbrev pub world_scene_of : {C F : Type 0} → Ghosts C F → ProgramState → C → WorldScene
world_scene_of g kept c = world_scene kept (store_state g c)

-- each context has no answer left, is held to these limits, and is that of its file
abbrev pub AreCellsReady : Limits → List (ℕ × CellState) → Type 0
AreCellsReady limits [] = Unit {0}
AreCellsReady limits (e ∷ es) = (e.1.left ≡ []) × (e.1.limits ≡ limits) × (e.1.id.0 ≡ e.0) × AreCellsReady limits es

-- where a body is, by whether its file is in the tree
abbrev pub IsBodyPlaced : Type 0 → Bool → ObjectState → Option CellState → Type 0
IsBodyPlaced tells false s opened = (opened ≡ None) × IsBodySafe tells s None
IsBodyPlaced tells true s opened = IsBodyHome tells s opened

-- where each body is: that of a file in the tree is there, or out with its context, and no other is out
abbrev pub AreBodiesPlaced : Type 0 → ℕ → (ObjectId → ObjectState) → List (ℕ × CellState) → Type 0
AreBodiesPlaced tells files at cells = (k : ℕ) → IsBodyPlaced tells (is_file files k) (at (body_id k)) (entry_at k cells)

-- the file of each context is out, and no other
abbrev pub AreBodiesSafe : Type 0 → (ObjectId → ObjectState) → List (ℕ × CellState) → Type 0
AreBodiesSafe tells at cells = (k : ℕ) → IsBodySafe tells (at (body_id k)) (entry_at k cells)

-- the objects that are no bodies of files are the same, and no losses of them rise
abbrev pub ObjectsStay : StoreState → StoreState → Type 0
ObjectsStay s s' = (q : ObjectId) → ((k : ℕ) → q ≢ body_id k) → (s'.at q ≡ s.at q) × (s'.losses q ≡ s.losses q)

-- no losses of an object rise that was there
abbrev pub LossesStay : StoreState → StoreState → Type 0
LossesStay s s' = (q : ObjectId) → s.at q ≢ Missing → s'.losses q ≡ s.losses q

-- no object that was there goes missing
abbrev pub StaysThere : StoreState → StoreState → Type 0
StaysThere s s' = (q : ObjectId) → s.at q ≢ Missing → s'.at q ≢ Missing

-- no losses of any object rise
abbrev pub SameLosses : StoreState → StoreState → Type 0
SameLosses s s' = (q : ObjectId) → s'.losses q ≡ s.losses q

-- nothing but one file's part was changed
pub record ChangesPart (k : ℕ) (old new : ProgramState) : Type 0 where
  pub names : new.names ≡ old.names
  pub cells : new.cells ≡ put_at k (entry_at k new.cells) old.cells
  pub hulls : new.hulls ≡ old.hulls

-- all contexts but the one of a number
abbrev pub other_cells : ℕ → List (ℕ × CellState) → List (ℕ × CellState)
other_cells k cells = remove_entry (is_at (nat_cmp k)) cells

-- no context is closed
abbrev pub IsContextKept : Option CellState → Option CellState → Type 0
IsContextKept (Some c) None = ⊥
IsContextKept _ _ = Unit {0}

-- which worlds the program keeps so

module _ {V W : Type 0} (R : V → W → Type 0) where
  -- the same numbers in the same order, and related values at them
  abbrev pub AllSame : List (ℕ × V) → List (ℕ × W) → Type 0
  AllSame [] [] = Unit {0}
  AllSame (e ∷ es) (f ∷ fs) = (e.0 ≡ f.0) × R e.1 f.1 × AllSame es fs
  AllSame (e ∷ es) [] = ⊥
  AllSame [] (f ∷ fs) = ⊥

  abbrev pub AreBoth : Option V → Option W → Type 0
  AreBoth None None = Unit {0}
  AreBoth (Some v) (Some w) = R v w
  AreBoth (Some v) None = ⊥
  AreBoth None (Some w) = ⊥

pub record IsWorld (s : WorldScene) (w : World) : Type 0 where
  pub names : w.names ≡ s.kept.names
  pub opens : AllSame StandsFor s.kept.cells w.opens
  pub bodies : (k : ℕ) → world_bodies w k ≡ s.bodies k
  pub desk : w.desk ≡ s.kept.tracker.desk
  pub settings : w.settings ≡ s.kept.tracker.settings
  pub moment : w.moment ≡ s.kept.tracker.moment
  pub hulls : (k : ℕ) → w.hulls k ≡ lost_at k s.kept.hulls

-- what passed: outcomes that may come behind what was before, each a call that was counted or a refusal
pub record Passed (old new : WorldScene) (outcomes : List Outcome) : Type 0 where
  pub after : (later : List Outcome) → IsAfter new.kept.tracker.noted later → IsAfter old.kept.tracker.noted (outcomes ++ later)
  pub counts : IsCounted outcomes old.counts new.counts

-- an operation

-- it leaves this, with these outcomes ahead
pub record LeavesWorld (new : WorldScene) (text : List ℕ) (stopped : Bool) (later : List Outcome) (s : WorldResult) : Type 0 where
  pub world : IsWorld new s.world
  pub text_is : s.text ≡ text
  pub stop : s.stopped ≡ stopped
  pub ahead : s.ahead ≡ ahead_at new.kept.tracker.noted later

-- the outcomes are noted
abbrev pub NotesOutcomes : WorldScene → WorldScene → List Outcome → Type 0
NotesOutcomes old new outcomes = new.kept.tracker.noted.outcomes ≡ old.kept.tracker.noted.outcomes ++ outcomes

-- For each world that the program stands for, whatever outcomes come later. Of a store that tells nothing only the outcomes,
-- what is counted and what is written are said.
pub record IsDone (tells : Type 0) (operation : Operation) (old new : WorldScene) (text : List ℕ) (stopped : Bool) : Type 0 where
  pub outcomes : List Outcome
  pub notes : NotesOutcomes old new outcomes
  pub speaks : Speaks old.kept.tracker.desk new.kept.tracker.desk text
  pub passed : Passed old new outcomes
  pub next_is : tells → (w : World) → IsWorld old w → (later : List Outcome) → IsAfter new.kept.tracker.noted later
      → LeavesWorld new text stopped later (next w operation (ahead_at old.kept.tracker.noted (outcomes ++ later)))

-- no call was made, and the bodies hold what they held
pub record IsNotBegun (tells : Type 0) (old new : WorldScene) : Type 0 where
  pub notes : NotesOutcomes old new []
  pub counts : IsCounted [] old.counts new.counts
  pub bodies : tells → (k : ℕ) → new.bodies k ≡ old.bodies k

-- One that want of memory cut off: it wasn't begun, or all of it was done but that its text was made.
abbrev pub IsCutOff : Type 0 → Operation → WorldScene → WorldScene → Type 0
IsCutOff tells operation old new = IsNotBegun tells old new ⊎ ((text : List ℕ) × IsDone tells operation old new text false)

-- operations

-- Operations that were done, whatever operations and outcomes come later.
pub record Does (tells : Type 0) (operations : List Operation) (old new : WorldScene) (text : List ℕ) : Type 0 where
  pub outcomes : List Outcome
  pub notes : NotesOutcomes old new outcomes
  pub speaks : Speaks old.kept.tracker.desk new.kept.tracker.desk text
  pub passed : Passed old new outcomes
  pub result : tells → (w : World) → IsWorld old w → (later : List Outcome) → IsAfter new.kept.tracker.noted later
      → LeavesWorld new text false later (operations_result w operations (ahead_at old.kept.tracker.noted (outcomes ++ later)))

-- what a run came to in which no outcome is left and none was wanting
pub record EndsAt (bodies : ℕ → List ℕ) (text : List ℕ) (stopped : Bool) (s : WorldResult) : Type 0 where
  pub text_is : s.text ≡ text
  pub bodies_are : (k : ℕ) → world_bodies s.world k ≡ bodies k
  pub stop : s.stopped ≡ stopped
  pub left : s.ahead.left ≡ []
  pub matched : s.ahead.mismatched ≡ false

-- Operations of which one ended the run before anything was written.
pub record Stops (tells : Type 0) (operations : List Operation) (old new : WorldScene) : Type 0 where
  pub outcomes : List Outcome
  pub counts : IsCounted outcomes old.counts new.counts
  pub after : IsAfter old.kept.tracker.noted outcomes
  pub result : tells → (w : World) → IsWorld old w → EndsAt new.bodies [] true (operations_result w operations (ahead_at old.kept.tracker.noted outcomes))

-- Operations of which a front was done when memory was refused.
pub record Cuts (tells : Type 0) (operations : List Operation) (old new : WorldScene) : Type 0 where
  pub done : List Operation
  pub left : List Operation
  pub split : operations ≡ done ++ left
  pub text : List ℕ
  pub outcomes : List Outcome
  pub counts : IsCounted outcomes old.counts new.counts
  pub after : IsAfter old.kept.tracker.noted outcomes
  pub result : tells → (w : World) → IsWorld old w → EndsAt new.bodies text false (operations_result w done (ahead_at old.kept.tracker.noted outcomes))

-- what a call answers

-- what a message came to
abbrev pub IsServed : Type 0 → Served → Operation → Bool → WorldScene → WorldScene → Type 0
IsServed tells s operation ends old new = (s.ended ≡ ends) × IsDone tells operation old new (string_bytes s.text) false

abbrev pub IsOperation : Type 0 → StepResult → Operation → WorldScene → WorldScene → Type 0
IsOperation tells (stepped.Text text) operation old new = IsDone tells operation old new (string_bytes text) false
IsOperation tells stepped.StoreFault operation old new = IsDone tells operation old new [] true
IsOperation tells stepped.NoMemory operation old new = IsCutOff tells operation old new
