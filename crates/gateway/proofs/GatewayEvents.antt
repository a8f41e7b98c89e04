-- The steps of the gateway, event by event.
use Rattle.std.proofs.Common.{◌≡◌, ℕ, ◌-◌, ◌^◌, ◌<◌, false, List, [], ◌∷◌, refl, Result, Ok, Err, IfOk, OnErr, String, Global, string_bytes}
use Rattle.std.specs.declared.alloc.AllocError.{AllocError}
use Rattle.nfs_procs.specs.World.{Operation, CreateNamed, HangUp as HangUpOf, TurnOf, PumpOf, SyncOf, TickBy}
use Rattle.nfs_procs.specs.Contexts.{ProgramState, StoreState, WorldScene, world_scene, IsDone, IsCutOff, IsOperation, Cuts}
use Rattle.gateway.specs.Links.{Links, AreLinks, SetsLink, arrival, hearing_at}
use Rattle.gateway.specs.Steps.{IsReceived, IsEventStep}
use Rattle.gateway.specs.declared.link.Link.{Link}
use Rattle.gateway.specs.declared.link.Link.TheVariants.{Open}
use Rattle.file_calls.specs.declared.part.StepResult.{StepResult}
use Rattle.file_calls.specs.declared.part.StepResult.TheVariants as stepped
use Rattle.gateway.specs.declared.event.Event.{Event}
use Rattle.gateway.specs.declared.event.Event.TheVariants.{MakeFile, Bytes, Turn, Pump, Sync, Tick, HangUp}
use Rattle.nfs_procs.proofs.WorldOperations.{begun, begin_cut, cuts_one, does_begin, does_one, stops_one}

-- a file is made
pub made_stepped : (tells : Type 0) (result : StepResult) (name : List ℕ) (kept : List (ℕ × Link)) (old new : WorldScene) → IsOperation tells result (CreateNamed name) old new
    → (links : Links) → AreLinks kept links → IsEventStep tells result (MakeFile name) links kept old new
unfolding arrival
made_stepped tells (stepped.Text text) name kept old new m links are = (are, does_one tells (CreateNamed name) old new (string_bytes text) m)
made_stepped tells stepped.StoreFault name kept old new m links are = stops_one tells (CreateNamed name) old new m
made_stepped tells stepped.NoMemory name kept old new m links are = cuts_one tells (CreateNamed name) [] old new m

-- a piece came, and its text was made or not
pub received_stepped : (tells : Type 0) (r : Result (String Global) AllocError) (result : StepResult) (before after : List (ℕ × Link)) (k : ProgramState) (s : StoreState) (new : WorldScene) → k.tracker.noted.event < 2 ^ 64 - 1
    → IfOk r (λ t. result ≡ stepped.Text t) → OnErr r (result ≡ stepped.NoMemory) → (conn : ℕ) (piece : List ℕ)
    → IfOk r (λ t. IsReceived tells conn piece before after (string_bytes t) (world_scene (begun k) s) new) → OnErr r (Cuts tells (hearing_at before conn piece).operations (world_scene (begun k) s) new)
    → (links : Links) → AreLinks before links → IsEventStep tells result (Bytes conn piece) links after (world_scene k s) new
unfolding arrival
received_stepped tells (Ok t) result before after k s new few e f conn piece ok err links are =
    let heard = (hearing_at before conn piece).operations in
    rw (e, are conn) (ok.links links are, does_begin tells heard k s new (string_bytes t) few ok.does)
received_stepped tells (Err x) result before after k s new few e f conn piece ok err links are =
    let heard = (hearing_at before conn piece).operations in
    rw (f, are conn) (begin_cut tells heard k s new few err)

module _ (tells : Type 0) (r : Result (String Global) AllocError) (result : StepResult) (kept : List (ℕ × Link)) (old new : WorldScene)
    (ok : IfOk r (λ t. result ≡ stepped.Text t)) (err : OnErr r (result ≡ stepped.NoMemory)) where
  -- an event of one operation, whose text was made or not
  one_stepped : (links : Links) → AreLinks kept links → (event : Event) (operation : Operation) → (arrival links event).operations ≡ operation ∷ [] → AreLinks kept (arrival links event).links
      → IfOk r (λ t. IsDone tells operation old new (string_bytes t) false) → OnErr r (IsCutOff tells operation old new) → IsEventStep tells result event links kept old new
  one_stepped links are event operation is same s u = go r ok err s u
    where
      go : (r : Result (String Global) AllocError) → IfOk r (λ t. result ≡ stepped.Text t) → OnErr r (result ≡ stepped.NoMemory)
          → IfOk r (λ t. IsDone tells operation old new (string_bytes t) false) → OnErr r (IsCutOff tells operation old new) → IsEventStep tells result event links kept old new
      go (Ok t) e f s u = rw (e, is) (same, does_one tells operation old new (string_bytes t) s)
      go (Err x) e f s u = rw (f, is) (cuts_one tells operation [] old new u)

  pub turn_stepped : (file : ℕ) → IfOk r (λ t. IsDone tells (TurnOf file) old new (string_bytes t) false) → OnErr r (IsCutOff tells (TurnOf file) old new)
      → (links : Links) → AreLinks kept links → IsEventStep tells result (Turn file) links kept old new
  unfolding arrival
  turn_stepped file s u links are = one_stepped links are (Turn file) (TurnOf file) refl are s u

  pub pump_stepped : (file : ℕ) → IfOk r (λ t. IsDone tells (PumpOf file) old new (string_bytes t) false) → OnErr r (IsCutOff tells (PumpOf file) old new)
      → (links : Links) → AreLinks kept links → IsEventStep tells result (Pump file) links kept old new
  unfolding arrival
  pump_stepped file s u links are = one_stepped links are (Pump file) (PumpOf file) refl are s u

  pub sync_stepped : (file : ℕ) → IfOk r (λ t. IsDone tells (SyncOf file) old new (string_bytes t) false) → OnErr r (IsCutOff tells (SyncOf file) old new)
      → (links : Links) → AreLinks kept links → IsEventStep tells result (Sync file) links kept old new
  unfolding arrival
  sync_stepped file s u links are = one_stepped links are (Sync file) (SyncOf file) refl are s u

  pub tick_stepped : (milliseconds : ℕ) → IfOk r (λ t. IsDone tells (TickBy milliseconds) old new (string_bytes t) false) → OnErr r (IsCutOff tells (TickBy milliseconds) old new)
      → (links : Links) → AreLinks kept links → IsEventStep tells result (Tick milliseconds) links kept old new
  unfolding arrival
  tick_stepped milliseconds s u links are = one_stepped links are (Tick milliseconds) (TickBy milliseconds) refl are s u

-- a connection is hung up
pub hung_up_stepped : (tells : Type 0) (text : String Global) (conn : ℕ) (before after : List (ℕ × Link)) (old new : WorldScene) → string_bytes text ≡ [] → SetsLink conn (Open []) before after → IsDone tells (HangUpOf conn) old new [] false
    → (links : Links) → AreLinks before links → IsEventStep tells (stepped.Text text) (HangUp conn) links after old new
unfolding arrival
hung_up_stepped tells text conn before after old new none sets s links are = rw none (sets links are, does_one tells (HangUpOf conn) old new [] s)
