-- What a piece and an event come to.
use Rattle.std.specs.Prelude.{◌≡◌, ℕ, Bool, true, false, List, [], string_bytes}
use Rattle.append_store.specs.declared.store.Cluster.{Ghosts}
use Rattle.gw_config.specs.Settings.{Settings}
use Rattle.file_calls.specs.declared.part.StepResult.{StepResult}
use Rattle.file_calls.specs.declared.part.StepResult.TheVariants as stepped
use Rattle.nfs_procs.specs.Contexts.{ProgramState, WorldScene, Does, Stops, Cuts, initial_state, world_scene_of}
use Rattle.nfs_procs.specs.declared.served.Served.{Served}
use Rattle.gateway.specs.Links.{Links, Hearing, AreLinks, SetsLink, arrival, hearing_at}
use Rattle.gateway.specs.declared.link.Link.{Link}
use Rattle.gateway.specs.declared.link.Link.TheVariants.{Open, Closed}
use Rattle.gateway.specs.declared.event.Event.{Event}

-- What the program keeps between two lines: the connections beside the files.
pub record GatewayState : Type 0 where
  pub links : List (ℕ × Link)
  pub kept : ProgramState

abbrev pub idle_gateway : Settings → GatewayState
idle_gateway settings = record { links = []; kept = initial_state settings }

abbrev pub gateway_scene : {C F : Type 0} → Ghosts C F → GatewayState → C → WorldScene
gateway_scene g s c = world_scene_of g s.kept c

abbrev pub link_after : Bool → List ℕ → Link
link_after true held = Closed
link_after false held = Open held

-- what records came to
abbrev pub IsPieceServed : Type 0 → Served → Hearing → List ℕ → WorldScene → WorldScene → Type 0
IsPieceServed tells s h held old new = (h.link ≡ link_after s.ended held) × Does tells h.operations old new (string_bytes s.text)

-- what a piece of a connection came to, behind the beginning of its event
pub record IsReceived (tells : Type 0) (conn : ℕ) (piece : List ℕ) (before after : List (ℕ × Link)) (text : List ℕ) (old new : WorldScene) : Type 0 where
  pub links : SetsLink conn (hearing_at before conn piece).link before after
  pub does : Does tells (hearing_at before conn piece).operations old new text

-- one event: its operations, and what it leaves of the connections
abbrev pub IsEventStep : Type 0 → StepResult → Event → Links → List (ℕ × Link) → WorldScene → WorldScene → Type 0
IsEventStep tells (stepped.Text text) event links after old new =
    AreLinks after (arrival links event).links × Does tells (arrival links event).operations old new (string_bytes text)
IsEventStep tells stepped.StoreFault event links after old new = Stops tells (arrival links event).operations old new
IsEventStep tells stepped.NoMemory event links after old new = Cuts tells (arrival links event).operations old new
