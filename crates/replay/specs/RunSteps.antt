-- How a run gets from one line to the next, and where it ends.
use Rattle.std.specs.Prelude.{◌≡◌, ℕ, ◌+◌, ◌⊎◌, true, false, List, [], ◌++◌, length, Option}
use Rattle.std.specs.Io.KnownBytes.{IsAtEnd, Appends}
use Rattle.append_store.specs.declared.store.Cluster.{Ghosts}
use Rattle.gw_model.specs.Ahead.{Outcome}
use Rattle.gw_outside.specs.Causes.{Rose}
use Rattle.gw_outside.specs.Writing.{IsPrefix, AppendsPrefix}
use Rattle.tickets.specs.Desk.{DeskState, new_desk}
use Rattle.transcript.specs.Script.{Script, ScriptStop, AtEnd, AtBad, AtOpen, empty_script, then_script, script_from, IsPart}
use Rattle.gw_config.specs.Settings.{Settings, default_settings}
use Rattle.file_calls.specs.OneReply.{Speaks}
use Rattle.file_calls.specs.Counts.{IsCounted}
use Rattle.file_calls.specs.Outside.{IsAfter, ahead_at}
use Rattle.nfs_procs.specs.World.{World, Operation, operations_result}
use Rattle.nfs_procs.specs.Contexts.{ProgramState, WorldScene, IsWorld, LeavesWorld, Stops, Cuts, initial_state, world_scene_of}
use Rattle.gateway.specs.Links.{Links, AreLinks, no_links, arrival, operations_of, links_after}
use Rattle.gateway.specs.Steps.{GatewayState, idle_gateway}
use Rattle.replay.specs.Grammar.{LinesBefore, first_line, line_reading}
use Rattle.replay.specs.Headline.{Outside, Traffic, Moves, event_script, IsWhole, IsCutShort}
use Rattle.gateway.specs.declared.event.Event.{Event}
use Rattle.replay.specs.declared.run.LineOutcome.{LineOutcome}
use Rattle.replay.specs.declared.run.LineOutcome.TheVariants as outcome
use Rattle.replay.specs.declared.status.Status.{Status}
use Rattle.replay.specs.declared.status.Status.TheVariants as status

-- between two lines: what the program keeps, what the lines so far leave of the grammar, how many lines came, and the bytes
-- that were read and not used yet
pub record Place : Type 0 where
  pub state : GatewayState
  pub grammar : LinesBefore
  pub before : ℕ
  pub pending : List ℕ

abbrev pub script_at : Place → List ℕ → Script Event
script_at here bytes = script_from line_reading here.grammar here.before bytes

-- what is seen outside, by what the source has left, what the sink holds, and what the store tells
abbrev pub outside_of : {C F : Type 0} → Ghosts C F → ProgramState → Option (List ℕ) → Option (List ℕ) → C → Outside
outside_of g kept left held c =
    let s = world_scene_of g kept c in record { left = left; held = held; bodies = s.bodies; counts = s.counts }

-- so where no file is out
abbrev pub outside_home : {C F : Type 0} → Ghosts C F → Option (List ℕ) → Option (List ℕ) → C → Outside
outside_home g left held c = outside_of g (initial_state default_settings) left held c

-- the count of faults rose, with what the files count that are out
abbrev pub HasRisen : {C F : Type 0} → Ghosts C F → (k k' : ProgramState) → (c c' : C) → Type 0
HasRisen g k k' c c' = Rose (world_scene_of g k c).counts.faults (world_scene_of g k' c').counts.faults

-- what is kept, and what is seen outside
abbrev pub outside_scene : ProgramState → Outside → WorldScene
outside_scene kept o = record { kept = kept; bodies = o.bodies; counts = o.counts }

abbrev pub place_scene : Place → Outside → WorldScene
place_scene here o = outside_scene here.state.kept o

-- Operations that were done with just these outcomes, whatever outcomes come later. They needn't be noted any more.
pub record HasDone (tells : Type 0) (operations : List Operation) (old new : WorldScene) (outcomes : List Outcome) (text : List ℕ) : Type 0 where
  pub speaks : Speaks old.kept.tracker.desk new.kept.tracker.desk text
  pub after : (later : List Outcome) → IsAfter new.kept.tracker.noted later → IsAfter old.kept.tracker.noted (outcomes ++ later)
  pub result : tells → (w : World) → IsWorld old w → (later : List Outcome) → IsAfter new.kept.tracker.noted later
      → LeavesWorld new text false later (operations_result w operations (ahead_at old.kept.tracker.noted (outcomes ++ later)))

-- one event

-- it was done, but that its text is still to be written
pub record EventDone (tells : Type 0) (event : Event) (links : Links) (old new : GatewayState) (before after : Outside) (text : List ℕ) : Type 0 where
  pub outcomes : List Outcome
  pub counts : IsCounted outcomes before.counts after.counts
  pub links_are : AreLinks new.links (arrival links event).links
  pub does : HasDone tells (arrival links event).operations (outside_scene old.kept before) (outside_scene new.kept after) outcomes text

abbrev pub IsEventOutcome : Type 0 → LineOutcome → Event → Links → GatewayState → GatewayState → Outside → Outside → Type 0
IsEventOutcome tells outcome.Continue event links old new before after =
    (text : List ℕ) × EventDone tells event links old new before after text × Appends before.held after.held text
IsEventOutcome tells outcome.WriteFault event links old new before after =
    (text : List ℕ) × EventDone tells event links old new before after text × AppendsPrefix before.held after.held text
IsEventOutcome tells outcome.StoreFault event links old new before after =
    Stops tells (arrival links event).operations (outside_scene old.kept before) (outside_scene new.kept after) × Appends before.held after.held []
IsEventOutcome tells outcome.NoMemory event links old new before after =
    Cuts tells (arrival links event).operations (outside_scene old.kept before) (outside_scene new.kept after) × Appends before.held after.held []
IsEventOutcome tells _ event links old new before after = ⊥

-- one line

-- whatever bytes come later, these begin with the line of an event
abbrev pub ReadsEvent : Event → Place → Place → List ℕ → Type 0
ReadsEvent event here there taken = (more : List ℕ) → script_at here (here.pending ++ taken ++ more) ≡ then_script event (script_at there (there.pending ++ more))

-- its event was done
pub record LineDone (tells : Type 0) (links : Links) (here there : Place) (before after : Outside) (traffic : Traffic) (text : List ℕ) : Type 0 where
  pub event : Event
  pub reads : ReadsEvent event here there traffic.taken
  pub links_are : AreLinks there.state.links (arrival links event).links
  pub does : HasDone tells (arrival links event).operations (place_scene here before) (place_scene there after) traffic.outcomes text

-- a failed call in its event ended the run
pub record LineStopped (tells : Type 0) (links : Links) (here there : Place) (before after : Outside) (traffic : Traffic) : Type 0 where
  pub event : Event
  pub reads : ReadsEvent event here there traffic.taken
  pub stops : Stops tells (arrival links event).operations (place_scene here before) (place_scene there after)
  pub outcomes_are : stops.outcomes ≡ traffic.outcomes
  pub silent : traffic.written ≡ []

-- memory was refused in its event
pub record LineCut (tells : Type 0) (links : Links) (here there : Place) (before after : Outside) (traffic : Traffic) : Type 0 where
  pub event : Event
  pub reads : ReadsEvent event here there traffic.taken
  pub cuts : Cuts tells (arrival links event).operations (place_scene here before) (place_scene there after)
  pub outcomes_are : cuts.outcomes ≡ traffic.outcomes
  pub silent : traffic.written ≡ []

-- nothing went out, and the program keeps what it kept
pub record Rests (here there : Place) (before after : Outside) (traffic : Traffic) : Type 0 where
  pub state : there.state ≡ here.state
  pub bodies : (k : ℕ) → after.bodies k ≡ before.bodies k
  pub written : traffic.written ≡ []
  pub outcomes : traffic.outcomes ≡ []

-- these bytes stop at once, whatever comes after them
abbrev pub Settles : ScriptStop → Place → List ℕ → Type 0
Settles stop here bytes = (more : List ℕ) → script_at here (bytes ++ more) ≡ empty_script stop

-- one line, behind which the connections stand so
abbrev pub IsLineOutcome : LineOutcome → Type 0 → Links → Place → Place → Outside → Outside → Traffic → Type 0
IsLineOutcome outcome.Continue tells links here there before after traffic =
    (there.before ≡ here.before + 1) × LineDone tells links here there before after traffic traffic.written
IsLineOutcome outcome.LastLine tells links here there before after traffic = Rests here there before after traffic × Settles AtEnd here (here.pending ++ traffic.taken)
IsLineOutcome outcome.BadLine tells links here there before after traffic = Rests here there before after traffic × Settles AtBad here (here.pending ++ traffic.taken)
IsLineOutcome outcome.InputEnded tells links here there before after traffic = Rests here there before after traffic × IsPart (here.pending ++ traffic.taken) × IsAtEnd after.left
IsLineOutcome outcome.ReadFault tells links here there before after traffic = Rests here there before after traffic × IsPart (here.pending ++ traffic.taken)
IsLineOutcome outcome.StoreFault tells links here there before after traffic = LineStopped tells links here there before after traffic
IsLineOutcome outcome.WriteFault tells links here there before after traffic =
    (text : List ℕ) × LineDone tells links here there before after traffic text × IsPrefix traffic.written text
IsLineOutcome outcome.NoMemory tells links here there before after traffic =
    Rests here there before after traffic ⊎ LineCut tells links here there before after traffic

pub record LineStep (tells : Type 0) (is : LineOutcome) (links : Links) (here there : Place) (before after : Outside) : Type 0 where
  pub traffic : Traffic
  pub moves : Moves before after traffic
  pub outcome_is : IsLineOutcome is tells links here there before after traffic

-- the run so far, from the beginning

abbrev pub beginning : Settings → Place
beginning settings = record { state = idle_gateway settings; grammar = first_line; before = 0; pending = [] }

-- these events, and then a script
abbrev pub events_then : List Event → Script Event → Script Event
events_then events script = record { events = events ++ script.events; stop = script.stop }

-- Just these events were done, and whatever bytes come later, the transcript goes on with them from here.
pub record Reached (tells : Type 0) (settings : Settings) (there : Place) (before after : Outside) : Type 0 where
  pub traffic : Traffic
  pub moves : Moves before after traffic
  pub events : List Event
  pub count : length events ≡ there.before
  pub links_are : AreLinks there.state.links (links_after no_links events)
  pub reads : (more : List ℕ) → event_script (traffic.taken ++ more) ≡ events_then events (script_at there (there.pending ++ more))
  pub does : HasDone tells (operations_of no_links events) (outside_scene (initial_state settings) before) (place_scene there after) traffic.outcomes traffic.written

-- all went out but the histories
pub record Closes (tells : Type 0) (settings : Settings) (before after : Outside) (stop : ScriptStop) (lines : ℕ) (bytes : List ℕ) (traffic : Traffic) (kept : ProgramState) : Type 0 where
  pub events : List Event
  pub script_is : event_script bytes ≡ record { events = events; stop = stop }
  pub count : length events ≡ lines
  pub does : HasDone tells (operations_of no_links events) (outside_scene (initial_state settings) before) (outside_scene kept after) traffic.outcomes traffic.written

-- a front of what calls of a desk gave was written
abbrev pub SpeaksFront : DeskState → List ℕ → Type 0
SpeaksFront d written = (desk : DeskState) × (text : List ℕ) × Speaks d desk text × IsPrefix written text

-- all lines, and what the program keeps then
abbrev pub IsEnding : LineOutcome → Type 0 → Settings → ℕ → Traffic → GatewayState → Outside → Outside → Type 0
IsEnding outcome.Continue tells settings lines traffic state before after = ⊥
IsEnding outcome.LastLine tells settings lines traffic state before after = (more : List ℕ) → Closes tells settings before after AtEnd lines (traffic.taken ++ more) traffic state.kept
IsEnding outcome.BadLine tells settings lines traffic state before after = (more : List ℕ) → Closes tells settings before after AtBad lines (traffic.taken ++ more) traffic state.kept
IsEnding outcome.InputEnded tells settings lines traffic state before after = Closes tells settings before after AtOpen lines traffic.taken traffic state.kept × IsAtEnd after.left
IsEnding outcome.ReadFault tells settings lines traffic state before after = Closes tells settings before after AtOpen lines traffic.taken traffic state.kept
IsEnding outcome.StoreFault tells settings lines traffic state before after =
    (tells → IsWhole settings before.bodies traffic.taken true traffic after.bodies) × SpeaksFront new_desk traffic.written
IsEnding outcome.WriteFault tells settings lines traffic state before after =
    (tells → IsCutShort settings before.bodies traffic.taken traffic after.bodies) × SpeaksFront new_desk traffic.written
IsEnding outcome.NoMemory tells settings lines traffic state before after =
    (tells → IsCutShort settings before.bodies traffic.taken traffic after.bodies) × SpeaksFront new_desk traffic.written

pub record LinesEnd (tells : Type 0) (settings : Settings) (is : LineOutcome) (lines : ℕ) (state : GatewayState) (before after : Outside) : Type 0 where
  pub traffic : Traffic
  pub moves : Moves before after traffic
  pub ending : IsEnding is tells settings lines traffic state before after

-- the status, where the histories were written whole
abbrev pub status_by : LineOutcome → ℕ → Status
status_by outcome.Continue lines = status.NoMemory
status_by outcome.LastLine lines = status.Done
status_by outcome.BadLine lines = status.BadLine (lines + 1)
status_by outcome.InputEnded lines = status.BadLine (lines + 1)
status_by outcome.ReadFault lines = status.ReadFault
status_by outcome.StoreFault lines = status.StoreFault
status_by outcome.WriteFault lines = status.WriteFault
status_by outcome.NoMemory lines = status.NoMemory
