-- What a run writes and stores, by the bytes of the transcript and the outcomes of the store's calls.
use Rattle.std.specs.Prelude.{◌≡◌, ◌≢◌, ℕ, ◌+◌, ◌≤◌, ◌⊎◌, Bool, true, false, List, [], ◌++◌, length, Option, Some, None, unwrap_or}
use Rattle.std.specs.Io.KnownBytes.{Consumes, Appends}
use Rattle.gw_model.specs.Ahead.{Outcomes, Outcome}
use Rattle.gw_outside.specs.Writing.{IsPrefix}
use Rattle.transcript.specs.Script.{Script, script as script_by, AtEnd, AtOpen}
use Rattle.gw_config.specs.Settings.{Settings}
use Rattle.file_calls.specs.Counts.{Counts, IsCounted}
use Rattle.nfs_procs.specs.World.{Operation, WorldResult, RunOutput, world_at_start, world_bodies, end_texts, operations_result, run_output}
use Rattle.gateway.specs.Links.{no_links, operations_of, links_after}
use Rattle.gateway.specs.declared.event.Event.{Event}
use Rattle.replay.specs.Grammar.{first_line, line_reading}
use Rattle.replay.specs.Spoken.{IsSpoken}
use Rattle.replay.specs.declared.status.Status.{Status}
use Rattle.replay.specs.declared.status.Status.TheVariants as status

-- what the outside tells: what the source has left, what the sink holds, what each body holds, and what the store counts,
-- with what the files count that are out
pub record Outside : Type 0 where
  pub left : Option (List ℕ)
  pub held : Option (List ℕ)
  pub bodies : ℕ → List ℕ
  pub counts : Counts

-- what went in and out in a run, and in order what the calls on the store came to and where memory was refused
pub record Traffic : Type 0 where
  pub taken : List ℕ
  pub written : List ℕ
  pub outcomes : List Outcome

-- The outcomes are the calls that were made.
pub record Moves (before after : Outside) (traffic : Traffic) : Type 0 where
  pub reads : Consumes before.left after.left traffic.taken
  pub writes : Appends before.held after.held traffic.written
  pub counts : IsCounted traffic.outcomes before.counts after.counts

-- the outcomes that a run uses up, before its first event
abbrev pub ahead_of : List Outcome → Outcomes
ahead_of outcomes = record { left = outcomes; event = 0; request = 0; mismatched = false }

-- no outcome is left, and none was wanting
pub record IsUsedUp (t : Outcomes) : Type 0 where
  pub left : t.left ≡ []
  pub matched : t.mismatched ≡ false

abbrev pub event_script : List ℕ → Script Event
event_script bytes = script_by line_reading first_line bytes

-- all that comes of a transcript under these settings, over bodies that hold these bytes at first
abbrev pub output : Settings → (ℕ → List ℕ) → List ℕ → List Outcome → RunOutput
output settings bodies bytes outcomes = run_output (world_at_start settings bodies) (operations_of no_links (event_script bytes).events) (ahead_of outcomes)

-- Just this went out, the bodies hold what the definition says, and the outcomes are used up.
pub record IsWhole (settings : Settings) (before : ℕ → List ℕ) (bytes : List ℕ) (stopped : Bool) (traffic : Traffic) (after : ℕ → List ℕ) : Type 0 where
  pub text : (output settings before bytes traffic.outcomes).text ≡ traffic.written
  pub bodies : (k : ℕ) → (output settings before bytes traffic.outcomes).bodies k ≡ after k
  pub stop : (output settings before bytes traffic.outcomes).stopped ≡ stopped
  pub used : IsUsedUp (output settings before bytes traffic.outcomes).ahead

-- what operations of a new world come to
abbrev pub result_of : Settings → (ℕ → List ℕ) → List Operation → List Outcome → WorldResult
result_of settings bodies operations outcomes = operations_result (world_at_start settings bodies) operations (ahead_of outcomes)

-- Where a run was cut short: some first events were done whole, of at most one more a front of its operations was done, and
-- the histories were begun only where all events were done.
pub record CutPlace (events : List Event) : Type 0 where
  pub done : List Event
  pub last : List Event
  pub rest : List Event
  pub split : events ≡ done ++ last ++ rest
  pub few : length last ≤ 1
  pub begun : List Operation
  pub unbegun : List Operation
  pub last_is : operations_of (links_after no_links done) last ≡ begun ++ unbegun

-- the histories, where a run got as far as they
abbrev pub IsHistoryText : {events : List Event} → CutPlace events → WorldResult → List ℕ → Type 0
IsHistoryText place s text = (text ≡ []) ⊎ ((place.last ≡ []) × (place.rest ≡ []) × (text ≡ end_texts s.world.opens))

-- Up to there all was done, with just these outcomes: the bodies hold what the definition says of it, and what was written
-- lies between the text of the events that were done whole and that of all that was done.
pub record IsCutAt {events : List Event} (place : CutPlace events) (whole begun : WorldResult) (written : List ℕ) (after : ℕ → List ℕ) : Type 0 where
  pub all_written : IsPrefix whole.text written
  pub histories : List ℕ
  pub histories_are : IsHistoryText place begun histories
  pub front : IsPrefix written (begun.text ++ histories)
  pub bodies : (k : ℕ) → world_bodies begun.world k ≡ after k
  pub running : begun.stopped ≡ false
  pub used : IsUsedUp begun.ahead

abbrev pub IsCutShort : Settings → (ℕ → List ℕ) → List ℕ → Traffic → (ℕ → List ℕ) → Type 0
IsCutShort settings before bytes traffic after =
    (place : CutPlace (event_script bytes).events)
    × IsCutAt place (result_of settings before (operations_of no_links place.done) traffic.outcomes)
    (result_of settings before (operations_of no_links place.done ++ place.begun) traffic.outcomes) traffic.written after

abbrev pub no_traffic : Traffic
no_traffic = record { taken = []; written = []; outcomes = [] }

-- How far the transcript was read, by the status. `whole` is what was taken and what the source has left.
abbrev pub IsReadUpTo : Status → List ℕ → Traffic → Type 0
IsReadUpTo status.Done whole traffic = (event_script traffic.taken).stop ≡ AtEnd
IsReadUpTo (status.BadLine n) whole traffic = ((event_script whole).stop ≢ AtEnd) × (n ≡ length (event_script whole).events + 1)
IsReadUpTo status.ReadFault whole traffic = (event_script traffic.taken).stop ≡ AtOpen
IsReadUpTo status.Usage whole traffic = traffic ≡ no_traffic
IsReadUpTo (status.BadConfig fault) whole traffic = traffic ≡ no_traffic
IsReadUpTo _ whole traffic = Unit {0}

-- What went in and out, by the status.
abbrev pub IsRun : Settings → Status → (ℕ → List ℕ) → List ℕ → Traffic → (ℕ → List ℕ) → Type 0
IsRun settings status.Done before whole traffic after = IsWhole settings before traffic.taken false traffic after
IsRun settings (status.BadLine n) before whole traffic after = IsWhole settings before whole false traffic after
IsRun settings status.ReadFault before whole traffic after = IsWhole settings before traffic.taken false traffic after
IsRun settings status.StoreFault before whole traffic after = IsWhole settings before traffic.taken true traffic after
IsRun settings status.WriteFault before whole traffic after = IsCutShort settings before traffic.taken traffic after
IsRun settings status.NoMemory before whole traffic after = IsCutShort settings before traffic.taken traffic after
IsRun settings status.Usage before whole traffic after = (k : ℕ) → after k ≡ before k
IsRun settings (status.BadConfig fault) before whole traffic after = (k : ℕ) → after k ≡ before k

-- The headline: bytes were read and written, and where the store tells what it holds, they and the bodies are the run of the
-- transcript under the settings, over what the bodies held. A source that tells nothing counts as one that has nothing left. Of a store that tells
-- nothing it is said what it counts, how far the transcript was read, and that a request got at most one reply.
pub record Runs (tells : Type 0) (settings : Settings) (status : Status) (before after : Outside) : Type 0 where
  pub traffic : Traffic
  pub moves : Moves before after traffic
  pub spoken : IsSpoken traffic.written
  pub read : IsReadUpTo status (traffic.taken ++ unwrap_or after.left []) traffic
  pub run : tells → IsRun settings status before.bodies (traffic.taken ++ unwrap_or after.left []) traffic after.bodies

-- how a run may end in which nothing failed, but for the words
abbrev pub IsDoneOr : Type 0 → Status → Type 0
IsDoneOr bad status.Done = Unit {0}
IsDoneOr bad status.NoMemory = Unit {0}
IsDoneOr bad (status.BadLine n) = bad
IsDoneOr bad _ = ⊥

-- Where nothing failed, a run is done, or memory was refused, or a line isn't in the grammar; the last only where the
-- transcript, as far as the source tells it, has such a line.
abbrev pub IsComplete : Option (List ℕ) → Status → Type 0
IsComplete None result = IsDoneOr (Unit {0}) result
IsComplete (Some transcript) result = IsDoneOr ((event_script transcript).stop ≢ AtEnd) result
