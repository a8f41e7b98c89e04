-- The sequential definition of the gateway over many files. Each operation is of one file's part of the world, or of the desk.
use Rattle.std.specs.Prelude.{ℕ, ◌+◌, ◌==◌, ◌||◌, if◌then◌else◌, nat_lt, Bool, true, false, cond, List, [], ◌∷◌, ◌++◌, map, length, Option, Some, None, is_some}
use Rattle.std.specs.Ordering.{nat_cmp}
use Rattle.std.specs.Cmp.Lexicographic.{slice_cmp}
use Rattle.std.specs.BTreeMap.{insert_entry, is_at}
use Rattle.std.specs.Map.{lookup, set_value}
use Rattle.gw_model.specs.Ahead.{Outcomes}
use Rattle.gw_model.specs.File.{File, NotWritten}
use Rattle.gw_model.specs.Statuses.{jukebox}
use Rattle.gw_model.specs.Ending.{Ended, history_of}
use Rattle.gw_config.specs.Settings.{Settings}
use Rattle.tickets.specs.Desk.{DeskState, new_desk}
use Rattle.file_cell.specs.History.{history_text}
use Rattle.file_calls.specs.Acts.{Act, CreateFile, BeginEvent, WriteFile, CloseConnection, TurnFile, PumpFile, SyncFile, BeginTick, TickFile}
use Rattle.file_calls.specs.Acts as act
use Rattle.file_calls.specs.Part.{Part, PartResult, next_part, part_body}
use Rattle.file_calls.specs.Terms.{Terms}
use Rattle.file_calls.specs.declared.hull.ClosedHull.{ClosedHull}
use Rattle.file_requests.specs.Targets.{Target, OnFile, OnDesk, OnTick, OnNothing, reply_target, message_target}

-- what events ask for
pub data Operation : Type 0 where
  -- a file of this name is made in the root
  CreateNamed : (name : List ℕ) → Operation
  -- an event begins in which a connection is heard
  StartEvent : Operation
  -- a whole message of a connection
  Serve : (conn : ℕ) (message : List ℕ) → Operation
  -- a connection ends, for what its bytes are
  Break : (conn : ℕ) → Operation
  -- an event: a connection is hung up
  HangUp : (conn : ℕ) → Operation
  -- an event: the writer of a file does the first job
  TurnOf : (file : ℕ) → Operation
  -- an event: the admission side of a file hears of its writer and sends what is ready
  PumpOf : (file : ℕ) → Operation
  -- an event: the writer of a file syncs
  SyncOf : (file : ℕ) → Operation
  -- an event: so many milliseconds are gone, and the tick comes to each open file
  TickBy : (milliseconds : ℕ) → Operation
  -- of a tick: it comes to a file
  TickOf : (file : ℕ) → Operation

pub record World : Type 0 where
  -- the names in the root with the numbers of their files, by rising name
  pub names : List (List ℕ × ℕ)
  -- what each body holds while its file has no context
  pub bodies : ℕ → List ℕ
  -- the contexts, by rising number of their files
  pub opens : List (ℕ × File)
  -- what was lost of each file when it was closed
  pub hulls : ℕ → Option ClosedHull
  -- the tickets issued, and those that wait for an answer
  pub desk : DeskState
  pub settings : Settings
  -- in milliseconds
  pub moment : ℕ

abbrev pub world_at_start : Settings → (ℕ → List ℕ) → World
world_at_start settings bodies = record { names = []; bodies = bodies; opens = []; hulls = λ k. None; desk = new_desk; settings = settings; moment = 0 }

-- contexts

module _ {V : Type 0} where
  abbrev pub entry_at : ℕ → List (ℕ × V) → Option V
  entry_at k es = lookup (is_at (nat_cmp k)) es

  -- without a number's entries
  abbrev pub without_entry : ℕ → List (ℕ × V) → List (ℕ × V)
  without_entry k [] = []
  without_entry k (e ∷ es) = cond (is_at (nat_cmp k) e.0) (without_entry k es) (e ∷ without_entry k es)

  -- by what was there and what is to be there
  abbrev pub put_by : Option V → Option V → ℕ → List (ℕ × V) → List (ℕ × V)
  put_by None None k es = es
  put_by None (Some v) k es = insert_entry nat_cmp es k v
  put_by (Some u) (Some v) k es = set_value (is_at (nat_cmp k)) es v
  put_by (Some u) None k es = without_entry k es

  abbrev pub put_at : ℕ → Option V → List (ℕ × V) → List (ℕ × V)
  put_at k o es = put_by (entry_at k es) o k es

  -- a file has a context, or one more may be opened, of at most so many
  abbrev pub may_open : ℕ → ℕ → List (ℕ × V) → Bool
  may_open most k es = is_some (entry_at k es) || nat_lt (length es) most

  -- A WRITE of a file without a context is refused where contexts stand at their number (RFC 1813 section 3.3.7).
  abbrev pub opening_target : ℕ → List (ℕ × V) → Target → Target
  opening_target most es (OnFile k (WriteFile conn call)) = if may_open most k es then OnFile k (WriteFile conn call) else reply_target conn call.xid (NotWritten jukebox)
  opening_target most es target = target

-- one file's part of the world, and the desk alone

abbrev pub with_body : ℕ → List ℕ → (ℕ → List ℕ) → ℕ → List ℕ
with_body k body bodies j = if j == k then body else bodies j

abbrev pub with_hull : ℕ → Option ClosedHull → (ℕ → Option ClosedHull) → ℕ → Option ClosedHull
with_hull k lost hulls j = if j == k then lost else hulls j

-- what a file is judged by
abbrev pub world_terms : World → Option ClosedHull → Terms
world_terms w lost = record { settings = w.settings; moment = w.moment; lost = lost }

abbrev pub part_of_file : ℕ → World → Part
part_of_file k w = record { body = w.bodies k; opened = entry_at k w.opens; desk = w.desk; terms = world_terms w (w.hulls k) }

abbrev pub with_part : ℕ → Part → World → World
with_part k p w = record w {
  bodies = with_body k p.body w.bodies;
  opens = put_at k p.opened w.opens;
  hulls = with_hull k p.terms.lost w.hulls;
  desk = p.desk;
  settings = p.terms.settings;
  moment = p.terms.moment;
}

abbrev pub desk_part : World → Part
desk_part w = record { body = []; opened = None; desk = w.desk; terms = world_terms w None }

abbrev pub with_desk_part : Part → World → World
with_desk_part p w = record w { desk = p.desk; settings = p.terms.settings; moment = p.terms.moment }

-- what each body holds
abbrev pub world_bodies : World → ℕ → List ℕ
world_bodies w k = part_body (part_of_file k w)

-- an operation

-- the names after it: one that is there changes nothing
abbrev pub has_name : List ℕ → List (List ℕ × ℕ) → Bool
has_name name names = is_some (lookup (is_at (slice_cmp nat_cmp name)) names)

-- files are numbered from 4 on
abbrev pub next_file : List (List ℕ × ℕ) → ℕ
next_file names = 4 + length names

abbrev pub names_after : Operation → List (List ℕ × ℕ) → List (List ℕ × ℕ)
names_after (CreateNamed name) names = if has_name name names then names else insert_entry (slice_cmp nat_cmp) names name (next_file names)
names_after _ names = names

abbrev pub creation_target : List ℕ → List (List ℕ × ℕ) → Target
creation_target name names = if has_name name names then OnNothing else OnFile (next_file names) CreateFile

-- what it is of, by the settings, and by the names and the contexts as they are then
abbrev pub target_by_state : {V : Type 0} → Settings → List (List ℕ × ℕ) → List (ℕ × V) → Operation → Target
target_by_state settings names opens (CreateNamed name) = creation_target name names
target_by_state settings names opens StartEvent = OnDesk BeginEvent
target_by_state settings names opens (Serve conn message) = opening_target settings.contexts opens (message_target settings (length names) conn message)
target_by_state settings names opens (Break conn) = OnDesk (CloseConnection conn)
target_by_state settings names opens (HangUp conn) = OnDesk (act.HangUp conn)
target_by_state settings names opens (TurnOf file) = OnFile file TurnFile
target_by_state settings names opens (PumpOf file) = OnFile file PumpFile
target_by_state settings names opens (SyncOf file) = OnFile file SyncFile
target_by_state settings names opens (TickBy milliseconds) = OnTick milliseconds
target_by_state settings names opens (TickOf file) = OnFile file (TickFile file)

abbrev pub target_in : World → Operation → Target
target_in w operation = target_by_state w.settings w.names w.opens operation

-- what an operation leaves, the text that it writes, whether it ends the run, and the outcomes that are left
pub record WorldResult : Type 0 where
  pub world : World
  pub text : List ℕ
  pub stopped : Bool
  pub ahead : Outcomes

abbrev pub world_result : World → PartResult → WorldResult
world_result w s = record { world = w; text = s.text; stopped = s.stopped; ahead = s.ahead }

abbrev pub result_then : Bool → WorldResult → WorldResult → WorldResult
result_then true s later = s
result_then false s later = record later { text = s.text ++ later.text }

abbrev pub file_result : ℕ → Act → World → Outcomes → WorldResult
file_result k act w t = let s = next_part (part_of_file k w) act t in world_result (with_part k s.part w) s

abbrev pub desk_result : Act → World → Outcomes → WorldResult
desk_result act w t = let s = next_part (desk_part w) act t in world_result (with_desk_part s.part w) s

-- a tick comes to files, one after another
abbrev pub ticks_result : List ℕ → World → Outcomes → WorldResult
ticks_result [] w t = record { world = w; text = []; stopped = false; ahead = t }
ticks_result (k ∷ ks) w t = let s = file_result k (TickFile k) w t in result_then s.stopped s (ticks_result ks s.world s.ahead)

-- the numbers of open files, rising
abbrev pub open_files : {V : Type 0} → List (ℕ × V) → List ℕ
open_files es = map (λ e. e.0) es

abbrev pub target_result : Target → World → Outcomes → WorldResult
target_result (OnFile k act) w t = file_result k act w t
target_result (OnDesk act) w t = desk_result act w t
target_result (OnTick milliseconds) w t = let s = desk_result (BeginTick milliseconds) w t in result_then s.stopped s (ticks_result (open_files w.opens) s.world s.ahead)
target_result OnNothing w t = record { world = w; text = []; stopped = false; ahead = t }

abbrev pub with_names : List (List ℕ × ℕ) → WorldResult → WorldResult
with_names names s = record s { world = record s.world { names = names } }

unfoldable pub next : World → Operation → Outcomes → WorldResult
next w operation t = with_names (names_after operation w.names) (target_result (target_in w operation) w t)

-- operations

-- the fold of `next`, up to where a failed call ends it
abbrev pub operations_result : World → List Operation → Outcomes → WorldResult
operations_result w [] t = record { world = w; text = []; stopped = false; ahead = t }
operations_result w (operation ∷ operations) t =
    let s = next w operation t in result_then s.stopped s (operations_result s.world operations s.ahead)

-- a whole run

-- all that comes of operations: the text, what each body then holds, whether a failed call ended the run, and the outcomes
-- that are left
pub record RunOutput : Type 0 where
  pub text : List ℕ
  pub bodies : ℕ → List ℕ
  pub stopped : Bool
  pub ahead : Outcomes

-- the histories of the contexts, by rising number
abbrev pub end_texts : List (ℕ × File) → List ℕ
end_texts [] = []
end_texts (e ∷ es) = history_text e.0 (history_of e.1 Ended) ++ end_texts es

-- a run that no failed call ended writes them
abbrev pub end_text : Bool → World → List ℕ
end_text true w = []
end_text false w = end_texts w.opens

abbrev pub output_of : WorldResult → RunOutput
output_of s = record { text = s.text ++ end_text s.stopped s.world; bodies = world_bodies s.world; stopped = s.stopped; ahead = s.ahead }

abbrev pub run_output : World → List Operation → Outcomes → RunOutput
run_output w operations t = output_of (operations_result w operations t)
