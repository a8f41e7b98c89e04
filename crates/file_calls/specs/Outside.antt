-- What the program keeps of one file's part, what is seen outside of it, and what a step leaves of both.
use Rattle.std.specs.Prelude.{◌≡◌, ◌≢◌, ℕ, ◌<◌, ◌⊎◌, Bool, true, false, List, [], ◌∷◌, ◌++◌, Option, Some, None, String, string_bytes}
use Rattle.std.specs.Global.{Global}
use Rattle.gw_model.specs.declared.object.ObjectId.{ObjectId}
use Rattle.gw_model.specs.declared.object.ObjectId.TheVariants.{Body}
use Rattle.gw_model.specs.Ahead.{Outcomes, Outcome, NoMemory}
use Rattle.gw_model.specs.File.{File, content}
use Rattle.gw_model.specs.Views.{TraceState, empty_trace}
use Rattle.gw_outside.specs.Causes.{Carries}
use Rattle.gw_outside.specs.Tally.{joined_tally}
use Rattle.gw_config.specs.Settings.{Settings}
use Rattle.tickets.specs.Desk.{DeskState, new_desk}
use Rattle.append_store.specs.declared.store.Cluster.{Ghosts}
use Rattle.append_store.specs.State.{ObjectState, Lent, IsThere, IsAway, bytes_of}
use Rattle.file_cell.specs.State.{CellState}
use Rattle.file_cell.specs.Files.{StandsFor}
use Rattle.file_calls.specs.Counts.{Counts, IsCounted, file_counts, joined_counts}
use Rattle.file_calls.specs.OneReply.{Speaks}
use Rattle.file_calls.specs.Part.{Part, PartResult, next_part}
use Rattle.file_calls.specs.Acts.{Act}
use Rattle.file_calls.specs.Terms.{Terms}
use Rattle.file_calls.specs.declared.hull.ClosedHull.{ClosedHull}
use Rattle.file_calls.specs.declared.part.StepResult.{StepResult}
use Rattle.file_calls.specs.declared.part.StepResult.TheVariants as stepped

-- the body of a file, in its first version
abbrev pub body_id : ℕ → ObjectId
body_id file = Body file 1

-- what a store tells: what it has of the body, and what it counts
pub record Store : Type 0 where
  pub body : ObjectState
  pub counts : Counts

-- what it counts
abbrev pub store_counts : {C F : Type 0} → Ghosts C F → C → Counts
store_counts g c = record { faults = g.count c; tally = g.tally c }

abbrev pub store_view : {C F : Type 0} → ℕ → Ghosts C F → C → Store
store_view file g c = record { body = g.at c (body_id file); counts = store_counts g c }

-- of all objects but the file's body, the store has the same, and their losses are the same
abbrev pub OthersStay : {C F : Type 0} → Ghosts C F → Type 0 → ℕ → C → C → Type 0
OthersStay g tells file c c' = tells → (q : ObjectId) → q ≢ body_id file → (g.at c' q ≡ g.at c q) × (g.losses c' q ≡ g.losses c q)

-- what the program keeps

-- the requests that wait for an answer, the outcomes that were noted, the settings and the moment
pub record TrackerState : Type 0 where
  pub desk : DeskState
  pub noted : TraceState
  pub settings : Settings
  pub moment : ℕ

abbrev pub new_tracker : Settings → TrackerState
new_tracker settings = record { desk = new_desk; noted = empty_trace; settings = settings; moment = 0 }

-- its outcomes are forgotten
abbrev pub without_outcomes : TrackerState → ℕ → TrackerState
without_outcomes t room = record t { noted = record t.noted { outcomes = []; room = room } }

-- the file's context, where it is open, and what all files share
pub record PartState : Type 0 where
  pub opened : Option CellState
  pub desk : DeskState
  pub noted : TraceState
  pub terms : Terms

-- with what was lost of a file when it was closed
abbrev pub terms_at : TrackerState → Option ClosedHull → Terms
terms_at tracker lost = record { settings = tracker.settings; moment = tracker.moment; lost = lost }

abbrev pub part_state : Option ClosedHull → Option CellState → TrackerState → PartState
part_state lost opened tracker = record { opened = opened; desk = tracker.desk; noted = tracker.noted; terms = terms_at tracker lost }

-- The same with what is seen outside: the bytes of the body, and what the store counts, with what the file that is out
-- counts.
pub record Scene : Type 0 where
  pub kept : PartState
  pub body : List ℕ
  pub counts : Counts

-- the body's bytes: those in the store, or those of the file that is out
abbrev pub body_at : ObjectState → Option CellState → List ℕ
body_at s None = bytes_of s
body_at s (Some c) = c.file.content

-- what the store counts, with what the file counts that is out
abbrev pub counts_at : Counts → Option CellState → Counts
counts_at n None = n
counts_at n (Some c) = joined_counts n (file_counts c.file)

-- by what the store has of the body, and what it counts
abbrev pub scene : PartState → Store → Scene
scene k s = record { kept = k; body = body_at s.body k.opened; counts = counts_at s.counts k.opened }

abbrev pub scene_of : {C F : Type 0} → ℕ → Ghosts C F → Option ClosedHull → Option CellState → TrackerState → C → Scene
scene_of file g lost opened tracker c = scene (part_state lost opened tracker) (store_view file g c)

-- what a store counts after it got the file back, if one was out
pub record CarriesCounts (before given now : Counts) : Type 0 where
  pub faults : Carries before.faults given.faults now.faults
  pub tally : now.tally ≡ joined_tally before.tally given.tally

-- The file that was taken is out; else the body isn't out.
abbrev pub IsBodySafe : Type 0 → ObjectState → Option CellState → Type 0
IsBodySafe tells s None = tells → IsAway s → ⊥
IsBodySafe tells s (Some c) = tells → s ≡ Lent c.file.mark

-- The file that was taken is out; else the body is there.
abbrev pub IsBodyHome : Type 0 → ObjectState → Option CellState → Type 0
IsBodyHome tells s None = tells → IsThere s
IsBodyHome tells s (Some c) = tells → s ≡ Lent c.file.mark

-- which parts the program keeps so

-- the open file is that of the part, and the body has what the part says
abbrev pub IsOpen : Option CellState → List ℕ → Part → Type 0
IsOpen None body w = (w.opened ≡ None) × (w.body ≡ body)
IsOpen (Some c) body w = (f : File) × (w.opened ≡ Some f) × StandsFor c f × (content f ≡ body)

pub record IsPart (s : Scene) (w : Part) : Type 0 where
  pub opened : IsOpen s.kept.opened s.body w
  pub desk : w.desk ≡ s.kept.desk
  pub terms : w.terms ≡ s.kept.terms

-- the outcomes that are ahead of the event and the request that stand now
abbrev pub ahead_at : TraceState → List Outcome → Outcomes
ahead_at n outcomes = record { left = outcomes; event = n.event; request = n.request; mismatched = false }

-- these outcomes don't begin with a refusal of memory for this event and request, or for one before
abbrev pub are_after : ℕ → ℕ → List Outcome → Type 0
are_after event request (NoMemory event' request' ∷ outcomes) = (event < event') ⊎ ((event ≡ event') × (request < request'))
are_after event request _ = Unit {0}

abbrev pub IsAfter : TraceState → List Outcome → Type 0
IsAfter n outcomes = are_after n.event n.request outcomes

-- What passed in a step: outcomes that may come behind what was before, and what the body grew by.
pub record PassedFrom (tells : Type 0) (may : List Outcome → Type 0) (old new : Scene) (outcomes : List Outcome) (put : List ℕ) : Type 0 where
  pub after : (later : List Outcome) → IsAfter new.kept.noted later → may (outcomes ++ later)
  pub puts : tells → new.body ≡ old.body ++ put
  pub counts : IsCounted outcomes old.counts new.counts

-- in a whole step: none is of an event and request that stood before
abbrev pub Passed : Type 0 → Scene → Scene → List Outcome → List ℕ → Type 0
Passed tells old new outcomes put = PassedFrom tells (IsAfter old.kept.noted) old new outcomes put

-- an act

-- it leaves this, with these outcomes ahead
pub record LeavesScene (new : Scene) (text : List ℕ) (stopped : Bool) (later : List Outcome) (s : PartResult) : Type 0 where
  pub part : IsPart new s.part
  pub text_is : s.text ≡ text
  pub stop : s.stopped ≡ stopped
  pub ahead : s.ahead ≡ ahead_at new.kept.noted later

-- the outcomes are noted
abbrev pub Notes : Scene → Scene → List Outcome → Type 0
Notes old new outcomes = new.kept.noted.outcomes ≡ old.kept.noted.outcomes ++ outcomes

-- what a part comes to, with what is ahead
abbrev pub Action : Type 0
Action = Part → Outcomes → PartResult

-- For each part that the program stands for, whatever outcomes come later. Of a store that tells nothing only the outcomes,
-- what is counted and what is written are said.
pub record StepsFrom (tells : Type 0) (may : List Outcome → Type 0) (go : Action) (old new : Scene) (text : List ℕ) (stopped : Bool) : Type 0 where
  pub outcomes : List Outcome
  pub put : List ℕ
  pub notes : Notes old new outcomes
  pub speaks : Speaks old.kept.desk new.kept.desk text
  pub passed : PassedFrom tells may old new outcomes put
  pub next : tells → (w : Part) → IsPart old w → (later : List Outcome) → IsAfter new.kept.noted later → LeavesScene new text stopped later (go w (ahead_at old.kept.noted (outcomes ++ later)))

abbrev pub action_of : Act → Action
action_of act w t = next_part w act t

abbrev pub Steps : Type 0 → Action → Scene → Scene → List ℕ → Bool → Type 0
Steps tells go old new text stopped = StepsFrom tells (IsAfter old.kept.noted) go old new text stopped

abbrev pub IsStep : Type 0 → Act → Scene → Scene → List ℕ → Bool → Type 0
IsStep tells act old new text stopped = Steps tells (action_of act) old new text stopped

-- an act whose text was made
abbrev pub StepsTo : Type 0 → Act → Scene → Scene → String Global → Type 0
StepsTo tells act old new text = IsStep tells act old new (string_bytes text) false

-- No call was made, and the body holds what it held.
pub record IsUntouched (tells : Type 0) (old new : Scene) : Type 0 where
  pub notes : Notes old new []
  pub counts : IsCounted [] old.counts new.counts
  pub body : tells → new.body ≡ old.body

-- One that want of memory cut off: it wasn't begun, or all of it was done but that its text was made.
abbrev pub IsActCut : Type 0 → Act → Scene → Scene → Type 0
IsActCut tells act old new = IsUntouched tells old new ⊎ ((text : List ℕ) × IsStep tells act old new text false)

-- what a call answers

-- it was done, and the run goes on
abbrev pub IsText : StepResult → Type 0
IsText (stepped.Text text) = Unit {0}
IsText _ = ⊥

-- one act
abbrev pub IsActed : Type 0 → StepResult → Act → Scene → Scene → Type 0
IsActed tells (stepped.Text text) act old new = IsStep tells act old new (string_bytes text) false
IsActed tells stepped.StoreFault act old new = IsStep tells act old new [] true
IsActed tells stepped.NoMemory act old new = IsActCut tells act old new
