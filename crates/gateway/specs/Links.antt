-- The connections of a transcript: their bytes are cut into records (RFC 5531 section 11), and each record is served.
use Rattle.std.specs.Prelude.{◌≡◌, ℕ, ◌==◌, if◌then◌else◌, Bool, true, false, List, [], ◌∷◌, ◌++◌, Option, Some, None}
use Rattle.rpc_record.specs.Records.{End, Rest, Broken, records}
use Rattle.file_requests.specs.Targets.{ends_connection}
use Rattle.nfs_procs.specs.World.{Operation, CreateNamed, StartEvent, Serve, Break, HangUp, TurnOf, PumpOf, SyncOf, TickBy, entry_at}
use Rattle.gateway.specs.declared.link.Link.{Link}
use Rattle.gateway.specs.declared.link.Link.TheVariants.{Open, Closed}
use Rattle.gateway.specs.declared.event.Event.{Event}
use Rattle.gateway.specs.declared.event.Event.TheVariants as event

-- What records come to, and how their connection goes on: it ends at a message that is no call, and at a header at fault.
pub record Hearing : Type 0 where
  pub operations : List Operation
  pub link : Link

abbrev pub hearing_at_end : ℕ → End → Hearing
hearing_at_end conn (Rest held) = record { operations = []; link = Open held }
hearing_at_end conn (Broken fault) = record { operations = Break conn ∷ []; link = Closed }

abbrev pub hearing_by : Bool → Operation → Hearing → Hearing
hearing_by true operation later = record { operations = operation ∷ []; link = Closed }
hearing_by false operation later = record later { operations = operation ∷ later.operations }

abbrev pub hearing : ℕ → List (List ℕ) → End → Hearing
hearing conn [] end = hearing_at_end conn end
hearing conn (message ∷ messages) end = hearing_by (ends_connection message) (Serve conn message) (hearing conn messages end)

-- all of a stream, from a place between two records on
abbrev pub hearing_of : ℕ → List ℕ → Hearing
hearing_of conn bytes = let r = records bytes in hearing conn r.whole r.end

-- by how a connection stands: with the bytes since its last whole record, or ended
abbrev pub hearing_on : Link → ℕ → List ℕ → Hearing
hearing_on Closed conn piece = record { operations = []; link = Closed }
hearing_on (Open held) conn piece = hearing_of conn (held ++ piece)

-- the connections by their numbers; none has sent anything at first
abbrev pub Links : Type 0
Links = ℕ → Link

abbrev pub no_links : Links
no_links conn = Open []

abbrev pub with_link : ℕ → Link → Links → Links
with_link conn link links other = if other == conn then link else links other

-- What an event asks for, and what it leaves of the connections.
pub record Arrival : Type 0 where
  pub operations : List Operation
  pub links : Links

abbrev pub piece_arrival : ℕ → Hearing → Links → Arrival
piece_arrival conn h links = record { operations = StartEvent ∷ h.operations; links = with_link conn h.link links }

unfoldable pub arrival : Links → Event → Arrival
arrival links (event.MakeFile name) = record { operations = CreateNamed name ∷ []; links = links }
arrival links (event.Bytes conn piece) = piece_arrival conn (hearing_on (links conn) conn piece) links
arrival links (event.Turn file) = record { operations = TurnOf file ∷ []; links = links }
arrival links (event.Pump file) = record { operations = PumpOf file ∷ []; links = links }
arrival links (event.Sync file) = record { operations = SyncOf file ∷ []; links = links }
arrival links (event.Tick milliseconds) = record { operations = TickBy milliseconds ∷ []; links = links }
arrival links (event.HangUp conn) = record { operations = HangUp conn ∷ []; links = with_link conn (Open []) links }

-- what the events of a transcript ask for
abbrev pub operations_of : Links → List Event → List Operation
operations_of links [] = []
operations_of links (event ∷ events) = let a = arrival links event in a.operations ++ operations_of a.links events

-- the connections after events
abbrev pub links_after : Links → List Event → Links
links_after links [] = links
links_after links (event ∷ events) = links_after (arrival links event).links events

-- how connections are kept: by number, where anything came on one
abbrev pub link_in : Option Link → Link
link_in None = Open []
link_in (Some link) = link

abbrev pub AreLinks : List (ℕ × Link) → Links → Type 0
AreLinks kept links = (conn : ℕ) → links conn ≡ link_in (entry_at conn kept)

-- what a piece of a connection asks for
abbrev pub hearing_at : List (ℕ × Link) → ℕ → List ℕ → Hearing
hearing_at kept conn piece = hearing_on (link_in (entry_at conn kept)) conn piece

-- the link of one connection is set
abbrev pub SetsLink : ℕ → Link → List (ℕ × Link) → List (ℕ × Link) → Type 0
SetsLink conn link old new = (links : Links) → AreLinks old links → AreLinks new (with_link conn link links)
