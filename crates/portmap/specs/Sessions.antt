-- What a session of the port mapper reads and writes.
use Rattle.std.specs.Prelude.{◌≡◌, ℕ, ◌^◌, ◌<◌, ◌≤◌, Bool, true, false, List, length, Option}
use Rattle.std.specs.Io.KnownBytes.{Consumes, Appends}
use Rattle.gw_outside.specs.Writing.{IsPrefix}
use Rattle.portmap.specs.declared.ports.Mapping.{Mapping}
use Rattle.portmap.specs.declared.session.PortEnd.{PortEnd}
use Rattle.portmap.specs.declared.session.PortEnd.TheVariants.{Ended, Closed, Spent, ReadFault, WriteFault, Memory}
use Rattle.portmap.specs.Answers.{Answers, answers}

-- the most bytes of a link that are read
abbrev pub most_bytes : ℕ
most_bytes = 2 ^ 32

-- all that was asked for was answered, and the link is closed or not
pub record AreAnswered (all : Answers) (closes : Bool) (written : List ℕ) (table : List Mapping) : Type 0 where
  pub text : written ≡ all.text
  pub table_is : table ≡ all.table
  pub closing : all.closes ≡ closes

-- A front of it was: the requests of a front of the bytes were done, and a front of their replies was written, which is one
-- of all replies too.
pub record AreAnsweredInPart (refused : List Bool) (client : ℕ) (old : List Mapping) (taken written : List ℕ) (table : List Mapping) : Type 0 where
  pub served : List ℕ
  pub front_of : IsPrefix served taken
  pub table_is : table ≡ (answers refused client old served).table
  pub part : IsPrefix written (answers refused client old served).text
  pub part_of_all : IsPrefix written (answers refused client old taken).text

abbrev pub IsSessionEnd : PortEnd → List Bool → ℕ → List Mapping → List ℕ → List ℕ → List Mapping → Type 0
IsSessionEnd Ended refused client old taken written table = AreAnswered (answers refused client old taken) false written table × (length taken < most_bytes)
IsSessionEnd Closed refused client old taken written table = AreAnswered (answers refused client old taken) true written table × (length taken ≤ most_bytes)
IsSessionEnd Spent refused client old taken written table = AreAnswered (answers refused client old taken) false written table × (length taken ≡ most_bytes)
IsSessionEnd ReadFault refused client old taken written table = AreAnswered (answers refused client old taken) false written table × (length taken < most_bytes)
IsSessionEnd WriteFault refused client old taken written table = AreAnsweredInPart refused client old taken written table
IsSessionEnd Memory refused client old taken written table = AreAnsweredInPart refused client old taken written table

-- What passed in a session: the bytes that were taken and written, and for which messages memory was refused.
pub record IsSession (end : PortEnd) (client : ℕ) (old new : List Mapping) (left left' held held' : Option (List ℕ)) : Type 0 where
  pub taken : List ℕ
  pub written : List ℕ
  pub refused : List Bool
  pub reads : Consumes left left' taken
  pub writes : Appends held held' written
  pub ends : IsSessionEnd end refused client old taken written new

-- the end of the input was read
abbrev pub is_ended : PortEnd → Bool
is_ended Ended = true
is_ended _ = false
