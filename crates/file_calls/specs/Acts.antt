-- What a transcript asks of the file and of the desk, act by act.
use Rattle.std.specs.Prelude.{◌≡◌, ℕ, List}
use Rattle.file_calls.specs.declared.call.CommitCall.{CommitCall}
use Rattle.file_calls.specs.declared.call.ReadCall.{ReadCall}
use Rattle.file_calls.specs.declared.call.WriteCall.{WriteCall}

pub data Act : Type 0 where
  -- the file is created
  CreateFile : Act
  -- an event begins in which connections are heard
  BeginEvent : Act
  -- a request is answered at once
  Reply : (conn xid : ℕ) (reply : List ℕ) → Act
  -- a WRITE of the file
  WriteFile : (conn : ℕ) (call : WriteCall) → Act
  -- a READ of the file
  ReadFile : (conn : ℕ) (call : ReadCall) → Act
  -- a COMMIT of the file
  CommitFile : (conn : ℕ) (call : CommitCall) → Act
  -- a connection ends
  CloseConnection : (conn : ℕ) → Act
  -- an event: a connection is hung up, and nothing is written
  HangUp : (conn : ℕ) → Act
  -- an event: the writer does the first job
  TurnFile : Act
  -- an event: the admission side hears of the writer and sends what is ready
  PumpFile : Act
  -- an event: the writer syncs
  SyncFile : Act
  -- an event begins, so many milliseconds later
  BeginTick : (milliseconds : ℕ) → Act
  -- the tick comes to the file of this number
  TickFile : (file : ℕ) → Act

-- a request with this number of its own
abbrev pub IsRequest : Act → ℕ → ℕ → Type 0
IsRequest (Reply conn xid reply) c x = (conn ≡ c) × (xid ≡ x)
IsRequest (ReadFile conn call) c x = (conn ≡ c) × (call.xid ≡ x)
IsRequest (WriteFile conn call) c x = (conn ≡ c) × (call.xid ≡ x)
IsRequest (CommitFile conn call) c x = (conn ≡ c) × (call.xid ≡ x)
IsRequest _ c x = ⊥
