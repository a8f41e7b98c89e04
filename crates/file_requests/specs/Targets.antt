-- What a message of a connection asks for: an act, of a file or of the desk alone.
use Rattle.std.specs.Prelude.{◌≡◌, ℕ, Bool, true, false, ◌+◌, ◌^◌, ◌<◌, ◌≤◌, ◌==◌, nat_le, if◌then◌else◌, List, length, Result, Ok, Err}
use Rattle.gw_model.specs.Statuses.{fbig}
use Rattle.gw_config.specs.Settings.{Settings}
use Rattle.gw_model.specs.File.{Body, Wrote, NotWritten, NotGiven, NotCommitted}
use Rattle.file_calls.specs.Replies.{reply_bytes}
use Rattle.file_calls.specs.Acts.{Act, IsRequest, Reply, WriteFile, ReadFile, CommitFile, CloseConnection}
use Rattle.file_requests.specs.Messages.{asked_of, handle_file, write_file, is_file}
use Rattle.file_requests.specs.declared.message.CommitArgs.{CommitArgs}
use Rattle.file_requests.specs.declared.message.ReadArgs.{ReadArgs}
use Rattle.file_requests.specs.declared.message.WriteArgs.{WriteArgs}
use Rattle.file_requests.specs.declared.message.Asked.{Asked}
use Rattle.file_requests.specs.declared.message.Asked.TheVariants as asked
use Rattle.file_requests.specs.declared.request.Request.{Request}
use Rattle.file_requests.specs.declared.request.Request.TheVariants as request

-- an act of one file's part of the world, of the desk, a tick of each open file, or none
pub data Target : Type 0 where
  OnFile : (file : ℕ) (act : Act) → Target
  OnDesk : (act : Act) → Target
  OnTick : (milliseconds : ℕ) → Target
  OnNothing : Target

-- a request that is answered at once
abbrev pub reply_target : ℕ → ℕ → Body → Target
reply_target conn xid body = OnDesk (Reply conn xid (reply_bytes xid body))

-- A WRITE that isn't refused for its file or its count (RFC 1813 section 3.3.7): one that would end at 2^63 or behind is
-- refused, and one of no bytes is done at once, as durable as it asks.
abbrev pub write_target : ℕ → ℕ → ℕ → WriteArgs → Target
write_target file conn xid a =
    if nat_le (2 ^ 63) (a.offset + length a.data) then reply_target conn xid (NotWritten fbig)
    else if length a.data == 0 then reply_target conn xid (Wrote 0 a.stable)
    else OnFile file (WriteFile conn (record { xid = xid; offset = a.offset; stable = a.stable; content = a.data }))

abbrev pub judged_write : Result ℕ ℕ → ℕ → ℕ → WriteArgs → Target
judged_write (Err status) conn xid a = reply_target conn xid (NotWritten status)
judged_write (Ok file) conn xid a = write_target file conn xid a

-- A READ (RFC 1813 section 3.3.6).
abbrev pub judged_read : Result ℕ ℕ → ℕ → ℕ → ReadArgs → Target
judged_read (Err status) conn xid a = reply_target conn xid (NotGiven status)
judged_read (Ok file) conn xid a = OnFile file (ReadFile conn (record { xid = xid; offset = a.offset; count = a.count }))

-- A COMMIT (RFC 1813 section 3.3.21).
abbrev pub judged_commit : Result ℕ ℕ → ℕ → ℕ → CommitArgs → Target
judged_commit (Err status) conn xid a = reply_target conn xid (NotCommitted status)
judged_commit (Ok file) conn xid a = OnFile file (CommitFile conn (record { xid = xid; offset = a.offset; count = a.count }))

abbrev pub target_by : Settings → ℕ → ℕ → Asked → Target
target_by settings files conn asked.Close = OnDesk (CloseConnection conn)
target_by settings files conn (asked.Reply xid reply) = OnDesk (Reply conn xid reply)
target_by settings files conn (asked.Read xid a) = judged_read (handle_file settings.fsid files a.handle) conn xid a
target_by settings files conn (asked.Write xid a) = judged_write (write_file settings files a) conn xid a
target_by settings files conn (asked.Commit xid a) = judged_commit (handle_file settings.fsid files a.handle) conn xid a

-- of a message, by the settings and by how many files are in the tree
abbrev pub message_target : Settings → ℕ → ℕ → List ℕ → Target
message_target settings files conn message = target_by settings files conn (asked_of message)

-- what the program reads of it

abbrev pub request_target : ℕ → Request → Target
request_target conn request.Close = OnDesk (CloseConnection conn)
request_target conn (request.Reply xid reply) = OnDesk (Reply conn xid reply)
request_target conn (request.Read file call) = OnFile file (ReadFile conn call)
request_target conn (request.Write file call) = OnFile file (WriteFile conn call)
request_target conn (request.Commit file call) = OnFile file (CommitFile conn call)

-- whether its connection ends with it
abbrev pub is_ending : Request → Bool
is_ending request.Close = true
is_ending _ = false

-- a READ, a WRITE and a COMMIT are of a file in the tree; a WRITE has at most 1 MiB, and ends below 2^63
abbrev pub IsFitting : ℕ → Request → Type 0
IsFitting files (request.Read file call) = is_file files file ≡ true
IsFitting files (request.Commit file call) = is_file files file ≡ true
IsFitting files (request.Write file call) = (is_file files file ≡ true) × (length call.content ≤ 1048576) × (call.offset + length call.content < 2 ^ 63)
IsFitting files _ = Unit {0}

-- a request with this number of its own
abbrev pub IsRequestOf : Target → ℕ → ℕ → Type 0
IsRequestOf (OnFile file act) c x = IsRequest act c x
IsRequestOf (OnDesk act) c x = IsRequest act c x
IsRequestOf (OnTick milliseconds) c x = ⊥
IsRequestOf OnNothing c x = ⊥

-- a message that is no call
abbrev pub is_close : Asked → Bool
is_close asked.Close = true
is_close _ = false

abbrev pub ends_connection : List ℕ → Bool
ends_connection message = is_close (asked_of message)
