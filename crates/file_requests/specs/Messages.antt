-- What a whole message asks for (RFC 5531 section 9; RFC 1813 sections 2.5, 2.6, 3.3.0, 3.3.6, 3.3.7, 3.3.21, 5.2.0).
use Rattle.std.specs.Prelude.{ℕ, ◌+◌, ◌≤◌, ◌==◌, ◌||◌, ◌&&◌, bytes_eq, nat_le, nat_lt, not, Bool, true, false, if◌then◌else◌, List, ◌++◌, length, take, drop, Result, Ok, Err}
use Rattle.std.specs.Int.{w64, from_be_bytes}
use Rattle.md5.specs.Md5.{md5}
use Rattle.xdr.specs.declared.fault.XdrFault.{XdrFault}
use Rattle.xdr.specs.Items.{word}
use Rattle.rpc_msg.specs.declared.fault.CallFault.{CallFault}
use Rattle.rpc_msg.specs.declared.fault.CallFault.TheVariants.{NotCall, RpcMismatch, BadCred, RejectedCred, Short, Memory}
use Rattle.rpc_msg.specs.Calls.{CallText, call_of}
use Rattle.rpc_msg.specs.Replies.{accepted_text, rpc_mismatch_text, denial_text}
use Rattle.gw_model.specs.Statuses.{badhandle, inval, rofs, stale}
use Rattle.gw_config.specs.Settings.{Settings}
use Rattle.nfs_wire.specs.declared.args.Args.{Args}
use Rattle.nfs_wire.specs.declared.args.Args.TheVariants as args
use Rattle.nfs_wire.specs.Arguments.{args_of}
use Rattle.file_requests.specs.declared.message.WriteArgs.{WriteArgs}
use Rattle.file_requests.specs.declared.message.Asked.{Asked}
use Rattle.file_requests.specs.declared.message.Asked.TheVariants as asked
use Rattle.rpc_msg.specs.Numbers.{success, prog_unavail, prog_mismatch, proc_unavail, garbage_args, auth_bad_cred, auth_rejected_cred}
use Rattle.nfs_wire.specs.Programs.{nfs_program, mount_program, nfs_version}
use Rattle.file_requests.specs.declared.message.TheConstants.{NULL, READ, WRITE, COMMIT}

-- an accepted reply without results
abbrev pub reply_to : ℕ → ℕ → Asked
reply_to xid stat = asked.Reply xid (accepted_text xid stat)

-- the reply to a call of another version than 3, which is the lowest and the highest
abbrev pub mismatch_text : ℕ → List ℕ
mismatch_text xid = accepted_text xid prog_mismatch ++ word nfs_version ++ word nfs_version

-- the arguments of a procedure that is served
abbrev pub asked_with : ℕ → Args → Asked
asked_with xid args.Null = reply_to xid success
asked_with xid args.MountNull = reply_to xid success
asked_with xid (args.Read handle offset count) = asked.Read xid (record { handle = handle; offset = offset; count = count })
asked_with xid (args.Write handle offset count stable bytes) = asked.Write xid (record { handle = handle; offset = offset; count = count; stable = stable; «data» = bytes })
asked_with xid (args.Commit handle offset count) = asked.Commit xid (record { handle = handle; offset = offset; count = count })
asked_with xid _ = reply_to xid proc_unavail

abbrev pub asked_by_args : ℕ → Result Args XdrFault → Asked
asked_by_args xid (Ok a) = asked_with xid a
asked_by_args xid (Err fault) = reply_to xid garbage_args

-- the procedures that are served: NULL of both programs, READ, WRITE and COMMIT
abbrev pub is_served : ℕ → ℕ → Bool
is_served prog proc_no = proc_no == NULL || prog == nfs_program && (proc_no == READ || proc_no == WRITE || proc_no == COMMIT)

-- a call: its program, version and procedure are judged in this order, and then its arguments
abbrev pub asked_by_call : CallText → Asked
asked_by_call call =
    if not (call.prog == nfs_program || call.prog == mount_program) then reply_to call.xid prog_unavail
    else if not (call.vers == nfs_version) then asked.Reply call.xid (mismatch_text call.xid)
    else if not (is_served call.prog call.proc_no) then reply_to call.xid proc_unavail
    else asked_by_args call.xid (args_of call.prog call.proc_no call.args)

-- What isn't a call ends its connection. The reading of a message never wants memory.
abbrev pub asked_by_fault : CallFault → Asked
asked_by_fault NotCall = asked.Close
asked_by_fault Short = asked.Close
asked_by_fault (RpcMismatch xid) = asked.Reply xid (rpc_mismatch_text xid)
asked_by_fault (BadCred xid) = asked.Reply xid (denial_text xid auth_bad_cred)
asked_by_fault (RejectedCred xid) = asked.Reply xid (denial_text xid auth_rejected_cred)
asked_by_fault (Memory xid) = asked.Close

abbrev pub asked_by : Result CallText CallFault → Asked
asked_by (Ok call) = asked_by_call call
asked_by (Err fault) = asked_by_fault fault

abbrev pub asked_of : List ℕ → Asked
asked_of message = asked_by (call_of message)

-- no more data than a WRITE may have
abbrev pub IsFew : Asked → Type 0
IsFew asked.Close = Unit {0}
IsFew (asked.Reply xid reply) = Unit {0}
IsFew (asked.Read xid args) = Unit {0}
IsFew (asked.Write xid args) = length args.data ≤ 1048576
IsFew (asked.Commit xid args) = Unit {0}

-- whether bytes are a handle of this gateway: the last 16 of its 32 bytes are the digest of the first 16
abbrev pub is_handle : List ℕ → Bool
is_handle bytes = length bytes == 32 && bytes_eq (md5 (take 16 bytes)) (drop 16 bytes)

-- the number of a file, and that of its file system, in bytes that are a handle
abbrev pub file_in : List ℕ → ℕ
file_in handle = from_be_bytes w64 (take 8 (take 16 handle))

abbrev pub fsid_in : List ℕ → ℕ
fsid_in handle = from_be_bytes w64 (drop 8 (take 16 handle))

-- the files of the tree, by how many were made: 4, 5, ..
abbrev pub is_file : ℕ → ℕ → Bool
is_file files file = nat_le 4 file && nat_lt file (4 + files)

-- the file of these numbers, if it is in the tree of this file system
abbrev pub numbered_file : ℕ → ℕ → ℕ → ℕ → Result ℕ ℕ
numbered_file own files file fsid = if fsid == own && is_file files file then Ok file else Err stale

-- The file that a handle names in the tree, or the status by which a request is refused for its handle.
abbrev pub handle_file : ℕ → ℕ → List ℕ → Result ℕ ℕ
handle_file own files handle =
    if not (is_handle handle) then Err badhandle
    else numbered_file own files (file_in handle) (fsid_in handle)

-- so of a WRITE, whose count is looked at then
abbrev pub counted_file : WriteArgs → Result ℕ ℕ → Result ℕ ℕ
counted_file q (Ok file) = if q.count == length q.data then Ok file else Err inval
counted_file q (Err status) = Err status

-- and then whether anything may be changed
abbrev pub writable_file : Bool → Result ℕ ℕ → Result ℕ ℕ
writable_file true (Ok file) = Err rofs
writable_file false (Ok file) = Ok file
writable_file read_only (Err status) = Err status

abbrev pub write_file : Settings → ℕ → WriteArgs → Result ℕ ℕ
write_file settings files q = writable_file settings.read_only (counted_file q (handle_file settings.fsid files q.handle))
