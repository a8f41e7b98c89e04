-- The transcript of a drill: a large valid upload that is made from a number.
use Rattle.std.specs.Prelude.{ℕ, zero, suc, ◌+◌, ◌-◌, ◌*◌, ◌/◌, ◌%◌, min, List, [], ◌++◌, map, codes}
use Rattle.std.specs.List.{range_with_len, enumerate_from, flat_map}
use Rattle.gw_model.specs.declared.Stable.TheVariants.{Unstable}
use Rattle.xdr.specs.Rows.{text}
use Rattle.rpc_msg.specs.Numbers.{auth_none}
use Rattle.rpc_msg.specs.Calls.{CallText, nobody}
use Rattle.rpc_msg.specs.Spellings.{call_row}
use Rattle.nfs_wire.specs.Programs.{nfs_version}
use Rattle.nfs_wire.specs.Arguments.{args_row, procedure_of}
use Rattle.nfs_wire.specs.declared.args.Args.{Args}
use Rattle.nfs_wire.specs.declared.args.Args.TheVariants as args
use Rattle.handles.specs.Handle.{handle_text}
use Rattle.load_gen.specs.declared.load.FileLoad.{FileLoad}
use Rattle.load_gen.specs.Numbers.{seed_number}
use Rattle.load_gen.specs.Shuffles.{shuffle}
use Rattle.load_gen.specs.Lines.{number_line, message_line}

-- The files have the ids from 4 on, in file system 1, and each is written by a connection of its own, from 1 on.
abbrev pub load_file : FileLoad → ℕ
load_file l = 4 + l.place

abbrev pub load_handle : FileLoad → List ℕ
load_handle l = handle_text (load_file l) 1

abbrev pub load_conn : FileLoad → ℕ
load_conn l = 1 + l.place

-- The writes are sent in windows of eight, the last perhaps smaller.
abbrev pub load_windows : FileLoad → ℕ
load_windows l = (l.writes + 7) / 8

-- Write j has 512 bytes, at 512 j. The byte at p is p, the file's place and START, added modulo 256.
unfoldable pub load_data : FileLoad → ℕ → List ℕ
load_data l j = map (λ i. (512 * j + i + l.place + l.start) % 256) (range_with_len 0 512)

-- the arguments of write j (RFC 1813 section 3.3.7), and of the COMMIT of the whole file (section 3.3.21)
abbrev pub load_write : FileLoad → ℕ → Args
load_write l j = args.Write (load_handle l) (512 * j) 512 Unstable (load_data l j)

abbrev pub load_commit : FileLoad → Args
load_commit l = args.Commit (load_handle l) 0 0

-- a call of a program and its procedure (RFC 5531 section 9), and its message, whose credential and verifier are of AUTH_NONE
abbrev pub load_call : ℕ → ℕ × ℕ → List ℕ → CallText
load_call xid procedure arguments =
    record { xid = xid; prog = procedure.0; vers = nfs_version; proc_no = procedure.1; sender = nobody; args = arguments }

abbrev pub anonymous_head : CallText → List ℕ
anonymous_head call = text (call_row call auth_none [] auth_none [])

unfoldable pub args_message : ℕ → Args → List ℕ
args_message xid a = let call = load_call xid (procedure_of a) (text (args_row a)) in anonymous_head call ++ call.args

-- a write by its xid and its place: the call, and an attempt to spill
unfoldable pub write_lines : FileLoad → ℕ × ℕ → List ℕ
write_lines l call =
    message_line (load_conn l) (args_message call.0 (load_write l call.1)) ++ number_line (codes "spill ") (load_file l)

-- what the writer then does: a pump, and eight turns
unfoldable pub turn_lines : FileLoad → List ℕ
turn_lines l =
    number_line (codes "pump ") (load_file l) ++ flat_map (λ _. number_line (codes "turn ") (load_file l)) (range_with_len 0 8)

-- a part of the transcript, and the last number that was drawn
pub record Excerpt : Type 0 where
  pub text : List ℕ
  pub number : ℕ

-- The window of the writes from `first` on: eight, or those that are left, in another order. Calls have the xids from 1 on, as they
-- are sent.
unfoldable pub window_excerpt : FileLoad → ℕ → ℕ → Excerpt
window_excerpt l first x =
    let count = min 8 (l.writes - first) in
    let order = shuffle (count - 1) (range_with_len first count) x in
    record {
      text = flat_map (write_lines l) (enumerate_from (first + 1) order.items) ++ turn_lines l;
      number = order.number;
    }

-- so many windows, of which the first begins at write `first`
unfoldable pub windows_excerpt : FileLoad → ℕ → ℕ → ℕ → Excerpt
windows_excerpt l zero first x = record { text = []; number = x }
windows_excerpt l (suc windows) first x =
    let window = window_excerpt l first x in
    let rest = windows_excerpt l windows (first + 8) window.number in
    record { text = window.text ++ rest.text; number = rest.number }

-- behind the last window: a COMMIT of the whole file, and a sync
unfoldable pub commit_lines : FileLoad → List ℕ
commit_lines l =
    message_line (load_conn l) (args_message (l.writes + 1) (load_commit l))
    ++ number_line (codes "pump ") (load_file l)
    ++ number_line (codes "turn ") (load_file l)
    ++ number_line (codes "sync ") (load_file l)

-- all that befalls one file
unfoldable pub file_excerpt : FileLoad → ℕ → Excerpt
file_excerpt l x =
    let windows = windows_excerpt l (load_windows l) 0 x in
    record { text = windows.text ++ commit_lines l; number = windows.number }

-- so many files, one behind the other, from a place on
unfoldable pub files_text : ℕ → ℕ → ℕ → ℕ → ℕ → List ℕ
files_text start writes zero place x = []
files_text start writes (suc files) place x =
    let file = file_excerpt (record { start = start; place = place; writes = writes }) x in
    file.text ++ files_text start writes files (place + 1) file.number

-- the files are made
unfoldable pub file_lines : ℕ → List ℕ
file_lines files = flat_map (number_line (codes "file d")) (range_with_len 0 files)

-- the transcript of START, FILES and WRITES
unfoldable pub drill_transcript : ℕ → ℕ → ℕ → List ℕ
drill_transcript start files writes =
    file_lines files ++ files_text start writes files 0 (seed_number start) ++ codes "end\n"
