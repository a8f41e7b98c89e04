-- Worked messages of RFC 5531 section 9: what each asks for, computed by the definitions.
use Rattle.std.proofs.Common.{true, ◌≡◌, ℕ, List, [], ◌∷◌, ◌++◌, refl, Result, Ok, Err}
use Rattle.std.specs.Prelude.{codes}
use Rattle.md5.specs.Md5.{md5, digest_bytes, hash_after, compress, rounds, block_words}
use Rattle.handles.specs.Handle.{handle_text, ids_text}
use Rattle.xdr.specs.Items.{word, long}
use Rattle.xdr.specs.Reading.{u32_at, u64_at, opaque_at, finish_at}
use Rattle.rpc_msg.specs.Calls.{call_word_at, call_opaque_at, sender_of, system_sender, groups_at, words_at, call_body_at, call_of}
use Rattle.rpc_msg.specs.Replies.{accepted_text, rpc_mismatch_text, denial_text}
use Rattle.nfs_wire.specs.Arguments.{stable_at, read_at, write_at, commit_at, nfs_arms, mount_arms, args_of}
use Rattle.gw_model.specs.declared.Stable.{Stable}
use Rattle.gw_model.specs.declared.Stable.TheVariants.{Unstable, FileSync}
use Rattle.file_requests.specs.declared.message.CommitArgs.{CommitArgs}
use Rattle.file_requests.specs.declared.message.ReadArgs.{ReadArgs}
use Rattle.file_requests.specs.declared.message.WriteArgs.{WriteArgs}
use Rattle.file_requests.specs.declared.message.Asked.{Asked}
use Rattle.file_requests.specs.declared.message.Asked.TheVariants.{Close, Reply, Read, Write, Commit}
use Rattle.gw_config.specs.Settings.{Settings, default_settings}
use Rattle.file_requests.specs.Messages.{asked_of, handle_file, write_file}

abbrev words : List ℕ → List ℕ
words [] = []
words (w ∷ ws) = word w ++ words ws

abbrev Asks : List ℕ → Asked → Type 0
unfolding word u32_at u64_at opaque_at finish_at call_word_at call_opaque_at sender_of system_sender groups_at words_at call_body_at call_of accepted_text rpc_mismatch_text denial_text stable_at read_at write_at commit_at nfs_arms mount_arms args_of
Asks message asked = asked_of (words message) ≡ asked

abbrev Says_words : ℕ → List ℕ → Asked
unfolding word
Says_words xid ws = Reply xid (words ws)

-- NULL of NFS, and of MOUNT
null_call : Asks (1 ∷ 0 ∷ 2 ∷ 100003 ∷ 3 ∷ 0 ∷ 0 ∷ 0 ∷ 0 ∷ 0 ∷ []) (Says_words 1 (1 ∷ 1 ∷ 0 ∷ 0 ∷ 0 ∷ 0 ∷ []))
unfolding Asks Says_words
null_call = refl

mount_null : Asks (1 ∷ 0 ∷ 2 ∷ 100005 ∷ 3 ∷ 0 ∷ 0 ∷ 0 ∷ 0 ∷ 0 ∷ []) (Says_words 1 (1 ∷ 1 ∷ 0 ∷ 0 ∷ 0 ∷ 0 ∷ []))
unfolding Asks Says_words
mount_null = refl

-- version 3 of the protocol, program 100004, version 2 of NFS, procedure 22
rpc_mismatch : Asks (1 ∷ 0 ∷ 3 ∷ 100003 ∷ 3 ∷ 0 ∷ 0 ∷ 0 ∷ 0 ∷ 0 ∷ []) (Says_words 1 (1 ∷ 1 ∷ 1 ∷ 0 ∷ 2 ∷ 2 ∷ []))
unfolding Asks Says_words
rpc_mismatch = refl

prog_unavail : Asks (2 ∷ 0 ∷ 2 ∷ 100004 ∷ 3 ∷ 0 ∷ 0 ∷ 0 ∷ 0 ∷ 0 ∷ []) (Says_words 2 (2 ∷ 1 ∷ 0 ∷ 0 ∷ 0 ∷ 1 ∷ []))
unfolding Asks Says_words
prog_unavail = refl

prog_mismatch : Asks (3 ∷ 0 ∷ 2 ∷ 100003 ∷ 2 ∷ 0 ∷ 0 ∷ 0 ∷ 0 ∷ 0 ∷ []) (Says_words 3 (3 ∷ 1 ∷ 0 ∷ 0 ∷ 0 ∷ 2 ∷ 3 ∷ 3 ∷ []))
unfolding Asks Says_words
prog_mismatch = refl

proc_unavail : Asks (4 ∷ 0 ∷ 2 ∷ 100003 ∷ 3 ∷ 22 ∷ 0 ∷ 0 ∷ 0 ∷ 0 ∷ []) (Says_words 4 (4 ∷ 1 ∷ 0 ∷ 0 ∷ 0 ∷ 3 ∷ []))
unfolding Asks Says_words
proc_unavail = refl

-- a WRITE of `a` at offset 1 to file 4, as durable as this, and with words behind it
abbrev write_a : ℕ → List ℕ → List ℕ
write_a how rest = 5 ∷ 0 ∷ 2 ∷ 100003 ∷ 3 ∷ 7 ∷ 0 ∷ 0 ∷ 0 ∷ 0 ∷ 32 ∷ 0 ∷ 4 ∷ 0 ∷ 1 ∷ 0x21e0f297 ∷ 0x5a84e78c ∷ 0xec58787a ∷ 0xf28bde14 ∷ 0 ∷ 1 ∷ 1 ∷ how ∷ 1 ∷ 0x61000000 ∷ rest

abbrev handle_four : List ℕ
unfolding word
handle_four = words (0 ∷ 4 ∷ 0 ∷ 1 ∷ 0x21e0f297 ∷ 0x5a84e78c ∷ 0xec58787a ∷ 0xf28bde14 ∷ [])

abbrev args_with : Stable → ℕ → WriteArgs
args_with stable count = record { handle = handle_four; offset = 1; count = count; stable = stable; «data» = codes "a" }

abbrev args_a : ℕ → WriteArgs
args_a count = args_with Unstable count

write_call : Asks (write_a 0 []) (Write 5 (args_a 1))
unfolding Asks
write_call = refl

stable_write_call : Asks (write_a 2 []) (Write 5 (args_with FileSync 1))
unfolding Asks
stable_write_call = refl

garbage_args : Asks (write_a 0 (0 ∷ [])) (Says_words 5 (5 ∷ 1 ∷ 0 ∷ 0 ∷ 0 ∷ 4 ∷ []))
unfolding Asks Says_words
garbage_args = refl

-- a READ of 5 bytes at offset 2^32 + 2 of file 4, and with a word behind it
abbrev read_five : List ℕ → List ℕ
read_five rest = 10 ∷ 0 ∷ 2 ∷ 100003 ∷ 3 ∷ 6 ∷ 0 ∷ 0 ∷ 0 ∷ 0 ∷ 32 ∷ 0 ∷ 4 ∷ 0 ∷ 1 ∷ 0x21e0f297 ∷ 0x5a84e78c ∷ 0xec58787a ∷ 0xf28bde14 ∷ 1 ∷ 2 ∷ 5 ∷ rest

abbrev args_five : ReadArgs
args_five = record { handle = handle_four; offset = 0x100000002; count = 5 }

read_call : Asks (read_five []) (Read 10 args_five)
unfolding Asks
read_call = refl

read_garbage : Asks (read_five (0 ∷ [])) (Says_words 10 (10 ∷ 1 ∷ 0 ∷ 0 ∷ 0 ∷ 4 ∷ []))
unfolding Asks Says_words
read_garbage = refl

-- a COMMIT of 5 bytes at offset 2^32 + 2 of file 4, and with a word behind it
abbrev commit_five : List ℕ → List ℕ
commit_five rest = 12 ∷ 0 ∷ 2 ∷ 100003 ∷ 3 ∷ 21 ∷ 0 ∷ 0 ∷ 0 ∷ 0 ∷ 32 ∷ 0 ∷ 4 ∷ 0 ∷ 1 ∷ 0x21e0f297 ∷ 0x5a84e78c ∷ 0xec58787a ∷ 0xf28bde14 ∷ 1 ∷ 2 ∷ 5 ∷ rest

abbrev args_commit : CommitArgs
args_commit = record { handle = handle_four; offset = 0x100000002; count = 5 }

commit_call : Asks (commit_five []) (Commit 12 args_commit)
unfolding Asks
commit_call = refl

commit_garbage : Asks (commit_five (0 ∷ [])) (Says_words 12 (12 ∷ 1 ∷ 0 ∷ 0 ∷ 0 ∷ 4 ∷ []))
unfolding Asks Says_words
commit_garbage = refl

-- MOUNT has no procedure 6 as NFS has
no_read_of_mount : Asks (11 ∷ 0 ∷ 2 ∷ 100005 ∷ 3 ∷ 6 ∷ 0 ∷ 0 ∷ 0 ∷ 0 ∷ []) (Says_words 11 (11 ∷ 1 ∷ 0 ∷ 0 ∷ 0 ∷ 3 ∷ []))
unfolding Asks Says_words
no_read_of_mount = refl

-- a credential of another flavor, and one of 401 bytes
rejected : Asks (6 ∷ 0 ∷ 2 ∷ 100003 ∷ 3 ∷ 0 ∷ 6 ∷ 0 ∷ 0 ∷ 0 ∷ []) (Says_words 6 (6 ∷ 1 ∷ 1 ∷ 1 ∷ 2 ∷ []))
unfolding Asks Says_words
rejected = refl

bad_credential : Asks (8 ∷ 0 ∷ 2 ∷ 100003 ∷ 3 ∷ 0 ∷ 0 ∷ 401 ∷ []) (Says_words 8 (8 ∷ 1 ∷ 1 ∷ 1 ∷ 1 ∷ []))
unfolding Asks Says_words
bad_credential = refl

-- a reply, and a call that breaks off
not_call : Asks (9 ∷ 1 ∷ []) Close
unfolding Asks
not_call = refl

short : Asks (7 ∷ 0 ∷ 2 ∷ []) Close
unfolding Asks
short = refl

-- the file that a WRITE is of, by the settings and by how many files are in the tree, or why it is refused
abbrev FindsBy : Settings → ℕ → WriteArgs → Result ℕ ℕ → Type 0
unfolding md5 digest_bytes hash_after compress rounds block_words word long handle_text ids_text
FindsBy settings files q found = write_file settings files q ≡ found

abbrev Finds : ℕ → WriteArgs → Result ℕ ℕ → Type 0
unfolding md5 digest_bytes hash_after compress rounds block_words word long handle_text ids_text
Finds files q found = write_file default_settings files q ≡ found

taken : Finds 1 (args_a 1) (Ok 4)
unfolding Finds
taken = refl

not_in_tree : Finds 0 (args_a 1) (Err 70)
unfolding Finds
not_in_tree = refl

other_count : Finds 2 (args_a 2) (Err 22)
unfolding Finds
other_count = refl

no_handle : Finds 1 (record (args_a 1) { handle = codes "a" }) (Err 10001)
unfolding Finds
no_handle = refl

another_system : FindsBy (record default_settings { fsid = 2 }) 1 (args_a 1) (Err 70)
unfolding FindsBy
another_system = refl

-- nothing may be changed, which the count comes before
abbrev read_only : Settings
read_only = record default_settings { read_only = true }

unchanged : FindsBy read_only 1 (args_a 1) (Err 30)
unfolding FindsBy
unchanged = refl

other_count_unchanged : FindsBy read_only 2 (args_a 2) (Err 22)
unfolding FindsBy
other_count_unchanged = refl

-- of a READ the handle alone is judged
abbrev Reads : ℕ → ReadArgs → Result ℕ ℕ → Type 0
unfolding md5 digest_bytes hash_after compress rounds block_words word long handle_text ids_text
Reads files q found = handle_file 1 files q.handle ≡ found

read_taken : Reads 1 args_five (Ok 4)
unfolding Reads
read_taken = refl

read_not_in_tree : Reads 0 args_five (Err 70)
unfolding Reads
read_not_in_tree = refl

read_no_handle : Reads 1 (record args_five { handle = codes "a" }) (Err 10001)
unfolding Reads
read_no_handle = refl
