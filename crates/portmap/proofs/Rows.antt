-- Worked links: what a call is answered with, as a record, computed by the definitions.
use Rattle.std.proofs.Common.{◌≡◌, ℕ, Bool, true, false, List, [], ◌∷◌, ◌++◌, refl}
use Rattle.xdr.specs.Items.{word}
use Rattle.xdr.specs.Reading.{u32_at, opaque_at, finish_at}
use Rattle.rpc_record.specs.Records.{front_from, front, records_from, records}
use Rattle.rpc_msg.specs.Calls.{sender_of, call_word_at, call_opaque_at, call_body_at, call_of}
use Rattle.rpc_msg.specs.Replies.{accepted_text, rpc_mismatch_text, denial_text}
use Rattle.portmap.specs.declared.ports.Mapping.{Mapping}
use Rattle.portmap.specs.Ports.{first_ports}
use Rattle.portmap.specs.Requests.{mapping_of}
use Rattle.portmap.specs.Answers.{Answers, answers_from, answers}

abbrev words : List ℕ → List ℕ
words [] = []
words (w ∷ ws) = word w ++ words ws

-- a port mapper at 111, with NFS and MOUNT at 2049
abbrev table : List Mapping
table = first_ports 111 2049

-- a call of these words, in one fragment of 56 bytes, is answered so
abbrev Says : List Bool → ℕ → List ℕ → List ℕ → List Mapping → Type 0
unfolding word u32_at opaque_at finish_at front_from front records_from records sender_of call_word_at call_opaque_at call_body_at call_of accepted_text rpc_mismatch_text denial_text mapping_of answers_from answers
Says refused client call reply after =
    let all : Answers = record { text = words reply; table = after; closes = false } in answers refused client table (words (2147483704 ∷ call)) ≡ all

-- a call of a procedure with a mapping
abbrev call_with : ℕ → ℕ → ℕ → ℕ → ℕ → List ℕ
call_with proc_no prog vers prot port =
    1 ∷ 0 ∷ 2 ∷ 100000 ∷ 2 ∷ proc_no ∷ 0 ∷ 0 ∷ 0 ∷ 0 ∷ prog ∷ vers ∷ prot ∷ port ∷ []

-- GETPORT of NFS over TCP, and over UDP
port_of_nfs : Says [] 0 (call_with 3 100003 3 6 0) (2147483676 ∷ 1 ∷ 1 ∷ 0 ∷ 0 ∷ 0 ∷ 0 ∷ 2049 ∷ []) table
unfolding Says
port_of_nfs = refl

no_port_over_udp : Says [] 0 (call_with 3 100003 3 17 0) (2147483676 ∷ 1 ∷ 1 ∷ 0 ∷ 0 ∷ 0 ∷ 0 ∷ 0 ∷ []) table
unfolding Says
no_port_over_udp = refl

-- SET from 10.0.0.1, from 127.0.0.1, and where memory is refused for it
set_from_elsewhere : Says [] 167772161 (call_with 1 100024 1 17 700) (2147483676 ∷ 1 ∷ 1 ∷ 0 ∷ 0 ∷ 0 ∷ 0 ∷ 0 ∷ []) table
unfolding Says
set_from_elsewhere = refl

set_from_here : Says [] 2130706433 (call_with 1 100024 1 17 700) (2147483676 ∷ 1 ∷ 1 ∷ 0 ∷ 0 ∷ 0 ∷ 0 ∷ 1 ∷ []) (table ++ record { prog = 100024; vers = 1; prot = 17; port = 700 } ∷ [])
unfolding Says
set_from_here = refl

set_without_memory : Says (true ∷ []) 2130706433 (call_with 1 100024 1 17 700) (2147483672 ∷ 1 ∷ 1 ∷ 0 ∷ 0 ∷ 0 ∷ 5 ∷ []) table
unfolding Says
set_without_memory = refl

-- UNSET of NFS, whatever its transport and port
unset_of_nfs : Says [] 2130706433 (call_with 2 100003 3 17 9) (2147483676 ∷ 1 ∷ 1 ∷ 0 ∷ 0 ∷ 0 ∷ 0 ∷ 1 ∷ []) (record { prog = 100000; vers = 2; prot = 6; port = 111 } ∷ record { prog = 100005; vers = 3; prot = 6; port = 2049 } ∷ [])
unfolding Says
unset_of_nfs = refl

-- procedure 5, and arguments of DUMP
indirect_call : Says [] 0 (call_with 5 100003 3 6 0) (2147483672 ∷ 1 ∷ 1 ∷ 0 ∷ 0 ∷ 0 ∷ 3 ∷ []) table
unfolding Says
indirect_call = refl

dump_with_arguments : Says [] 0 (call_with 4 0 0 0 0) (2147483672 ∷ 1 ∷ 1 ∷ 0 ∷ 0 ∷ 0 ∷ 4 ∷ []) table
unfolding Says
dump_with_arguments = refl

-- NULL of version 3, and DUMP, in fragments of 40 bytes
abbrev SaysShort : ℕ → ℕ → List ℕ → Type 0
unfolding word u32_at opaque_at finish_at front_from front records_from records sender_of call_word_at call_opaque_at call_body_at call_of accepted_text rpc_mismatch_text denial_text mapping_of answers_from answers
SaysShort vers proc_no reply =
    let all : Answers = record { text = words reply; table = table; closes = false } in
    answers [] 0 table (words (2147483688 ∷ 1 ∷ 0 ∷ 2 ∷ 100000 ∷ vers ∷ proc_no ∷ 0 ∷ 0 ∷ 0 ∷ 0 ∷ [])) ≡ all

version_3 : SaysShort 3 0 (2147483680 ∷ 1 ∷ 1 ∷ 0 ∷ 0 ∷ 0 ∷ 2 ∷ 2 ∷ 2 ∷ [])
unfolding SaysShort
version_3 = refl

dump : SaysShort 2 4 (2147483736 ∷ 1 ∷ 1 ∷ 0 ∷ 0 ∷ 0 ∷ 0 ∷ 1 ∷ 100000 ∷ 2 ∷ 6 ∷ 111 ∷ 1 ∷ 100003 ∷ 3 ∷ 6 ∷ 2049 ∷ 1 ∷ 100005 ∷ 3 ∷ 6 ∷ 2049 ∷ 0 ∷ [])
unfolding SaysShort
dump = refl
