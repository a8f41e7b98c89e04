-- Each message of a drill is read again.
use Rattle.std.proofs.Common.{◌≡◌, ℕ, ◌+◌, ◌*◌, ◌%◌, ◌<◌, ◌^◌, [], length, Ok, inl, refl, arith}
use Rattle.std.proofs.lemmas.List.FromFn.{length-map-range_with_len}
use Rattle.xdr.specs.Rows.{text, AllFit}
use Rattle.xdr.proofs.Texts.{spells_text}
use Rattle.rpc_msg.specs.Numbers.{auth_none}
use Rattle.rpc_msg.specs.Calls.{CallText, call_of}
use Rattle.rpc_msg.specs.Spellings.{call_row}
use Rattle.rpc_msg.proofs.CallRows.{call_back}
use Rattle.nfs_wire.specs.Arguments.{args_row, procedure_of}
use Rattle.nfs_wire.specs.declared.args.Args.{Args}
use Rattle.nfs_wire.proofs.Procedures.{args_again}
use Rattle.handles.proofs.Handles.{length-handle}
use Rattle.load_gen.specs.declared.load.FileLoad.{FileLoad}
use Rattle.load_gen.specs.Load.{load_call, anonymous_head, args_message, load_file, load_data, load_write, load_commit}
use Rattle.load_gen.specs.Laws.{EachCallIsValid}

message_read : (xid : ℕ) (a : Args) → xid < 2 ^ 32 → (procedure_of a).0 < 2 ^ 32 → (procedure_of a).1 < 2 ^ 32
    → call_of (args_message xid a) ≡ Ok (load_call xid (procedure_of a) (text (args_row a)))
unfolding args_message
message_read xid a h p q =
    let call : CallText = load_call xid (procedure_of a) (text (args_row a)) in
    let fits : AllFit (call_row call auth_none [] auth_none []) =
    (h, (omega arith, (omega arith, (p, (omega arith, (q, (omega arith, ((omega arith, omega arith), (omega arith, ((omega arith, omega arith), tt)))))))))) in
    call_back (args_message xid a) call
    (record {
      flavor = auth_none;
      cred = [];
      kind = auth_none;
      verf = [];
      sender = inl (refl, refl);
      head = anonymous_head call;
      spelled = spells_text (call_row call auth_none [] auth_none []) fits;
      text = refl;
    })

length-data : (l : FileLoad) (j : ℕ) → length (load_data l j) ≡ 512
unfolding load_data
length-data l j = length-map-range_with_len (λ (i : ℕ). (512 * j + i + l.place + l.start) % 256) 0 512

write_fits : (l : FileLoad) (j : ℕ) → j < 2 ^ 32 → AllFit (args_row (load_write l j))
write_fits l j h =
    let handle = length-handle (load_file l) 1 in
    let bytes = length-data l j in
    ((omega (arith, handle), omega (arith, handle)), (omega arith, (omega arith, (omega arith, ((omega (arith, bytes), omega (arith, bytes)), tt)))))

commit_fits : (l : FileLoad) → AllFit (args_row (load_commit l))
commit_fits l =
    let handle = length-handle (load_file l) 1 in
    ((omega (arith, handle), omega (arith, handle)), (omega arith, (omega arith, tt)))

pub each_call_is_valid : EachCallIsValid
each_call_is_valid l xid j h k = (
  record { call = message_read xid (load_write l j) h (omega arith) (omega arith); args = args_again (load_write l j) (write_fits l j k) },
  record { call = message_read xid (load_commit l) h (omega arith) (omega arith); args = args_again (load_commit l) (commit_fits l) },
)
