-- Each call of a drill is a call that the gateway reads.
use Rattle.std.specs.Prelude.{◌≡◌, ℕ, ◌<◌, ◌^◌, Ok}
use Rattle.xdr.specs.Rows.{text}
use Rattle.rpc_msg.specs.Calls.{call_of}
use Rattle.nfs_wire.specs.Arguments.{args_row, args_of, procedure_of}
use Rattle.nfs_wire.specs.declared.args.Args.{Args}
use Rattle.load_gen.specs.declared.load.FileLoad.{FileLoad}
use Rattle.load_gen.specs.Load.{load_call, args_message, load_write, load_commit}

-- a message is read as the call of its arguments, and these are read again
pub record IsValidCall (xid : ℕ) (a : Args) : Type 0 where
  pub call : call_of (args_message xid a) ≡ Ok (load_call xid (procedure_of a) (text (args_row a)))
  pub args : args_of (procedure_of a).0 (procedure_of a).1 (text (args_row a)) ≡ Ok a

abbrev pub EachCallIsValid : Type 0
EachCallIsValid =
    (l : FileLoad) (xid j : ℕ) → xid < 2 ^ 32 → j < 2 ^ 32
    → IsValidCall xid (load_write l j) × IsValidCall xid (load_commit l)
