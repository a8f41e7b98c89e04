-- A message that was written item by item.
use Rattle.std.proofs.Common.{◌≡◌, ℕ, List, [], ap, ◌∙◌}
use Rattle.xdr.specs.Rows.{Item, joined_text}
use Rattle.xdr.proofs.Texts.{written-text}
use Rattle.rpc_msg.specs.Numbers.{auth_none}
use Rattle.rpc_msg.specs.Spellings.{call_row}
use Rattle.nfs_wire.specs.Arguments.{args_row, procedure_of}
use Rattle.nfs_wire.specs.declared.args.Args.{Args}
use Rattle.load_gen.specs.Load.{load_call, args_message}

abbrev pub head_row : ℕ → ℕ × ℕ → List Item
head_row xid procedure = call_row (load_call xid procedure []) auth_none [] auth_none []

pub message_written : (xid : ℕ) (a : Args) (begun head whole : List ℕ) → begun ≡ []
    → head ≡ joined_text begun (head_row xid (procedure_of a))
    → whole ≡ joined_text head (args_row a)
    → whole ≡ args_message xid a
unfolding args_message
message_written xid a begun head whole b h w =
    let start : head ≡ joined_text [] (head_row xid (procedure_of a)) = h ∙ ap (λ (t : List ℕ). joined_text t (head_row xid (procedure_of a))) b in
    w ∙ ap (λ (t : List ℕ). joined_text t (args_row a)) start ∙ written-text (joined_text [] (head_row xid (procedure_of a))) (args_row a)
