-- READ of an ACCESS mask is given where the caller has the bit of reading.
use Rattle.std.proofs.Common.{◌≡◌, Bool, true, false, Option, Some, None, refl}
use Rattle.std.specs.Prelude.{◌==◌, ◌&&◌, not, ◌+◌}
use Rattle.rpc_msg.specs.declared.call.Caller.{Caller}
use Rattle.name_tree.specs.Tree.{Node, is_directory}
use Rattle.name_tree.specs.Access.{access_at, given_access, given_bit, may, may_at}

given : (read search write dir : Bool)
    → ((given_bit read 1 1 + given_bit (dir && search) 1 2 + given_bit write 1 4 + given_bit write 1 8 + given_bit (dir && write) 1 16 + given_bit (not dir && search) 1 32) == 1) ≡ read
given true true true true = refl
given true true true false = refl
given true true false true = refl
given true true false false = refl
given true false true true = refl
given true false true false = refl
given true false false true = refl
given true false false false = refl
given false true true true = refl
given false true true false = refl
given false true false true = refl
given false true false false = refl
given false false true true = refl
given false false true false = refl
given false false false true = refl
given false false false false = refl

pub read_given : (c : Caller) (n : Option Node) → (access_at c n 1 == 1) ≡ may_at 4 c n
unfolding given_access
read_given c None = refl
read_given c (Some n) = given (may 4 c n.attr) (may 1 c n.attr) (may 2 c n.attr) (is_directory n.attr.kind)
