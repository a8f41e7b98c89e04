-- What the reading of a message answers: what it asks for, or want of memory.
use Rattle.std.specs.Prelude.{◌≡◌, ℕ, Result, Ok, Err}
use Rattle.rpc_msg.specs.declared.fault.CallFault.{CallFault}
use Rattle.rpc_msg.specs.declared.fault.CallFault.TheVariants.{NotCall, RpcMismatch, BadCred, RejectedCred, Short, Memory}
use Rattle.file_requests.specs.declared.message.Refused.{Refused}
use Rattle.file_requests.specs.declared.message.Asked.{Asked}
use Rattle.file_requests.specs.declared.message.Asked.TheVariants as asked

-- the request with this xid asks for this, or memory was wanting for it
abbrev pub IsAskedOr : Result Asked Refused → ℕ → Asked → Type 0
IsAskedOr (Ok a) xid asked = a ≡ asked
IsAskedOr (Err e) xid asked = e.xid ≡ xid

-- a fault of a message whose xid is this one
abbrev pub HasXid : CallFault → ℕ → Type 0
HasXid NotCall n = ⊥
HasXid Short n = ⊥
HasXid (RpcMismatch xid) n = n ≡ xid
HasXid (BadCred xid) n = n ≡ xid
HasXid (RejectedCred xid) n = n ≡ xid
HasXid (Memory xid) n = n ≡ xid

-- it asks for something, under this number
abbrev pub IsAskedBy : Asked → ℕ → Type 0
IsAskedBy asked.Close n = ⊥
IsAskedBy (asked.Reply xid reply) n = xid ≡ n
IsAskedBy (asked.Read xid args) n = xid ≡ n
IsAskedBy (asked.Write xid args) n = xid ≡ n
IsAskedBy (asked.Commit xid args) n = xid ≡ n
