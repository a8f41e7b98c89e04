-- The reading of a call never wants memory.
use Rattle.std.proofs.Common.{◌≡◌, ℕ, Bool, true, false, cond, ◌==◌, List, ap, Result, Ok, Err}
use Rattle.xdr.specs.declared.fault.XdrFault.{XdrFault}
use Rattle.xdr.specs.declared.fault.XdrFault.TheVariants as xdr
use Rattle.xdr.specs.Reading.{Cursor, start, u32_at, opaque_at}
use Rattle.rpc_msg.specs.declared.fault.CallFault.{CallFault}
use Rattle.rpc_msg.specs.declared.fault.CallFault.TheVariants.{NotCall, RpcMismatch, RejectedCred, Memory}
use Rattle.rpc_msg.specs.Calls.{◌>>=◌, SenderText, nobody, or_bad_cred, system_sender, sender_of, or_short, call_word_at, or_auth, call_opaque_at, call_body_at, call_of}

abbrev Never : {A : Type 0} → Result A CallFault → Type 0
Never r = (xid : ℕ) → r ≡ Err (Memory xid) → ⊥

never_bind : {A B : Type 0} (r : Result A CallFault) (f : A → Result B CallFault) → Never r → ((x : A) → Never (f x)) → Never (r >>= f)
never_bind (Ok x) f n m = m x
never_bind (Err fault) f n m = λ xid e. let same : fault ≡ Memory xid = cc in n xid (ap (λ (k : CallFault). Err k) same)

never_ok : {A : Type 0} (x : A) → Never (Ok x)
never_ok x xid e = cc

never_cond : {A : Type 0} (b : Bool) (r s : Result A CallFault) → Never r → Never s → Never (cond b r s)
never_cond true r s n m = n
never_cond false r s n m = m

never_short : {A : Type 0} (r : Result A XdrFault) → Never (or_short r)
never_short (Ok x) xid e = cc
never_short (Err fault) xid e = cc

never_part : (c : Cursor) → Never (call_word_at c)
unfolding call_word_at
never_part c = never_short (u32_at c)

never_or_auth : {A : Type 0} (id : ℕ) (r : Result A XdrFault) → Never (or_auth id r)
never_or_auth id (Ok x) xid e = cc
never_or_auth id (Err (xdr.TooLong place)) xid e = cc
never_or_auth id (Err (xdr.Short place)) xid e = cc
never_or_auth id (Err (xdr.BadBool place)) xid e = cc
never_or_auth id (Err (xdr.BadChoice place)) xid e = cc
never_or_auth id (Err (xdr.Trailing place)) xid e = cc

never_auth : (id : ℕ) (c : Cursor) → Never (call_opaque_at id c)
unfolding call_opaque_at
never_auth id c = never_or_auth id (opaque_at 400 c)

never_bad : (id : ℕ) (r : Result SenderText XdrFault) → Never (or_bad_cred id r)
never_bad id (Ok x) xid e = cc
never_bad id (Err fault) xid e = cc

never_rejected : (id : ℕ) → Never {A = SenderText} (Err (RejectedCred id))
never_rejected id xid e = cc

never_sender : (id flavor : ℕ) (body : List ℕ) → Never (sender_of id flavor body)
unfolding sender_of
never_sender id flavor body = never_cond (flavor == 0) _ _ (never_ok nobody) (never_cond (flavor == 1) _ _ (never_bad id (system_sender body)) (never_rejected id))

never_body : (id : ℕ) (c : Cursor) → Never (call_body_at id c)
unfolding call_body_at
never_body id c =
    never_bind (call_word_at c) _ (never_part c) (λ prog.
    never_bind (call_word_at prog.1) _ (never_part prog.1) (λ vers.
    never_bind (call_word_at vers.1) _ (never_part vers.1) (λ proc_no.
    never_bind (call_word_at proc_no.1) _ (never_part proc_no.1) (λ flavor.
    never_bind (call_opaque_at id flavor.1) _ (never_auth id flavor.1) (λ cred.
    never_bind (call_word_at cred.1) _ (never_part cred.1) (λ kind.
    never_bind (call_opaque_at id kind.1) _ (never_auth id kind.1) (λ verf.
    never_bind (sender_of id flavor.0 cred.0) _ (never_sender id flavor.0 cred.0) (λ sender. never_ok _))))))))

never_not_call : (c : Cursor) (b : Bool) → Never (cond b (Ok c) (Err NotCall))
never_not_call c true xid e = cc
never_not_call c false xid e = cc

never_mismatch : (id : ℕ) (c : Cursor) (b : Bool) → Never (cond b (Ok c) (Err (RpcMismatch id)))
never_mismatch id c true xid e = cc
never_mismatch id c false xid e = cc

pub never_call : (bytes : List ℕ) (xid : ℕ) → call_of bytes ≡ Err (Memory xid) → ⊥
unfolding call_of
never_call bytes =
    never_bind (call_word_at (start bytes)) _ (never_part (start bytes)) (λ id.
    never_bind (call_word_at id.1) _ (never_part id.1) (λ kind.
    never_bind (cond (kind.0 == 0) (Ok kind.1) (Err NotCall)) _ (never_not_call kind.1 (kind.0 == 0)) (λ called.
    never_bind (call_word_at called) _ (never_part called) (λ vers.
    never_bind (cond (vers.0 == 2) (Ok vers.1) (Err (RpcMismatch id.0))) _ (never_mismatch id.0 vers.1 (vers.0 == 2)) (λ behind. never_body id.0 behind)))))
