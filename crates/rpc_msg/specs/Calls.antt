-- How a message is read as a call (RFC 5531 section 9), and a credential of AUTH_SYS (its appendix A).
use Rattle.std.specs.Prelude.{ℕ, zero, suc, ◌==◌, nat_lt, if◌then◌else◌, List, [], ◌∷◌, Result, Ok, Err, codes}
use Rattle.xdr.specs.declared.fault.XdrFault.{XdrFault}
use Rattle.xdr.specs.declared.fault.XdrFault.TheVariants as xdr
use Rattle.xdr.specs.Reading.{Cursor, Reading, start, u32_at, opaque_at, finish_at}
use Rattle.rpc_msg.specs.Numbers.{rpc_version, call_type, auth_none, auth_sys, auth_max, host_max, groups_max}
use Rattle.rpc_msg.specs.declared.fault.CallFault.{CallFault}
use Rattle.rpc_msg.specs.declared.fault.CallFault.TheVariants.{NotCall, RpcMismatch, BadCred, RejectedCred, Short}

infixl 10 ◌>>=◌
abbrev pub ◌>>=◌ : {A B E : Type 0} → Result A E → (A → Result B E) → Result B E
(Ok x) >>= f = f x
(Err e) >>= f = Err e

-- who calls, and from which host
pub record SenderText : Type 0 where
  pub uid : ℕ
  pub gid : ℕ
  pub gids : List ℕ
  pub host : List ℕ

pub record CallText : Type 0 where
  pub xid : ℕ
  pub prog : ℕ
  pub vers : ℕ
  pub proc_no : ℕ
  pub sender : SenderText
  pub args : List ℕ

-- so many words
unfoldable pub words_at : ℕ → Cursor → Reading (List ℕ)
words_at zero c = Ok ([], c)
words_at (suc n) c = do
  w ← u32_at c
  ws ← words_at n w.1
  Ok (w.0 ∷ ws.0, ws.1)

-- a count of at most 16, and as many words
unfoldable pub groups_at : Cursor → Reading (List ℕ)
groups_at c = do
  count ← u32_at c
  if nat_lt groups_max count.0 then Err (xdr.TooLong c.place) else words_at count.0 count.1

-- the body of AUTH_SYS: a stamp, the machine's name, uid, gid and further gids, and nothing more
unfoldable pub system_sender : List ℕ → Result SenderText XdrFault
system_sender body = do
  stamp ← u32_at (start body)
  host ← opaque_at host_max stamp.1
  uid ← u32_at host.1
  gid ← u32_at uid.1
  gids ← groups_at gid.1
  end ← finish_at gids.1
  Ok (record { uid = uid.0; gid = gid.0; gids = gids.0; host = host.0 })

-- of AUTH_NONE
abbrev pub nobody : SenderText
nobody = record { uid = 65534; gid = 65534; gids = []; host = codes "none" }

abbrev pub or_bad_cred : {A : Type 0} → ℕ → Result A XdrFault → Result A CallFault
or_bad_cred xid (Ok x) = Ok x
or_bad_cred xid (Err fault) = Err (BadCred xid)

-- by the credential's flavor: AUTH_NONE 0, whose body is passed over, AUTH_SYS 1, or none that is taken
unfoldable pub sender_of : ℕ → ℕ → List ℕ → Result SenderText CallFault
sender_of xid flavor body =
    if flavor == auth_none then Ok nobody
    else if flavor == auth_sys then or_bad_cred xid (system_sender body)
    else Err (RejectedCred xid)

-- a word of a call, which the message may be too short for
abbrev pub or_short : {A : Type 0} → Result A XdrFault → Result A CallFault
or_short (Ok x) = Ok x
or_short (Err fault) = Err Short

unfoldable pub call_word_at : Cursor → Result (ℕ × Cursor) CallFault
call_word_at c = or_short (u32_at c)

-- an opaque of a credential or a verifier, of at most 400 bytes
abbrev pub or_auth : {A : Type 0} → ℕ → Result A XdrFault → Result A CallFault
or_auth xid (Ok x) = Ok x
or_auth xid (Err (xdr.TooLong place)) = Err (BadCred xid)
or_auth xid (Err _) = Err Short

unfoldable pub call_opaque_at : ℕ → Cursor → Result (List ℕ × Cursor) CallFault
call_opaque_at xid c = or_auth xid (opaque_at auth_max c)

-- what stands behind the version of the protocol
unfoldable pub call_body_at : ℕ → Cursor → Result CallText CallFault
call_body_at xid c = do
  prog ← call_word_at c
  vers ← call_word_at prog.1
  proc_no ← call_word_at vers.1
  flavor ← call_word_at proc_no.1
  cred ← call_opaque_at xid flavor.1
  kind ← call_word_at cred.1
  verf ← call_opaque_at xid kind.1
  sender ← sender_of xid flavor.0 cred.0
  Ok (record { xid = xid; prog = prog.0; vers = vers.0; proc_no = proc_no.0; sender = sender; args = verf.1.left })

-- the message as a call: the faults in the order of the bytes, and then those of the credential
unfoldable pub call_of : List ℕ → Result CallText CallFault
call_of bytes = do
  xid ← call_word_at (start bytes)
  kind ← call_word_at xid.1
  called ← (if kind.0 == call_type then Ok kind.1 else Err NotCall)
  vers ← call_word_at called
  behind ← (if vers.0 == rpc_version then Ok vers.1 else Err (RpcMismatch xid.0))
  call_body_at xid.0 behind
