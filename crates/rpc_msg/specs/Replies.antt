-- What stands at the front of a reply (RFC 5531 section 9), behind its mark.
use Rattle.std.specs.Prelude.{ℕ, List, ◌++◌}
use Rattle.xdr.specs.Items.{word}
use Rattle.rpc_msg.specs.Numbers.{rpc_version, reply_type, accepted_stat, denied_stat, rpc_mismatch, auth_error, auth_none}

-- a reply that was accepted, with a verifier of flavor AUTH_NONE
unfoldable pub accepted_text : ℕ → ℕ → List ℕ
accepted_text xid stat = word xid ++ word reply_type ++ word accepted_stat ++ word auth_none ++ word 0 ++ word stat

-- denied: this side speaks version 2 alone
unfoldable pub rpc_mismatch_text : ℕ → List ℕ
rpc_mismatch_text xid = word xid ++ word reply_type ++ word denied_stat ++ word rpc_mismatch ++ word rpc_version ++ word rpc_version

-- denied: the credential
unfoldable pub denial_text : ℕ → ℕ → List ℕ
denial_text xid stat = word xid ++ word reply_type ++ word denied_stat ++ word auth_error ++ word stat
