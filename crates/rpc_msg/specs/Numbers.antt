-- The numbers of RFC 5531 sections 8.2 and 9.
use Rattle.std.specs.Prelude.{ℕ}

-- the protocol's version
abbrev pub rpc_version : ℕ
rpc_version = 2

-- msg_type: whether a message is a call or a reply
abbrev pub call_type : ℕ
call_type = 0

abbrev pub reply_type : ℕ
reply_type = 1

-- reply_stat
abbrev pub accepted_stat : ℕ
accepted_stat = 0

abbrev pub denied_stat : ℕ
denied_stat = 1

-- accept_stat: what became of an accepted call
abbrev pub success : ℕ
success = 0

abbrev pub prog_unavail : ℕ
prog_unavail = 1

abbrev pub prog_mismatch : ℕ
prog_mismatch = 2

abbrev pub proc_unavail : ℕ
proc_unavail = 3

abbrev pub garbage_args : ℕ
garbage_args = 4

abbrev pub system_error : ℕ
system_error = 5

-- reject_stat: why a call is denied
abbrev pub rpc_mismatch : ℕ
rpc_mismatch = 0

abbrev pub auth_error : ℕ
auth_error = 1

-- auth_stat: what is wrong with a credential
abbrev pub auth_bad_cred : ℕ
auth_bad_cred = 1

abbrev pub auth_rejected_cred : ℕ
auth_rejected_cred = 2

-- auth_flavor: the kinds of a credential
abbrev pub auth_none : ℕ
auth_none = 0

abbrev pub auth_sys : ℕ
auth_sys = 1

-- the most bytes of a credential or a verifier, and of AUTH_SYS the most bytes of the machine's name and the most further
-- groups (section 8.2 and appendix A)
abbrev pub auth_max : ℕ
auth_max = 400

abbrev pub host_max : ℕ
host_max = 255

abbrev pub groups_max : ℕ
groups_max = 16
