-- What a call of the port mapper asks for, and what it comes to (RFC 1833 section 3; RFC 5531 section 9).
use Rattle.std.specs.Prelude.{ℕ, ◌==◌, not, if◌then◌else◌, List, [], ◌∷◌, ◌++◌, Result, Ok, Err}
use Rattle.xdr.specs.declared.fault.XdrFault.{XdrFault}
use Rattle.xdr.specs.Reading.{start, u32_at, finish_at}
use Rattle.xdr.specs.Rows.{Item, Word, word_row, flag, text}
use Rattle.xdr.specs.Lists.{list_row}
use Rattle.rpc_msg.specs.Numbers.{success, prog_unavail, prog_mismatch, proc_unavail, garbage_args}
use Rattle.rpc_msg.specs.Calls.{CallText, ◌>>=◌}
use Rattle.rpc_msg.specs.Replies.{accepted_text}
use Rattle.portmap.specs.declared.ports.Mapping.{Mapping}
use Rattle.portmap.specs.declared.request.Request.{Request}
use Rattle.portmap.specs.declared.request.Request.TheVariants.{Null, Set, Unset, GetPort, Dump}
use Rattle.portmap.specs.Ports.{mapper_program, mapper_version, may_set, after_set, may_unset, after_unset, port_of}

-- a mapping: four words, and nothing more (RFC 1833 section 3.1)
unfoldable pub mapping_of : List ℕ → Result Mapping XdrFault
mapping_of args = do
  prog ← u32_at (start args)
  vers ← u32_at prog.1
  prot ← u32_at vers.1
  port ← u32_at prot.1
  end ← finish_at port.1
  Ok (record { prog = prog.0; vers = vers.0; prot = prot.0; port = port.0 })

-- arguments that can't be read are GARBAGE_ARGS
abbrev pub with_mapping : (Mapping → Request) → Result Mapping XdrFault → Result Request ℕ
with_mapping make (Ok m) = Ok (make m)
with_mapping make (Err fault) = Err garbage_args

abbrev pub with_nothing : Request → Result (Unit {0}) XdrFault → Result Request ℕ
with_nothing request (Ok nothing) = Ok request
with_nothing request (Err fault) = Err garbage_args

-- by the number of the procedure (RFC 1833 section 3.1)
abbrev pub request_by : ℕ → List ℕ → Result Request ℕ
request_by proc_no args =
    if proc_no == 0 then with_nothing Null (finish_at (start args))
    else if proc_no == 1 then with_mapping Set (mapping_of args)
    else if proc_no == 2 then with_mapping Unset (mapping_of args)
    else if proc_no == 3 then with_mapping GetPort (mapping_of args)
    else if proc_no == 4 then with_nothing Dump (finish_at (start args))
    else Err proc_unavail

-- The request that a call is, or the accept_stat that it is refused with: its program, version and procedure are judged in
-- this order, and then its arguments.
abbrev pub request_of : CallText → Result Request ℕ
request_of call =
    if not (call.prog == mapper_program) then Err prog_unavail
    else if not (call.vers == mapper_version) then Err prog_mismatch
    else request_by call.proc_no call.args

abbrev pub mapping_row : Mapping → List Item
mapping_row m = Word m.prog ∷ Word m.vers ∷ Word m.prot ∷ Word m.port ∷ []

-- a request's results
abbrev pub request_row : List Mapping → ℕ → Request → List Item
request_row table client Null = []
request_row table client (Set m) = word_row (flag (may_set table client m))
request_row table client (Unset m) = word_row (flag (may_unset table client m))
request_row table client (GetPort m) = word_row (port_of table m)
request_row table client Dump = list_row mapping_row table

-- the table after it
abbrev pub table_after : List Mapping → ℕ → Request → List Mapping
table_after table client (Set m) = after_set table client m
table_after table client (Unset m) = after_unset table client m
table_after table client _ = table

-- behind PROG_MISMATCH the lowest and the highest version that is there
abbrev pub refusal_row : ℕ → List Item
refusal_row stat = if stat == prog_mismatch then Word mapper_version ∷ Word mapper_version ∷ [] else []

-- the reply to a call, and the table after it
abbrev pub call_reply : List Mapping → ℕ → ℕ → Result Request ℕ → List ℕ
call_reply table client xid (Ok request) = accepted_text xid success ++ text (request_row table client request)
call_reply table client xid (Err stat) = accepted_text xid stat ++ text (refusal_row stat)

abbrev pub table_after_call : List Mapping → ℕ → Result Request ℕ → List Mapping
table_after_call table client (Ok request) = table_after table client request
table_after_call table client (Err stat) = table
