use Rattle.std.proofs.Common.{◌≡◌, ℕ, ◌-◌, ◌≤◌, List, length, Ok, Err, sym, ap, ◌∙◌, arith}
use Rattle.std.specs.List.{slice_range}
use Rattle.rpc_msg.specs.declared.fault.CallFault.{CallFault}
use Rattle.rpc_msg.specs.declared.fault.CallFault.TheVariants.{Memory}
use Rattle.rpc_msg.specs.Calls.{call_of}
use Rattle.rpc_msg.specs.Views.{parts_view}
use Rattle.rpc_msg.specs.Views.{sender_view}
use Rattle.rpc_msg.proofs.Behind.{args_end}
use Rattle.rpc_msg.proofs.Faults.{never_call}
use Rattle.rpc_msg.proofs.reading.read_call.Goals as goal

pub returns-in-Err-clause-memory : goal.returns-in-Err-clause-memory
returns-in-Err-clause-memory c = λ xid e.
    let same : c.in-Err.fault ≡ Memory xid = cc in
    absurd (never_call c.as_slice.result.now xid (c.in-Err.ensures.err ∙ ap (λ (k : CallFault). Err k) same))

pub returns-in_default-clause-memory : goal.returns-in_default-clause-memory
returns-in_default-clause-memory c = λ xid e.
    let same : c.in-Ok.parts.xid ≡ xid = cc in
    (parts_view c.in-Ok.parts, ap (λ (k : List ℕ). call_of k) (sym c.as_slice.ensures) ∙ c.in-Ok.ensures.ok, same)

pub overflow_sub-place : goal.overflow_sub-place
overflow_sub-place c =
    let t = args_end c.as_slice.result.now (parts_view c.in-Ok.parts) c.in-Ok.ensures.ok in
    let same : length c.as_slice.result.now ≡ length c.args.message = ap length c.as_slice.ensures in
    let short : length c.in-Ok.parts.args.now ≤ length c.as_slice.result.now = t.short in
    omega (arith, c.len-end.ensures.value)

pub returns-in_default-slice-clause-memory : goal.returns-in_default-slice-clause-memory
returns-in_default-slice-clause-memory c = λ xid e.
    let same : c.in-Ok.parts.xid ≡ xid = cc in
    (parts_view c.in-Ok.parts, ap (λ (k : List ℕ). call_of k) (sym c.as_slice.ensures) ∙ c.in-Ok.ensures.ok, same)

pub returns-clause-ok : goal.returns-clause-ok
returns-clause-ok c =
    let m = c.args.message in
    let p = c.in-Ok.parts in
    let read : call_of m ≡ Ok (parts_view p) = ap (λ (k : List ℕ). call_of k) (sym c.as_slice.ensures) ∙ c.in-Ok.ensures.ok in
    let host : p.sender.host.now ≡ c.in-Ok-copy_from_slice.host = sym c.in-Ok-copy_from_slice.ensures in
    let at = λ (end : ℕ). slice_range m (end - length p.args.now) end in
    let args : p.args.now ≡ c.in-Ok-slice.args = sym (args_end m (parts_view p) read).range ∙ ap at (sym c.len-end.ensures.value) ∙ sym c.in-Ok-slice.ensures.ok in
    read ∙ (λ i. Ok (record { xid = p.xid; prog = p.prog; vers = p.vers; proc_no = p.proc_no; sender = sender_view p.sender.caller (host i); args = args i }))
