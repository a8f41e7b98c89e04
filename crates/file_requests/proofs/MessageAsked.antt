-- A WRITE's data is short, and want of memory is for what a message asks for.
use Rattle.std.proofs.Common.{◌≡◌, ◌≢◌, ℕ, Bool, true, false, cond, ◌==◌, ◌||◌, nat_le, ◌+◌, ◌^◌, not, List, length, refl, sym, ◌∙◌, subst, Result, Ok, Err, IfOk, IfErr}
use Rattle.gw_model.specs.declared.Stable.{Stable}
use Rattle.xdr.specs.declared.fault.XdrFault.{XdrFault}
use Rattle.rpc_msg.specs.declared.call.Call.{Call}
use Rattle.rpc_msg.specs.declared.fault.CallFault.{CallFault}
use Rattle.rpc_msg.specs.declared.fault.CallFault.TheVariants.{NotCall, RpcMismatch, BadCred, RejectedCred, Short, Memory}
use Rattle.rpc_msg.specs.Calls.{CallText, call_of}
use Rattle.nfs_wire.specs.declared.args.Args.{Args}
use Rattle.nfs_wire.specs.declared.args.Args.TheVariants as args
use Rattle.nfs_wire.specs.Arguments.{args_of}
use Rattle.nfs_wire.specs.Bounds.{IsWithin}
use Rattle.nfs_wire.proofs.Bounds.{read_within}
use Rattle.file_requests.specs.declared.message.WriteArgs.{WriteArgs}
use Rattle.file_requests.specs.declared.message.CommitArgs.{CommitArgs}
use Rattle.file_requests.specs.declared.message.ReadArgs.{ReadArgs}
use Rattle.file_requests.specs.declared.message.Asked.{Asked}
use Rattle.file_requests.specs.declared.message.Asked.TheVariants as asked
use Rattle.file_requests.specs.declared.message.Refused.{Refused}
use Rattle.rpc_msg.specs.Numbers.{proc_unavail}
use Rattle.gw_config.specs.Settings.{Settings}
use Rattle.nfs_wire.specs.Programs.{nfs_program, mount_program, nfs_version}
use Rattle.file_requests.specs.Messages.{IsFew, reply_to, asked_with, asked_by_args, is_served, asked_by_call, asked_by_fault, asked_of, handle_file, write_file}
use Rattle.file_requests.specs.Targets.{Target, IsRequestOf, is_close, judged_commit, judged_read, judged_write, target_by}
use Rattle.file_requests.specs.MessageFaults.{IsAskedOr, HasXid, IsAskedBy}

-- a WRITE's data is short

few_cond : (b : Bool) (x y : Asked) → IsFew x → IsFew y → IsFew (cond b x y)
few_cond true x y h k = h
few_cond false x y h k = k

few_with : (xid : ℕ) (a : Args) → IsWithin a → IsFew (asked_with xid a)
few_with xid (args.Write handle offset count stable written) within = within.1
few_with xid args.Null within = tt
few_with xid args.MountNull within = tt
few_with xid _ within = tt

few_args : (xid prog proc_no : ℕ) (bytes : List ℕ) (r : Result Args XdrFault) → args_of prog proc_no bytes ≡ r → IsFew (asked_by_args xid r)
few_args xid prog proc_no bytes (Ok a) e = few_with xid a (read_within prog proc_no bytes (Ok a) e)
few_args xid prog proc_no bytes (Err fault) e = tt

few_call : (call : CallText) → IsFew (asked_by_call call)
few_call call =
    few_cond (not (call.prog == nfs_program || call.prog == mount_program)) _ _ tt
    (few_cond (not (call.vers == nfs_version)) _ _ tt
    (few_cond (not (is_served call.prog call.proc_no)) _ _ tt (few_args call.xid call.prog call.proc_no call.args (args_of call.prog call.proc_no call.args) refl)))

pub few_given : (r : Result Asked Refused) (xid : ℕ) (call : CallText) → IsAskedOr r xid (asked_by_call call) → IfOk r IsFew
few_given (Ok a) xid call g = subst IsFew (sym g) (few_call call)
few_given (Err e) xid call g = tt

-- what `read_call` says of a fault
abbrev Faults : List ℕ → CallFault → Type 0
Faults m fault = (other : CallFault) → ◌≡◌ {A = Result Call CallFault} (Err fault) (Err other) → ((n : ℕ) → other ≢ Memory n) → call_of m ≡ Err other

abbrev Starves : List ℕ → CallFault → Type 0
Starves m fault = (n : ℕ) → ◌≡◌ {A = Result Call CallFault} (Err fault) (Err (Memory n)) → (call : CallText) × (call_of m ≡ Ok call) × (call.xid ≡ n)

-- the arguments of a procedure that isn't served

pub asked_else : (xid : ℕ) (a : Args) → a ≢ args.Null → a ≢ args.MountNull → ((handle : List ℕ) (offset count : ℕ) → a ≢ args.Read handle offset count)
    → ((handle : List ℕ) (offset count : ℕ) (stable : Stable) (written : List ℕ) → a ≢ args.Write handle offset count stable written) → ((handle : List ℕ) (offset count : ℕ) → a ≢ args.Commit handle offset count)
    → asked_with xid a ≡ reply_to xid proc_unavail
asked_else xid args.Null null mount read write commit = absurd (null refl)
asked_else xid args.MountNull null mount read write commit = absurd (mount refl)
asked_else xid (args.Read handle offset count) null mount read write commit = absurd (read handle offset count refl)
asked_else xid (args.Write handle offset count stable written) null mount read write commit = absurd (write handle offset count stable written refl)
asked_else xid (args.Commit handle offset count) null mount read write commit = absurd (commit handle offset count refl)
asked_else xid _ null mount read write commit = refl

-- want of memory is for a message that asks for something under its own number

asked_cond : (n : ℕ) (b : Bool) (x y : Asked) → IsAskedBy x n → IsAskedBy y n → IsAskedBy (cond b x y) n
asked_cond n true x y h k = h
asked_cond n false x y h k = k

asked_args : (xid : ℕ) (a : Args) → IsAskedBy (asked_with xid a) xid
asked_args xid args.Null = refl
asked_args xid args.MountNull = refl
asked_args xid (args.Read handle offset count) = refl
asked_args xid (args.Write handle offset count stable written) = refl
asked_args xid (args.Commit handle offset count) = refl
asked_args xid _ = refl

asked_read : (xid : ℕ) (r : Result Args XdrFault) → IsAskedBy (asked_by_args xid r) xid
asked_read xid (Ok a) = asked_args xid a
asked_read xid (Err fault) = refl

asked_call : (call : CallText) → IsAskedBy (asked_by_call call) call.xid
asked_call call =
    asked_cond call.xid (not (call.prog == nfs_program || call.prog == mount_program)) _ _ refl
    (asked_cond call.xid (not (call.vers == nfs_version)) _ _ refl
    (asked_cond call.xid (not (is_served call.prog call.proc_no)) _ _ refl (asked_read call.xid (args_of call.prog call.proc_no call.args))))

asked_called : (m : List ℕ) (call : CallText) (n : ℕ) → call_of m ≡ Ok call → n ≡ call.xid → IsAskedBy (asked_of m) n
asked_called m call n h same = rw (h, same) (asked_call call)

pub asked_given : (m : List ℕ) (call : CallText) (r : Result Asked Refused) → call_of m ≡ Ok call → IsAskedOr r call.xid (asked_by_call call) → IfErr r (λ e. IsAskedBy (asked_of m) e.xid)
asked_given m call (Ok a) h g = tt
asked_given m call (Err e) h g = asked_called m call e.xid h g

by_fault : (m : List ℕ) (fault : CallFault) (x : ℕ) → call_of m ≡ Err fault → IsAskedBy (asked_by_fault fault) x → IsAskedBy (asked_of m) x
by_fault m fault x h a = rw h a

asked_wanting : (m : List ℕ) (fault : CallFault) (x : ℕ) → Faults m fault → Starves m fault → HasXid fault x → IsAskedBy (asked_of m) x
asked_wanting m NotCall x f s h = absurd h
asked_wanting m Short x f s h = absurd h
asked_wanting m (RpcMismatch xid) x f s h = by_fault m (RpcMismatch xid) x (f (RpcMismatch xid) refl (λ n e. cc)) (sym h)
asked_wanting m (BadCred xid) x f s h = by_fault m (BadCred xid) x (f (BadCred xid) refl (λ n e. cc)) (sym h)
asked_wanting m (RejectedCred xid) x f s h = by_fault m (RejectedCred xid) x (f (RejectedCred xid) refl (λ n e. cc)) (sym h)
asked_wanting m (Memory xid) x f s h = let t = s xid refl in asked_called m t.0 x t.1 (h ∙ sym t.2)

pub asked_faulted : (m : List ℕ) (fault : CallFault) (r : Result Asked Refused) → Faults m fault → Starves m fault → IfErr r (λ e. HasXid fault e.xid) → IfErr r (λ e. IsAskedBy (asked_of m) e.xid)
asked_faulted m fault (Ok a) f s h = tt
asked_faulted m fault (Err e) f s h = asked_wanting m fault e.xid f s h

-- as a target

request_of_read : (conn xid x : ℕ) (a : ReadArgs) (file : Result ℕ ℕ) → xid ≡ x → IsRequestOf (judged_read file conn xid a) conn x
request_of_read conn xid x a (Ok file) h = (refl, h)
request_of_read conn xid x a (Err status) h = (refl, h)

request_of_commit : (conn xid x : ℕ) (a : CommitArgs) (file : Result ℕ ℕ) → xid ≡ x → IsRequestOf (judged_commit file conn xid a) conn x
request_of_commit conn xid x a (Ok file) h = (refl, h)
request_of_commit conn xid x a (Err status) h = (refl, h)

request_cond : (conn x : ℕ) (b : Bool) (one other : Target) → IsRequestOf one conn x → IsRequestOf other conn x → IsRequestOf (cond b one other) conn x
request_cond conn x true one other h k = h
request_cond conn x false one other h k = k

request_of_write : (conn xid x : ℕ) (a : WriteArgs) (file : Result ℕ ℕ) → xid ≡ x → IsRequestOf (judged_write file conn xid a) conn x
request_of_write conn xid x a (Err status) h = (refl, h)
request_of_write conn xid x a (Ok file) h = request_cond conn x (nat_le (2 ^ 63) (a.offset + length a.data)) _ _ (refl, h) (request_cond conn x (length a.data == 0) _ _ (refl, h) (refl, h))

pub request_of : (settings : Settings) (files conn : ℕ) (a : Asked) (x : ℕ) → IsAskedBy a x → IsRequestOf (target_by settings files conn a) conn x
request_of settings files conn asked.Close x h = absurd h
request_of settings files conn (asked.Reply xid reply) x h = (refl, h)
request_of settings files conn (asked.Read xid a) x h = request_of_read conn xid x a (handle_file settings.fsid files a.handle) h
request_of settings files conn (asked.Write xid a) x h = request_of_write conn xid x a (write_file settings files a) h
request_of settings files conn (asked.Commit xid a) x h = request_of_commit conn xid x a (handle_file settings.fsid files a.handle) h

-- a message that asks for something is a call
pub goes_on : (a : Asked) (x : ℕ) → IsAskedBy a x → is_close a ≡ false
goes_on asked.Close x h = absurd h
goes_on (asked.Reply xid reply) x h = refl
goes_on (asked.Read xid a) x h = refl
goes_on (asked.Write xid a) x h = refl
goes_on (asked.Commit xid a) x h = refl
