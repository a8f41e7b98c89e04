-- The arguments of a call are the end of its message.
use Rattle.std.proofs.Common.{◌≡◌, ℕ, ◌+◌, ◌-◌, ◌≤◌, List, ◌++◌, length, take, drop, ap, ◌∙◌, length-append, arith, Ok}
use Rattle.std.specs.List.{slice_range}
use Rattle.std.proofs.lemmas.List.{take_all}
use Rattle.std.proofs.Math.Seq.{drop-append_seam}
use Rattle.rpc_msg.specs.Calls.{CallText, call_of}
use Rattle.rpc_msg.proofs.CallRows.{call_forth}

-- the bytes end so
abbrev EndsIn : List ℕ → List ℕ → Type 0
EndsIn end bytes = (front : List ℕ) × (bytes ≡ front ++ end)

ends_in_args : (bytes : List ℕ) (call : CallText) → call_of bytes ≡ Ok call → EndsIn call.args bytes
ends_in_args bytes call e = let s = call_forth bytes call e in (s.head, s.text)

-- where they stand in it
pub record IsEnd (end bytes : List ℕ) : Type 0 where
  pub short : length end ≤ length bytes
  pub range : slice_range bytes (length bytes - length end) (length bytes) ≡ end

pub args_end : (bytes : List ℕ) (call : CallText) → call_of bytes ≡ Ok call → IsEnd call.args bytes
args_end bytes call e =
    let t = ends_in_args bytes call e in
    let n : length bytes ≡ length t.0 + length call.args = ap length t.1 ∙ length-append t.0 call.args in
    let place : length bytes - length call.args ≡ length t.0 = omega arith in
    let behind : drop (length bytes - length call.args) bytes ≡ call.args = ap (λ (k : ℕ). drop k bytes) place ∙ ap (drop (length t.0)) t.1 ∙ drop-append_seam t.0 call.args in
    record { short = omega arith; range = ap (take (length bytes - (length bytes - length call.args))) behind ∙ take_all (length bytes - (length bytes - length call.args)) call.args (omega arith) }
