-- What a call answers for a reading: its value, or the place of its fault. Memory may always be wanting.
use Rattle.std.specs.Prelude.{◌≡◌, ℕ, Option, Some, None, Result, Ok, Err}
use Rattle.xdr.specs.declared.fault.XdrFault.{XdrFault}
use Rattle.xdr.specs.declared.fault.XdrFault.TheVariants.{Short, BadBool, TooLong, BadChoice, Trailing}
use Rattle.nfs_wire.specs.declared.fault.ArgsFault.{ArgsFault}
use Rattle.nfs_wire.specs.declared.fault.ArgsFault.TheVariants.{Garbage, Memory}

abbrev pub fault_place : XdrFault → ℕ
fault_place (Short place) = place
fault_place (BadBool place) = place
fault_place (TooLong place) = place
fault_place (BadChoice place) = place
fault_place (Trailing place) = place

-- where a reading is at fault
abbrev pub refusal_place : {A : Type 0} → Result A XdrFault → Option ℕ
refusal_place (Ok x) = None
refusal_place (Err fault) = Some (fault_place fault)

abbrev pub Fails : {A : Type 0} → ArgsFault → Result A XdrFault → Type 0
Fails Memory read = Unit {0}
Fails (Garbage place) read = refusal_place read ≡ Some place

-- what was answered, seen by view, is what reading gives
abbrev pub Gives : {A B : Type 0} → (A → B) → Result A ArgsFault → Result B XdrFault → Type 0
Gives view (Ok x) read = read ≡ Ok (view x)
Gives view (Err e) read = Fails e read
