-- What is said of a call's result, carried on.
use Rattle.std.proofs.Common.{Result, Ok, Err, IfOk}
use Rattle.std.specs.Prelude.{OnErr}

pub with_ok : {T E : Type 0} {P Q : T → Type 0} (r : Result T E) → ((t : T) → P t → Q t) → IfOk r P → IfOk r Q
with_ok (Ok t) f p = f t p
with_ok (Err e) f p = tt

pub with_err : {T E P Q : Type 0} (r : Result T E) → (P → Q) → OnErr r P → OnErr r Q
with_err (Ok t) f p = tt
with_err (Err e) f p = f p

pub always_err : {T E P : Type 0} (r : Result T E) → P → OnErr r P
always_err (Ok t) p = tt
always_err (Err e) p = p
