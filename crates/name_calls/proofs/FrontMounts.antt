-- The mount list stays where a call isn't one of those that are told.
use Rattle.std.proofs.Common.{◌≡◌, List, Option, None, Result, Ok, Err, OnOk, ℕ, refl}
use Rattle.rpc_msg.specs.declared.call.Call.{Call}
use Rattle.nfs_wire.specs.declared.args.Args.{Args}
use Rattle.nfs_wire.specs.declared.args.Args.TheVariants as args
use Rattle.name_queries.specs.Outcomes.{results_text}
use Rattle.name_calls.specs.declared.front.Front.{Front}
use Rattle.name_calls.specs.FrontAnswers.{front_results, mounts_after}

untold_stay : (f : Front) (q : Call) (a : Args) → None ≡ results_text (front_results f q a) → f.mounts ≡ mounts_after f q a
unfolding front_results
untold_stay f q (args.Mnt path) untold = absurd (cc)
untold_stay f q (args.Umnt path) untold = absurd (cc)
untold_stay f q args.Umntall untold = absurd (cc)
untold_stay f q _ untold = refl

-- so whatever another part answers
pub stay_where_untold : {T E : Type 0} (f : Front) (q : Call) (a : Args) (told : Option (List ℕ)) (answer : Result T E)
    → told ≡ results_text (front_results f q a) → told ≡ None → OnOk answer (f.mounts ≡ mounts_after f q a)
stay_where_untold f q a told (Ok x) is none = untold_stay f q a (rw none at is)
stay_where_untold f q a told (Err e) is none = tt
