use Rattle.std.proofs.Common.{ap, refl}
use Rattle.std.specs.Option.{option_map}
use Rattle.name_changes.proofs.StoredChanges.{untouched}
use Rattle.name_calls.proofs.FrontMounts.{stay_where_untold}
use Rattle.name_calls.proofs.call.answer.Goals as goal

pub returns-in-Ok-clause-store : goal.returns-in-Ok-clause-store
returns-in-Ok-clause-store g c = untouched _ _ _ _ c.args.trace.now c.args.trace.now refl

pub returns-in-Ok-Some-clause-store : goal.returns-in-Ok-Some-clause-store
returns-in-Ok-Some-clause-store g c = untouched _ _ _ _ c.args.trace.now c.args.trace.now refl

pub returns-clause-store : goal.returns-clause-store
returns-clause-store g c = untouched _ _ _ _ c.args.trace.now c.args.trace.now refl

pub returns-in-Ok-None-clause-mounts : goal.returns-in-Ok-None-clause-mounts
returns-in-Ok-None-clause-mounts g c =
    stay_where_untold _ _ c.args.args.now _ c.answer.result c.in-Ok-None.ensures (ap (option_map (λ v. v.items)) c.in-Ok-None.field-0-is)

pub returns-in-Ok-change_mounts-clause-store : goal.returns-in-Ok-change_mounts-clause-store
returns-in-Ok-change_mounts-clause-store g c = untouched _ _ _ _ c.args.trace.now c.args.trace.now refl
