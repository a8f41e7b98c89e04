use Rattle.std.proofs.Common.{◌≡◌, ◌∷◌, [], map, sym, subst}
use Rattle.gw_model.specs.Sides.{entries_lost_with}
use Rattle.admit.specs.declared.job.Job.{Job}
use Rattle.admit.specs.Jobs.{ready_job}
use Rattle.admit.specs.Parts.{line_of}
use Rattle.admit.proofs.GivenUpLines.{lost-none}
use Rattle.admit.proofs.given_up.lose_job.Goals as goal

pub returns-in-Compare-clause-lines : goal.returns-in-Compare-clause-lines
returns-in-Compare-clause-lines c =
    let es = map line_of c.args.history.now.items in
    subst (λ (j : Job). es ≡ entries_lost_with (ready_job j ∷ []) es) (sym c.in-Compare.is) (sym (lost-none es))

pub returns-in-Fetch-clause-lines : goal.returns-in-Fetch-clause-lines
returns-in-Fetch-clause-lines c =
    let es = map line_of c.args.history.now.items in
    subst (λ (j : Job). es ≡ entries_lost_with (ready_job j ∷ []) es) (sym c.in-Fetch.is) (sym (lost-none es))

pub returns-in-Settle-clause-lines : goal.returns-in-Settle-clause-lines
returns-in-Settle-clause-lines c =
    let es = map line_of c.args.history.now.items in
    subst (λ (j : Job). es ≡ entries_lost_with (ready_job j ∷ []) es) (sym c.in-Settle.is) (sym (lost-none es))
