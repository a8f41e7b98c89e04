use Rattle.std.proofs.Common.{refl, sym, ap, subst}
use Rattle.name_changes.specs.Answers.{asked_changing}
use Rattle.name_changes.specs.Stores.{IsStored, log_seen, store_seen}
use Rattle.name_changes.proofs.StoredChanges.{untouched}
use Rattle.name_changes.proofs.call.answer_changing.Goals as goal

pub returns-in-Some-clause-store : goal.returns-in-Some-clause-store
returns-in-Some-clause-store g c =
    let s = store_seen g.C.Cluster c.args.cluster.now in
    let l = log_seen g.C.File.AppendFile c.args.log.now.file c.args.log.now.failed c.args.log.now.generation in
    let n = c.args.trace.now in
    let q = c.args.call.now in
    let asked = asked_changing c.args.system.now c.args.caller.now q.key.now q.moment q.args.now in
    subst (λ e. IsStored g.C.File.AppendFile.tells asked e s s l l n n) (sym (ap (λ d. d.ending) c.again.ensures))
    (untouched g.C.File.AppendFile.tells asked s l n n refl)

pub returns-in-Err-clause-store : goal.returns-in-Err-clause-store
returns-in-Err-clause-store g c = untouched _ _ _ _ c.args.trace.now c.args.trace.now refl
