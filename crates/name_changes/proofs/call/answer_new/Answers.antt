use Rattle.std.proofs.Common.{true, Some, Ok, Err, refl, sym, ◌∙◌, ap, subst}
use Rattle.nfs_wire.specs.Views.{results_of}
use Rattle.name_tree.specs.Judging.{IsJudgement}
use Rattle.name_changes.specs.Asks.{change_judgement, scene_of}
use Rattle.name_changes.specs.Answers.{Tells, asked_first, asked_new, same_outcome}
use Rattle.name_changes.specs.Stores.{IsStored, log_seen, store_seen}
use Rattle.name_changes.proofs.StoredChanges.{untouched}
use Rattle.name_changes.proofs.ToldChanges.{answers_as}
use Rattle.name_changes.proofs.call.answer_new.Goals as goal

pub returns-in-Ok-Same-clause-answer : goal.returns-in-Ok-Same-clause-answer
returns-in-Ok-Same-clause-answer g c =
    let a = c.args.call.now.args.now in
    let s = c.args.system.now in
    let t = s.tree.tree in
    answers_as c.args.call.now.xid a s.fsid c.args.call.now.moment t t
    (Some (Tells true (results_of c.results_or.result)))
    (asked_first s c.args.caller.now c.args.call.now.moment a) c.tell.result
    (ap (λ j. Some (asked_new a t s.fsid j))
    (subst (λ j. IsJudgement (Ok j) (change_judgement (scene_of t c.args.caller.now s.read_only) s.fsid c.args.call.now.moment a))
    c.in-Ok-Same.field-0-is c.in-Ok-Same.ensures)
    ∙ ap (λ r. Some (Tells true r)) (sym (c.results_or.ensures (same_outcome a t s.fsid c.in-Ok-Same.file.0) c.same_outcome-outcome.ensures)))
    (c.tell.ensures.answer s.fsid t)

pub returns-in-Ok-Same-clause-store : goal.returns-in-Ok-Same-clause-store
returns-in-Ok-Same-clause-store g c =
    let s = store_seen g.C.Cluster c.args.cluster.now in
    let l = log_seen g.C.File.AppendFile c.args.log.now.file c.args.log.now.failed c.args.log.now.generation in
    let n = c.args.trace.now in
    let asked = asked_first c.args.system.now c.args.caller.now c.args.call.now.moment c.args.call.now.args.now in
    subst (λ e. IsStored g.C.File.AppendFile.tells asked e s s l l n n) (sym c.tell.ensures.ending)
    (untouched g.C.File.AppendFile.tells asked s l n n refl)

pub returns-in-Err-Status-clause-answer : goal.returns-in-Err-Status-clause-answer
returns-in-Err-Status-clause-answer g c =
    let a = c.args.call.now.args.now in
    let s = c.args.system.now in
    let t = s.tree.tree in
    answers_as c.args.call.now.xid a s.fsid c.args.call.now.moment t t
    (Some (Tells true (results_of c.refused_results.result)))
    (asked_first s c.args.caller.now c.args.call.now.moment a) c.tell-in-Err-Status.result
    (ap (λ j. Some (asked_new a t s.fsid j))
    (subst (λ j. IsJudgement (Err j) (change_judgement (scene_of t c.args.caller.now s.read_only) s.fsid c.args.call.now.moment a))
    c.in-Err-Status.field-0-is c.in-Err-Status.ensures)
    ∙ ap (λ r. Some (Tells true r)) (sym c.refused_results.ensures))
    (c.tell-in-Err-Status.ensures.answer s.fsid t)

pub returns-in-Err-Status-clause-store : goal.returns-in-Err-Status-clause-store
returns-in-Err-Status-clause-store g c =
    let s = store_seen g.C.Cluster c.args.cluster.now in
    let l = log_seen g.C.File.AppendFile c.args.log.now.file c.args.log.now.failed c.args.log.now.generation in
    let n = c.args.trace.now in
    let asked = asked_first c.args.system.now c.args.caller.now c.args.call.now.moment c.args.call.now.args.now in
    subst (λ e. IsStored g.C.File.AppendFile.tells asked e s s l l n n) (sym c.tell-in-Err-Status.ensures.ending)
    (untouched g.C.File.AppendFile.tells asked s l n n refl)

pub returns-in-Err-Memory-clause-store : goal.returns-in-Err-Memory-clause-store
returns-in-Err-Memory-clause-store g c = untouched _ _ _ _ c.args.trace.now c.args.trace.now refl
