use Rattle.std.proofs.Common.{Some, refl, sym, ◌∙◌, ap, subst}
use Rattle.name_changes.specs.Changes.{Keeps, tree_by}
use Rattle.name_changes.specs.Answers.{Alters, changed_results, reply_text}
use Rattle.name_changes.specs.Stores.{IsStored, log_seen, store_seen}
use Rattle.name_changes.proofs.StoredChanges.{change_refused, change_stored, with_left}
use Rattle.name_changes.proofs.ToldChanges.{told_change}
use Rattle.name_changes.proofs.call.alter_prepared.Goals as goal

pub returns-in-Ok-clause-answer : goal.returns-in-Ok-clause-answer
returns-in-Ok-clause-answer g c =
    let p = c.args.prepared in
    let a = c.requires.prepared in
    let q = c.args.call.now in
    told_change q.xid q.args.now c.args.system.now.fsid q.moment c.args.system.now.tree.tree c.make_change.new.system.tree.tree p.ready.edit
    c.in-Ok.ending p.replies p.removed c.ended.result
    (a.done ∙ ap (λ m. reply_text q.xid (changed_results q.args.now c.args.system.now.fsid m p.ready.edit)) a.is_now)
    a.io a.gone
    (c.in-Ok.ensures.tree ∙ ap (λ m. tree_by c.in-Ok.ending p.ready.edit m c.args.system.now.tree.tree) a.is_now)
    c.ended.ensures.text c.ended.ensures.removed c.ended.ensures.ending

pub returns-in-Ok-clause-kept : goal.returns-in-Ok-clause-kept
returns-in-Ok-clause-kept g c =
    subst (λ x. Keeps c.args.call.now.key.now x c.args.system.now.calls c.make_change.new.system.calls) (sym c.ended.ensures.text)
    c.in-Ok.ensures.calls

pub returns-in-Ok-clause-store : goal.returns-in-Ok-clause-store
returns-in-Ok-clause-store g c =
    let p = c.args.prepared in
    let s = c.make_change.ensures in
    let o = c.in-Ok.ensures in
    subst
    (λ x. IsStored g.C.File.AppendFile.tells (Some (Alters p.ready.edit)) x (store_seen g.C.Cluster c.args.cluster.now)
    (store_seen g.C.Cluster c.make_change.new.cluster)
    (log_seen g.C.File.AppendFile c.args.log.now.file c.args.log.now.failed c.args.log.now.generation)
    (log_seen g.C.File.AppendFile c.make_change.new.log.file c.make_change.new.log.failed c.make_change.new.log.generation)
    c.args.trace.now c.make_change.new.trace)
    (sym c.ended.ensures.ending)
    (change_stored _ p.ready.edit p.ready.edit p.ready.text.items c.in-Ok.ending _ _ _ _ c.args.trace.now c.args.trace.now
    c.make_change.new.trace refl c.requires.prepared.word_is refl o.durable o.made s.may s.others o.cause
    (λ h. with_left (λ e. ap (λ v. log_seen g.C.File.AppendFile v.file v.failed v.generation) e) (o.fails h)) s.later s.log_later s.mark s.generation s.counted)

pub returns-clause-store : goal.returns-clause-store
returns-clause-store g c =
    let p = c.args.prepared in
    let s = c.make_change.ensures in
    change_refused _ p.ready.edit p.ready.edit _ _ _ _ c.args.trace.now c.args.trace.now c.make_change.new.trace refl refl
    (ap (λ v. log_seen g.C.File.AppendFile v.file v.failed v.generation) c.in-Err.ensures.log_kept) s.may s.others s.later s.counted
