use Rattle.std.proofs.Common.{refl, sym, ◌∙◌, subst}
use Rattle.dup_cache.specs.CallList.{call_key}
use Rattle.name_changes.specs.Asks.{is_changing, unsupported_refusal}
use Rattle.name_changes.specs.Answers.{asked, asked_changing, asked_unsupported}
use Rattle.name_changes.specs.Answered.{KeepsAnswer}
use Rattle.name_changes.specs.Stores.{IsStored, log_seen, store_seen}
use Rattle.name_changes.proofs.StoredChanges.{untouched}
use Rattle.name_changes.proofs.ToldChanges.{answers_as, asked_otherwise, keeps_unsupported}
use Rattle.name_changes.proofs.call.answer.Goals as goal

pub returns-then-not-is_changing-clause-answer : goal.returns-then-not-is_changing-clause-answer
returns-then-not-is_changing-clause-answer g c =
    let a = c.args.args.now in
    let q = c.args.call.now in
    let s = c.args.system.now in
    let t = s.tree.tree in
    let other = asked_unsupported a (unsupported_refusal t s.fsid a) in
    answers_as q.xid a s.fsid c.args.moment t t other
    (asked s c.args.client q c.args.moment a) c.unsupported.result
    (asked_otherwise (is_changing a) (asked_changing s q.caller (call_key c.args.client q.whole) c.args.moment a) other
    (sym c.is_changing.ensures ∙ c.if-not-is_changing.true))
    (c.unsupported.ensures.answer c.args.moment)

pub returns-then-not-is_changing-clause-kept : goal.returns-then-not-is_changing-clause-kept
returns-then-not-is_changing-clause-kept g c =
    let a = c.args.args.now in
    let q = c.args.call.now in
    let s = c.args.system.now in
    let t = s.tree.tree in
    let key = call_key c.args.client q.whole in
    let other = asked_unsupported a (unsupported_refusal t s.fsid a) in
    subst (λ x. KeepsAnswer x key c.unsupported.result s.calls s.calls)
    (sym (asked_otherwise (is_changing a) (asked_changing s q.caller key c.args.moment a) other
    (sym c.is_changing.ensures ∙ c.if-not-is_changing.true)))
    (keeps_unsupported q.xid a s.fsid c.args.moment t t (unsupported_refusal t s.fsid a) c.unsupported.result key s.calls
    (c.unsupported.ensures.answer c.args.moment))

pub returns-then-not-is_changing-clause-store : goal.returns-then-not-is_changing-clause-store
returns-then-not-is_changing-clause-store g c =
    let s = store_seen g.C.Cluster c.args.cluster.now in
    let l = log_seen g.C.File.AppendFile c.args.log.now.file c.args.log.now.failed c.args.log.now.generation in
    let n = c.args.trace.now in
    let asks = asked c.args.system.now c.args.client c.args.call.now c.args.moment c.args.args.now in
    subst (λ e. IsStored g.C.File.AppendFile.tells asks e s s l l n n) (sym c.unsupported.ensures.ending)
    (untouched g.C.File.AppendFile.tells asks s l n n refl)

pub returns-in_default-clause-store : goal.returns-in_default-clause-store
returns-in_default-clause-store g c = untouched _ _ _ _ c.args.trace.now c.args.trace.now refl
