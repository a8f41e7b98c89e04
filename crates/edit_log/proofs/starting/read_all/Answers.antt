use Rattle.std.proofs.Common.{◌∙◌, ap, sym, arith, ◌+◌, List, ℕ, drop, get_or}
use Rattle.std.proofs.lemmas.List.{at_drop_more}
use Rattle.gw_model.specs.declared.object.KeptObject.{KeptObject}
use Rattle.gw_model.specs.declared.object.ObjectId.TheVariants.{Log}
use Rattle.edit_log.specs.Notes.{read_count}
use Rattle.edit_log.specs.Start.{tree_after_logs, logs_of, last_generation}
use Rattle.edit_log.proofs.CountedCalls.{counted_then}
use Rattle.edit_log.proofs.StartedLogs.{one_object, objects_noted, objects_ended}
use Rattle.edit_log.proofs.starting.read_all.Goals as goal

pub loop-listed-preserved : goal.loop-listed-preserved
loop-listed-preserved g c =
    let l = c.loop-listed in
    let i = l.invariant in
    let h = c.in-Ok.ensures in
    let none : KeptObject = record { object = Log 0; length = 0 } in
    let all : List KeptObject = c.args.all.now in
    let k : KeptObject = get_or all l.listed-index none in
    let ks : List KeptObject = drop (l.listed-index + 1) all in
    let at = g.C.Cluster.at c.args.cluster.now in
    record {
      tree = λ tells.
          sym (ap (λ x. tree_after_logs (logs_of at x) l.tree.tree) (at_drop_more (λ (xs : List KeptObject). xs) all l.listed-index none c.loop-listed-test.true)
          ∙ one_object at k ks (g.C.Cluster.at l.cluster k.object) l.tree.tree c.read_one.new.tree.tree (i.same tells k.object) (h.tree tells))
          ∙ i.tree tells;
      last = ap (λ (n : ℕ). last_generation n ks) h.last ∙ (sym (at_drop_more (λ (xs : List KeptObject). last_generation l.last xs) all l.listed-index none c.loop-listed-test.true) ∙ i.last);
      same = λ tells q. h.same tells q ∙ i.same tells q;
      later = omega (arith, h.later, i.later);
      counted = counted_then c.args.trace.now l.trace c.read_one.new.trace
          (g.C.Cluster.tally c.args.cluster.now) (g.C.Cluster.tally l.cluster) (g.C.Cluster.tally c.read_one.new.cluster) i.counted h.counted;
      notes = objects_noted all ks k i.notes.0 c.args.trace.now l.trace c.read_one.new.trace
          (ap (λ (n : ℕ). i.notes.0 + n) (sym (at_drop_more read_count all l.listed-index none c.loop-listed-test.true)) ∙ i.notes.1) i.notes.2 h.ok_notes;
    }

pub returns-in-Err-clause-err_notes : goal.returns-in-Err-clause-err_notes
returns-in-Err-clause-err_notes g c =
    let l = c.loop-listed in
    let i = l.invariant in
    let none : KeptObject = record { object = Log 0; length = 0 } in
    let all : List KeptObject = c.args.all.now in
    let k : KeptObject = get_or all l.listed-index none in
    let ks : List KeptObject = drop (l.listed-index + 1) all in
    objects_ended all ks k i.notes.0 c.in-Err.fault c.args.trace.now l.trace c.read_one.new.trace
    (ap (λ (n : ℕ). i.notes.0 + n) (sym (at_drop_more read_count all l.listed-index none c.loop-listed-test.true)) ∙ i.notes.1) i.notes.2 c.in-Err.ensures.err_notes

pub returns-in-Err-clause-counted : goal.returns-in-Err-clause-counted
returns-in-Err-clause-counted g c =
    let l = c.loop-listed in
    counted_then c.args.trace.now l.trace c.read_one.new.trace
    (g.C.Cluster.tally c.args.cluster.now) (g.C.Cluster.tally l.cluster) (g.C.Cluster.tally c.read_one.new.cluster) l.invariant.counted c.in-Err.ensures.counted
