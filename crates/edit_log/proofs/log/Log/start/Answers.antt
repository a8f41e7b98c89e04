use Rattle.std.proofs.Common.{inr, ◌∙◌, ap, subst, arith, List, ◌+◌}
use Rattle.gw_outside.specs.Tally.{joined_tally}
use Rattle.gw_model.specs.declared.object.KeptObject.{KeptObject}
use Rattle.gw_model.specs.declared.object.ObjectId.{ObjectId}
use Rattle.gw_model.specs.declared.object.ObjectId.TheVariants.{Log}
use Rattle.append_store.specs.State.{ObjectState}
use Rattle.gw_model.specs.Ahead as note
use Rattle.edit_log.specs.Notes.{EndsAfter, Notes, done_calls, read_count}
use Rattle.edit_log.specs.Start.{Stops, last_generation, start_result}
use Rattle.edit_log.proofs.CountedCalls.{counted_then}
use Rattle.edit_log.proofs.FetchedLogs.{ends_later, start_noted, stop_noted}
use Rattle.edit_log.proofs.StartedLogs.{fresh, later_than_all}
use Rattle.edit_log.proofs.log.Log.start.Goals as goal

pub begin-requires : goal.begin-requires
begin-requires g c = λ tells.
    c.recover.ensures.same tells (Log c.in-Ok-recover.found.0) ∙ (c.look.ensures.same tells (Log c.in-Ok-recover.found.0)
    ∙ fresh (g.C.Cluster.at c.args.cluster.now) c.in-Ok.all.items c.in-Ok-recover.found.0 (c.in-Ok.ensures.listed tells) (c.requires.back tells)
    (c.in-Ok-recover.ensures.next ∙ ap (λ (xs : List KeptObject). last_generation 0 xs + 1) c.deref.ensures.value))

pub returns-in-Ok-begin-clause-greater : goal.returns-in-Ok-begin-clause-greater
returns-in-Ok-begin-clause-greater g c = λ tells.
    later_than_all (g.C.Cluster.at c.args.cluster.now) c.in-Ok.all.items c.in-Ok-begin.log.generation (c.in-Ok.ensures.listed tells)
    (c.in-Ok-begin.ensures.generation ∙ (c.in-Ok-recover.ensures.next ∙ ap (λ (xs : List KeptObject). last_generation 0 xs + 1) c.deref.ensures.value))

pub returns-in-Ok-begin-clause-ok_notes : goal.returns-in-Ok-begin-clause-ok_notes
returns-in-Ok-begin-clause-ok_notes g c = record {
  all = c.in-Ok.all.items;
  lists = c.in-Ok.ensures.listed;
  rising = c.in-Ok.ensures.rising;
  notes = start_noted (note.Listed c.in-Ok.all.items) (read_count c.in-Ok.all.items) 4 c.args.trace.now c.look.new.trace c.recover.new.trace c.begin.new.trace c.in-Ok.ensures.ok_notes
      (subst (λ (xs : List KeptObject). Notes c.look.new.trace c.recover.new.trace (done_calls (read_count xs))) c.deref.ensures.value c.in-Ok-recover.ensures.ok_notes) c.in-Ok-begin.ensures.ok_notes;
}

pub returns-in-Err-recover-clause-stops : goal.returns-in-Err-recover-clause-stops
returns-in-Err-recover-clause-stops g c = λ tells.
    let fault = c.in-Err-recover.fault in
    let all : List KeptObject = c.in-Ok.all.items in
    let found = subst (λ (xs : List KeptObject). Stops fault (start_result (g.C.Cluster.at c.look.new.cluster) xs)) c.deref.ensures.value (c.in-Err-recover.ensures.found tells) in
    inr (record {
      all = all;
      lists = c.in-Ok.ensures.listed tells;
      rising = c.in-Ok.ensures.rising;
      stops = subst (λ (at : ObjectId → ObjectState). Stops fault (start_result at all)) (λ i q. c.look.ensures.same tells q i) found;
    })

pub returns-in-Err-recover-clause-err_notes : goal.returns-in-Err-recover-clause-err_notes
returns-in-Err-recover-clause-err_notes g c =
    let all : List KeptObject = c.in-Ok.all.items in
    inr (stop_noted g.F.AppendFile.tells (g.C.Cluster.at c.args.cluster.now) all (read_count all) 0 c.in-Err-recover.fault c.args.trace.now c.look.new.trace c.recover.new.trace
    c.in-Ok.ensures.listed c.in-Ok.ensures.rising (omega arith) c.in-Ok.ensures.ok_notes
    (subst (λ (xs : List KeptObject). EndsAfter (read_count xs) 0 c.in-Err-recover.fault c.look.new.trace c.recover.new.trace) c.deref.ensures.value c.in-Err-recover.ensures.err_notes))

pub returns-clause-err_notes : goal.returns-clause-err_notes
returns-clause-err_notes g c =
    let all : List KeptObject = c.in-Ok.all.items in
    let e = c.in-Err-begin.ensures.err_notes in
    inr (stop_noted g.F.AppendFile.tells (g.C.Cluster.at c.args.cluster.now) all (read_count all + 3) e.0 c.in-Err-begin.fault c.args.trace.now c.look.new.trace c.begin.new.trace
    c.in-Ok.ensures.listed c.in-Ok.ensures.rising (omega arith) c.in-Ok.ensures.ok_notes
    (ends_later (read_count all) 3 e.0 c.in-Err-begin.fault c.look.new.trace c.recover.new.trace c.begin.new.trace
    (subst (λ (xs : List KeptObject). Notes c.look.new.trace c.recover.new.trace (done_calls (read_count xs))) c.deref.ensures.value c.in-Ok-recover.ensures.ok_notes) e.1))

pub returns-in-Ok-begin-clause-ok_counted : goal.returns-in-Ok-begin-clause-ok_counted
returns-in-Ok-begin-clause-ok_counted g c =
    let tally = g.C.Cluster.tally in
    let last = joined_tally (tally c.begin.new.cluster) (g.F.AppendFile.tally c.in-Ok-begin.log.file) in
    counted_then c.args.trace.now c.look.new.trace c.begin.new.trace (tally c.args.cluster.now) (tally c.look.new.cluster) last c.look.ensures.counted
    (counted_then c.look.new.trace c.recover.new.trace c.begin.new.trace (tally c.look.new.cluster) (tally c.recover.new.cluster) last
    c.recover.ensures.counted c.in-Ok-begin.ensures.ok_counted)

pub returns-in-Err-recover-clause-err_counted : goal.returns-in-Err-recover-clause-err_counted
returns-in-Err-recover-clause-err_counted g c =
    let tally = g.C.Cluster.tally in
    counted_then c.args.trace.now c.look.new.trace c.recover.new.trace (tally c.args.cluster.now) (tally c.look.new.cluster) (tally c.recover.new.cluster)
    c.look.ensures.counted c.recover.ensures.counted

pub returns-clause-err_counted : goal.returns-clause-err_counted
returns-clause-err_counted g c =
    let tally = g.C.Cluster.tally in
    counted_then c.args.trace.now c.look.new.trace c.begin.new.trace (tally c.args.cluster.now) (tally c.look.new.cluster) (tally c.begin.new.cluster) c.look.ensures.counted
    (counted_then c.look.new.trace c.recover.new.trace c.begin.new.trace (tally c.look.new.cluster) (tally c.recover.new.cluster) (tally c.begin.new.cluster)
    c.recover.ensures.counted c.in-Err-begin.ensures.err_counted)
