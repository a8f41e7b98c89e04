use Rattle.std.proofs.Common.{None, refl, ap, rules}
use Rattle.gw_outside.specs.Causes.{Rose}
use Rattle.gw_model.specs.Views.{TraceState}
use Rattle.gw_config.specs.Seen.{settings_in}
use Rattle.file_calls.specs.Outside.{PartState, store_view}
use Rattle.file_calls.proofs.Counts.{call_done, call_failed, counted_later, counted_none}
use Rattle.file_calls.proofs.PartCreation.{creates_same, may_create_same, make_done, make_failed, make_cut}
use Rattle.file_calls.proofs.part.create_body.Goals as goal

pub returns-then-is_err-clause-step : goal.returns-then-is_err-clause-step
returns-then-is_err-clause-step g c = λ lost.
    let old : PartState = record { opened = None; desk = c.tracker.inside.desk; noted = c.tracker.inside.trace; terms = record { settings = settings_in c.tracker.inside.config; moment = c.tracker.inside.moment; lost = lost } } in
    let s = store_view c.args.file g.C.Cluster c.args.cluster.now in
    rw (← c.tracker.view_is) (make_cut g.C.File.AppendFile.tells old s s c.reserve.new.self refl c.reserve.ensures.rest (λ told. refl) (counted_none s.counts))

pub returns-in-Ok-clause-step : goal.returns-in-Ok-clause-step
returns-in-Ok-clause-step g c = λ lost.
    let old : PartState = record { opened = None; desk = c.tracker.inside.desk; noted = c.tracker.inside.trace; terms = record { settings = settings_in c.tracker.inside.config; moment = c.tracker.inside.moment; lost = lost } } in
    let s = store_view c.args.file g.C.Cluster c.args.cluster.now in
    let s' = store_view c.args.file g.C.Cluster c.create.new.self in
    let note = ap (λ (x : TraceState). let k : PartState = record old { noted = x } in k) c.note.ensures in
    rw (← c.tracker.view_is, note) (make_done g.C.File.AppendFile.tells old s s' c.reserve.new.self refl c.reserve.ensures.rest
    (λ told. creates_same _ _ (c.requires.safe told) (c.in-Ok.ensures.done told)) (call_done c.in-Ok.ensures.later c.in-Ok.ensures.counted) _ c.new.ensures.bytes)

pub returns-in-Err-Fault-clause-step : goal.returns-in-Err-Fault-clause-step
returns-in-Err-Fault-clause-step g c = λ lost.
    let old : PartState = record { opened = None; desk = c.tracker.inside.desk; noted = c.tracker.inside.trace; terms = record { settings = settings_in c.tracker.inside.config; moment = c.tracker.inside.moment; lost = lost } } in
    let s = store_view c.args.file g.C.Cluster c.args.cluster.now in
    let s' = store_view c.args.file g.C.Cluster c.create.new.self in
    let rose : Rose s.counts.faults s'.counts.faults = search rules in
    let counted = rw c.in-Err-Fault.field-0-is at c.in-Err-Fault.ensures.counted in
    let note = ap (λ (x : TraceState). let k : PartState = record old { noted = x } in k) c.note-in-Err-Fault.ensures in
    rw (← c.tracker.view_is, note) (make_failed g.C.File.AppendFile.tells old s s' c.reserve.new.self refl c.reserve.ensures.rest
    (λ told. may_create_same _ _ (c.requires.safe told) (c.in-Err-Fault.ensures.failed told)) (call_failed rose c.in-Err-Fault.ensures.later counted))

pub returns-in-Err-Memory-clause-step : goal.returns-in-Err-Memory-clause-step
returns-in-Err-Memory-clause-step g c = λ lost.
    let old : PartState = record { opened = None; desk = c.tracker.inside.desk; noted = c.tracker.inside.trace; terms = record { settings = settings_in c.tracker.inside.config; moment = c.tracker.inside.moment; lost = lost } } in
    let s = store_view c.args.file g.C.Cluster c.args.cluster.now in
    let s' = store_view c.args.file g.C.Cluster c.create.new.self in
    let counted = rw c.in-Err-Memory.field-0-is at c.in-Err-Memory.ensures.counted in
    rw (← c.tracker.view_is) (make_cut g.C.File.AppendFile.tells old s s' c.reserve.new.self refl c.reserve.ensures.rest
    (λ told. may_create_same _ _ (c.requires.safe told) (c.in-Err-Memory.ensures.failed told)) (counted_later s.counts s'.counts c.in-Err-Memory.ensures.later counted))
