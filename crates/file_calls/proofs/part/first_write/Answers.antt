use Rattle.std.proofs.Common.{None, ap, arith, string_bytes}
use Rattle.admit.specs.declared.request.WriteReq.{WriteReq}
use Rattle.file_calls.specs.Outside.{part_state, store_view}
use Rattle.file_calls.proofs.PartRequests.{cut_room, step_ok, step_err, first_step, last_ticket}
use Rattle.file_calls.proofs.part.first_write.Goals as goal

pub open_and_write-requires-clause-room : goal.open_and_write-requires-clause-room
open_and_write-requires-clause-room g c = let r = (c.in-Ok.ensures.ok None None).room in omega (arith, r)

pub open_and_write-requires-clause-last : goal.open_and_write-requires-clause-last
open_and_write-requires-clause-last g c = last_ticket c.args.conn c.args.call.xid 9 c.in-Ok.ticket _ _ (c.in-Ok.ensures.ok None c.args.lost)

pub returns-in-Ok-clause-ok : goal.returns-in-Ok-clause-ok
returns-in-Ok-clause-ok g c =
    let s = store_view c.args.file g.C.Cluster c.args.cluster.now in
    let t = c.open_and_write.ensures.tries in
    step_ok string_bytes c.open_and_write.result.text _ _ _ _ _
    (first_step g.C.File.AppendFile.tells c.args.conn 9 c.in-Ok.ticket (part_state c.args.lost None c.args.tracker.now) (part_state c.args.lost None c.begin_request.new.self) s c.args.call _ (c.in-Ok.ensures.ok None c.args.lost) (ap (λ n. let r : WriteReq = record { offset = c.args.call.offset; stable = c.args.call.stable; bytes = c.args.call.content; ticket = c.in-Ok.ticket; moment = n } in r) c.moment.ensures) _ _ t.step) t.is

pub returns-in-Ok-clause-err : goal.returns-in-Ok-clause-err
returns-in-Ok-clause-err g c =
    let s = store_view c.args.file g.C.Cluster c.args.cluster.now in
    let t = c.open_and_write.ensures.tries in
    step_err c.open_and_write.result.text _ _ _ _ _
    (first_step g.C.File.AppendFile.tells c.args.conn 9 c.in-Ok.ticket (part_state c.args.lost None c.args.tracker.now) (part_state c.args.lost None c.begin_request.new.self) s c.args.call _ (c.in-Ok.ensures.ok None c.args.lost) (ap (λ n. let r : WriteReq = record { offset = c.args.call.offset; stable = c.args.call.stable; bytes = c.args.call.content; ticket = c.in-Ok.ticket; moment = n } in r) c.moment.ensures) _ _ t.step)

pub returns-in-Err-clause-err : goal.returns-in-Err-clause-err
returns-in-Err-clause-err g c = cut_room g.C.File.AppendFile.tells _ _ _ (store_view c.args.file g.C.Cluster c.args.cluster.now) (c.in-Err.ensures.err None c.args.lost)
