use Rattle.std.proofs.Common.{None, arith, string_bytes}
use Rattle.file_calls.specs.Outside.{part_state, store_view}
use Rattle.file_calls.proofs.PartRequests.{cut_room, step_ok, step_err, stored_step, last_ticket}
use Rattle.file_calls.proofs.Results.{always_err}
use Rattle.file_calls.proofs.part.read_closed.Goals as goal

pub returns-in_err-ticket-clause-err : goal.returns-in_err-ticket-clause-err
returns-in_err-ticket-clause-err g c = λ lost. always_err c.from_residual.result (cut_room g.C.File.AppendFile.tells _ _ _ (store_view c.args.file g.C.Cluster c.args.cluster.now) (c.in_err-ticket.ensures.err None lost))

pub read_stored-requires-clause-room : goal.read_stored-requires-clause-room
read_stored-requires-clause-room g c = let r = (c.in_ok-ticket.ensures.ok None None).room in omega (arith, r)

pub read_stored-requires-clause-last : goal.read_stored-requires-clause-last
read_stored-requires-clause-last g c = last_ticket c.args.conn c.args.call.xid 9 c.in_ok-ticket.ticket _ _ (c.in_ok-ticket.ensures.ok None None)

pub returns-clause-ok : goal.returns-clause-ok
returns-clause-ok g c = λ lost.
    let s = store_view c.args.file g.C.Cluster c.args.cluster.now in
    let t = c.read_stored.ensures.tries lost in
    step_ok string_bytes c.read_stored.result _ _ _ _ _
    (stored_step g.C.File.AppendFile.tells c.args.conn 9 c.in_ok-ticket.ticket (part_state lost None c.args.tracker.now) (part_state lost None c.begin_request.new.self) s c.args.call (c.in_ok-ticket.ensures.ok None lost) _ _ t.step) t.is

pub returns-clause-err : goal.returns-clause-err
returns-clause-err g c = λ lost.
    let s = store_view c.args.file g.C.Cluster c.args.cluster.now in
    let t = c.read_stored.ensures.tries lost in
    step_err c.read_stored.result _ _ _ _ _
    (stored_step g.C.File.AppendFile.tells c.args.conn 9 c.in_ok-ticket.ticket (part_state lost None c.args.tracker.now) (part_state lost None c.begin_request.new.self) s c.args.call (c.in_ok-ticket.ensures.ok None lost) _ _ t.step)
