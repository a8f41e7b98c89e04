use Rattle.std.proofs.Common.{[], ◌∷◌, ◌∙◌, None, ap, refl, string_bytes}
use Rattle.gw_model.specs.File.{Answer}
use Rattle.file_calls.specs.Terms.{closed_commit_body}
use Rattle.file_calls.specs.Acts.{CommitFile}
use Rattle.file_calls.specs.Outside.{part_state}
use Rattle.file_calls.proofs.PartClosed.{commits_closed}
use Rattle.file_calls.proofs.PartRequests.{cut_room, step_ok, step_err}
use Rattle.file_calls.proofs.Results.{always_err}
use Rattle.file_calls.proofs.part.commit_closed.Goals as goal

pub returns-in_err-ticket-clause-err : goal.returns-in_err-ticket-clause-err
returns-in_err-ticket-clause-err c = λ s. always_err c.from_residual.result (cut_room (Unit {0}) (CommitFile c.args.conn c.args.call) _ _ s (c.in_err-ticket.ensures.err None c.args.lost))

pub returns-clause-ok : goal.returns-clause-ok
returns-clause-ok c = λ s.
    step_ok string_bytes c.send.result _ _ _ _ _
    (commits_closed (Unit {0}) c.args.conn 9 c.in_ok-ticket.ticket (part_state c.args.lost None c.args.tracker.now) (part_state c.args.lost None c.begin_request.new.self) s c.args.call refl (c.in_ok-ticket.ensures.ok None c.args.lost) _ _ (ap (λ a. a ∷ []) (c.closed_answer.ensures.answer ∙ ap (λ n. let a : Answer = record { ticket = c.in_ok-ticket.ticket.number; body = closed_commit_body c.args.lost n } in a) c.limit.ensures)) (ap (part_state c.args.lost None) c.send.ensures.kept))
    c.send.ensures.text

pub returns-clause-err : goal.returns-clause-err
returns-clause-err c = λ s.
    step_err c.send.result _ _ _ _ _
    (commits_closed (Unit {0}) c.args.conn 9 c.in_ok-ticket.ticket (part_state c.args.lost None c.args.tracker.now) (part_state c.args.lost None c.begin_request.new.self) s c.args.call refl (c.in_ok-ticket.ensures.ok None c.args.lost) _ _ (ap (λ a. a ∷ []) (c.closed_answer.ensures.answer ∙ ap (λ n. let a : Answer = record { ticket = c.in_ok-ticket.ticket.number; body = closed_commit_body c.args.lost n } in a) c.limit.ensures)) (ap (part_state c.args.lost None) c.send.ensures.kept))
