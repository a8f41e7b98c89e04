use Rattle.std.proofs.Common.{refl, sym, ◌∙◌}
use Rattle.file_calls.proofs.Results.{always_err}
use Rattle.nfs_procs.proofs.WorldOperations.{cuts_still}
use Rattle.gateway.proofs.LinkMap.{piece_received, piece_passed, piece_cut, sets_twice}
use Rattle.gateway.proofs.gateway.Gateway.receive.Goals as goal

pub returns-in_err-stream-clause-err : goal.returns-in_err-stream-clause-err
returns-in_err-stream-clause-err g c = rw (← c.self.view_is) (always_err c.from_residual.result (cuts_still g.C.File.AppendFile.tells _ _))

pub returns-in_default-clause-ok : goal.returns-in_default-clause-ok
returns-in_default-clause-ok g c =
    rw (← c.self.view_is, c.new.ensures.bytes)
    (piece_passed g.C.File.AppendFile.tells c.args.conn c.args.piece.now _ _ _ _ (sym c.in_ok-stream.ensures.link ∙ c.in_default.is) c.in_ok-stream.ensures.rest refl)

pub returns-in_err-served-clause-err : goal.returns-in_err-served-clause-err
returns-in_err-served-clause-err g c =
    let links = c.self.inside.links.entries in
    let cut = piece_cut g.C.File.AppendFile.tells c.args.conn c.args.piece.now links links _ _ c.in-Open.stream (sym c.in_ok-stream.ensures.link ∙ c.in-Open.is) c.in_err-served.ensures.err in
    always_err c.from_residual-in_err-served.result (rw (← c.self.view_is) cut)

pub returns-clause-ok : goal.returns-clause-ok
returns-clause-ok g c =
    rw (← c.self.view_is)
    (piece_received g.C.File.AppendFile.tells c.args.conn c.args.piece.now _ _ _ _ c.in-Open.stream c.serve_piece.new.stream c.in_ok-served.served (sym c.in_ok-stream.ensures.link ∙ c.in-Open.is)
    (sets_twice c.args.conn _ _ _ _ _ c.in_ok-stream.ensures.rest (rw (← c.link_after.ensures) c.give_link.ensures)) c.in_ok-served.ensures.ok)
