use Rattle.std.proofs.Common.{◌≢◌, rules, refl, sym, ◌∙◌, ap, subst}
use Rattle.rpc_record.specs.declared.fault.FrameFault.TheVariants.{Memory}
use Rattle.rpc_record.specs.Assembly.{Assembly}
use Rattle.rpc_record.proofs.HeardPieces.{Takes, feeds_ok, feeds_fault}
use Rattle.rpc_record.proofs.stream.assemble.Goals as goal

pub returns-in-Some-clause-ok : goal.returns-in-Some-clause-ok
returns-in-Some-clause-ok c =
    let inv = c.requires.rest in
    let h = feeds_ok c.args.assembler.now c.feed.new.self c.args.piece.now inv.1 inv.2 c.in-Ok.taken inv.0 c.in-Ok.ensures.ok in
    rw c.next.ensures.rest (subst (λ o. Takes o c.args.assembler.now.held c.args.piece.now c.in-Ok.taken c.feed.new.self.held) (sym c.next.ensures.given ∙ c.in-Some.is) h.0)

pub returns-in-Some-clause-rest : goal.returns-in-Some-clause-rest
returns-in-Some-clause-rest c =
    let inv = c.requires.rest in
    let h = feeds_ok c.args.assembler.now c.feed.new.self c.args.piece.now inv.1 inv.2 c.in-Ok.taken inv.0 c.in-Ok.ensures.ok in
    rw c.next.ensures.rest (refl, h.1, h.2)

pub returns-in-None-clause-ok : goal.returns-in-None-clause-ok
returns-in-None-clause-ok c =
    let inv = c.requires.rest in
    let h = feeds_ok c.args.assembler.now c.feed.new.self c.args.piece.now inv.1 inv.2 c.in-Ok.taken inv.0 c.in-Ok.ensures.ok in
    rw c.next.ensures.rest (subst (λ o. Takes o c.args.assembler.now.held c.args.piece.now c.in-Ok.taken c.feed.new.self.held) (sym c.next.ensures.given ∙ c.in-None.is) h.0)

pub returns-in-None-clause-rest : goal.returns-in-None-clause-rest
returns-in-None-clause-rest c =
    let inv = c.requires.rest in
    let h = feeds_ok c.args.assembler.now c.feed.new.self c.args.piece.now inv.1 inv.2 c.in-Ok.taken inv.0 c.in-Ok.ensures.ok in
    rw c.next.ensures.rest (refl, h.1, h.2)

pub returns-else-eq-clause-ok : goal.returns-else-eq-clause-ok
returns-else-eq-clause-ok c =
    let inv = c.requires.rest in
    let apart : c.in-Err.fault ≢ Memory = search rules in
    (c.in-Err.fault, feeds_fault c.args.assembler.now c.feed.new.self c.args.piece.now inv.1 inv.2 c.in-Err.fault (c.in-Err.ensures.fault apart), ap (λ (a : Assembly). a.held) c.new.ensures)
