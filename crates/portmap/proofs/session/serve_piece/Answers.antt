use Rattle.std.proofs.Common.{◌≡◌, length, ◌∙◌, ap, arith}
use Rattle.rpc_record.specs.Records.{front}
use Rattle.rpc_record.proofs.Fronts.{front_empty}
use Rattle.rpc_record.proofs.HeardPieces.{record_taken, less_ahead}
use Rattle.portmap.specs.Links.{link_state}
use Rattle.portmap.proofs.Links.{serves_start, serves_more, serves_fault, serves_memory, serves_next, serves_no_call, serves_fault_in_write}
use Rattle.portmap.proofs.session.serve_piece.Goals as goal

pub loop-step-init : goal.loop-step-init
loop-step-init g c = record {
  serves = serves_start c.args.client (link_state c.args.stream.now c.args.ports.now) c.args.piece.now (g.O.Sink.held c.args.output.now);
  at_rest = c.requires;
  later = omega arith;
}

pub returns-in_default-clause-served : goal.returns-in_default-clause-served
returns-in_default-clause-served g c = serves_memory _ _ _ _ _ _ _ c.loop-step.invariant.serves c.hear.new.self c.loop-step.invariant.at_rest

pub returns-in-More-clause-served : goal.returns-in-More-clause-served
returns-in-More-clause-served g c =
    let heard = rw c.in-More.is at c.in-Ok.ensures.ok in
    serves_more _ _ _ _ _ _ _ c.loop-step.invariant.serves c.hear.new.self heard.1

pub returns-in-More-clause-rest : goal.returns-in-More-clause-rest
returns-in-More-clause-rest g c =
    let heard = rw c.in-More.is at c.in-Ok.ensures.ok in
    λ goes. ap front heard.1 ∙ heard.0

pub returns-in-Broken-clause-served : goal.returns-in-Broken-clause-served
returns-in-Broken-clause-served g c =
    let heard = rw c.in-Broken.is at c.in-Ok.ensures.ok in
    serves_fault _ _ _ _ _ _ _ c.loop-step.invariant.serves heard.0 c.hear.new.self heard.1

pub returns-in-Closes-clause-served : goal.returns-in-Closes-clause-served
returns-in-Closes-clause-served g c =
    let heard = rw c.in-Record.is at c.in-Ok.ensures.ok in
    let whole = record_taken _ _ c.in-Record.message c.in-Record.taken c.loop-step.invariant.at_rest heard.0 heard.1 in
    serves_no_call _ _ _ _ _ _ _ c.loop-step.invariant.serves c.in-Record.message c.in-Record.taken whole _ _ c.hear.new.self c.in-Closes.ensures.served

pub returns-in-WriteFault-clause-served : goal.returns-in-WriteFault-clause-served
returns-in-WriteFault-clause-served g c =
    let heard = rw c.in-Record.is at c.in-Ok.ensures.ok in
    let whole = record_taken _ _ c.in-Record.message c.in-Record.taken c.loop-step.invariant.at_rest heard.0 heard.1 in
    serves_fault_in_write _ _ _ _ _ _ _ c.loop-step.invariant.serves c.in-Record.message c.in-Record.taken whole _ _ c.in-WriteFault.ensures.served c.hear.new.self

pub loop-step-smaller : goal.loop-step-smaller
loop-step-smaller g c =
    let heard = rw c.in-Record.is at c.in-Ok.ensures.ok in
    let less = less_ahead c.loop-step.stream c.loop-step.rest.now c.in-Record.message c.in-Record.taken heard.0 in
    let none : length c.hear.new.self ≡ 0 = ap length heard.2 in
    let left = ap length c.behind-rest.ensures in
    omega (arith, none, left, less)

pub loop-step-preserved : goal.loop-step-preserved
loop-step-preserved g c =
    let heard = rw c.in-Record.is at c.in-Ok.ensures.ok in
    let whole = record_taken _ _ c.in-Record.message c.in-Record.taken c.loop-step.invariant.at_rest heard.0 heard.1 in
    record {
      serves = rw (c.behind-rest.ensures, heard.2)
          (serves_next _ _ _ _ _ _ _ c.loop-step.invariant.serves c.in-Record.message c.in-Record.taken whole _ _ c.in-Goes.ensures.served);
      at_rest = ap front heard.2 ∙ front_empty;
      later = omega (arith, c.in-Goes.ensures.later);
    }
