use Rattle.std.proofs.Common.{◌≡◌, ℕ, List, take, refl, sym, ◌∙◌, ap, subst, length-take, arith}
use Rattle.std.specs.Io.KnownBytes.{Consumes}
use Rattle.rpc_record.specs.Records.{front}
use Rattle.rpc_record.proofs.Fronts.{front_empty}
use Rattle.portmap.specs.Links.{link_state}
use Rattle.portmap.proofs.Sessions.{Running, running_start, session_unbegun, session_ended, session_read_fault, session_spent, runs_on, session_closed, session_write_fault, session_memory, still_open}
use Rattle.portmap.proofs.session.port_session.Goals as goal

pub returns-in_default-clause-session : goal.returns-in_default-clause-session
returns-in_default-clause-session g c = session_unbegun c.args.client c.args.ports.now _ _

pub loop-left-init : goal.loop-left-init
loop-left-init g c =
    let i = g.I.Source.left c.args.input.now in
    let o = g.O.Sink.held c.args.output.now in
    let ports = c.args.ports.now in
    record {
      running = subst (λ (held : List ℕ). Running c.args.client ports (link_state held ports) 4294967296 i i o o) (sym c.in-Ok.ensures) (running_start c.args.client ports i o);
      at_rest = ap front c.in-Ok.ensures ∙ front_empty;
      ended = refl;
      reads_later = omega arith;
      writes_later = omega arith;
    }

pub returns-in-Ok-eq0-clause-session : goal.returns-in-Ok-eq0-clause-session
returns-in-Ok-eq0-clause-session g c =
    let left = g.I.Source.left in
    let taken = λ (n : ℕ). Consumes (left c.loop-left.input) (left c.read_piece.new.input) (take n c.read_piece.new.buffer) in
    let zero : c.in-Ok-eq0.field-0 ≡ 0 = omega arith in
    let none = subst taken zero (subst taken c.in-Ok-eq0.field-0-is c.in-Ok-eq0.ensures.bytes.0) in
    session_ended _ _ _ _ _ _ _ _ c.loop-left.invariant.running c.loop-left.invariant.at_rest (left c.read_piece.new.input) (omega arith) none

pub returns-in-Err-clause-session : goal.returns-in-Err-clause-session
returns-in-Err-clause-session g c =
    session_read_fault _ _ _ _ _ _ _ _ c.loop-left.invariant.running c.loop-left.invariant.at_rest (g.I.Source.left c.read_piece.new.input) (omega arith) c.in-Err.ensures.bytes

pub returns-clause-session : goal.returns-clause-session
returns-clause-session g c = session_spent _ _ _ _ _ _ _ _ c.loop-left.invariant.running c.loop-left.invariant.at_rest (omega arith)

pub loop-left-preserved : goal.loop-left-preserved
loop-left-preserved g c =
    let piece = take c.in-Ok-read_piece.count c.read_piece.new.buffer in
    let size = length-take c.in-Ok-read_piece.count c.read_piece.new.buffer in
    record {
      running = runs_on _ _ _ _ _ _ _ _ c.loop-left.invariant.running piece c.in-Ok-read_piece.count _ _ (link_state c.serve_piece.new.stream c.serve_piece.new.ports)
          c.in-Ok-read_piece.ensures.bytes.0 (omega (arith, size, c.in-Ok-read_piece.ensures.bound)) c.in-Ok-read_piece.ensures.within c.in-Goes.ensures.served;
      at_rest = c.in-Goes.ensures.rest refl;
      ended = c.in-Ok-read_piece.ensures.ended ∙ still_open (g.I.Source.ended c.loop-left.input) c.in-Ok-read_piece.count (omega arith) ∙ c.loop-left.invariant.ended;
      reads_later = omega (arith, c.in-Ok-read_piece.ensures.cause.later);
      writes_later = omega (arith, c.in-Goes.ensures.later);
    }

pub returns-in-Closed-clause-session : goal.returns-in-Closed-clause-session
returns-in-Closed-clause-session g c =
    let piece = take c.in-Ok-read_piece.count c.read_piece.new.buffer in
    let size = length-take c.in-Ok-read_piece.count c.read_piece.new.buffer in
    session_closed _ _ _ _ _ _ _ _ c.loop-left.invariant.running piece c.in-Ok-read_piece.count _ _ (link_state c.serve_piece.new.stream c.serve_piece.new.ports)
    c.in-Ok-read_piece.ensures.bytes.0 (omega (arith, size, c.in-Ok-read_piece.ensures.bound)) c.in-Ok-read_piece.ensures.within c.in-Closed.ensures.served

pub returns-in-WriteFault-clause-session : goal.returns-in-WriteFault-clause-session
returns-in-WriteFault-clause-session g c =
    let piece = take c.in-Ok-read_piece.count c.read_piece.new.buffer in
    let size = length-take c.in-Ok-read_piece.count c.read_piece.new.buffer in
    session_write_fault _ _ _ _ _ _ _ _ c.loop-left.invariant.running piece c.in-Ok-read_piece.count _ _ (link_state c.serve_piece.new.stream c.serve_piece.new.ports)
    c.in-Ok-read_piece.ensures.bytes.0 (omega (arith, size, c.in-Ok-read_piece.ensures.bound)) c.in-Ok-read_piece.ensures.within c.in-WriteFault.ensures.served

pub returns-in-Memory-clause-session : goal.returns-in-Memory-clause-session
returns-in-Memory-clause-session g c =
    let piece = take c.in-Ok-read_piece.count c.read_piece.new.buffer in
    let size = length-take c.in-Ok-read_piece.count c.read_piece.new.buffer in
    session_memory _ _ _ _ _ _ _ _ c.loop-left.invariant.running piece c.in-Ok-read_piece.count _ _ (link_state c.serve_piece.new.stream c.serve_piece.new.ports)
    c.in-Ok-read_piece.ensures.bytes.0 (omega (arith, size, c.in-Ok-read_piece.ensures.bound)) c.in-Ok-read_piece.ensures.within c.in-Memory.ensures.served
