use Rattle.std.proofs.Common.{◌≡◌, ◌+◌, ◌≤◌, length}
use Rattle.rpc_record.specs.Records.{Open, front}
use Rattle.portmap.specs.Links.{link_state}
use Rattle.portmap.proofs.Links.{Serves}
use Rattle.portmap.proofs.session.serve_piece.Given as goal

abbrev pub invariant-loop-step : goal.invariant-loop-step
invariant-loop-step g l = record {
  serves : Serves l.fn.client (link_state l.fn.stream l.fn.ports) l.fn.piece l.rest (link_state l.stream l.ports)
      (g.O.Sink.held l.fn.output) (g.O.Sink.held l.output);
  at_rest : front l.stream ≡ Open;
  later : g.O.Sink.count l.fn.output ≤ g.O.Sink.count l.output;
}

abbrev pub decreases-loop-step : goal.decreases-loop-step
decreases-loop-step g l = length l.stream + length l.rest
