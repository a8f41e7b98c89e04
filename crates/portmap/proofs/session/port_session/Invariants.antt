use Rattle.std.proofs.Common.{◌≡◌, ◌≤◌}
use Rattle.rpc_record.specs.Records.{Open, front}
use Rattle.portmap.specs.Links.{link_state}
use Rattle.portmap.proofs.Sessions.{Running}
use Rattle.portmap.proofs.session.port_session.Given as goal

abbrev pub invariant-loop-left : goal.invariant-loop-left
invariant-loop-left g l = record {
  running : Running l.fn.client l.fn.ports (link_state l.stream l.ports) l.left
      (g.I.Source.left l.fn.input) (g.I.Source.left l.input) (g.O.Sink.held l.fn.output) (g.O.Sink.held l.output);
  at_rest : front l.stream ≡ Open;
  ended : g.I.Source.ended l.input ≡ g.I.Source.ended l.fn.input;
  reads_later : g.I.Source.count l.fn.input ≤ g.I.Source.count l.input;
  writes_later : g.O.Sink.count l.fn.output ≤ g.O.Sink.count l.output;
}

abbrev pub decreases-loop-left : goal.decreases-loop-left
decreases-loop-left g l = l.left
