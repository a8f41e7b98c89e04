use Rattle.std.proofs.Common.{◌∙◌, sym, arith}
use Rattle.append_store.specs.State.{bytes_of}
use Rattle.file_calls.specs.Outside.{body_id, store_counts}
use Rattle.nfs_procs.specs.Contexts.{bodies_at}
use Rattle.replay.proofs.RunEnd.{IsLastOutcome, runs_whole, runs_short, runs_cut, status_read, status_write, status_store, status_usage, status_config}
use Rattle.replay.proofs.run.replay.Goals as goal

pub returns-in-StoreFault-clause-run : goal.returns-in-StoreFault-clause-run
returns-in-StoreFault-clause-run g c =
    let ending = c.all_lines-ending.result in
    let e = c.all_lines-ending.ensures in
    let moves = rw c.new-gateway.ensures at e.moves in
    let s = c.stop.ensures in
    rw c.status_of.ensures (runs_cut g.C.File.AppendFile.tells _ ending.outcome ending.lines c.all_lines-ending.new.gateway _
    (g.S.Source.left c.all_lines-ending.new.source) (g.K.Sink.held c.all_lines-ending.new.sink)
    (bodies_at (g.C.Cluster.at c.all_lines-ending.new.cluster) c.all_lines-ending.new.gateway.kept.cells) (λ k. bytes_of (g.C.Cluster.at c.stop.new.cluster (body_id k)))
    (store_counts g.C.Cluster c.all_lines-ending.new.cluster) (store_counts g.C.Cluster c.stop.new.cluster)
    moves s.counts s.bodies c.in-StoreFault.is)

pub returns-in-Ok : goal.returns-in-Ok
returns-in-Ok g c =
    let ending = c.all_lines-ending.result in
    let e = c.all_lines-ending.ensures in
    let moves = rw c.new-gateway.ensures at e.moves in
    let s = c.stop-in_default.ensures in
    let is = c.status_of-in-Ok.ensures in
    let last : IsLastOutcome ending.outcome = record { no_store_fault = c.in_default.not-StoreFault; no_write_fault = c.in_default.not-WriteFault; no_refusal = c.in_default.not-NoMemory } in
    record {
      run = rw is (runs_whole g.C.File.AppendFile.tells _ ending.outcome ending.lines c.all_lines-ending.new.gateway _
          (g.S.Source.left c.all_lines-ending.new.source) (g.K.Sink.held c.all_lines-ending.new.sink)
          (bodies_at (g.C.Cluster.at c.all_lines-ending.new.cluster) c.all_lines-ending.new.gateway.kept.cells) (λ k. bytes_of (g.C.Cluster.at c.stop-in_default.new.cluster (body_id k)))
          (store_counts g.C.Cluster c.all_lines-ending.new.cluster) (store_counts g.C.Cluster c.stop-in_default.new.cluster)
          moves s.counts s.bodies last s.histories.text s.histories.histories s.histories.spelled s.histories.is
          (g.K.Sink.held c.stop-in_default.new.sink) (rw c.in-Ok.is at s.histories.written));
      home = s.home;
      others = λ told q apart. ((s.others told q apart).0 ∙ (e.others told q apart).0, (s.others told q apart).1 ∙ (e.others told q apart).1);
      losses = λ told q there. s.losses told q ∙ e.losses told q there;
      read_cause = λ q. e.read_cause (status_read ending.outcome ending.lines (sym is ∙ q));
      write_cause = λ q. absurd (c.in_default.not-WriteFault (status_write ending.outcome ending.lines (sym is ∙ q)));
      store_cause = λ q. absurd (c.in_default.not-StoreFault (status_store ending.outcome ending.lines (sym is ∙ q)));
      not_usage = λ q. status_usage ending.outcome ending.lines (sym is ∙ q);
      not_config = λ fault q. status_config ending.outcome ending.lines fault (sym is ∙ q);
    }

pub returns-in-Err : goal.returns-in-Err
returns-in-Err g c =
    let ending = c.all_lines-ending.result in
    let e = c.all_lines-ending.ensures in
    let moves = rw c.new-gateway.ensures at e.moves in
    let s = c.stop-in_default.ensures in
    let last : IsLastOutcome ending.outcome = record { no_store_fault = c.in_default.not-StoreFault; no_write_fault = c.in_default.not-WriteFault; no_refusal = c.in_default.not-NoMemory } in
    let rose = rw c.in-Err.is at s.cause in
    let later = e.sink_later in
    record {
      run = runs_short g.C.File.AppendFile.tells _ ending.outcome ending.lines c.all_lines-ending.new.gateway _
          (g.S.Source.left c.all_lines-ending.new.source) (g.K.Sink.held c.all_lines-ending.new.sink)
          (bodies_at (g.C.Cluster.at c.all_lines-ending.new.cluster) c.all_lines-ending.new.gateway.kept.cells) (λ k. bytes_of (g.C.Cluster.at c.stop-in_default.new.cluster (body_id k)))
          (store_counts g.C.Cluster c.all_lines-ending.new.cluster) (store_counts g.C.Cluster c.stop-in_default.new.cluster)
          moves s.counts s.bodies last s.histories.text s.histories.histories s.histories.spelled s.histories.is
          (g.K.Sink.held c.stop-in_default.new.sink) (rw c.in-Err.is at s.histories.written);
      home = s.home;
      others = λ told q apart. ((s.others told q apart).0 ∙ (e.others told q apart).0, (s.others told q apart).1 ∙ (e.others told q apart).1);
      losses = λ told q there. s.losses told q ∙ e.losses told q there;
      read_cause = λ q. cc;
      write_cause = λ q. omega (arith, rose, later);
      store_cause = λ q. cc;
      not_usage = λ q. cc;
      not_config = λ fault q. cc;
    }
