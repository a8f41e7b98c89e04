use Rattle.std.proofs.Common.{string_bytes}
use Rattle.std.proofs.KnownBytes.{Appends-nil}
use Rattle.replay.specs.RunSteps.{outside_of}
use Rattle.replay.proofs.RunEvents.{event_done, stops_cleared, cuts_cleared}
use Rattle.replay.proofs.run.one_event.Goals as goal

pub returns-in-Ok-clause-moves : goal.returns-in-Ok-clause-moves
returns-in-Ok-clause-moves g c = λ left links are.
    let written = rw c.as_bytes.ensures.value at c.in-Ok.ensures.ok in
    let mid = c.step-stepped.new.self in
    let done = c.in-Text.ensures.step links are in
    let before = outside_of g.C.Cluster c.args.gateway.now.kept left (g.K.Sink.held c.args.sink.now) c.args.cluster.now in
    let after = outside_of g.C.Cluster mid.kept left (g.K.Sink.held c.write_all.new.sink) c.step-stepped.new.cluster in
    rw c.clear.ensures (string_bytes c.in-Text.text, event_done g.C.File.AppendFile.tells c.args.event links c.args.gateway.now mid c.clear.new.self.kept.tracker.noted.room before after (string_bytes c.in-Text.text) done.0 done.1, written)

pub returns-in-Text-clause-moves : goal.returns-in-Text-clause-moves
returns-in-Text-clause-moves g c = λ left links are.
    let written = rw c.as_bytes.ensures.value at c.in-Err.ensures.err in
    let mid = c.step-stepped.new.self in
    let done = c.in-Text.ensures.step links are in
    let before = outside_of g.C.Cluster c.args.gateway.now.kept left (g.K.Sink.held c.args.sink.now) c.args.cluster.now in
    let after = outside_of g.C.Cluster mid.kept left (g.K.Sink.held c.write_all.new.sink) c.step-stepped.new.cluster in
    rw c.clear.ensures (string_bytes c.in-Text.text, event_done g.C.File.AppendFile.tells c.args.event links c.args.gateway.now mid c.clear.new.self.kept.tracker.noted.room before after (string_bytes c.in-Text.text) done.0 done.1, written)

pub returns-clause-moves : goal.returns-clause-moves
returns-clause-moves g c = λ left links are.
    let held = g.K.Sink.held c.args.sink.now in
    let mid = c.step-stepped.new.self in
    let before = outside_of g.C.Cluster c.args.gateway.now.kept left held c.args.cluster.now in
    let after = outside_of g.C.Cluster mid.kept left held c.step-stepped.new.cluster in
    let cut = cuts_cleared g.C.File.AppendFile.tells c.args.event links c.args.gateway.now mid c.clear.new.self.kept.tracker.noted.room before after (c.in-NoMemory.ensures.step links are) in
    rw c.clear.ensures (cut, Appends-nil held)

pub returns-in-StoreFault-clause-moves : goal.returns-in-StoreFault-clause-moves
returns-in-StoreFault-clause-moves g c = λ left links are.
    let held = g.K.Sink.held c.args.sink.now in
    let mid = c.step-stepped.new.self in
    let before = outside_of g.C.Cluster c.args.gateway.now.kept left held c.args.cluster.now in
    let after = outside_of g.C.Cluster mid.kept left held c.step-stepped.new.cluster in
    let stopped = stops_cleared g.C.File.AppendFile.tells c.args.event links c.args.gateway.now mid c.clear.new.self.kept.tracker.noted.room before after (c.in-StoreFault.ensures.step links are) in
    rw c.clear.ensures (stopped, Appends-nil held)
