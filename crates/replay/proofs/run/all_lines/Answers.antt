use Rattle.std.proofs.Common.{◌≡◌, ◌<◌, ◌∙◌, refl, arith}
use Rattle.transcript.specs.Script.{max_lines}
use Rattle.gateway.specs.Links.{no_links, links_after}
use Rattle.replay.specs.RunSteps.{outside_home}
use Rattle.nfs_procs.proofs.ContextBodies.{all_safe}
use Rattle.replay.proofs.RunLines.{reached_start, reached_more, reached_end, reached_late}
use Rattle.replay.proofs.run.all_lines.Goals as goal

pub loop-before-init : goal.loop-before-init
loop-before-init g c = record {
  reached = rw (c.requires.fresh, c.new-grammar.ensures, c.new-lines.ensures) (reached_start g.C.File.AppendFile.tells c.args.gateway.now.kept.tracker.settings (outside_home g.C.Cluster (g.S.Source.left c.args.source.now) (g.K.Sink.held c.args.sink.now) c.args.cluster.now));
  events = rw c.requires.fresh (omega arith);
  placed = rw c.requires.fresh c.requires.placed;
  others = λ told q apart. (refl, refl);
  losses = λ told q there. refl;
  there = λ told q there. there;
  source_later = omega arith;
  sink_later = omega arith;
}

pub returns-in_default : goal.returns-in_default
returns-in_default g c =
    let inv = c.loop-before.invariant in
    let e = c.one_line.ensures in
    let h : c.loop-before.before < max_lines = omega arith in
    let rose = inv.reached.moves.counts.fails in
    record {
      moves = reached_end g.C.File.AppendFile.tells _ c.one_line.result _ _ _ _ _ c.in_default.not-Continue h inv.reached (e.moves (links_after no_links inv.reached.events) inv.reached.links_are);
      few = omega arith;
      safe = e.safe;
      others = λ told q apart. ((e.others told q apart).0 ∙ (inv.others told q apart).0, (e.others told q apart).1 ∙ (inv.others told q apart).1);
      losses = λ told q there. e.losses told q (inv.there told q there) ∙ inv.losses told q there;
      source_later = omega arith;
      sink_later = omega arith;
      read_cause = λ q. let r = e.read_cause q in omega (arith, r);
      write_cause = λ q. let r = e.write_cause q in omega (arith, r);
      store_cause = λ q. let r = e.store_cause q in omega (arith, r, rose);
    }

pub loop-before-preserved : goal.loop-before-preserved
loop-before-preserved g c =
    let inv = c.loop-before.invariant in
    let e = c.in-Continue.ensures in
    record {
      reached = reached_more g.C.File.AppendFile.tells _ _ _ _ _ _ inv.reached (e.moves (links_after no_links inv.reached.events) inv.reached.links_are);
      events = e.events_after;
      placed = e.placed_after refl;
      others = λ told q apart. ((e.others told q apart).0 ∙ (inv.others told q apart).0, (e.others told q apart).1 ∙ (inv.others told q apart).1);
      losses = λ told q there. e.losses told q (inv.there told q there) ∙ inv.losses told q there;
      there = λ told q there. e.there refl told q (inv.there told q there);
      source_later = omega arith;
      sink_later = omega arith;
    }

pub returns-clause-moves : goal.returns-clause-moves
returns-clause-moves g c =
    let late : c.loop-before.before ≡ max_lines = omega arith in
    let r = rw late at c.loop-before.invariant.reached in
    reached_late g.C.File.AppendFile.tells _ _ _ _ refl r

pub returns-clause-safe : goal.returns-clause-safe
returns-clause-safe g c = all_safe g.C.File.AppendFile.tells _ (g.C.Cluster.at c.loop-before.cluster) c.loop-before.gateway.kept.cells c.loop-before.invariant.placed
