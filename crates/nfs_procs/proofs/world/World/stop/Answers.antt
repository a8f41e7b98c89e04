use Rattle.std.proofs.Common.{◌≡◌, [], sym, ap, subst, length, arith}
use Rattle.file_calls.specs.Outside.{IsBodySafe, body_id}
use Rattle.nfs_procs.specs.Contexts.{AreBodiesSafe, AreCellsReady, store_state}
use Rattle.nfs_procs.proofs.ContextMaps.{at_apart}
use Rattle.nfs_procs.proofs.ContextClosing.{closing_start, closing_next, closing_end, closing_counts, cause_next, none_left}
use Rattle.nfs_procs.proofs.world.World.stop.Goals as goal

pub loop-file-init : goal.loop-file-init
loop-file-init g c =
    let safe = rw (← c.self.view_is) at c.requires.safe in
    rw (← c.self.view_is) (record {
      closing = closing_start g.C.File.AppendFile.tells c.self.inside.tracker.settings.limits c.self.inside.cells.entries (g.K.Sink.held c.args.sink.now) (store_state g.C.Cluster c.args.cluster.now) _ safe c.self.invariant;
      later = omega arith;
      cause = tt;
    })

pub close_cell-written-requires-clause-none_left : goal.close_cell-written-requires-clause-none_left
close_cell-written-requires-clause-none_left g c = (subst (AreCellsReady c.args.self.tracker.settings.limits) c.in-Some.ensures.removal c.loop-file.invariant.closing.ready).0

pub close_cell-written-requires-clause-id : goal.close_cell-written-requires-clause-id
close_cell-written-requires-clause-id g c = (subst (AreCellsReady c.args.self.tracker.settings.limits) c.in-Some.ensures.removal c.loop-file.invariant.closing.ready).2

pub close_cell-written-requires-clause-out : goal.close_cell-written-requires-clause-out
close_cell-written-requires-clause-out g c =
    subst (IsBodySafe g.C.File.AppendFile.tells (g.C.Cluster.at c.loop-file.cluster (body_id c.in-Some.file))) c.in-Some.ensures.value (c.loop-file.invariant.closing.safe c.in-Some.file)

pub loop-file-smaller : goal.loop-file-smaller
loop-file-smaller g c = let n = ap length c.in-Some.ensures.removal in omega (arith, n)

pub loop-file-preserved : goal.loop-file-preserved
loop-file-preserved g c =
    let inv = c.loop-file.invariant in
    let e = c.close_cell-written.ensures in
    let u = c.in-Some.ensures.updates in
    let l = e.later in
    let m = inv.later in
    record {
      closing = closing_next g.C.File.AppendFile.tells _ _ _ _ c.loop-file.written c.close_cell-written.result _ _ _ _ c.loop-file.cells.entries c.pop_first.new.self.entries c.in-Some.file c.in-Some.cell
          c.in-Some.ensures.removal u.1 (λ q apart. u.2 q (at_apart c.in-Some.file q (λ same. apart (sym same)))) e.history e.bytes e.home e.others e.losses e.counts inv.closing;
      later = omega (arith, l, m);
      cause = cause_next c.loop-file.written c.close_cell-written.result _ _ _ e.cause inv.cause m l;
    }

pub returns-clause-histories : goal.returns-clause-histories
returns-clause-histories g c =
    let none : c.loop-file.cells.entries ≡ [] = none_left c.loop-file.cells.entries (λ h. let s = rw c.in_default.is at (c.pop_first.ensures.variant.1 h) in absurd (cc s)) in
    closing_end g.C.File.AppendFile.tells _ c.args.self.cells (g.K.Sink.held c.args.sink.now) _ c.loop-file.written (g.K.Sink.held c.loop-file.sink) _ c.loop-file.cells.entries none c.loop-file.invariant.closing

pub returns-clause-counts : goal.returns-clause-counts
returns-clause-counts g c =
    let none : c.loop-file.cells.entries ≡ [] = none_left c.loop-file.cells.entries (λ h. let s = rw c.in_default.is at (c.pop_first.ensures.variant.1 h) in absurd (cc s)) in
    closing_counts g.C.File.AppendFile.tells _ c.args.self.cells (g.K.Sink.held c.args.sink.now) (store_state g.C.Cluster c.args.cluster.now) c.loop-file.written (g.K.Sink.held c.loop-file.sink) (store_state g.C.Cluster c.loop-file.cluster) c.loop-file.cells.entries none c.loop-file.invariant.closing

pub returns-clause-home : goal.returns-clause-home
returns-clause-home g c = λ told k.
    let none : c.loop-file.cells.entries ≡ [] = none_left c.loop-file.cells.entries (λ h. let s = rw c.in_default.is at (c.pop_first.ensures.variant.1 h) in absurd (cc s)) in
    (subst (AreBodiesSafe g.C.File.AppendFile.tells (g.C.Cluster.at c.loop-file.cluster)) none c.loop-file.invariant.closing.safe) k told
