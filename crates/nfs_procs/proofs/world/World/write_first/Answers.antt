use Rattle.std.proofs.Common.{◌≡◌, None, rules}
use Rattle.file_calls.specs.Acts.{WriteFile}
use Rattle.file_calls.specs.PartSteps.{IsCellReady}
use Rattle.file_calls.specs.Outside.{store_view}
use Rattle.nfs_procs.specs.World.{entry_at}
use Rattle.nfs_procs.proofs.ContextReady.{inserted_ready}
use Rattle.nfs_procs.proofs.ContextParts.{always, always_cut, opened_err, opened_ok}
use Rattle.file_calls.proofs.Results.{with_ok, with_err}
use Rattle.nfs_procs.specs.Contexts.{lost_at}
use Rattle.nfs_procs.proofs.world.World.write_first.Goals as goal

pub returns-in-Some-clause-ok : goal.returns-in-Some-clause-ok
returns-in-Some-clause-ok g c =
    let none : entry_at c.args.file c.self.inside.cells.entries ≡ None = rw (← c.self.view_is) at c.requires.closed in
    let e = rw (c.in-Some.is, c.lost_of-lost.ensures) at c.first_write-cell.ensures.ok in
    rw (← c.self.view_is, none) (opened_ok g.C.File.AppendFile.tells (WriteFile c.args.conn c.args.call) _ c.args.file _ c.in-Some.cell _ _ (store_view c.args.file g.C.Cluster c.first_write-cell.new.cluster) (search rules) c.first_write-cell.result.text e)

pub returns-in-Some-clause-err : goal.returns-in-Some-clause-err
returns-in-Some-clause-err g c =
    let none : entry_at c.args.file c.self.inside.cells.entries ≡ None = rw (← c.self.view_is) at c.requires.closed in
    let e = rw (c.in-Some.is, c.lost_of-lost.ensures) at c.first_write-cell.ensures.err in
    rw (← c.self.view_is, none) (opened_err g.C.File.AppendFile.tells (WriteFile c.args.conn c.args.call) _ c.args.file _ c.in-Some.cell _ _ (store_view c.args.file g.C.Cluster c.first_write-cell.new.cluster) (search rules) c.first_write-cell.result.text e)

pub invariant_of-self : goal.invariant_of-self
invariant_of-self g c =
    let ready : IsCellReady c.self.inside.tracker.settings.limits c.args.file c.in-Some.cell = rw c.in-Some.is at c.first_write-cell.ensures.ready in
    rw c.first_write-cell.ensures.terms.0 (inserted_ready c.self.inside.tracker.settings.limits c.args.file c.self.inside.cells.entries _ c.in-Some.cell (search rules) c.self.invariant ready)

pub returns-in-Err-clause-ok : goal.returns-in-Err-clause-ok
returns-in-Err-clause-ok g c =
    let same : c.entry.follows.lender-at-none.entries ≡ c.self.inside.cells.entries = search rules in
    rw (← c.self.view_is, same) (with_ok c.refuse_write-in-Err.result (λ t s. always g.C.File.AppendFile.tells (WriteFile c.args.conn c.args.call) _ _ _ _ s) (c.refuse_write-in-Err.ensures.ok (entry_at c.args.file c.self.inside.cells.entries) (lost_at c.args.file c.self.inside.hulls.entries) (store_view c.args.file g.C.Cluster c.args.cluster.now)))

pub returns-in-Err-clause-err : goal.returns-in-Err-clause-err
returns-in-Err-clause-err g c =
    let same : c.entry.follows.lender-at-none.entries ≡ c.self.inside.cells.entries = search rules in
    rw (← c.self.view_is, same) (with_err c.refuse_write-in-Err.result (λ s. always_cut g.C.File.AppendFile.tells (WriteFile c.args.conn c.args.call) _ _ s) (c.refuse_write-in-Err.ensures.err (entry_at c.args.file c.self.inside.cells.entries) (lost_at c.args.file c.self.inside.hulls.entries) (store_view c.args.file g.C.Cluster c.args.cluster.now)))
