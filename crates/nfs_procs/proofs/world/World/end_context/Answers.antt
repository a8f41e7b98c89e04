use Rattle.std.proofs.Common.{◌≡◌, None, sym, ◌∙◌, ap}
use Rattle.nfs_procs.specs.World.{entry_at}
use Rattle.nfs_procs.specs.Contexts.{other_cells}
use Rattle.nfs_procs.proofs.ContextCounts.{others_gone}
use Rattle.nfs_procs.proofs.ContextMaps.{removed_is}
use Rattle.nfs_procs.proofs.ContextReady.{ready_at, ready_removed}
use Rattle.nfs_procs.proofs.world.World.end_context.Goals as goal

pub end_cell-lost-requires-clause-none_left : goal.end_cell-lost-requires-clause-none_left
end_cell-lost-requires-clause-none_left g c = (ready_at c.self.inside.tracker.settings.limits c.args.file c.self.inside.cells.entries c.in-Some.cell c.self.invariant (sym c.remove.ensures.value ∙ c.in-Some.is)).0

pub end_cell-lost-requires-clause-id : goal.end_cell-lost-requires-clause-id
end_cell-lost-requires-clause-id g c = (ready_at c.self.inside.tracker.settings.limits c.args.file c.self.inside.cells.entries c.in-Some.cell c.self.invariant (sym c.remove.ensures.value ∙ c.in-Some.is)).2

pub invariant_of-self : goal.invariant_of-self
invariant_of-self g c = rw c.remove.ensures.entries (ready_removed c.self.inside.tracker.settings.limits c.args.file c.self.inside.cells.entries c.self.invariant)

pub returns-clause-cells : goal.returns-clause-cells
returns-clause-cells g c =
    let none : entry_at c.args.file (other_cells c.args.file c.self.inside.cells.entries) ≡ None = ap (entry_at c.args.file) (sym c.remove.ensures.entries) ∙ c.remove.ensures.updates.1 in
    rw (← c.self.view_is) (c.remove.ensures.entries ∙ removed_is c.args.file c.self.inside.cells.entries none)

pub returns-clause-rest : goal.returns-clause-rest
returns-clause-rest g c =
    let none : entry_at c.args.file (other_cells c.args.file c.self.inside.cells.entries) ≡ None = ap (entry_at c.args.file) (sym c.remove.ensures.entries) ∙ c.remove.ensures.updates.1 in
    rw (← c.self.view_is) (ap (other_cells c.args.file) c.remove.ensures.entries ∙ others_gone c.args.file c.self.inside.cells.entries none)
