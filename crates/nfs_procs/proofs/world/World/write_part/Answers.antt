use Rattle.std.proofs.Common.{◌≡◌, Some, sym, ◌∙◌, ap}
use Rattle.std.specs.Ordering.{nat_cmp}
use Rattle.std.specs.BTreeMap.{is_at}
use Rattle.std.specs.Map.{set_value}
use Rattle.std.specs.Option.{option_copied_mut}
use Rattle.file_calls.specs.Outside.{store_view}
use Rattle.nfs_procs.specs.World.{entry_at}
use Rattle.nfs_procs.proofs.ContextMaps.{found_set}
use Rattle.nfs_procs.proofs.ContextReady.{ready_at, ready_set}
use Rattle.nfs_procs.specs.Contexts.{lost_at}
use Rattle.nfs_procs.proofs.world.World.write_part.Goals as goal

pub write_cell-requires-clause-limits : goal.write_cell-requires-clause-limits
write_cell-requires-clause-limits g c = (ready_at c.self.inside.tracker.settings.limits c.args.file c.self.inside.cells.entries c.in-Some.cell.now c.self.invariant (sym c.get_mut.ensures.value ∙ ap option_copied_mut c.in-Some.is)).1

pub invariant_of-self : goal.invariant_of-self
invariant_of-self g c =
    let there : entry_at c.args.file c.self.inside.cells.entries ≡ Some c.in-Some.cell.now = sym c.get_mut.ensures.value ∙ ap option_copied_mut c.in-Some.is in
    let set : (c.get_mut.follows.lender c.write_cell.new.cell).entries ≡ set_value (is_at (nat_cmp c.args.file)) c.self.inside.cells.entries c.write_cell.new.cell = (c.get_mut.follows.holds c.write_cell.new.cell).0 in
    let ready = c.write_cell.ensures.ready c.self.inside.tracker.settings.limits c.args.file (ready_at c.self.inside.tracker.settings.limits c.args.file c.self.inside.cells.entries c.in-Some.cell.now c.self.invariant there) in
    rw (set, c.write_cell.ensures.terms.0) (ready_set c.self.inside.tracker.settings.limits c.args.file c.self.inside.cells.entries c.write_cell.new.cell c.self.invariant ready)

pub returns-in-Some-clause-ok : goal.returns-in-Some-clause-ok
returns-in-Some-clause-ok g c =
    let there : entry_at c.args.file c.self.inside.cells.entries ≡ Some c.in-Some.cell.now = sym c.get_mut.ensures.value ∙ ap option_copied_mut c.in-Some.is in
    let set : (c.get_mut.follows.lender c.write_cell.new.cell).entries ≡ set_value (is_at (nat_cmp c.args.file)) c.self.inside.cells.entries c.write_cell.new.cell = (c.get_mut.follows.holds c.write_cell.new.cell).0 in
    let after : entry_at c.args.file (c.get_mut.follows.lender c.write_cell.new.cell).entries ≡ Some c.write_cell.new.cell = ap (entry_at c.args.file) set ∙ found_set (is_at (nat_cmp c.args.file)) c.self.inside.cells.entries c.in-Some.cell.now c.write_cell.new.cell there in
    rw (← c.self.view_is, there, after) (c.write_cell.ensures.ok (lost_at c.args.file c.self.inside.hulls.entries) (store_view c.args.file g.C.Cluster c.args.cluster.now))

pub returns-in-Some-clause-err : goal.returns-in-Some-clause-err
returns-in-Some-clause-err g c =
    let there : entry_at c.args.file c.self.inside.cells.entries ≡ Some c.in-Some.cell.now = sym c.get_mut.ensures.value ∙ ap option_copied_mut c.in-Some.is in
    let set : (c.get_mut.follows.lender c.write_cell.new.cell).entries ≡ set_value (is_at (nat_cmp c.args.file)) c.self.inside.cells.entries c.write_cell.new.cell = (c.get_mut.follows.holds c.write_cell.new.cell).0 in
    let after : entry_at c.args.file (c.get_mut.follows.lender c.write_cell.new.cell).entries ≡ Some c.write_cell.new.cell = ap (entry_at c.args.file) set ∙ found_set (is_at (nat_cmp c.args.file)) c.self.inside.cells.entries c.in-Some.cell.now c.write_cell.new.cell there in
    rw (← c.self.view_is, there, after) (c.write_cell.ensures.err (lost_at c.args.file c.self.inside.hulls.entries) (store_view c.args.file g.C.Cluster c.args.cluster.now))
