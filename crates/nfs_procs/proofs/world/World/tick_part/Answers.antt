use Rattle.std.proofs.Common.{◌≡◌, Some, None, [], sym, ◌∙◌, ap}
use Rattle.std.specs.Ordering.{nat_cmp}
use Rattle.std.specs.BTreeMap.{is_at}
use Rattle.std.specs.Map.{set_value}
use Rattle.std.specs.Option.{option_copied_mut}
use Rattle.file_calls.specs.Outside.{store_view}
use Rattle.file_calls.proofs.PartTicks.{closed_step, passes_closed}
use Rattle.nfs_procs.specs.World.{entry_at, put_at, put_by, without_entry}
use Rattle.nfs_procs.specs.Contexts.{lost_at, other_cells}
use Rattle.nfs_procs.proofs.ContextCounts.{others_set}
use Rattle.nfs_procs.proofs.ContextMaps.{found_set, without_set}
use Rattle.nfs_procs.proofs.ContextReady.{ready_at, ready_same, ready_set}
use Rattle.nfs_procs.proofs.world.World.tick_part.Goals as goal

pub tick_cell-requires-clause-none_left : goal.tick_cell-requires-clause-none_left
tick_cell-requires-clause-none_left g c = (ready_at c.self.inside.tracker.settings.limits c.args.file c.self.inside.cells.entries c.in-Some.cell.now c.self.invariant (sym c.get_mut.ensures.value ∙ ap option_copied_mut c.in-Some.is)).0

pub tick_cell-requires-clause-limits : goal.tick_cell-requires-clause-limits
tick_cell-requires-clause-limits g c = (ready_at c.self.inside.tracker.settings.limits c.args.file c.self.inside.cells.entries c.in-Some.cell.now c.self.invariant (sym c.get_mut.ensures.value ∙ ap option_copied_mut c.in-Some.is)).1

pub invariant_of-self : goal.invariant_of-self
invariant_of-self g c =
    let there : entry_at c.args.file c.self.inside.cells.entries ≡ Some c.in-Some.cell.now = sym c.get_mut.ensures.value ∙ ap option_copied_mut c.in-Some.is in
    let set : (c.get_mut.follows.lender c.tick_cell.new.cell).entries ≡ set_value (is_at (nat_cmp c.args.file)) c.self.inside.cells.entries c.tick_cell.new.cell = (c.get_mut.follows.holds c.tick_cell.new.cell).0 in
    let ready = ready_same c.self.inside.tracker.settings.limits c.args.file c.in-Some.cell.now c.tick_cell.new.cell (ready_at c.self.inside.tracker.settings.limits c.args.file c.self.inside.cells.entries c.in-Some.cell.now c.self.invariant there) c.tick_cell.ensures.none_left c.tick_cell.ensures.same in
    rw (set, c.tick_cell.ensures.terms.0) (ready_set c.self.inside.tracker.settings.limits c.args.file c.self.inside.cells.entries c.tick_cell.new.cell c.self.invariant ready)

pub invariant_of-self-in-Closes : goal.invariant_of-self-in-Closes
invariant_of-self-in-Closes g c =
    let there : entry_at c.args.file c.self.inside.cells.entries ≡ Some c.in-Some.cell.now = sym c.get_mut.ensures.value ∙ ap option_copied_mut c.in-Some.is in
    let set : (c.get_mut.follows.lender c.tick_cell.new.cell).entries ≡ set_value (is_at (nat_cmp c.args.file)) c.self.inside.cells.entries c.tick_cell.new.cell = (c.get_mut.follows.holds c.tick_cell.new.cell).0 in
    let ready = ready_same c.self.inside.tracker.settings.limits c.args.file c.in-Some.cell.now c.tick_cell.new.cell (ready_at c.self.inside.tracker.settings.limits c.args.file c.self.inside.cells.entries c.in-Some.cell.now c.self.invariant there) c.tick_cell.ensures.none_left c.tick_cell.ensures.same in
    rw (set, c.tick_cell.ensures.terms.0) (ready_set c.self.inside.tracker.settings.limits c.args.file c.self.inside.cells.entries c.tick_cell.new.cell c.self.invariant ready)

pub returns-in-Stays-clause-step : goal.returns-in-Stays-clause-step
returns-in-Stays-clause-step g c =
    let there : entry_at c.args.file c.self.inside.cells.entries ≡ Some c.in-Some.cell.now = sym c.get_mut.ensures.value ∙ ap option_copied_mut c.in-Some.is in
    let set : (c.get_mut.follows.lender c.tick_cell.new.cell).entries ≡ set_value (is_at (nat_cmp c.args.file)) c.self.inside.cells.entries c.tick_cell.new.cell = (c.get_mut.follows.holds c.tick_cell.new.cell).0 in
    let after : entry_at c.args.file (c.get_mut.follows.lender c.tick_cell.new.cell).entries ≡ Some c.tick_cell.new.cell = ap (entry_at c.args.file) set ∙ found_set (is_at (nat_cmp c.args.file)) c.self.inside.cells.entries c.in-Some.cell.now c.tick_cell.new.cell there in
    rw (← c.self.view_is, there, after) (c.in-Stays.ensures.visit c.args.file (lost_at c.args.file c.self.inside.hulls.entries) (store_view c.args.file g.C.Cluster c.args.cluster.now))

pub returns-in-Stays-clause-rest : goal.returns-in-Stays-clause-rest
returns-in-Stays-clause-rest g c =
    let set : (c.get_mut.follows.lender c.tick_cell.new.cell).entries ≡ set_value (is_at (nat_cmp c.args.file)) c.self.inside.cells.entries c.tick_cell.new.cell = (c.get_mut.follows.holds c.tick_cell.new.cell).0 in
    rw (← c.self.view_is) (ap (other_cells c.args.file) set ∙ others_set c.args.file c.self.inside.cells.entries c.tick_cell.new.cell)

pub returns-in-Closes-clause-step : goal.returns-in-Closes-clause-step
returns-in-Closes-clause-step g c =
    let there : entry_at c.args.file c.self.inside.cells.entries ≡ Some c.in-Some.cell.now = sym c.get_mut.ensures.value ∙ ap option_copied_mut c.in-Some.is in
    let set : (c.get_mut.follows.lender c.tick_cell.new.cell).entries ≡ set_value (is_at (nat_cmp c.args.file)) c.self.inside.cells.entries c.tick_cell.new.cell = (c.get_mut.follows.holds c.tick_cell.new.cell).0 in
    let after : entry_at c.args.file (c.get_mut.follows.lender c.tick_cell.new.cell).entries ≡ Some c.tick_cell.new.cell = ap (entry_at c.args.file) set ∙ found_set (is_at (nat_cmp c.args.file)) c.self.inside.cells.entries c.in-Some.cell.now c.tick_cell.new.cell there in
    let e = c.end_context.ensures in
    let new = c.tick_cell.new.cell in
    let m = e.history new after in
    rw (← c.self.view_is, there, e.gone, e.same.1) (record {
      text = m.text;
      is = closed_step g.C.File.AppendFile.tells c.args.file (lost_at c.args.file c.self.inside.hulls.entries) (lost_at c.args.file c.end_context.new.self.hulls) c.in-Some.cell.now new c.self.inside.tracker c.tick_cell.new.tracker
          (store_view c.args.file g.C.Cluster c.args.cluster.now) (store_view c.args.file g.C.Cluster c.end_context.new.cluster) m.text c.in-Closes.ensures.visit (e.lost new after) m.is (e.bytes new after) (e.counts new after);
      written = m.written;
    })

pub returns-in-Closes-clause-part : goal.returns-in-Closes-clause-part
returns-in-Closes-clause-part g c =
    let there : entry_at c.args.file c.self.inside.cells.entries ≡ Some c.in-Some.cell.now = sym c.get_mut.ensures.value ∙ ap option_copied_mut c.in-Some.is in
    let set : (c.get_mut.follows.lender c.tick_cell.new.cell).entries ≡ set_value (is_at (nat_cmp c.args.file)) c.self.inside.cells.entries c.tick_cell.new.cell = (c.get_mut.follows.holds c.tick_cell.new.cell).0 in
    let e = c.end_context.ensures in
    let old = c.self.inside.cells.entries in
    rw (← c.self.view_is) (record {
      names = e.same.0;
      cells = e.cells ∙ ap (without_entry c.args.file) set ∙ without_set c.args.file old c.tick_cell.new.cell ∙ sym (ap (λ o. put_at c.args.file o old) e.gone ∙ ap (λ a. put_by a None c.args.file old) there);
      hulls = e.hulls;
      places = e.places;
    })

pub returns-in-Closes-clause-rest : goal.returns-in-Closes-clause-rest
returns-in-Closes-clause-rest g c =
    let set : (c.get_mut.follows.lender c.tick_cell.new.cell).entries ≡ set_value (is_at (nat_cmp c.args.file)) c.self.inside.cells.entries c.tick_cell.new.cell = (c.get_mut.follows.holds c.tick_cell.new.cell).0 in
    rw (← c.self.view_is) (c.end_context.ensures.rest ∙ ap (other_cells c.args.file) set ∙ others_set c.args.file c.self.inside.cells.entries c.tick_cell.new.cell)

pub returns-in-None-clause-step : goal.returns-in-None-clause-step
returns-in-None-clause-step g c =
    let none : entry_at c.args.file c.self.inside.cells.entries ≡ None = sym c.get_mut.ensures.value ∙ ap option_copied_mut c.in-None.is in
    let after : entry_at c.args.file c.get_mut.follows.lender-at-none.entries ≡ None = ap (λ m. entry_at c.args.file m.entries) c.get_mut.follows.holds-at-none ∙ none in
    rw (← c.self.view_is, none, after) (record {
      text = [];
      is = passes_closed g.C.File.AppendFile.tells c.args.file (lost_at c.args.file c.self.inside.hulls.entries) c.self.inside.tracker (store_view c.args.file g.C.Cluster c.args.cluster.now);
      written = c.new.ensures.bytes;
    })
