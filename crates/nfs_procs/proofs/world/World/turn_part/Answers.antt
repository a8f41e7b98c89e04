use Rattle.std.proofs.Common.{◌≡◌, Some, None, sym, ◌∙◌, ap}
use Rattle.std.specs.Ordering.{nat_cmp}
use Rattle.std.specs.BTreeMap.{is_at}
use Rattle.std.specs.Map.{set_value}
use Rattle.std.specs.Option.{option_copied_mut}
use Rattle.file_calls.specs.Acts.{TurnFile}
use Rattle.nfs_procs.specs.World.{entry_at}
use Rattle.nfs_procs.proofs.ContextMaps.{found_set}
use Rattle.nfs_procs.proofs.ContextReady.{ready_at, ready_same, ready_set}
use Rattle.nfs_procs.proofs.ContextParts.{always}
use Rattle.nfs_procs.specs.Contexts.{lost_at}
use Rattle.nfs_procs.proofs.world.World.turn_part.Goals as goal

pub turn_cell-requires-clause-none_left : goal.turn_cell-requires-clause-none_left
turn_cell-requires-clause-none_left g c = (ready_at c.self.inside.tracker.settings.limits c.args.file c.self.inside.cells.entries c.in-Some.cell.now c.self.invariant (sym c.get_mut.ensures.value ∙ ap option_copied_mut c.in-Some.is)).0

pub invariant_of-self : goal.invariant_of-self
invariant_of-self g c =
    let there : entry_at c.args.file c.self.inside.cells.entries ≡ Some c.in-Some.cell.now = sym c.get_mut.ensures.value ∙ ap option_copied_mut c.in-Some.is in
    let set : (c.get_mut.follows.lender c.turn_cell.new.cell).entries ≡ set_value (is_at (nat_cmp c.args.file)) c.self.inside.cells.entries c.turn_cell.new.cell = (c.get_mut.follows.holds c.turn_cell.new.cell).0 in
    let ready = ready_same c.self.inside.tracker.settings.limits c.args.file c.in-Some.cell.now c.turn_cell.new.cell (ready_at c.self.inside.tracker.settings.limits c.args.file c.self.inside.cells.entries c.in-Some.cell.now c.self.invariant there) c.turn_cell.ensures.none_left c.turn_cell.ensures.same in
    rw (set, c.turn_cell.ensures.terms.0) (ready_set c.self.inside.tracker.settings.limits c.args.file c.self.inside.cells.entries c.turn_cell.new.cell c.self.invariant ready)

pub returns-in-Some-clause-ok : goal.returns-in-Some-clause-ok
returns-in-Some-clause-ok g c = λ s.
    let there : entry_at c.args.file c.self.inside.cells.entries ≡ Some c.in-Some.cell.now = sym c.get_mut.ensures.value ∙ ap option_copied_mut c.in-Some.is in
    let set : (c.get_mut.follows.lender c.turn_cell.new.cell).entries ≡ set_value (is_at (nat_cmp c.args.file)) c.self.inside.cells.entries c.turn_cell.new.cell = (c.get_mut.follows.holds c.turn_cell.new.cell).0 in
    let after : entry_at c.args.file (c.get_mut.follows.lender c.turn_cell.new.cell).entries ≡ Some c.turn_cell.new.cell = ap (entry_at c.args.file) set ∙ found_set (is_at (nat_cmp c.args.file)) c.self.inside.cells.entries c.in-Some.cell.now c.turn_cell.new.cell there in
    rw (← c.self.view_is, there, after) (c.turn_cell.ensures.ok (lost_at c.args.file c.self.inside.hulls.entries) s)

pub returns-in-Some-clause-err : goal.returns-in-Some-clause-err
returns-in-Some-clause-err g c = λ s.
    let there : entry_at c.args.file c.self.inside.cells.entries ≡ Some c.in-Some.cell.now = sym c.get_mut.ensures.value ∙ ap option_copied_mut c.in-Some.is in
    let set : (c.get_mut.follows.lender c.turn_cell.new.cell).entries ≡ set_value (is_at (nat_cmp c.args.file)) c.self.inside.cells.entries c.turn_cell.new.cell = (c.get_mut.follows.holds c.turn_cell.new.cell).0 in
    let after : entry_at c.args.file (c.get_mut.follows.lender c.turn_cell.new.cell).entries ≡ Some c.turn_cell.new.cell = ap (entry_at c.args.file) set ∙ found_set (is_at (nat_cmp c.args.file)) c.self.inside.cells.entries c.in-Some.cell.now c.turn_cell.new.cell there in
    rw (← c.self.view_is, there, after) (c.turn_cell.ensures.err (lost_at c.args.file c.self.inside.hulls.entries) s)

pub returns-in-None-clause-ok : goal.returns-in-None-clause-ok
returns-in-None-clause-ok g c = λ s.
    let none : entry_at c.args.file c.self.inside.cells.entries ≡ None = sym c.get_mut.ensures.value ∙ ap option_copied_mut c.in-None.is in
    let after : entry_at c.args.file c.get_mut.follows.lender-at-none.entries ≡ None = ap (λ m. entry_at c.args.file m.entries) c.get_mut.follows.holds-at-none ∙ none in
    rw (← c.self.view_is, none, after) (always g.C.File.AppendFile.tells TurnFile _ _ _ _ (c.idle_event.ensures.turn (lost_at c.args.file c.self.inside.hulls.entries) s))
