use Rattle.std.proofs.Common.{◌≡◌, Some, None, sym, ◌∙◌, ap}
use Rattle.std.specs.Ordering.{nat_cmp}
use Rattle.std.specs.BTreeMap.{is_at}
use Rattle.std.specs.Map.{set_value}
use Rattle.std.specs.Option.{option_copied_mut}
use Rattle.file_calls.specs.Acts.{CommitFile}
use Rattle.file_calls.proofs.Results.{with_ok, with_err}
use Rattle.nfs_procs.specs.World.{entry_at}
use Rattle.nfs_procs.proofs.ContextMaps.{found_set}
use Rattle.nfs_procs.proofs.ContextReady.{ready_at, ready_set}
use Rattle.nfs_procs.proofs.ContextParts.{always, always_cut}
use Rattle.nfs_procs.specs.Contexts.{lost_at}
use Rattle.nfs_procs.proofs.world.World.commit_part.Goals as goal

pub commit_cell-requires : goal.commit_cell-requires
commit_cell-requires g c = record { limits = (ready_at c.self.inside.tracker.settings.limits c.args.file c.self.inside.cells.entries c.in-Some.cell.now c.self.invariant (sym c.get_mut.ensures.value ∙ ap option_copied_mut c.in-Some.is)).1 }

pub invariant_of-self : goal.invariant_of-self
invariant_of-self g c =
    let there : entry_at c.args.file c.self.inside.cells.entries ≡ Some c.in-Some.cell.now = sym c.get_mut.ensures.value ∙ ap option_copied_mut c.in-Some.is in
    let set : (c.get_mut.follows.lender c.commit_cell.new.cell).entries ≡ set_value (is_at (nat_cmp c.args.file)) c.self.inside.cells.entries c.commit_cell.new.cell = (c.get_mut.follows.holds c.commit_cell.new.cell).0 in
    let ready = c.commit_cell.ensures.ready c.self.inside.tracker.settings.limits c.args.file (ready_at c.self.inside.tracker.settings.limits c.args.file c.self.inside.cells.entries c.in-Some.cell.now c.self.invariant there) in
    rw (set, c.commit_cell.ensures.terms.0) (ready_set c.self.inside.tracker.settings.limits c.args.file c.self.inside.cells.entries c.commit_cell.new.cell c.self.invariant ready)

pub returns-in-Some-clause-ok : goal.returns-in-Some-clause-ok
returns-in-Some-clause-ok g c = λ s.
    let there : entry_at c.args.file c.self.inside.cells.entries ≡ Some c.in-Some.cell.now = sym c.get_mut.ensures.value ∙ ap option_copied_mut c.in-Some.is in
    let set : (c.get_mut.follows.lender c.commit_cell.new.cell).entries ≡ set_value (is_at (nat_cmp c.args.file)) c.self.inside.cells.entries c.commit_cell.new.cell = (c.get_mut.follows.holds c.commit_cell.new.cell).0 in
    let after : entry_at c.args.file (c.get_mut.follows.lender c.commit_cell.new.cell).entries ≡ Some c.commit_cell.new.cell = ap (entry_at c.args.file) set ∙ found_set (is_at (nat_cmp c.args.file)) c.self.inside.cells.entries c.in-Some.cell.now c.commit_cell.new.cell there in
    rw (← c.self.view_is, there, after) (c.commit_cell.ensures.ok (lost_at c.args.file c.self.inside.hulls.entries) s)

pub returns-in-Some-clause-err : goal.returns-in-Some-clause-err
returns-in-Some-clause-err g c = λ s.
    let there : entry_at c.args.file c.self.inside.cells.entries ≡ Some c.in-Some.cell.now = sym c.get_mut.ensures.value ∙ ap option_copied_mut c.in-Some.is in
    let set : (c.get_mut.follows.lender c.commit_cell.new.cell).entries ≡ set_value (is_at (nat_cmp c.args.file)) c.self.inside.cells.entries c.commit_cell.new.cell = (c.get_mut.follows.holds c.commit_cell.new.cell).0 in
    let after : entry_at c.args.file (c.get_mut.follows.lender c.commit_cell.new.cell).entries ≡ Some c.commit_cell.new.cell = ap (entry_at c.args.file) set ∙ found_set (is_at (nat_cmp c.args.file)) c.self.inside.cells.entries c.in-Some.cell.now c.commit_cell.new.cell there in
    rw (← c.self.view_is, there, after) (c.commit_cell.ensures.err (lost_at c.args.file c.self.inside.hulls.entries) s)

pub returns-in-None-clause-ok : goal.returns-in-None-clause-ok
returns-in-None-clause-ok g c = λ s.
    let none : entry_at c.args.file c.self.inside.cells.entries ≡ None = sym c.get_mut.ensures.value ∙ ap option_copied_mut c.in-None.is in
    let after : entry_at c.args.file c.get_mut.follows.lender-at-none.entries ≡ None = ap (λ m. entry_at c.args.file m.entries) c.get_mut.follows.holds-at-none ∙ none in
    rw (← c.self.view_is, none, after) (with_ok c.commit_closed.result (λ text step. always g.C.File.AppendFile.tells (CommitFile c.args.conn c.args.call) _ _ _ _ step) (rw c.lost_of.ensures at c.commit_closed.ensures.ok s))

pub returns-in-None-clause-err : goal.returns-in-None-clause-err
returns-in-None-clause-err g c = λ s.
    let none : entry_at c.args.file c.self.inside.cells.entries ≡ None = sym c.get_mut.ensures.value ∙ ap option_copied_mut c.in-None.is in
    let after : entry_at c.args.file c.get_mut.follows.lender-at-none.entries ≡ None = ap (λ m. entry_at c.args.file m.entries) c.get_mut.follows.holds-at-none ∙ none in
    rw (← c.self.view_is, none, after) (with_err c.commit_closed.result (λ step. always_cut g.C.File.AppendFile.tells (CommitFile c.args.conn c.args.call) _ _ step) (rw c.lost_of.ensures at c.commit_closed.ensures.err s))
