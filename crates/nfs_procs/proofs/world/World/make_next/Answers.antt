use Rattle.std.proofs.Common.{◌≡◌, ◌+◌, false, refl, sym, ◌∙◌, ap}
use Rattle.std.specs.Ordering.{nat_cmp}
use Rattle.std.specs.BTreeMap.{insert_entry}
use Rattle.std.specs.Cmp.Lexicographic.{slice_cmp}
use Rattle.file_calls.specs.Outside.{store_counts}
use Rattle.nfs_procs.specs.World.{has_name, next_file}
use Rattle.nfs_procs.specs.Contexts.{ProgramState, StoreState, AreBodiesPlaced, file_count, lost_at, store_state}
use Rattle.nfs_procs.proofs.ContextBodies.{ok_then}
use Rattle.nfs_procs.proofs.ContextCounts.{total_rose}
use Rattle.nfs_procs.proofs.ContextSteps.{made, made_placed, made_safe, next_closed}
use Rattle.nfs_procs.proofs.world.World.make_next.Goals as goal

pub returns-clause-step : goal.returns-clause-step
returns-clause-step g c =
    let old : ProgramState = record { names = c.self.inside.names.entries; cells = c.self.inside.cells.entries; tracker = c.self.inside.tracker; hulls = c.self.inside.hulls.entries } in
    let next : ProgramState = record { names = c.insert.new.self.entries; cells = c.self.inside.cells.entries; tracker = c.create_body.new.tracker; hulls = c.self.inside.hulls.entries } in
    let s : StoreState = store_state g.C.Cluster c.args.cluster.now in
    let s' : StoreState = store_state g.C.Cluster c.create_body.new.cluster in
    let is : 4 + c.len.result ≡ next_file c.self.inside.names.entries = ap (λ n. 4 + n) c.len.ensures.len in
    let placed : AreBodiesPlaced g.C.File.AppendFile.tells (file_count old) s.at old.cells = rw (← c.self.view_is) at c.requires.placed in
    let closed = next_closed g.C.File.AppendFile.tells old s (4 + c.len.result) is placed in
    let new : has_name c.args.name old.names ≡ false = rw (← c.self.view_is) at c.requires.new in
    let names : next.names ≡ insert_entry (slice_cmp nat_cmp) old.names c.args.name (4 + c.len.result) = ok_then c.insert.result (sym c.is_err.ensures.value ∙ c.if-is_err.false) c.insert.ensures.entries in
    rw (← c.self.view_is) (made g.C.File.AppendFile.tells c.args.name old next s s' (4 + c.len.result) is new names refl refl closed.0 c.create_body.ensures.others c.create_body.result (c.create_body.ensures.step (lost_at (4 + c.len.result) old.hulls)))

pub returns-clause-placed_after : goal.returns-clause-placed_after
returns-clause-placed_after g c = λ text.
    let old : ProgramState = record { names = c.self.inside.names.entries; cells = c.self.inside.cells.entries; tracker = c.self.inside.tracker; hulls = c.self.inside.hulls.entries } in
    let next : ProgramState = record { names = c.insert.new.self.entries; cells = c.self.inside.cells.entries; tracker = c.create_body.new.tracker; hulls = c.self.inside.hulls.entries } in
    let s : StoreState = store_state g.C.Cluster c.args.cluster.now in
    let s' : StoreState = store_state g.C.Cluster c.create_body.new.cluster in
    let is : 4 + c.len.result ≡ next_file c.self.inside.names.entries = ap (λ n. 4 + n) c.len.ensures.len in
    let placed : AreBodiesPlaced g.C.File.AppendFile.tells (file_count old) s.at old.cells = rw (← c.self.view_is) at c.requires.placed in
    let closed = next_closed g.C.File.AppendFile.tells old s (4 + c.len.result) is placed in
    let new : has_name c.args.name old.names ≡ false = rw (← c.self.view_is) at c.requires.new in
    let names : next.names ≡ insert_entry (slice_cmp nat_cmp) old.names c.args.name (4 + c.len.result) = ok_then c.insert.result (sym c.is_err.ensures.value ∙ c.if-is_err.false) c.insert.ensures.entries in
    made_placed g.C.File.AppendFile.tells c.args.name old next s s' (4 + c.len.result) is new names refl refl closed.0 c.create_body.ensures.others (c.create_body.ensures.home text) placed

pub returns-clause-safe : goal.returns-clause-safe
returns-clause-safe g c =
    let old : ProgramState = record { names = c.self.inside.names.entries; cells = c.self.inside.cells.entries; tracker = c.self.inside.tracker; hulls = c.self.inside.hulls.entries } in
    let next : ProgramState = record { names = c.insert.new.self.entries; cells = c.self.inside.cells.entries; tracker = c.create_body.new.tracker; hulls = c.self.inside.hulls.entries } in
    let s : StoreState = store_state g.C.Cluster c.args.cluster.now in
    let s' : StoreState = store_state g.C.Cluster c.create_body.new.cluster in
    let is : 4 + c.len.result ≡ next_file c.self.inside.names.entries = ap (λ n. 4 + n) c.len.ensures.len in
    let placed : AreBodiesPlaced g.C.File.AppendFile.tells (file_count old) s.at old.cells = rw (← c.self.view_is) at c.requires.placed in
    let closed = next_closed g.C.File.AppendFile.tells old s (4 + c.len.result) is placed in
    let new : has_name c.args.name old.names ≡ false = rw (← c.self.view_is) at c.requires.new in
    let names : next.names ≡ insert_entry (slice_cmp nat_cmp) old.names c.args.name (4 + c.len.result) = ok_then c.insert.result (sym c.is_err.ensures.value ∙ c.if-is_err.false) c.insert.ensures.entries in
    made_safe g.C.File.AppendFile.tells c.args.name old next s s' (4 + c.len.result) is new names refl refl closed.0 c.create_body.ensures.others c.create_body.ensures.safe_after placed

pub returns-clause-cause : goal.returns-clause-cause
returns-clause-cause g c = λ fault.
    rw (← c.self.view_is) (total_rose c.self.inside.cells.entries (store_counts g.C.Cluster c.args.cluster.now) (store_counts g.C.Cluster c.create_body.new.cluster) (c.create_body.ensures.cause fault))
