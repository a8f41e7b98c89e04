use Rattle.std.proofs.Common.{refl, ◌∙◌, ap, sym, arith, Ok, Option, ℕ, ◌+◌}
use Rattle.name_tree.specs.Tree.{Tree}
use Rattle.edit_log.specs.Start.{tree_after_logs, logs_of, last_generation, start_with_bodies, tree_with_bodies}
use Rattle.edit_log.proofs.StartedLogs.{logs_read, is_last, isnt_last}
use Rattle.edit_log.specs.Notes.{read_count}
use Rattle.edit_log.proofs.FetchedLogs.{ends_done, ends_none}
use Rattle.edit_log.proofs.starting.recover.Goals as goal

pub returns-in-Some-clause-found : goal.returns-in-Some-clause-found
returns-in-Some-clause-found g c = λ tells.
    let at = g.C.Cluster.at c.args.cluster.now in
    let all = c.args.all.now in
    let t = c.read_all.new.tree.tree in
    logs_read at all t c.in-Ok-bodies_of.bodies.entries (ap (λ s. tree_after_logs (logs_of at all) s.tree) (sym c.in-Ok.ensures) ∙ c.in-Ok-read_all.ensures.tree tells) c.in-Ok-bodies_of.ensures
    ∙ ap (λ (m : Option ℕ). start_with_bodies m (last_generation 0 all) all t) (sym c.first_file_without.ensures ∙ c.in-Some.is)

pub returns-then-last-ge18446744073709551615-clause-found : goal.returns-then-last-ge18446744073709551615-clause-found
returns-then-last-ge18446744073709551615-clause-found g c = λ tells.
    let at = g.C.Cluster.at c.args.cluster.now in
    let all = c.args.all.now in
    let t = c.read_all.new.tree.tree in
    logs_read at all t c.in-Ok-bodies_of.bodies.entries (ap (λ s. tree_after_logs (logs_of at all) s.tree) (sym c.in-Ok.ensures) ∙ c.in-Ok-read_all.ensures.tree tells) c.in-Ok-bodies_of.ensures
    ∙ (ap (λ (m : Option ℕ). start_with_bodies m (last_generation 0 all) all t) (sym c.first_file_without.ensures ∙ c.in_default.is)
    ∙ is_last (last_generation 0 all) all t (omega (arith, c.if-last-ge18446744073709551615.true, c.in-Ok-read_all.ensures.last)))

pub returns-clause-found : goal.returns-clause-found
returns-clause-found g c = λ tells.
    let at = g.C.Cluster.at c.args.cluster.now in
    let all = c.args.all.now in
    let t = c.read_all.new.tree.tree in
    logs_read at all t c.in-Ok-bodies_of.bodies.entries (ap (λ s. tree_after_logs (logs_of at all) s.tree) (sym c.in-Ok.ensures) ∙ c.in-Ok-read_all.ensures.tree tells) c.in-Ok-bodies_of.ensures
    ∙ (ap (λ (m : Option ℕ). start_with_bodies m (last_generation 0 all) all t) (sym c.first_file_without.ensures ∙ c.in_default.is)
    ∙ (isnt_last (last_generation 0 all) all t (omega (arith, c.if-last-ge18446744073709551615.false, c.in-Ok-read_all.ensures.last))
    ∙ (ap (λ (n : ℕ). Ok (n + 1, tree_with_bodies all t)) (sym c.in-Ok-read_all.ensures.last) ∙ ap (λ (u : Tree). Ok (c.in-Ok-read_all.last + 1, u)) (sym c.tell_all.ensures))))

pub returns-in-Err-clause-err_notes : goal.returns-in-Err-clause-err_notes
returns-in-Err-clause-err_notes g c = ends_none (read_count c.args.all.now) _ c.args.trace.now refl

pub returns-in-Err-bodies_of-clause-err_notes : goal.returns-in-Err-bodies_of-clause-err_notes
returns-in-Err-bodies_of-clause-err_notes g c = ends_done (read_count c.args.all.now) _ c.args.trace.now c.read_all.new.trace refl c.in-Ok-read_all.ensures.ok_notes

pub returns-in-Some-clause-err_notes : goal.returns-in-Some-clause-err_notes
returns-in-Some-clause-err_notes g c = ends_done (read_count c.args.all.now) _ c.args.trace.now c.read_all.new.trace refl c.in-Ok-read_all.ensures.ok_notes

pub returns-then-last-ge18446744073709551615-clause-err_notes : goal.returns-then-last-ge18446744073709551615-clause-err_notes
returns-then-last-ge18446744073709551615-clause-err_notes g c = ends_done (read_count c.args.all.now) _ c.args.trace.now c.read_all.new.trace refl c.in-Ok-read_all.ensures.ok_notes
