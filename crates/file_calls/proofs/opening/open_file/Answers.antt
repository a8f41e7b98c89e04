use Rattle.std.proofs.Common.{◌≡◌, inr, refl, sym, ◌∙◌, ap, subst}
use Rattle.append_store.specs.State.{Kept, Lent, IsThere, bytes_of}
use Rattle.file_calls.specs.Outside.{body_id}
use Rattle.gw_model.specs.Ahead.{Good}
use Rattle.std.specs.Prelude.{[], ◌∷◌}
use Rattle.writeback.specs.State.{FileSeen}
use Rattle.file_calls.proofs.Counts.{taken_back}
use Rattle.file_calls.proofs.opening.open_file.Goals as goal

pub returns-clause-failed : goal.returns-clause-failed
returns-clause-failed g c =
    let taken = c.in-Ok-take_file.ensures in
    let back = c.in-Err.ensures.body in
    let own : g.C.File.AppendFile.tells → g.C.Cluster.at c.give_file.new.self (body_id c.args.file) ≡ Kept (g.C.File.AppendFile.content c.in-Err.body) (g.C.File.AppendFile.durable c.in-Err.body)
    = λ told. c.give_file.ensures.own told (taken.out told ∙ ap (λ (x : FileSeen). Lent x.mark) (sym back)) in
    record {
      there = λ told. subst IsThere (sym (own told)) tt;
      same = λ told. ap bytes_of (own told) ∙ ap (λ (x : FileSeen). x.content) back ∙ ap bytes_of (sym (taken.taken told));
      calls = Good ∷ [];
      is = inr refl;
      noted_is = c.note-2.ensures;
      counts = taken_back taken.cause.later taken.counted c.give_file.ensures.count.later c.give_file.ensures.counted (ap (λ (x : FileSeen). x.tally) back ∙ taken.no_calls);
    }
