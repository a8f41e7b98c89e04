use Rattle.std.proofs.Common.{◌≡◌, [], ◌∷◌, None, inr, refl, sym, ◌∙◌, ap, subst}
use Rattle.gw_model.specs.Ahead.{Done, Good}
use Rattle.append_store.specs.State.{Kept, Lent, IsThere, bytes_of}
use Rattle.tickets.specs.Answers.{body_of}
use Rattle.admit.specs.Calls.{write_request}
use Rattle.gw_model.specs.Sides.{side_write_step}
use Rattle.gw_model.specs.Views.{TraceState}
use Rattle.writeback.specs.Steps.{with_calls}
use Rattle.gw_config.specs.Seen.{settings_in}
use Rattle.file_calls.specs.PartSteps.{noted_after, part_with_refusal}
use Rattle.file_calls.specs.Opening.{FailsClosed, IsOpened}
use Rattle.file_calls.specs.Outside.{PartState, TrackerState, part_state, store_view}
use Rattle.file_calls.specs.declared.opening.Failure.TheVariants.{Memory}
use Rattle.file_calls.proofs.Counts.{counted_back}
use Rattle.file_calls.proofs.PartRequests.{told_ready, told_file, not_want}
use Rattle.file_calls.proofs.PartClosed.{unopened, unwritten, opening_step, of_answer, noting}
use Rattle.file_calls.proofs.part.open_and_write.Goals as goal

pub returns-in-Err-Store-clause-tries : goal.returns-in-Err-Store-clause-tries
returns-in-Err-Store-clause-tries g c =
    let e = rw c.in-Err-Store.field-0-is at c.in-Err-Store.ensures.failed in
    let a = c.not_written.ensures in
    let last = rw (← c.tracker.view_is) at c.requires.last in
    let mid : PartState = record { opened = None; desk = c.tracker.inside.desk; noted = c.tracker.inside.trace; terms = record { settings = settings_in c.tracker.inside.config; moment = c.tracker.inside.moment; lost = c.args.lost } } in
    let s = store_view c.args.file g.C.Cluster c.args.cluster.now in
    let s' = store_view c.args.file g.C.Cluster c.open_file.new.cluster in
    rw (← c.tracker.view_is) (record {
      text = _;
      step = of_answer g.C.File.AppendFile.tells _ mid (noting c.open_file.new.trace mid) _ s s' c.not_written.result _ _ (ap (λ t. t.number) a.ticket ∙ last) (ap body_of a.body) (ap (part_state c.args.lost None) c.send.ensures.kept)
          (unopened g.C.File.AppendFile.tells mid s s' _ (write_request c.args.request) refl last e);
      is = c.send.ensures.text;
    })

pub returns-in-Err-Memory-clause-tries : goal.returns-in-Err-Memory-clause-tries
returns-in-Err-Memory-clause-tries g c =
    let e = rw c.in-Err-Memory.field-0-is at c.in-Err-Memory.ensures.failed in
    let last = rw (← c.tracker.view_is) at c.requires.last in
    let mid : PartState = record { opened = None; desk = c.tracker.inside.desk; noted = c.tracker.inside.trace; terms = record { settings = settings_in c.tracker.inside.config; moment = c.tracker.inside.moment; lost = c.args.lost } } in
    let s = store_view c.args.file g.C.Cluster c.args.cluster.now in
    let s' = store_view c.args.file g.C.Cluster c.open_file.new.cluster in
    rw (← c.tracker.view_is) (record {
      text = _;
      step = unwritten g.C.File.AppendFile.tells mid s s' _ (write_request c.args.request) refl last _ e (ap (part_state c.args.lost None) c.refuse.ensures.kept ∙ ap (λ k. part_with_refusal k (noting c.open_file.new.trace mid)) last);
      is = rw last at c.refuse.ensures.text;
    })

pub returns-in-NoMemory-clause-tries : goal.returns-in-NoMemory-clause-tries
returns-in-NoMemory-clause-tries g c =
    let o = c.in-Ok.ensures.opened in
    let t = c.in-NoMemory.ensures.step in
    let last = rw (← c.tracker.view_is) at c.requires.last in
    let mid : PartState = record { opened = None; desk = c.tracker.inside.desk; noted = c.tracker.inside.trace; terms = record { settings = settings_in c.tracker.inside.config; moment = c.tracker.inside.moment; lost = c.args.lost } } in
    let s = store_view c.args.file g.C.Cluster c.args.cluster.now in
    let s' = store_view c.args.file g.C.Cluster c.give_file.new.self in
    let number = ap (λ t. t.number) t.0 ∙ last in
    let body = c.into_parts.ensures.body ∙ ap (λ x. x.file) t.1 in
    let own : g.C.File.AppendFile.tells → s'.body ≡ Kept (g.C.File.AppendFile.content c.into_parts.result.body) (g.C.File.AppendFile.durable c.into_parts.result.body)
    = λ told. c.give_file.ensures.own told (o.out told ∙ ap (λ x. Lent x.mark) (sym body)) in
    let mid_counts = (store_view c.args.file g.C.Cluster c.open_file.new.cluster).counts in
    let e : FailsClosed g.C.File.AppendFile.tells Memory s s' mid.noted c.open_file.new.trace = record {
      there = λ told. subst IsThere (sym (own told)) tt;
      same = λ told. ap bytes_of (own told) ∙ ap (λ x. x.content) body ∙ o.content told;
      calls = Good ∷ [];
      is = inr refl;
      noted_is = o.noted_is;
      counts = counted_back (Done ∷ []) s.counts mid_counts s'.counts _ o.counts c.give_file.ensures.count.later c.give_file.ensures.counted (ap (λ x. x.tally) body ∙ o.no_calls);
    } in
    rw (← c.tracker.view_is) (record {
      text = _;
      step = unwritten g.C.File.AppendFile.tells mid s s' _ (write_request c.args.request) refl last _ e (ap (part_state c.args.lost None) c.refuse-in-NoMemory.ensures.kept ∙ ap (λ k. part_with_refusal k (noting c.open_file.new.trace mid)) number);
      is = rw number at c.refuse-in-NoMemory.ensures.text;
    })

pub returns-in-NoMemory-clause-losses : goal.returns-in-NoMemory-clause-losses
returns-in-NoMemory-clause-losses g c =
    let o = c.in-Ok.ensures.opened in
    let t = c.in-NoMemory.ensures.step in
    let body = c.into_parts.ensures.body ∙ ap (λ x. x.file) t.1 in
    λ told. c.give_file.ensures.own_losses told (o.out told ∙ ap (λ x. Lent x.mark) (sym body)) ∙ c.in-Ok.ensures.losses told

pub returns-in_default : goal.returns-in_default
returns-in_default g c =
    let s = store_view c.args.file g.C.Cluster c.args.cluster.now in
    let s' = store_view c.args.file g.C.Cluster c.open_file.new.cluster in
    let o = subst (λ h. IsOpened g.C.File.AppendFile.tells c.tracker.inside.config.limits h c.tracker.inside.moment c.args.file c.in-Ok.cell s s' c.tracker.inside.trace c.open_file.new.trace) c.opening_hull.ensures c.in-Ok.ensures.opened in
    let v = c.write.result in
    let t = c.write.ensures.step in
    let last = rw (← c.tracker.view_is) at c.requires.last in
    let mid : PartState = record { opened = None; desk = c.tracker.inside.desk; noted = c.tracker.inside.trace; terms = record { settings = settings_in c.tracker.inside.config; moment = c.tracker.inside.moment; lost = c.args.lost } } in
    let s = store_view c.args.file g.C.Cluster c.args.cluster.now in
    let s' = store_view c.args.file g.C.Cluster c.open_file.new.cluster in
    let e = not_want v c.in_default.not-NoMemory in
    let kept = c.send_verdict-text.ensures.kept in
    let noted : c.send_verdict-text.new.self.noted ≡ with_calls (Good ∷ []) c.tracker.inside.trace
    = ap (λ (k : TrackerState). k.noted) kept ∙ ap (λ b. noted_after b c.open_file.new.trace) e ∙ o.noted_is in
    let file = told_file v c.args.request.ticket c.in-Ok.cell (side_write_step c.in-Ok.cell.limits c.in-Ok.cell.side (write_request c.args.request)) c.write.new.self t in
    record {
      tries = rw (← c.tracker.view_is, kept) (record {
        text = _;
        step = opening_step g.C.File.AppendFile.tells mid s s' _ (write_request c.args.request) refl last c.in-Ok.cell c.write.new.self c.args.request _ v c.args.file o refl e t c.write.ensures.stands;
        is = c.send_verdict-text.ensures.text;
      });
      ready = rw (← c.tracker.view_is) (told_ready v c.args.request.ticket c.in-Ok.cell _ c.write.new.self c.tracker.inside.config.limits c.args.file t (o.left, o.limits_are, o.id));
      home_after = λ told. o.out told ∙ ap (λ x. Lent x.mark) (sym file);
      others = c.in-Ok.ensures.others;
      losses = c.in-Ok.ensures.losses;
      numbers = (ap (λ (x : TraceState). x.event) noted ∙ ap (λ (k : TrackerState). k.noted.event) c.tracker.view_is, ap (λ (x : TraceState). x.request) noted ∙ ap (λ (k : TrackerState). k.noted.request) c.tracker.view_is, (ap (λ (k : TrackerState). k.settings) kept ∙ ap (λ (k : TrackerState). k.settings) c.tracker.view_is, ap (λ (k : TrackerState). k.moment) kept ∙ ap (λ (k : TrackerState). k.moment) c.tracker.view_is));
    }
