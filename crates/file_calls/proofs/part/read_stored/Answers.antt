use Rattle.std.proofs.Common.{None, refl, ◌∙◌, ap}
use Rattle.append_store.specs.State.{bytes_of}
use Rattle.tickets.specs.Answers.{body_of}
use Rattle.gw_config.specs.Seen.{settings_in}
use Rattle.file_calls.specs.PartSteps.{part_with_refusal}
use Rattle.file_calls.specs.Outside.{PartState, body_id, part_state, store_view}
use Rattle.file_calls.proofs.PartClosed.{unread, unseen, part_step, of_answer, noting}
use Rattle.file_calls.proofs.part.read_stored.Goals as goal

pub returns-in-Ok-clause-tries : goal.returns-in-Ok-clause-tries
returns-in-Ok-clause-tries g c = λ lost.
    let a = c.read_answer.ensures in
    let last = rw (← c.tracker.view_is) at c.requires.last in
    let mid : PartState = record { opened = None; desk = c.tracker.inside.desk; noted = c.tracker.inside.trace; terms = record { settings = settings_in c.tracker.inside.config; moment = c.tracker.inside.moment; lost = lost } } in
    let s = store_view c.args.file g.C.Cluster c.args.cluster.now in
    let s' = store_view c.args.file g.C.Cluster c.read_body.new.cluster in
    rw (← c.tracker.view_is) (record {
      text = _;
      step = of_answer g.C.File.AppendFile.tells _ mid (noting c.read_body.new.trace mid) _ s s' c.read_answer.result _ _ (ap (λ t. t.number) a.ticket ∙ last) (ap body_of a.body) (ap (part_state lost None) c.send.ensures.kept)
          (part_step g.C.File.AppendFile.tells mid s s' _ c.args.call refl c.in-Ok.part c.in-Ok.ensures.part (λ told. ap bytes_of (c.in-Ok.ensures.same told (body_id c.args.file))));
      is = c.send.ensures.text;
    })

pub returns-in-Err-Store-clause-tries : goal.returns-in-Err-Store-clause-tries
returns-in-Err-Store-clause-tries g c = λ lost.
    let e = rw c.in-Err-Store.field-0-is at c.in-Err-Store.ensures.failed in
    let a = c.read_answer-in-Err-Store.ensures in
    let last = rw (← c.tracker.view_is) at c.requires.last in
    let mid : PartState = record { opened = None; desk = c.tracker.inside.desk; noted = c.tracker.inside.trace; terms = record { settings = settings_in c.tracker.inside.config; moment = c.tracker.inside.moment; lost = lost } } in
    let s = store_view c.args.file g.C.Cluster c.args.cluster.now in
    let s' = store_view c.args.file g.C.Cluster c.read_body.new.cluster in
    rw (← c.tracker.view_is) (record {
      text = _;
      step = of_answer g.C.File.AppendFile.tells _ mid (noting c.read_body.new.trace mid) _ s s' c.read_answer-in-Err-Store.result _ _ (ap (λ t. t.number) a.ticket ∙ last) (ap body_of a.body) (ap (part_state lost None) c.send-in-Err-Store-2.ensures.kept)
          (unread g.C.File.AppendFile.tells mid s s' _ c.args.call refl e);
      is = c.send-in-Err-Store-2.ensures.text;
    })

pub returns-in-Err-Memory-clause-tries : goal.returns-in-Err-Memory-clause-tries
returns-in-Err-Memory-clause-tries g c = λ lost.
    let e = rw c.in-Err-Memory.field-0-is at c.in-Err-Memory.ensures.failed in
    let last = rw (← c.tracker.view_is) at c.requires.last in
    let mid : PartState = record { opened = None; desk = c.tracker.inside.desk; noted = c.tracker.inside.trace; terms = record { settings = settings_in c.tracker.inside.config; moment = c.tracker.inside.moment; lost = lost } } in
    let s = store_view c.args.file g.C.Cluster c.args.cluster.now in
    let s' = store_view c.args.file g.C.Cluster c.read_body.new.cluster in
    rw (← c.tracker.view_is) (record {
      text = _;
      step = unseen g.C.File.AppendFile.tells mid s s' _ c.args.call refl _ e (ap (part_state lost None) c.refuse.ensures.kept ∙ ap (λ k. part_with_refusal k (noting c.read_body.new.trace mid)) last);
      is = rw last at c.refuse.ensures.text;
    })
