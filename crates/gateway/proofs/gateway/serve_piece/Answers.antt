use Rattle.std.proofs.Common.{◌≡◌, ◌++◌, length, true, false, refl, ◌∙◌, ap, arith, string_bytes}
use Rattle.file_calls.proofs.Results.{always_err}
use Rattle.nfs_procs.proofs.ContextStores.{objects_same, objects_trans, losses_trans, there_trans}
use Rattle.rpc_record.proofs.HeardPieces.{less_ahead}
use Rattle.nfs_procs.specs.Contexts.{store_state}
use Rattle.gateway.proofs.GatewayPieces.{hears_start, hears_cut, hears_more, hears_fault, hears_fault_cut, hears_faulted_cut, hears_record_cut, hears_served_cut, hears_end, hears_next}
use Rattle.gateway.proofs.gateway.serve_piece.Goals as goal

pub loop-text-init : goal.loop-text-init
loop-text-init g c = record {
  hears = rw c.new-text.ensures.bytes (hears_start g.C.File.AppendFile.tells c.args.conn c.args.stream.now c.args.piece.now _);
  placed = c.requires.placed;
  names = refl;
  others = λ told. objects_same (store_state g.C.Cluster c.args.cluster.now);
  losses = λ told q. refl;
  there = λ told q h. h;
  event = refl;
}

pub returns-in_err-hear-clause-err : goal.returns-in_err-hear-clause-err
returns-in_err-hear-clause-err g c = always_err c.from_residual.result (hears_cut g.C.File.AppendFile.tells _ _ _ _ _ _ _ c.loop-text.invariant.hears)

pub returns-in-More-clause-ok : goal.returns-in-More-clause-ok
returns-in-More-clause-ok g c =
    let heard = rw c.in-More.is at c.in_ok-hear.ensures.ok in
    hears_more g.C.File.AppendFile.tells _ _ _ _ _ _ _ c.loop-text.invariant.hears c.hear.new.self (record { text = c.loop-text.text; ended = false }) heard.0 heard.1 refl refl

pub returns-in_err-break_connection-in-Broken-clause-err : goal.returns-in_err-break_connection-in-Broken-clause-err
returns-in_err-break_connection-in-Broken-clause-err g c =
    let heard = rw c.in-Broken.is at c.in_ok-hear.ensures.ok in
    always_err c.from_residual-in_err-break_connection-in-Broken.result
    (hears_fault_cut g.C.File.AppendFile.tells _ _ _ _ _ _ _ c.loop-text.invariant.hears heard.0 heard.1 _ (c.in_err-break_connection-in-Broken.ensures.err (store_state g.C.Cluster c.loop-text.cluster)))

pub returns-in_err-push_str-in-Broken-clause-err : goal.returns-in_err-push_str-in-Broken-clause-err
returns-in_err-push_str-in-Broken-clause-err g c =
    let heard = rw c.in-Broken.is at c.in_ok-hear.ensures.ok in
    always_err c.from_residual-in_err-push_str-in-Broken.result
    (hears_faulted_cut g.C.File.AppendFile.tells _ _ _ _ _ _ _ c.loop-text.invariant.hears heard.0 heard.1 _ _ (c.in_ok-break_connection-in-Broken.ensures.ok (store_state g.C.Cluster c.loop-text.cluster)))

pub returns-in-Broken-clause-ok : goal.returns-in-Broken-clause-ok
returns-in-Broken-clause-ok g c =
    let heard = rw c.in-Broken.is at c.in_ok-hear.ensures.ok in
    let text = c.in_ok-push_str-in-Broken.ensures.bytes ∙ ap (λ xs. string_bytes c.loop-text.text ++ xs) c.as_str.ensures.value in
    hears_fault g.C.File.AppendFile.tells _ _ _ _ _ _ _ c.loop-text.invariant.hears heard.0 heard.1 c.hear.new.self (record { text = c.push_str.new.self; ended = true }) _ (string_bytes c.in_ok-break_connection-in-Broken.field-0)
    (c.in_ok-break_connection-in-Broken.ensures.ok (store_state g.C.Cluster c.loop-text.cluster)) text refl

pub returns-in_err-served-in-Record-clause-err : goal.returns-in_err-served-in-Record-clause-err
returns-in_err-served-in-Record-clause-err g c =
    let heard = rw c.in-Record.is at c.in_ok-hear.ensures.ok in
    always_err c.from_residual-in_err-served-in-Record.result
    (hears_record_cut g.C.File.AppendFile.tells _ _ _ _ _ _ _ c.loop-text.invariant.hears c.in-Record.message c.in-Record.taken heard.0 _ c.in_err-served-in-Record.ensures.err)

pub returns-in_err-push_str-in-Record-clause-err : goal.returns-in_err-push_str-in-Record-clause-err
returns-in_err-push_str-in-Record-clause-err g c =
    let heard = rw c.in-Record.is at c.in_ok-hear.ensures.ok in
    always_err c.from_residual-in_err-push_str-in-Record.result
    (hears_served_cut g.C.File.AppendFile.tells _ _ _ _ _ _ _ c.loop-text.invariant.hears c.in-Record.message c.in-Record.taken heard.0 c.in_ok-served-in-Record.served _ c.in_ok-served-in-Record.ensures.ok)

pub returns-then-served-clause-ok : goal.returns-then-served-clause-ok
returns-then-served-clause-ok g c =
    let heard = rw c.in-Record.is at c.in_ok-hear.ensures.ok in
    let text = c.in_ok-push_str-in-Record.ensures.bytes ∙ ap (λ xs. string_bytes c.loop-text.text ++ xs) c.as_str-in-Record.ensures.value in
    hears_end g.C.File.AppendFile.tells _ _ _ _ _ _ _ c.loop-text.invariant.hears c.in-Record.message c.in-Record.taken heard.0 c.in_ok-served-in-Record.served _ c.in_ok-served-in-Record.ensures.ok
    c.hear.new.self (record { text = c.push_str-in-Record.new.self; ended = true }) c.if-served.true text refl

pub loop-text-smaller : goal.loop-text-smaller
loop-text-smaller g c =
    let heard = rw c.in-Record.is at c.in_ok-hear.ensures.ok in
    let less = less_ahead c.loop-text.stream c.loop-text.rest.now c.in-Record.message c.in-Record.taken heard.0 in
    let none : length c.hear.new.self ≡ 0 = ap length heard.2 in
    let left = ap length c.behind-rest.ensures in
    omega (arith, none, left, less)

pub loop-text-preserved : goal.loop-text-preserved
loop-text-preserved g c =
    let heard = rw c.in-Record.is at c.in_ok-hear.ensures.ok in
    let e = c.in_ok-served-in-Record.ensures in
    let v = c.loop-text.invariant in
    let old = store_state g.C.Cluster c.args.cluster.now in
    let mid = store_state g.C.Cluster c.loop-text.cluster in
    let new = store_state g.C.Cluster c.serve.new.cluster in
    let text = c.in_ok-push_str-in-Record.ensures.bytes ∙ ap (λ xs. string_bytes c.loop-text.text ++ xs) c.as_str-in-Record.ensures.value in
    record {
      hears = rw c.behind-rest.ensures (hears_next g.C.File.AppendFile.tells _ _ _ _ _ _ _ c.loop-text.invariant.hears c.in-Record.message c.in-Record.taken heard.0 c.in_ok-served-in-Record.served _ e.ok
          c.hear.new.self (string_bytes c.push_str-in-Record.new.self) c.if-served.false heard.2 text);
      placed = e.placed_after;
      names = e.names ∙ v.names;
      others = λ told. objects_trans old mid new (v.others told) (e.others told);
      losses = λ told. losses_trans old mid new (v.losses told) (e.losses told);
      there = λ told. there_trans old mid new (v.there told) (e.there told);
      event = e.event ∙ v.event;
    }
