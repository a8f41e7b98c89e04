use Rattle.std.proofs.Common.{◌≡◌, ◌<◌, ◌^◌, List, ℕ, ◌++◌, OnOk, sym, ap, subst, ◌∙◌, arith, length}
use Rattle.xdr.specs.Items.{fixed_text}
use Rattle.rpc_msg.specs.Replies.{accepted_text}
use Rattle.xdr.specs.Rows.{text}
use Rattle.nfs_wire.specs.Heads.{body_data, body_results, head_row}
use Rattle.nfs_wire.specs.Results.{results_row}
use Rattle.file_calls.specs.Replies.{generation}
use Rattle.file_calls.proofs.ReplyTexts.{IsEven, fixed_head, head_even, put_all}
use Rattle.file_calls.proofs.reply.put_results.Goals as goal

pub returns : goal.returns
returns c =
    let b = c.args.body.now in
    let few : length (body_data b) < 2 ^ 32 = subst (λ (d : List ℕ). length d < 2 ^ 32) c.data_of-data.ensures (omega arith) in
    let head : c.bytes.result.now ≡ text (head_row b generation) = c.bytes.ensures.bytes ∙ c.body_head.ensures.exact in
    let whole : text (results_row (body_results b generation)) ≡ c.bytes.result.now ++ fixed_text c.data_of-data.result.now = c.body_head.ensures.whole few ∙ ap (λ (h : List ℕ). h ++ fixed_text (body_data b)) (sym c.bytes.ensures.bytes) ∙ ap (λ (d : List ℕ). c.bytes.result.now ++ fixed_text d) (sym c.data_of-data.ensures) in
    let even : IsEven c.bytes.result.now = subst IsEven (sym head) (head_even b generation) in
    let front = c.in_ok-put_fixed.ensures.ok ∙ ap (λ (v : List ℕ). c.args.reply.now ++ fixed_text v) c.accepted_head.ensures in
    let all = put_all c.args.reply.now c.put_fixed.new.self c.put_fixed-2.new.self (accepted_text c.args.xid 0) c.bytes.result.now c.data_of-data.result.now _ front c.in_ok-put_fixed-2.ensures.ok (fixed_head c.args.xid 0) even whole in
    subst (λ (v : List ℕ). OnOk c.put_fixed-3.result (c.put_fixed-3.new.self ≡ v)) all c.put_fixed-3.ensures.ok
