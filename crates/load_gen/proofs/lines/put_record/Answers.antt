use Rattle.std.proofs.Common.{◌++◌, ◌∙◌, ap, sym, length, List, ℕ, append_assoc}
use Rattle.std.proofs.lemmas.Result.{on_ok_weaker}
use Rattle.hex.specs.Hex.{encode_lower}
use Rattle.rpc_record.specs.Records.{mark_text}
use Rattle.load_gen.proofs.MessageLines.{encode_lower-append, mark_again}
use Rattle.load_gen.proofs.lines.put_record.Goals as goal

pub returns : goal.returns
returns c =
    let m = c.args.message.now in
    let t = c.args.text.now.items in
    let marked = c.in_ok-put_hex.ensures ∙ ap (λ (k : List ℕ). t ++ encode_lower k) (c.mark.ensures ∙ mark_again (length m)) in
    on_ok_weaker c.put_hex-2.result
    (λ e. e ∙ (ap (λ (k : List ℕ). k ++ encode_lower m) marked ∙ (append_assoc t (encode_lower (mark_text (length m))) (encode_lower m)
    ∙ ap (λ (k : List ℕ). t ++ k) (sym (encode_lower-append (mark_text (length m)) m)))))
    c.put_hex-2.ensures
