use Rattle.std.proofs.Common.{refl, arith}
use Rattle.transcript.proofs.Digits.{decoded_step, decoded_whole}
use Rattle.transcript.proofs.hex_field.decode_pairs.Goals as goal

pub loop-i-preserved : goal.loop-i-preserved
loop-i-preserved c =
    rw (c.max-greatest.ensures, c.max.ensures)
    (decoded_step c.args.text.now c.loop-i.bytes c.loop-i.greatest c.loop-i.i c.digit_value-high.result c.digit_value-low.result _ _ (omega arith) (omega arith) refl refl
    c.digit_value-high.ensures c.digit_value-low.ensures c.loop-i.invariant)

pub returns : goal.returns
returns c = decoded_whole c.args.text.now c.loop-i.bytes c.loop-i.greatest c.loop-i.i (omega arith) (omega arith) c.loop-i.invariant
