use Rattle.transcript.proofs.Digits.{Decoded}
use Rattle.transcript.proofs.hex_field.decode_pairs.Given as goal

abbrev pub invariant-loop-i : goal.invariant-loop-i
invariant-loop-i l = Decoded l.text l.bytes l.greatest l.i
