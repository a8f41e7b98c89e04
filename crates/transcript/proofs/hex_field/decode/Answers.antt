use Rattle.std.proofs.Common.{◌≡◌, length, ap, arith}
use Rattle.std.proofs.lemmas.Bool.Decides.{nat_tests}
use Rattle.hex.proofs.HexLemmas.{decode_of-odd}
use Rattle.transcript.specs.Fields.{some_bytes}
use Rattle.transcript.proofs.Digits.{no_bytes}
use Rattle.transcript.proofs.hex_field.decode.Goals as goal
use Rattle.transcript.proofs.hex_field.decode.Goals.{then-is_empty-via-then-is_empty, then-is_empty-via-else-is_empty+then-text-ne0}

pub returns-then-is_empty : goal.returns-then-is_empty
returns-then-is_empty c =
    elim c.then-is_empty.branch [
      | then-is_empty-via-then-is_empty w ↦
          let none : length c.args.text.now ≡ 0 = grind (arith, nat_tests, w.if-is_empty.ensures) in
          no_bytes c.args.text.now none
      | then-is_empty-via-else-is_empty+then-text-ne0 w ↦ ap some_bytes (decode_of-odd c.args.text.now (omega (arith, w.if-text-ne0.true)))
    ]
