use Rattle.std.proofs.Common.{sym, arith}
use Rattle.transcript.proofs.Numbers.{number_of-small, number_of-large, number_of-neither}
use Rattle.transcript.proofs.number.parse_u32.Goals as goal

pub returns-in-Some : goal.returns-in-Some
returns-in-Some c = sym (number_of-small c.args.text.now _ (sym c.in-Some.ensures) (omega arith))

pub returns-in_default : goal.returns-in_default
returns-in_default c = sym (number_of-large c.args.text.now _ (sym c.in-Some.ensures) (omega arith))

pub returns-in_default-2 : goal.returns-in_default-2
returns-in_default-2 c = sym (number_of-neither c.args.text.now (sym c.in_default.ensures))
