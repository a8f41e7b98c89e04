use Rattle.std.proofs.Common.{◌≡◌, sym, ◌≤◌, length, get_or}
use Rattle.transcript.proofs.Numbers.{number_of-plain, not_a_number, not_long_zero, not_utf8, not_parsed}
use Rattle.transcript.proofs.number.parse_u64.Goals as goal
use Rattle.transcript.proofs.number.parse_u64.Goals.{else-text-eq48-via-then-text-eq48+else-text-gt1, else-text-eq48-via-else-text-eq48}

pub returns-in_default : goal.returns-in_default
returns-in_default c = sym (not_utf8 c.args.text.now c.in_default.ensures.cases.0)

pub returns-in_default-parse : goal.returns-in_default-parse
returns-in_default-parse c =
    let same = c.in-Ok.ensures.cases.0 in
    sym (not_parsed c.args.text.now (rw same at c.in_default-parse.ensures.value.0))

pub returns-then-text-eq43 : goal.returns-then-text-eq43
returns-then-text-eq43 c = sym (not_a_number c.args.text.now c.if-text-eq43.true)

pub returns-then-text-gt1 : goal.returns-then-text-gt1
returns-then-text-gt1 c = sym (not_long_zero c.args.text.now c.if-text-eq48.true c.if-text-gt1.true)

pub returns : goal.returns
returns c =
    let same = c.in-Ok.ensures.cases.0 in
    let text = c.args.text.now in
    let p = rw same at c.in-Ok-parse.ensures.value.0 in
    let short : get_or text 0 0 ≡ 48 → length text ≤ 1 =
    elim c.else-text-eq48.branch [
      | else-text-eq48-via-then-text-eq48+else-text-gt1 w ↦ λ z. w.if-text-gt1.false
      | else-text-eq48-via-else-text-eq48 w ↦ λ z. absurd (w.if-text-eq48.false z)
    ]
    in
    sym (number_of-plain text _ c.if-text-eq43.false short p.0 p.1)
