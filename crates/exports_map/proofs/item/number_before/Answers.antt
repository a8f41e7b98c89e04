use Rattle.std.proofs.Common.{rules, decimal, ◌++◌, ◌∷◌, sym, ◌∙◌, ap}
use Rattle.exports_map.proofs.Separators.{number_end, number_read, number_printed, rest_is}
use Rattle.exports_map.proofs.item.number_before.Goals as goal

pub returns-in_err-i-clause-found : goal.returns-in_err-i-clause-found
returns-in_err-i-clause-found c = λ n rest below e. let at = number_end c.args.separator n c.args.text.now rest c.requires below e in grind (rules, at)

pub returns-in_err-number-clause-found : goal.returns-in_err-number-clause-found
returns-in_err-number-clause-found c = λ n rest below e.
    let r = number_read c.args.separator n c.in_ok-i.i c.args.text.now rest c.requires below e (grind rules) in grind (rules, r.0)

pub returns-clause-read : goal.returns-clause-read
returns-clause-read c =
    number_printed c.args.separator c.in_ok-number.number c.in_ok-i.i c.args.text.now (grind rules) (grind rules)
    ∙ ap (λ x. decimal c.in_ok-number.number ++ c.args.separator ∷ x) (sym (rest_is c.in_ok-i.i c.args.text.now))

pub returns-clause-found : goal.returns-clause-found
returns-clause-found c = λ n rest below e.
    let r = number_read c.args.separator n c.in_ok-i.i c.args.text.now rest c.requires below e (grind rules) in
    (grind (rules, r.0), rest_is c.in_ok-i.i c.args.text.now ∙ r.1)
