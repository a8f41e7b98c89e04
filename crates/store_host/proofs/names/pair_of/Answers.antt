use Rattle.std.proofs.Common.{rules, sym, ◌∙◌, ap, decimal, length}
use Rattle.transcript.specs.Fields.{number_of}
use Rattle.store_host.proofs.Hyphens.{pair_end, pair_read, pair_printed, rest_is}
use Rattle.store_host.proofs.names.pair_of.Goals as goal

pub returns-in_err-i-clause-found : goal.returns-in_err-i-clause-found
returns-in_err-i-clause-found c = λ n m low high e. let at = pair_end n m c.args.text.now low e in grind (rules, at)

pub returns-in_err-first-clause-found : goal.returns-in_err-first-clause-found
returns-in_err-first-clause-found c = λ n m low high e.
    let r = pair_read n m c.in_ok-i.i c.args.text.now low high e (grind rules) in grind (rules, r.0)

pub returns-in_err-second-clause-found : goal.returns-in_err-second-clause-found
returns-in_err-second-clause-found c = λ n m low high e.
    let r = pair_read n m c.in_ok-i.i c.args.text.now low high e (grind rules) in
    let s = ap (number_of 64) (rest_is c.in_ok-i.i c.args.text.now) in grind (rules, r.1, s)

pub returns-clause-read : goal.returns-clause-read
returns-clause-read c =
    let s = ap (number_of 64) (rest_is c.in_ok-i.i c.args.text.now) in
    pair_printed c.in_ok-first.first c.in_ok-second.second c.in_ok-i.i c.args.text.now (grind rules) (grind rules) (sym s ∙ grind rules)

pub returns-clause-found : goal.returns-clause-found
returns-clause-found c = λ n m low high e.
    let r = pair_read n m c.in_ok-i.i c.args.text.now low high e (grind rules) in
    let s = ap (number_of 64) (rest_is c.in_ok-i.i c.args.text.now) in grind (rules, r.0, r.1, s)
