use Rattle.std.proofs.Common.{rules, arith, ◌<◌, ◌^◌, decimal, ◌++◌, ◌∷◌, ◌∙◌, ap}
use Rattle.transcript.specs.Fields.{number_of}
use Rattle.transcript.proofs.Numbers.{number_of-some, number_of-decimal}
use Rattle.exports_map.proofs.item.pair_of.Goals as goal

pub returns-in_err-given-clause-found : goal.returns-in_err-given-clause-found
returns-in_err-given-clause-found c = λ pair is.
    let asked = c.in_ok-asked.ensures.found pair.asked (decimal pair.given) is.ids.0 is.text_is in
    let wide : pair.given < 2 ^ 64 = omega (arith, is.ids.1) in
    let given = ap (number_of 32) asked.1 ∙ number_of-decimal 32 pair.given wide is.ids.1 in
    grind (rules, given)

pub returns-clause-read : goal.returns-clause-read
returns-clause-read c =
    let given = number_of-some 32 c.in_ok-asked.rest.now c.in_ok-given.given (grind rules) in
    record { ids = (search rules, given.1); text_is = c.in_ok-asked.ensures.read ∙ ap (λ x. decimal c.in_ok-asked.asked ++ 32 ∷ x) given.0 }

pub returns-clause-found : goal.returns-clause-found
returns-clause-found c = λ pair is.
    let asked = c.in_ok-asked.ensures.found pair.asked (decimal pair.given) is.ids.0 is.text_is in
    let wide : pair.given < 2 ^ 64 = omega (arith, is.ids.1) in
    let given = ap (number_of 32) asked.1 ∙ number_of-decimal 32 pair.given wide is.ids.1 in
    grind (rules, asked.0, given)
