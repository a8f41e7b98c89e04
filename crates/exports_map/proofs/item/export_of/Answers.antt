use Rattle.std.proofs.Common.{rules, arith, ◌<◌, ◌^◌, decimal, ◌++◌, ◌∷◌}
use Rattle.exports_map.specs.Items.{mode_text}
use Rattle.exports_map.proofs.item.export_of.Goals as goal

pub returns-in_err-address-clause-found : goal.returns-in_err-address-clause-found
returns-in_err-address-clause-found c = λ rule is.
    absurd (c.in_err-address.ensures.found rule.address (decimal rule.bits ++ 32 ∷ mode_text rule.mode) is.address)

pub returns-in_err-bits-clause-found : goal.returns-in_err-bits-clause-found
returns-in_err-bits-clause-found c = λ rule is.
    let address = c.in_ok-address.ensures.found rule.address (decimal rule.bits ++ 32 ∷ mode_text rule.mode) is.address in
    let few : rule.bits < 2 ^ 32 = omega (arith, is.few) in
    absurd (c.in_err-bits.ensures.found rule.bits (mode_text rule.mode) few address.1)

pub returns-then-bits-gt32-clause-found : goal.returns-then-bits-gt32-clause-found
returns-then-bits-gt32-clause-found c = λ rule is.
    let address = c.in_ok-address.ensures.found rule.address (decimal rule.bits ++ 32 ∷ mode_text rule.mode) is.address in
    let few : rule.bits < 2 ^ 32 = omega (arith, is.few) in
    let bits = c.in_ok-bits.ensures.found rule.bits (mode_text rule.mode) few address.1 in
    absurd (omega (arith, bits.0, is.few, c.if-bits-gt32.true))

pub returns-in_err-mode-clause-found : goal.returns-in_err-mode-clause-found
returns-in_err-mode-clause-found c = λ rule is.
    let address = c.in_ok-address.ensures.found rule.address (decimal rule.bits ++ 32 ∷ mode_text rule.mode) is.address in
    let few : rule.bits < 2 ^ 32 = omega (arith, is.few) in
    let bits = c.in_ok-bits.ensures.found rule.bits (mode_text rule.mode) few address.1 in
    let mode = c.mode_of.ensures.found rule.mode bits.1 in
    grind (rules, mode)

pub returns-clause-found : goal.returns-clause-found
returns-clause-found c = λ rule is.
    let address = c.in_ok-address.ensures.found rule.address (decimal rule.bits ++ 32 ∷ mode_text rule.mode) is.address in
    let few : rule.bits < 2 ^ 32 = omega (arith, is.few) in
    let bits = c.in_ok-bits.ensures.found rule.bits (mode_text rule.mode) few address.1 in
    let mode = c.mode_of.ensures.found rule.mode bits.1 in
    grind (rules, address.0, bits.0, mode)
