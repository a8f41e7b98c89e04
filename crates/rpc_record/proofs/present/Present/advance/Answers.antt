use Rattle.std.proofs.Common.{◌≡◌, ℕ, ◌-◌, ◌≤◌, length, take, refl, ap, ◌∙◌, arith}
use Rattle.std.proofs.lemmas.List.{length-take-le}
use Rattle.rpc_record.proofs.Walks.{walk_fault}
use Rattle.rpc_record.proofs.Advances.{first_of, advance_byte, advance_body, extends_same}
use Rattle.rpc_record.proofs.present.Present.advance.Goals as goal

pub returns-in-Some-clause-fault : goal.returns-in-Some-clause-fault
returns-in-Some-clause-fault c = λ all s.
    let f = c.in-Some.ensures.fault in
    walk_fault _ _ _ _ _ _ _ (first_of c.args.self.now c.args.refused.now c.args.rest.now all c.requires.some s) c.in-Some.fault f.0 f.1

pub returns-in-Some-clause-kept : goal.returns-in-Some-clause-kept
returns-in-Some-clause-kept c = extends_same c.args.self.now _ refl (omega (arith, c.take_byte.ensures.done)) refl

pub returns-in-None-clause-stands : goal.returns-in-None-clause-stands
returns-in-None-clause-stands c = λ all s.
    advance_byte c.args.self.now c.take_byte.new.self c.args.refused.now c.args.rest.now all c.requires.some c.if-self-lt4.true c.take_byte.ensures.done c.in-None.ensures.part c.in-None.ensures.good s

pub returns-else-self-lt4-clause-stands : goal.returns-else-self-lt4-clause-stands
returns-else-self-lt4-clause-stands c = λ all s.
    let rest = c.args.rest.now in
    let n = c.min-count.result in
    let within : n ≤ length rest = grind arith in
    let few : n ≤ c.args.self.now.place.lacks = grind arith in
    let size : length (take n rest) ≡ n = length-take-le n rest within in
    let place = c.keep.ensures.place ∙ ap (λ (k : ℕ). record c.args.self.now.place { lacks = c.args.self.now.place.lacks - k }) size in
    advance_body c.args.self.now c.keep.new.self c.args.refused.now c.keep.result rest all n (omega (arith, c.requires.header)) few within place c.keep.ensures.finished c.keep.ensures.kept s

pub returns-else-self-lt4-clause-count : goal.returns-else-self-lt4-clause-count
returns-else-self-lt4-clause-count c =
    let whole : c.args.self.now.place.filled ≡ 4 = omega (arith, c.requires.header) in
    let some = c.requires.short whole in
    grind arith
