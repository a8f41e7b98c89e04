use Rattle.std.proofs.Common.{◌≡◌, List, ℕ, Ok, sym, ap, ◌∙◌, arith}
use Rattle.xdr.specs.Reading.{opaque_at}
use Rattle.nfs_wire.proofs.Places.{lies_in}
use Rattle.nfs_wire.proofs.items.Items.slice.Goals as goal

pub overflow_add-first : goal.overflow_add-first
overflow_add-first c =
    let e : opaque_at 1048576 c.args.self.now ≡ Ok (c.in_ok-len.field-0.now, c.take_opaque.new.self) = cc c.in_ok-len.ensures.ok in
    let l = lies_in 1048576 c.place-place.result c.args.message.now c.in_ok-len.field-0.now c.args.self.now c.take_opaque.new.self (cc) c.requires e in
    omega (arith, l.room)

pub overflow_add-first-2 : goal.overflow_add-first-2
overflow_add-first-2 c =
    let e : opaque_at 1048576 c.args.self.now ≡ Ok (c.in_ok-len.field-0.now, c.take_opaque.new.self) = cc c.in_ok-len.ensures.ok in
    let l = lies_in 1048576 c.place-place.result c.args.message.now c.in_ok-len.field-0.now c.args.self.now c.take_opaque.new.self (cc) c.requires e in
    omega (arith, l.room)

pub slice-requires-clause-in_bounds : goal.slice-requires-clause-in_bounds
slice-requires-clause-in_bounds c =
    let e : opaque_at 1048576 c.args.self.now ≡ Ok (c.in_ok-len.field-0.now, c.take_opaque.new.self) = cc c.in_ok-len.ensures.ok in
    (lies_in 1048576 c.place-place.result c.args.message.now c.in_ok-len.field-0.now c.args.self.now c.take_opaque.new.self (cc) c.requires e).room

pub returns : goal.returns
returns c =
    let e : opaque_at 1048576 c.args.self.now ≡ Ok (c.in_ok-len.field-0.now, c.take_opaque.new.self) = cc c.in_ok-len.ensures.ok in
    let l = lies_in 1048576 c.place-place.result c.args.message.now c.in_ok-len.field-0.now c.args.self.now c.take_opaque.new.self (cc) c.requires e in
    e ∙ ap (λ (k : List ℕ). Ok (k, c.take_opaque.new.self)) (sym (c.in_ok-slice.ensures.ok ∙ l.part))
