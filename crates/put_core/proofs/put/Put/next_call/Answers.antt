use Rattle.std.proofs.Common.{◌≡◌, ◌<◌, sym, ap, arith, length, subst, ℕ, ◌*◌, ◌≤◌, ◌+◌, ◌∙◌}
use Rattle.std.specs.Prelude.{vec_capacity}
use Rattle.put_core.specs.Steps.{PutState, choice_of, chunk_count}
use Rattle.put_core.specs.Views.{put_view}
use Rattle.put_core.specs.Calls.{outstanding_calls}
use Rattle.put_core.proofs.Calls.{begins_inside, waits_owed_at}
use Rattle.put_core.proofs.Choices.{IsToBeSent, sends_idle}
use Rattle.put_core.proofs.Kept.{room_for, few_writes, kept_sends_as}
use Rattle.put_core.proofs.put.Put.next_call.Goals as goal

pub offset_of-offset-requires : goal.offset_of-offset-requires
offset_of-offset-requires c = omega (arith, (sends_idle c.args.self.now c.in-Sends.chunk (sym c.in-Sends.ensures)).within, c.self.invariant.few, ap (λ (s : PutState). length s.chunks) c.self.view_is)

pub count_of-count-requires : goal.count_of-count-requires
count_of-count-requires c = omega (arith, (sends_idle c.args.self.now c.in-Sends.chunk (sym c.in-Sends.ensures)).within, c.self.invariant.few, ap (λ (s : PutState). length s.chunks) c.self.view_is)

pub index_mut-requires : goal.index_mut-requires
index_mut-requires c = omega (arith, (sends_idle c.args.self.now c.in-Sends.chunk (sym c.in-Sends.ensures)).within, ap (λ (s : PutState). length s.chunks) c.self.view_is, c.self.inside.chunks.ok.0)

pub push_reserved-requires : goal.push_reserved-requires
push_reserved-requires c =
    let to_send = subst (λ (s : PutState). IsToBeSent s c.in-Sends.chunk) (sym c.self.view_is) (sends_idle c.args.self.now c.in-Sends.chunk (sym c.in-Sends.ensures)) in
    omega (arith, room_for (put_view c.self.inside) c.self.inside.first (vec_capacity c.self.inside.writes) c.in-Sends.chunk c.self.invariant to_send, c.self.inside.writes.ok.0)

pub invariant_of-self : goal.invariant_of-self
invariant_of-self c =
    kept_sends_as (put_view c.self.inside) c.self.inside.first (vec_capacity c.push_reserved.new.self) c.in-Sends.chunk c.new_xid-xid.result c.push_reserved.new.self.items
    (rw c.push_reserved.ensures.capacity c.self.invariant)
    (subst (λ (s : PutState). IsToBeSent s c.in-Sends.chunk) (sym c.self.view_is) (sends_idle c.args.self.now c.in-Sends.chunk (sym c.in-Sends.ensures)))
    (c.new_xid-xid.ensures ∙ ap (λ (s : PutState). s.last + 1) (sym c.self.view_is))
    c.push_reserved.ensures.items

pub returns-in-Sends-clause-inside : goal.returns-in-Sends-clause-inside
returns-in-Sends-clause-inside c =
    let all : length c.args.self.now.chunks ≡ chunk_count c.args.self.now.size c.args.self.now.chunk = subst (λ (s : PutState). length s.chunks ≡ chunk_count s.size s.chunk) c.self.view_is c.self.invariant.number in
    let some : 1 ≤ c.args.self.now.chunk = subst (λ (s : PutState). 1 ≤ s.chunk) c.self.view_is c.self.invariant.chunk_least in
    let within : c.in-Sends.chunk < chunk_count c.args.self.now.size c.args.self.now.chunk = subst (λ (n : ℕ). c.in-Sends.chunk < n) all (sends_idle c.args.self.now c.in-Sends.chunk (sym c.in-Sends.ensures)).within in
    let low : c.in-Sends.chunk * c.args.self.now.chunk < c.args.self.now.size = begins_inside c.args.self.now.size c.args.self.now.chunk c.in-Sends.chunk some within in
    (omega (arith, c.count_of-count.ensures), omega (arith, c.count_of-count.ensures, c.offset_of-offset.ensures))

pub returns-in-Sends-clause-few : goal.returns-in-Sends-clause-few
returns-in-Sends-clause-few c =
    few_writes (put_view c.self.inside) c.self.inside.first (vec_capacity c.self.inside.writes) c.in-Sends.chunk c.new_xid-xid.result c.push_reserved.new.self.items c.self.invariant
    (subst (λ (s : PutState). IsToBeSent s c.in-Sends.chunk) (sym c.self.view_is) (sends_idle c.args.self.now c.in-Sends.chunk (sym c.in-Sends.ensures)))
    c.push_reserved.ensures.items

pub returns-in-Waits-clause-waits : goal.returns-in-Waits-clause-waits
returns-in-Waits-clause-waits c =
    subst (λ (s : PutState). 0 < outstanding_calls s) c.self.view_is
    (waits_owed_at (put_view c.self.inside) c.self.inside.first (vec_capacity c.self.inside.writes) c.self.invariant (ap choice_of c.self.view_is ∙ sym c.in-Waits.ensures))
