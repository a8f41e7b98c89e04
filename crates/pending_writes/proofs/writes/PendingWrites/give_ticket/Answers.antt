use Rattle.std.proofs.Common.{◌≡◌, List, sym, ◌∙◌, ap, subst}
use Rattle.range_map.specs.declared.entry.Entry.{Entry}
use Rattle.pending_writes.specs.Bytes.{pending_bytes}
use Rattle.pending_writes.specs.Weights.{entries_weight}
use Rattle.pending_writes.specs.Writes.{AreSoundEntries, PendingState, pending_state}
use Rattle.pending_writes.proofs.GivenTickets.{given_bytes, given_weight, sound-given}
use Rattle.pending_writes.proofs.writes.PendingWrites.give_ticket.Goals as goal

pub invariant_of-self : goal.invariant_of-self
invariant_of-self g c =
    let es = g.M.PendingMap.entries c.self.inside.map in
    subst (λ (xs : List Entry). AreSoundEntries (pending_state xs c.self.inside.spill)) (sym c.give_ticket.ensures)
    (sound-given c.args.offset c.args.number c.args.stable c.args.ticket es c.self.inside.spill c.self.invariant)

pub returns-clause-bytes : goal.returns-clause-bytes
returns-clause-bytes g c =
    let es = g.M.PendingMap.entries c.self.inside.map in
    let s = c.self.inside.spill in
    let new = g.M.PendingMap.entries c.give_ticket.new.self in
    subst (λ (p : PendingState). pending_bytes (pending_state new s) ≡ pending_bytes p) c.self.view_is
    (ap (λ (xs : List Entry). pending_bytes (pending_state xs s)) c.give_ticket.ensures ∙ given_bytes c.args.offset c.args.number c.args.stable c.args.ticket s.kept es)

pub returns-clause-weight : goal.returns-clause-weight
returns-clause-weight g c =
    let es = g.M.PendingMap.entries c.self.inside.map in
    let new = g.M.PendingMap.entries c.give_ticket.new.self in
    subst (λ (p : PendingState). entries_weight new ≡ entries_weight p.entries) c.self.view_is
    (ap entries_weight c.give_ticket.ensures ∙ given_weight c.args.offset c.args.number c.args.stable c.args.ticket es)
