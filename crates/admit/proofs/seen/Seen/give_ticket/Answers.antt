use Rattle.std.proofs.Common.{refl, ◌∙◌, ap}
use Rattle.gw_model.specs.File.{Seen}
use Rattle.admit.specs.Parts.{writes_of}
use Rattle.admit.proofs.JudgedRanges.{at_found, length-give, writes-give}
use Rattle.admit.proofs.seen.Seen.give_ticket.Goals as goal

pub give_ticket-requires : goal.give_ticket-requires
give_ticket-requires g c =
    let there = rw (← c.self.view_is) at c.requires in
    at_found c.args.offset c.args.count c.args.number (g.M.PendingMap.entries c.self.inside.pending) c.self.invariant.1 there

pub returns-clause-ticket : goal.returns-clause-ticket
returns-clause-ticket g c =
    let there = rw (← c.self.view_is) at c.requires in
    let before = g.M.PendingMap.entries c.self.inside.pending in
    let is = ap writes_of c.give_ticket.ensures ∙ writes-give c.args.offset c.args.count c.args.number c.args.stable c.args.ticket before c.self.invariant.1 there in
    rw (← c.self.view_is, is) refl

pub returns-clause-many : goal.returns-clause-many
returns-clause-many g c =
    length-give c.args.offset c.args.number c.args.stable c.args.ticket (g.M.PendingMap.entries c.self.inside.pending) _ _ c.give_ticket.ensures (ap (λ (s : Seen). s.pending) c.self.view_is)
