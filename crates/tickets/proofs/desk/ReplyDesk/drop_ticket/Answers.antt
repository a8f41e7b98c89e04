use Rattle.std.proofs.Common.{sym, ◌∙◌, subst}
use Rattle.tickets.specs.Desk.{with_dropped, IsSound}
use Rattle.tickets.proofs.Entries.{desk_of-remove_entry}
use Rattle.tickets.proofs.Sound.{sound_dropped}
use Rattle.tickets.proofs.desk.ReplyDesk.drop_ticket.Goals as goal

-- src/desk.rt:148:5
pub invariant_of-self : goal.invariant_of-self
invariant_of-self c = subst IsSound (sym (desk_of-remove_entry _ _ _ _ _ c.self.invariant c.remove.ensures.entries)) (sound_dropped _ _ c.self.invariant)

-- src/desk.rt:148:5
pub returns-clause-after : goal.returns-clause-after
returns-clause-after c = desk_of-remove_entry _ _ _ _ _ c.self.invariant c.remove.ensures.entries ∙ (λ i. with_dropped (c.ticket.view_is i).number (c.self.view_is i))

-- src/desk.rt:148:5
pub returns-clause-sound : goal.returns-clause-sound
returns-clause-sound c = subst IsSound (sym (desk_of-remove_entry _ _ _ _ _ c.self.invariant c.remove.ensures.entries)) (sound_dropped _ _ c.self.invariant)
