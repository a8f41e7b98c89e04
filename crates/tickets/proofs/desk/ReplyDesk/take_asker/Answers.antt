use Rattle.std.proofs.Common.{◌≡◌, ◌+◌, Some, None, refl, sym, ◌∙◌, ap, subst, arith}
use Rattle.std.specs.Prelude.{option_map}
use Rattle.tickets.specs.Desk.{waiting_ticket, with_answered, IsSound}
use Rattle.tickets.specs.Entries.{ticket_of, desk_of}
use Rattle.tickets.proofs.Entries.{find-tickets_of, desk_of-answered}
use Rattle.tickets.proofs.Sound.{sound_answered}
use Rattle.tickets.proofs.desk.ReplyDesk.take_asker.Goals as goal

-- the desk without a number that waited
left : (c : goal.After-self-1) → desk_of c.self.inside.last c.remove.new.self.entries (c.self.inside.sent + 1) ≡ with_answered c.args.number (desk_of c.self.inside.last c.self.inside.waiting.entries c.self.inside.sent)
left c = desk_of-answered _ _ _ _ _ _ (Some c.in_ok-asker.asker) c.self.invariant c.remove.ensures.entries c.in_ok-asker.ensures.value refl

-- src/desk.rt:146:21
pub returns-in_err-asker-clause-asker : goal.returns-in_err-asker-clause-asker
returns-in_err-asker-clause-asker c = ap (option_map (ticket_of c.args.number)) (c.from_residual.ensures ∙ c.in_err-asker.ensures.value) ∙ (sym (find-tickets_of _ c.args.number) ∙ ap (waiting_ticket c.args.number) c.self.view_is)

-- src/desk.rt:146:21
pub returns-in_err-asker-clause-after : goal.returns-in_err-asker-clause-after
returns-in_err-asker-clause-after c = desk_of-answered _ _ _ _ _ _ None c.self.invariant c.remove.ensures.entries c.in_err-asker.ensures.value (omega arith) ∙ ap (with_answered c.args.number) c.self.view_is

-- src/desk.rt:141:5
pub invariant_of-self-2 : goal.invariant_of-self-2
invariant_of-self-2 c = subst IsSound (sym (left c)) (sound_answered _ _ c.self.invariant)

-- src/desk.rt:141:5
pub returns-clause-asker : goal.returns-clause-asker
returns-clause-asker c = ap (option_map (ticket_of c.args.number)) c.in_ok-asker.ensures.value ∙ (sym (find-tickets_of _ c.args.number) ∙ ap (waiting_ticket c.args.number) c.self.view_is)

-- src/desk.rt:141:5
pub returns-clause-after : goal.returns-clause-after
returns-clause-after c = left c ∙ ap (with_answered c.args.number) c.self.view_is

-- src/desk.rt:141:5
pub returns-clause-sound : goal.returns-clause-sound
returns-clause-sound c = subst IsSound (sym (left c)) (sound_answered _ _ c.self.invariant)
