use Rattle.std.proofs.Common.{sym, ◌∙◌, ap, subst}
use Rattle.tickets.specs.Desk.{with_issued, IsSound}
use Rattle.tickets.proofs.Entries.{desk_of-insert_entry}
use Rattle.tickets.proofs.Sound.{sound_issued}
use Rattle.tickets.proofs.desk.ReplyDesk.issue.Goals as goal

-- src/desk.rt:107:5
pub invariant_of-self-2 : goal.invariant_of-self-2
invariant_of-self-2 c = subst IsSound (sym (desk_of-insert_entry _ _ _ _ _ _ c.self.invariant c.in-Some.ensures.1 c.in-Ok.ensures.entries)) (sound_issued c.args.conn c.args.xid _ c.self.invariant)

-- src/desk.rt:107:5
pub returns-clause-joins : goal.returns-clause-joins
returns-clause-joins c = desk_of-insert_entry _ _ _ _ _ _ c.self.invariant c.in-Some.ensures.1 c.in-Ok.ensures.entries ∙ ap (with_issued c.args.conn c.args.xid) c.self.view_is

-- src/desk.rt:107:5
pub returns-clause-sound : goal.returns-clause-sound
returns-clause-sound c = subst IsSound (sym (desk_of-insert_entry _ _ _ _ _ _ c.self.invariant c.in-Some.ensures.1 c.in-Ok.ensures.entries)) (sound_issued c.args.conn c.args.xid _ c.self.invariant)
