use Rattle.std.proofs.Common.{rules, ◌≡◌, not, sym, ◌∙◌, ap, subst}
use Rattle.std.specs.Prelude.{◌==◌}
use Rattle.std.proofs.lemmas.Map.Made.{filter_same_pairs}
use Rattle.tickets.specs.Desk.{with_cancelled, IsSound}
use Rattle.tickets.specs.Entries.{desk_of}
use Rattle.tickets.proofs.Entries.{desk_of-filter}
use Rattle.tickets.proofs.Sound.{sound_cancelled}
use Rattle.tickets.proofs.desk.ReplyDesk.cancel_conn.Goals as goal

-- the map that is left is that of the other connections
left : (c : goal.After-retain) → desk_of c.self.inside.last c.retain.new.self.entries c.self.inside.sent ≡ with_cancelled c.args.conn (desk_of c.self.inside.last c.self.inside.waiting.entries c.self.inside.sent)
left c = desk_of-filter _ _ c.args.conn _ _ (filter_same_pairs _ (λ e. not (e.1.conn == c.args.conn)) _ (λ k v b w f' t. search rules) _ _ c.retain.ensures.filtered)

-- src/desk.rt:156:5
pub invariant_of-self : goal.invariant_of-self
invariant_of-self c = subst IsSound (sym (left c)) (sound_cancelled _ _ c.self.invariant)

-- src/desk.rt:155:5
pub returns-clause-after : goal.returns-clause-after
returns-clause-after c = left c ∙ ap (with_cancelled c.args.conn) c.self.view_is

-- src/desk.rt:155:5
pub returns-clause-sound : goal.returns-clause-sound
returns-clause-sound c = subst IsSound (sym (left c)) (sound_cancelled _ _ c.self.invariant)
