-- The history of a closed cell is that of the file that it stood for.
use Rattle.std.proofs.Common.{◌≡◌, ℕ, Bool, ◌&&◌, ◌||◌, List, [], ◌∷◌, map, length, nat_lt, refl, sym, ◌∙◌, ap}
use Rattle.std.specs.Prelude.{is_some, if◌then◌else◌}
use Rattle.std.proofs.Math.Bool.{or-false, or-true}
use Rattle.gw_model.specs.Order.{Accepted, end_of}
use Rattle.gw_model.specs.File.{Entry, File, Side, Writer, entry_of, is_given_up, reach_of}
use Rattle.gw_model.specs.Ending.{EndReason, Closed, Removed, Restarted, Ended, Lost, Stored, Open, WriteLine, History, fate_of, history_of}
use Rattle.admit.specs.Parts.{line_of}
use Rattle.file_cell.specs.declared.closed.Ended as left
use Rattle.file_cell.specs.State.{CellState}
use Rattle.file_cell.specs.Steps.{IsEnded}
use Rattle.file_cell.specs.Files.{StandsFor}
use Rattle.file_cell.specs.History.{history_of_ended, is_over, line_at}

abbrev written : EndReason → File → Accepted → WriteLine
written why f w = record { number = w.number; offset = w.offset; count = length w.bytes; fate = fate_of why f w; place = w.place }

abbrev shown : EndReason → File → List Entry → List WriteLine
shown why f es = map (line_at (is_over (is_some f.writer.failed) why) f.writer.stored) es

module _ (f : File) where
  abbrev by_over : Accepted → Bool → WriteLine
  by_over w over =
      let past = nat_lt f.writer.stored (end_of w) in
      record { number = w.number; offset = w.offset; count = length w.bytes; fate = if is_given_up f.struck w || past && over then Lost else if past then Open else Stored; place = w.place }

  same_line : (why : EndReason) (w : Accepted) → written why f w ≡ line_at (is_over (is_some f.writer.failed) why) f.writer.stored (entry_of f.struck w)
  same_line Closed w = ap (by_over w) (or-false (is_some f.writer.failed))
  same_line Removed w = ap (by_over w) (or-true (is_some f.writer.failed))
  same_line Restarted w = ap (by_over w) (or-false (is_some f.writer.failed))
  same_line Ended w = ap (by_over w) (or-false (is_some f.writer.failed))

  same_lines : (why : EndReason) (ws : List Accepted) → map (written why f) ws ≡ shown why f (map (entry_of f.struck) ws)
  same_lines why [] = refl
  same_lines why (w ∷ ws) =
      ap (λ line. line ∷ map (written why f) ws) (same_line why w) ∙ ap (λ lines. line_at (is_over (is_some f.writer.failed) why) f.writer.stored (entry_of f.struck w) ∷ lines) (same_lines why ws)

abbrev history_with : EndReason → ℕ → Bool → ℕ → List Entry → ℕ → ℕ → History
history_with why from failed stored entries reach synced = record { from = from; writes = map (line_at (is_over failed why) stored) entries; why = why; reach = reach; stored = stored; synced = synced }

abbrev with_writer : EndReason → ℕ → List Entry → ℕ → Writer → History
with_writer why from entries reach w = history_with why from (is_some w.failed) w.stored entries reach w.synced

file_history : (f : File) (why : EndReason) → with_writer why (length f.base) (map (entry_of f.struck) f.accepted) (reach_of f) f.writer ≡ history_of f why
unfolding history_of
file_history f why = ap (λ lines. let h : History = record { from = length f.base; writes = lines; why = why; reach = reach_of f; stored = f.writer.stored; synced = f.writer.synced } in h) (sym (same_lines f why f.accepted))

cell_history : (c : CellState) (e : left.Ended) (why : EndReason) → IsEnded c e → history_of_ended e why ≡ with_writer why c.base c.side.seen.entries c.side.seen.reach c.writer
cell_history c e why is =
    ap (λ n. history_with why n e.failed e.stored (map line_of e.history.items) e.reach e.synced) is.base
    ∙ ap (λ b. history_with why c.base b e.stored (map line_of e.history.items) e.reach e.synced) is.failed
    ∙ ap (λ n. history_with why c.base (is_some c.writer.failed) n (map line_of e.history.items) e.reach e.synced) is.stored
    ∙ ap (λ es. history_with why c.base (is_some c.writer.failed) c.writer.stored es e.reach e.synced) is.history
    ∙ ap (λ n. history_with why c.base (is_some c.writer.failed) c.writer.stored c.side.seen.entries n e.synced) is.reach
    ∙ ap (λ n. history_with why c.base (is_some c.writer.failed) c.writer.stored c.side.seen.entries c.side.seen.reach n) is.synced

pub ended_history : (c : CellState) (e : left.Ended) (f : File) (why : EndReason) → IsEnded c e → StandsFor c f → history_of_ended e why ≡ history_of f why
ended_history c e f why is stands =
    cell_history c e why is
    ∙ ap (λ n. with_writer why n c.side.seen.entries c.side.seen.reach c.writer) stands.base
    ∙ ap (λ (s : Side). with_writer why (length f.base) s.seen.entries s.seen.reach c.writer) stands.side.is
    ∙ ap (with_writer why (length f.base) (map (entry_of f.struck) f.accepted) (reach_of f)) stands.writer
    ∙ file_history f why
