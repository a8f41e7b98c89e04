-- Where an entry takes a ticket nothing else of it changes.
use Rattle.std.proofs.Common.{◌≡◌, ℕ, Bool, true, false, cond, Some, List, [], ◌∷◌, map, refl, ◌∙◌, ap}
use Rattle.std.specs.List.{list_all}
use Rattle.gw_model.specs.declared.Stable.{Stable}
use Rattle.tickets.specs.Desk.{TicketId}
use Rattle.spill_region.specs.Extents.{Span}
use Rattle.spill.specs.Kept.{KeptExtent, SpillState, extents_of}
use Rattle.range_map.specs.declared.entry.Entry.{Entry}
use Rattle.range_map.specs.Entries.{is_at, with_ticket_at}
use Rattle.pending_writes.specs.Bytes.{entry_bytes}
use Rattle.pending_writes.specs.Extents.{are_live, held_extents, place_extents}
use Rattle.pending_writes.specs.Weights.{entries_weight, weight_here}
use Rattle.pending_writes.specs.Writes.{AreSoundEntries, is_sound_entry, pending_state}

-- what doesn't speak of tickets is the same of an entry that took one, perhaps
same_given : {T : Type 0} (f : Entry → T) (b : Bool) (level : Stable) (ticket : TicketId) (e : Entry) → f (record e { stable = level; ticket = Some ticket }) ≡ f e
    → f (cond b (record e { stable = level; ticket = Some ticket }) e) ≡ f e
same_given f true level ticket e is = is
same_given f false level ticket e is = refl

pub given_held : (offset number : ℕ) (level : Stable) (ticket : TicketId) (es : List Entry) → held_extents (with_ticket_at offset number level ticket es) ≡ held_extents es
given_held offset number level ticket [] = refl
given_held offset number level ticket (e ∷ es) =
    let first = same_given (λ (x : Entry). place_extents x.place) (is_at offset number e) level ticket e refl in
    rw (first, given_held offset number level ticket es) refl

pub given_sized : (offset number : ℕ) (level : Stable) (ticket : TicketId) (es : List Entry) → list_all is_sound_entry (with_ticket_at offset number level ticket es) ≡ list_all is_sound_entry es
given_sized offset number level ticket [] = refl
given_sized offset number level ticket (e ∷ es) =
    let first = same_given is_sound_entry (is_at offset number e) level ticket e refl in
    rw (first, given_sized offset number level ticket es) refl

pub given_bytes : (offset number : ℕ) (level : Stable) (ticket : TicketId) (kept : List KeptExtent) (es : List Entry)
    → map (entry_bytes kept) (with_ticket_at offset number level ticket es) ≡ map (entry_bytes kept) es
given_bytes offset number level ticket kept [] = refl
given_bytes offset number level ticket kept (e ∷ es) =
    let first = same_given (entry_bytes kept) (is_at offset number e) level ticket e refl in
    rw (first, given_bytes offset number level ticket kept es) refl

pub given_weight : (offset number : ℕ) (level : Stable) (ticket : TicketId) (es : List Entry) → entries_weight (with_ticket_at offset number level ticket es) ≡ entries_weight es
given_weight offset number level ticket [] = refl
given_weight offset number level ticket (e ∷ es) =
    let first = same_given weight_here (is_at offset number e) level ticket e refl in
    rw (first, given_weight offset number level ticket es) refl

pub sound-given : (offset number : ℕ) (level : Stable) (ticket : TicketId) (es : List Entry) (s : SpillState) → AreSoundEntries (pending_state es s)
    → AreSoundEntries (pending_state (with_ticket_at offset number level ticket es) s)
sound-given offset number level ticket es s sound = record {
  sized = given_sized offset number level ticket es ∙ sound.sized;
  live = ap (λ (xs : List Span). are_live xs (extents_of s.kept)) (given_held offset number level ticket es) ∙ sound.live;
}
