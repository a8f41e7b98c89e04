-- Calls of a map, one after another.
use Rattle.std.specs.Prelude.{Option, Some, None, List, [], ◌∷◌, length, drop, reverse, find, slice_get, IsTrue, IsNone, IsSomeAnd}
use Rattle.std.specs.Option.{option_map}
use Rattle.range_map.specs.declared.entry.Entry.{Entry}
use Rattle.range_map.specs.declared.calls.MapCall.{MapCall}
use Rattle.range_map.specs.declared.calls.MapCall.TheVariants.{Insert, First, PopFirst, SameRange, GiveTicket, LastInMemory, SetPlace, MaxGoal, Len}
use Rattle.range_map.specs.declared.calls.MapAnswer.{MapAnswer}
use Rattle.range_map.specs.declared.calls.MapAnswer.TheVariants.{Done, Lent, Popped, Replaced, Goal, Count}
use Rattle.range_map.specs.Entries.{MayReplace, commit_goal, entry_at, has_range, is_in_memory, is_new, with_entry, with_place_at, with_ticket_at}
use Rattle.range_map.specs.Keys.{entry_key}

-- what a call asks of the entries
abbrev pub MayCall : MapCall → List Entry → Type 0
MayCall (Insert entry) es = IsTrue (is_new entry.number es)
MayCall First es = Unit {0}
MayCall PopFirst es = Unit {0}
MayCall (SameRange offset count) es = Unit {0}
MayCall (GiveTicket offset number level ticket) es = IsSomeAnd (entry_at offset number es) (λ e. IsNone e.ticket)
MayCall LastInMemory es = Unit {0}
MayCall (SetPlace offset number place) es = IsSomeAnd (entry_at offset number es) (λ e. MayReplace e.place place)
MayCall (MaxGoal limit) es = Unit {0}
MayCall Len es = Unit {0}

-- the entries after it
abbrev pub entries_after : MapCall → List Entry → List Entry
entries_after (Insert entry) es = with_entry entry es
entries_after First es = es
entries_after PopFirst es = drop 1 es
entries_after (SameRange offset count) es = es
entries_after (GiveTicket offset number level ticket) es = with_ticket_at offset number level ticket es
entries_after LastInMemory es = es
entries_after (SetPlace offset number place) es = with_place_at offset number place es
entries_after (MaxGoal limit) es = es
entries_after Len es = es

-- the place that an entry has, if there is one
abbrev pub replaced_place : Option Entry → MapAnswer
replaced_place None = Done
replaced_place (Some e) = Replaced e.place

-- what it answers
abbrev pub call_answer : MapCall → List Entry → MapAnswer
call_answer (Insert entry) es = Done
call_answer First es = Lent (option_map entry_key (slice_get es 0))
call_answer PopFirst es = Popped (slice_get es 0)
call_answer (SameRange offset count) es = Lent (option_map entry_key (find (has_range offset count) es))
call_answer (GiveTicket offset number level ticket) es = Done
call_answer LastInMemory es = Lent (option_map entry_key (find is_in_memory (reverse es)))
call_answer (SetPlace offset number place) es = replaced_place (entry_at offset number es)
call_answer (MaxGoal limit) es = Goal (commit_goal limit es)
call_answer Len es = Count (length es)

-- the same of calls one after another
abbrev pub MayCallAll : List MapCall → List Entry → Type 0
MayCallAll [] es = Unit {0}
MayCallAll (call ∷ calls) es = MayCall call es × MayCallAll calls (entries_after call es)

abbrev pub entries_after_all : List MapCall → List Entry → List Entry
entries_after_all [] es = es
entries_after_all (call ∷ calls) es = entries_after_all calls (entries_after call es)

abbrev pub call_answers : List MapCall → List Entry → List MapAnswer
call_answers [] es = []
call_answers (call ∷ calls) es = call_answer call es ∷ call_answers calls (entries_after call es)
