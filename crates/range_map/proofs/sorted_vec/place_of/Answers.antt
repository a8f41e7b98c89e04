use Rattle.std.proofs.Common.{◌≡◌, true, false, sym, ◌∙◌}
use Rattle.range_map.specs.Entries.{is_at}
use Rattle.range_map.proofs.SortedEntries.{position-found, position-none}
use Rattle.range_map.proofs.sorted_vec.place_of.Goals as goal

pub unreachable-requires : goal.unreachable-requires
unreachable-requires c =
    let none = position-none (is_at c.args.offset c.args.number) c.args.items.now (sym c.find_place.ensures ∙ c.in-None.is) in
    let no : false ≡ true = rw none at c.requires in
    absurd (cc)

pub returns : goal.returns
returns c = position-found (is_at c.args.offset c.args.number) c.args.items.now c.in-Some.place (sym c.find_place.ensures ∙ c.in-Some.is)
