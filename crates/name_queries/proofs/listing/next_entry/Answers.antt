use Rattle.std.proofs.Common.{◌∙◌, sym, ap}
use Rattle.name_tree.specs.Listing.{lent_name_entry}
use Rattle.name_queries.proofs.DirectoryEntries.{entry_next, entries_end}
use Rattle.name_queries.proofs.listing.next_entry.Goals as goal

pub returns-in-Some-clause-some : goal.returns-in-Some-clause-some
returns-in-Some-clause-some c =
    entry_next c.args.tree.now.tree c.args.dir c.args.cookie _ c.soundness.ensures
    (sym c.list_after.ensures ∙ ap lent_name_entry c.in-Some.is)

pub returns-in-None-clause-none : goal.returns-in-None-clause-none
returns-in-None-clause-none c =
    entries_end c.args.tree.now.tree c.args.dir c.args.cookie (sym c.list_after.ensures ∙ ap lent_name_entry c.in-None.is)
