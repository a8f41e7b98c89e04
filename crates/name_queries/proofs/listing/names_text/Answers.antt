use Rattle.std.proofs.Common.{◌≡◌, ℕ, ◌∙◌, sym, ap, map, List, Ok}
use Rattle.nfs_wire.specs.declared.res.Entry.{Entry}
use Rattle.nfs_wire.specs.Lengths.{entry_length}
use Rattle.nfs_wire.specs.Views.{entry_view}
use Rattle.name_queries.specs.Listings.{entries_left, entry_room, filled, names_listing, no_part, readdir_listing}
use Rattle.name_queries.specs.Outcomes.{names_view}
use Rattle.name_queries.proofs.Fillings.{listing_made}
use Rattle.name_queries.proofs.listing.names_text.Goals as goal

pub returns-in-Ok-res_text : goal.returns-in-Ok-res_text
unfolding readdir_listing
returns-in-Ok-res_text c =
    let left = entries_left c.args.tree.now.tree c.args.dir.now.file c.args.cookie in
    let gathered : names_view c.in-Ok.names ≡ filled entry_length no_part (entry_room c.args.count) 0 left =
    c.in-Ok.ensures ∙ ap (λ (n : ℕ). filled entry_length no_part n 0 left) c.entry_room.ensures in (
      names_listing (map entry_view c.as_slice.result.now) c.in-Ok.names.eof,
      listing_made names_listing (names_view c.in-Ok.names) _ gathered (sym c.none_fits.ensures ∙ c.if-none_fits.false)
          ∙ ap (λ (es : List Entry). Ok (names_listing (map entry_view es) c.in-Ok.names.eof)) (sym c.as_slice.ensures.value),
      c.in-Ok-res_text.ensures.ok,
    )
