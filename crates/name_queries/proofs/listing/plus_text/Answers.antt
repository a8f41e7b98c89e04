use Rattle.std.proofs.Common.{◌≡◌, ℕ, ◌∙◌, sym, ap, map, List, Ok}
use Rattle.nfs_wire.specs.declared.res.EntryPlus.{EntryPlus}
use Rattle.nfs_wire.specs.Lengths.{entry_plus_length}
use Rattle.nfs_wire.specs.Results.{EntryPlusText}
use Rattle.nfs_wire.specs.Views.{entry_plus_view}
use Rattle.name_queries.specs.Listings.{bounded_count, entries_left, entry_plus, entry_room, filled, name_part, plus_listing, readdirplus_listing}
use Rattle.name_queries.specs.Outcomes.{plus_view}
use Rattle.name_queries.proofs.Fillings.{listing_made}
use Rattle.name_queries.proofs.listing.plus_text.Goals as goal

pub returns-in-Ok-res_text : goal.returns-in-Ok-res_text
unfolding readdirplus_listing
returns-in-Ok-res_text c =
    let t = c.args.tree.now.tree in
    let d = c.args.dir.now in
    let left : List EntryPlusText = map (entry_plus t c.args.fsid d.attr) (entries_left t d.file c.args.cookie) in
    let filling : plus_view c.in-Ok.gathered
    ≡ filled entry_plus_length name_part (entry_room c.args.maxcount) (bounded_count c.args.dircount) left =
    c.in-Ok.ensures
    ∙ ap (λ (n : ℕ). filled entry_plus_length name_part n c.bounded_count-part_room.result left) c.entry_room-room.ensures
    ∙ ap (λ (n : ℕ). filled entry_plus_length name_part (entry_room c.args.maxcount) n left) c.bounded_count-part_room.ensures in (
      plus_listing (map entry_plus_view c.as_slice.result.now) c.in-Ok.gathered.eof,
      listing_made plus_listing (plus_view c.in-Ok.gathered) _ filling (sym c.none_fits.ensures ∙ c.if-none_fits.false)
          ∙ ap (λ (es : List EntryPlus). Ok (plus_listing (map entry_plus_view es) c.in-Ok.gathered.eof)) (sym c.as_slice.ensures.value),
      c.in-Ok-res_text.ensures.ok,
    )
