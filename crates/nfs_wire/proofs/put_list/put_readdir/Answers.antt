use Rattle.std.proofs.Common.{map}
use Rattle.xdr.specs.Items.{bool_text}
use Rattle.nfs_wire.specs.Results.{dir_entry_row}
use Rattle.nfs_wire.specs.Views.{entry_view}
use Rattle.nfs_wire.proofs.Loops.{on_ok, listing_written}
use Rattle.nfs_wire.proofs.put_list.put_readdir.Goals as goal

pub returns-clause-ok : goal.returns-clause-ok
unfolding bool_text
returns-clause-ok c =
    let w = c.args.writer.now in
    let w1 = c.put_zeros.new.writer in
    let w2 = c.put_fixed.new.self in
    let w3 = c.put_entries.new.writer in
    let w4 = c.put_bool.new.self in
    on_ok c.put_bool.result _ _ (listing_written dir_entry_row (map entry_view c.args.entries.now) c.args.eof w w1 w2 w3 w4 c.args.verifier.now c.in_ok-put_zeros.ensures c.in_ok-put_fixed.ensures.ok c.in_ok-put_entries.ensures.ok) c.put_bool.ensures.ok
