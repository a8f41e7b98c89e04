-- How many bytes an entry of a directory has among results, with the word in front of it.
use Rattle.std.specs.Prelude.{ℕ, ◌∷◌}
use Rattle.xdr.specs.Rows.{Word, row_length}
use Rattle.nfs_wire.specs.Results.{EntryText, EntryPlusText, dir_entry_row, entry_plus_row}

abbrev pub entry_length : EntryText → ℕ
entry_length entry = row_length (Word 1 ∷ dir_entry_row entry)

abbrev pub entry_plus_length : EntryPlusText → ℕ
entry_plus_length plus = row_length (Word 1 ∷ entry_plus_row plus)
