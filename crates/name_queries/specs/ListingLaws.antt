-- What listings come to, whatever the directory: facts of the definitions, which the contracts cite.
use Rattle.std.specs.Prelude.{◌≡◌, ◌⊎◌, ◌↔◌, ℕ, ◌≤◌, true, List, [], ◌∷◌, ◌++◌, Ok}
use Rattle.xdr.specs.Rows.{row_length}
use Rattle.nfs_wire.specs.Results.{EntryText, Results, results_row}
use Rattle.name_tree.specs.Tree.{Tree}
use Rattle.name_tree.specs.Flat.{IsSoundTree}
use Rattle.name_queries.specs.declared.found.Found.{Found}
use Rattle.name_queries.specs.Listings.{Filled, bounded_count, entries_left, filled, names_listing, plus_listing}
use Rattle.name_queries.specs.Listings.{readdir_listing, readdirplus_listing}

-- results of no more bytes than a count says, or the empty end of a listing
abbrev pub FitsCount : Results → Results → ℕ → Type 0
FitsCount end results count = (results ≡ end) ⊎ (row_length (results_row results) ≤ bounded_count count)

abbrev pub ReaddirsFit : Type 0
ReaddirsFit =
    (t : Tree) (dir cookie count : ℕ) (results : Results)
    → readdir_listing t dir cookie count ≡ Ok results
    → FitsCount (names_listing [] true) results count

abbrev pub ReaddirplusesFit : Type 0
ReaddirplusesFit =
    (t : Tree) (fsid : ℕ) (d : Found) (cookie dircount maxcount : ℕ) (results : Results)
    → readdirplus_listing t fsid d cookie dircount maxcount ≡ Ok results
    → FitsCount (plus_listing [] true) results maxcount

-- what is gathered are the entries in front, and at the end no entry is left
pub record IsFilled {E : Type 0} (left : List E) (f : Filled E) : Type 0 where
  pub rest : List E
  pub front : left ≡ f.entries ++ rest
  pub end : (f.eof ≡ true) ↔ (rest ≡ [])

abbrev pub FillsTheFront : Type 0 → Type 0
FillsTheFront E =
    (size part : E → ℕ) (room part_room : ℕ) (left : List E)
    → IsFilled left (filled size part room part_room left)

-- A listing that goes on behind an entry goes on with the entry that follows it: none is passed over, and none comes twice.
abbrev pub GoesOnBehind : Type 0
GoesOnBehind =
    (t : Tree) (dir cookie : ℕ) (front rest : List EntryText) (e : EntryText)
    → IsSoundTree t
    → entries_left t dir cookie ≡ front ++ e ∷ rest
    → entries_left t dir e.cookie ≡ rest
