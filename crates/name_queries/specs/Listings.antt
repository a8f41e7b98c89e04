-- What a directory lists, and how much of it fits (RFC 1813 sections 3.3.16 and 3.3.17).
use Rattle.std.specs.Prelude.{ℕ, zero, suc, ◌-◌, min, nat_le, nat_lt, Bool, true, false, not, ◌&&◌, ◌||◌, ◌==◌, if◌then◌else◌}
use Rattle.std.specs.Prelude.{List, [], ◌∷◌, length, map, replicate, bytes_eq, Option, Some, None, unwrap_or, Result, Ok, Err}
use Rattle.std.specs.List.{filter}
use Rattle.gw_model.specs.Statuses as status
use Rattle.xdr.specs.Rows.{row_length}
use Rattle.xdr.specs.Forms.{◌>>=◌}
use Rattle.nfs_types.specs.declared.attr.Attr.{Attr}
use Rattle.rpc_msg.specs.declared.call.Caller.{Caller}
use Rattle.handles.specs.Handle.{handle_text}
use Rattle.nfs_wire.specs.Lengths.{entry_length, entry_plus_length}
use Rattle.nfs_wire.specs.Results.{EntryText, EntryPlusText, Results, Readdir, Readdirplus, dir_entry_row}
use Rattle.name_tree.specs.Access.{may_at}
use Rattle.name_tree.specs.Directory.{Names}
use Rattle.name_tree.specs.Refusals.{when, ◌>>◌}
use Rattle.name_tree.specs.Tree.{Node, Tree, node, is_directory}
use Rattle.name_queries.specs.declared.found.Found.{Found}
use Rattle.name_queries.specs.Found.{file_attr, found_file}

-- the entries of a directory: itself, its parent, and its names by rising ids, each with its cookie

abbrev pub own_entry : ℕ → EntryText
own_entry dir = record { file = dir; name = 46 ∷ []; cookie = 1 }

abbrev pub parent_entry : ℕ → EntryText
parent_entry parent = record { file = parent; name = 46 ∷ 46 ∷ []; cookie = 2 }

abbrev pub name_entry : ℕ × List ℕ → EntryText
name_entry e = record { file = e.0; name = e.1; cookie = e.0 }

abbrev pub has_greater_id : ℕ → ℕ × List ℕ → Bool
has_greater_id cookie e = nat_lt cookie e.0

abbrev pub names_past : ℕ → Names → List EntryText
names_past cookie names = map name_entry (filter (has_greater_id cookie) names)

-- those with a greater cookie
abbrev pub entries_past : ℕ → ℕ → Node → List EntryText
entries_past dir zero n = own_entry dir ∷ parent_entry n.parent ∷ names_past 2 n.names
entries_past dir (suc zero) n = parent_entry n.parent ∷ names_past 2 n.names
entries_past dir (suc (suc cookie)) n = names_past (suc (suc cookie)) n.names

abbrev pub entries_in : ℕ → ℕ → Option Node → List EntryText
entries_in dir cookie None = []
entries_in dir cookie (Some n) = if is_directory n.attr.kind then entries_past dir cookie n else []

-- what is left of a listing behind a cookie
abbrev pub entries_left : Tree → ℕ → ℕ → List EntryText
entries_left t dir cookie = entries_in dir cookie (node t dir)

-- the entries in front that fit, and whether no entry is left
pub record Filled (E : Type 0) : Type 0 where
  pub entries : List E
  pub eof : Bool

abbrev pub in_front : {E : Type 0} → E → Filled E → Filled E
in_front e f = record { entries = e ∷ f.entries; eof = f.eof }

-- They fit while their bytes are within `room`, and those of their parts within `part_room`.
abbrev pub filled : {E : Type 0} → (E → ℕ) → (E → ℕ) → ℕ → ℕ → List E → Filled E
filled size part room part_room [] = record { entries = []; eof = true }
filled size part room part_room (e ∷ es) =
    if nat_le (size e) room && nat_le (part e) part_room then in_front e (filled size part (room - size e) (part_room - part e) es)
    else record { entries = []; eof = false }

-- an entry is left, and not one fits
abbrev pub none_fits : {E : Type 0} → Filled E → Bool
none_fits f = (length f.entries == 0) && not f.eof

abbrev pub listing : {E : Type 0} → (List E → Bool → Results) → Filled E → Result Results ℕ
listing make f = if none_fits f then Err status.toosmall else Ok (make f.entries f.eof)

-- a count past this one counts as this one
abbrev pub bounded_count : ℕ → ℕ
bounded_count count = min count 1048576

-- the bytes for entries: results with no entry have 24 bytes
abbrev pub entry_room : ℕ → ℕ
entry_room count = bounded_count count - 24

-- the verifier of each listing, which says nothing: entries don't move
abbrev pub cookie_verifier : List ℕ
cookie_verifier = replicate 8 0

-- the beginning, or a cookie with the verifier that each listing gives
abbrev pub is_known_cookie : ℕ → List ℕ → Bool
is_known_cookie cookie verifier = (cookie == 0) || bytes_eq verifier cookie_verifier

-- a directory that the caller may read, and a cookie that is known
abbrev pub listing_refusal : Tree → Caller → Found → ℕ → List ℕ → ℕ
listing_refusal t c d cookie verifier =
    when (not (is_directory d.attr.kind)) status.notdir
    >> when (not (may_at 4 c (node t d.file))) status.acces
    >> when (not (is_known_cookie cookie verifier)) status.bad_cookie

abbrev pub found_unless : ℕ → Found → Result Found ℕ
found_unless zero d = Ok d
found_unless (suc refusal) d = Err (suc refusal)

-- the directory that is listed, or why it isn't
unfoldable pub listed_dir : Tree → ℕ → Caller → List ℕ → ℕ → List ℕ → Result Found ℕ
listed_dir t fsid c handle cookie verifier = do
  d ← found_file t fsid handle
  found_unless (listing_refusal t c d cookie verifier) d

-- READDIR

abbrev pub no_part : EntryText → ℕ
no_part e = 0

abbrev pub names_listing : List EntryText → Bool → Results
names_listing entries eof = Readdir cookie_verifier entries eof

unfoldable pub readdir_listing : Tree → ℕ → ℕ → ℕ → Result Results ℕ
readdir_listing t dir cookie count =
    listing names_listing (filled entry_length no_part (entry_room count) 0 (entries_left t dir cookie))

-- READDIRPLUS

-- An entry with its file's attributes and handle. A file that isn't in the tree would have the directory's attributes.
abbrev pub entry_plus : Tree → ℕ → Attr → EntryText → EntryPlusText
entry_plus t fsid dir_attr e =
    record { entry = e; attr = unwrap_or (file_attr t fsid e.file) dir_attr; handle = handle_text e.file fsid }

-- the part of an entry that is its fileid, name and cookie
abbrev pub name_part : EntryPlusText → ℕ
name_part p = row_length (dir_entry_row p.entry)

abbrev pub plus_listing : List EntryPlusText → Bool → Results
plus_listing entries eof = Readdirplus cookie_verifier entries eof

unfoldable pub readdirplus_listing : Tree → ℕ → Found → ℕ → ℕ → ℕ → Result Results ℕ
readdirplus_listing t fsid d cookie dircount maxcount =
    listing plus_listing (
    filled entry_plus_length name_part (entry_room maxcount) (bounded_count dircount)
    (map (entry_plus t fsid d.attr) (entries_left t d.file cookie)))
