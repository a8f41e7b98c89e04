-- The file that a handle names, with its attributes (RFC 1813 sections 2.5 and 2.6).
use Rattle.std.specs.Prelude.{ℕ, Bool, not, ◌&&◌, ◌==◌, if◌then◌else◌, List, length, take, drop, bytes_eq}
use Rattle.std.specs.Prelude.{Option, Some, None, Result, Ok, Err}
use Rattle.std.specs.Option.{option_map}
use Rattle.std.specs.Int.{w64, from_be_bytes}
use Rattle.md5.specs.Md5.{md5}
use Rattle.gw_model.specs.Statuses as status
use Rattle.nfs_types.specs.declared.attr.Attr.{Attr}
use Rattle.name_tree.specs.Tree.{Tree}
use Rattle.name_tree.specs.Table.{node_attr}
use Rattle.name_queries.specs.declared.found.Found.{Found}

-- a handle's shape: 32 bytes, of which the last 16 are the digest of the first 16
abbrev pub has_handle_shape : List ℕ → Bool
has_handle_shape bytes = (length bytes == 32) && bytes_eq (md5 (take 16 bytes)) (drop 16 bytes)

-- the two numbers in a handle: the file's, and its file system's
abbrev pub file_number : List ℕ → ℕ
file_number handle = from_be_bytes w64 (take 8 (take 16 handle))

abbrev pub system_number : List ℕ → ℕ
system_number handle = from_be_bytes w64 (drop 8 (take 16 handle))

-- The attributes of a file, with the number of its file system. The tree has them without.
abbrev pub with_system : ℕ → Attr → Attr
with_system fsid a = record a { fsid = fsid }

abbrev pub file_attr : Tree → ℕ → ℕ → Option Attr
file_attr t fsid file = option_map (with_system fsid) (node_attr t file)

abbrev pub found_or_stale : ℕ → Option Attr → Result Found ℕ
found_or_stale file None = Err status.stale
found_or_stale file (Some attr) = Ok (record { file = file; attr = attr })

-- a file of these numbers in the tree of this file system
abbrev pub found_by_numbers : Tree → ℕ → ℕ → ℕ → Result Found ℕ
found_by_numbers t fsid file system =
    if system == fsid then found_or_stale file (file_attr t fsid file) else Err status.stale

-- The file of a handle, or BADHANDLE for bytes that are none, or STALE for a file that the tree of this file system lacks.
unfoldable pub found_file : Tree → ℕ → List ℕ → Result Found ℕ
found_file t fsid handle =
    if not (has_handle_shape handle) then Err status.badhandle
    else found_by_numbers t fsid (file_number handle) (system_number handle)
