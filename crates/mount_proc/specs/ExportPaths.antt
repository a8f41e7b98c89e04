-- What the path of a MNT names (RFC 1813 section 5.2.1): the export path, and directories by the names behind it.
use Rattle.std.specs.Prelude.{ℕ, ◌-◌, Bool, ◌||◌, ◌==◌, nat_eq, nat_lt, if◌then◌else◌}
use Rattle.std.specs.Prelude.{List, [], ◌∷◌, ◌++◌, length, take, drop, Option, Some, None, Result, Ok, Err}
use Rattle.std.specs.List.{ends_with, slice_split}
use Rattle.std.specs.Option.{option_map}
use Rattle.std.specs.Str.{bytes_eq}
use Rattle.gw_model.specs.declared.FileId.{FileId}
use Rattle.gw_model.specs.Statuses as status
use Rattle.name_tree.specs.Tree.{Tree, child, is_dir, root}

-- the code of `/`
abbrev pub slash : ℕ
slash = 47

-- a path without the slash that it ends with
abbrev pub without_last_slash : List ℕ → List ℕ
without_last_slash path = if ends_with nat_eq path (slash ∷ []) then take (length path - 1) path else path

-- what stands behind the front of a text; nothing where the text has another front
abbrev pub behind_front : List ℕ → List ℕ → Option (List ℕ)
behind_front front text = if bytes_eq (take (length front) text) front then Some (drop (length front) text) else None

-- the path is the export path; one slash at its end is passed over
abbrev pub is_export_path : List ℕ → List ℕ → Bool
is_export_path export path = bytes_eq path export || bytes_eq (without_last_slash path) export

-- what further names stand behind: the export path and a slash; the export path `/` is its own
abbrev pub front_of_names : List ℕ → List ℕ
front_of_names export = if bytes_eq export (slash ∷ []) then export else export ++ slash ∷ []

-- the names between the slashes of a text; where it is empty, one empty name
abbrev pub names_between : List ℕ → List (List ℕ)
names_between text = slice_split (λ b. b == slash) text

-- the names behind the export path; nothing where the path doesn't lie there
abbrev pub further_names : List ℕ → List ℕ → Option (List (List ℕ))
further_names export path =
    if is_export_path export path then Some []
    else option_map names_between (behind_front (front_of_names export) (without_last_slash path))

-- what a name comes to by what it names
abbrev pub directory_at : Tree → Option ℕ → Result FileId ℕ
directory_at t None = Err status.noent
directory_at t (Some id) = if is_dir t id then Ok (record { 0 = id }) else Err status.notdir

-- the directory that a name of a directory names, or the refusal of that name
abbrev pub named_directory : Tree → FileId → List ℕ → Result FileId ℕ
named_directory t dir name = if nat_lt 255 (length name) then Err status.nametoolong else directory_at t (child t dir.0 name)

-- on from a directory, where nothing was refused on the way to it
abbrev pub onward_from : Result FileId ℕ → (FileId → Result FileId ℕ) → Result FileId ℕ
onward_from (Err status) next = Err status
onward_from (Ok dir) next = next dir

-- the directory that names lead to, one by one; the first refusal decides
abbrev pub directory_by_names : Tree → FileId → List (List ℕ) → Result FileId ℕ
directory_by_names t dir [] = Ok dir
directory_by_names t dir (name ∷ names) = onward_from (named_directory t dir name) (λ next. directory_by_names t next names)

-- names lead on from the root
abbrev pub directory_from_root : Tree → Option (List (List ℕ)) → Result FileId ℕ
directory_from_root t None = Err status.acces
directory_from_root t (Some names) = directory_by_names t (record { 0 = root }) names

-- the directory that a path names, or its refusal
unfoldable pub directory_of_path : Tree → List ℕ → List ℕ → Result FileId ℕ
directory_of_path t export path = directory_from_root t (further_names export path)
