-- Worked rows of MOUNT, computed by the definitions.
use Rattle.std.proofs.Common.{◌≡◌, ℕ, List, [], ◌∷◌, ◌++◌, map, replicate, None, Result, Ok, Err, refl}
use Rattle.std.specs.Prelude.{codes}
use Rattle.gw_model.specs.declared.FileId.{FileId}
use Rattle.xdr.specs.Items.{bool_text, opaque_text, word}
use Rattle.xdr.specs.Rows.{text}
use Rattle.nfs_wire.specs.Results.{MountText, Dump, Export, results_row}
use Rattle.name_tree.specs.declared.edit.Edit.TheVariants.{Make}
use Rattle.name_tree.specs.Tree.{Tree, root_tree, tree_after}
use Rattle.mount_proc.specs.ExportPaths.{directory_of_path}
use Rattle.mount_proc.specs.Mounts.{mnt_judgement, mounts_with, mounts_without, mounts_without_host}

-- the root, in it a directory `d` and a file `f`
tree : Tree
unfolding tree_after
tree =
    tree_after (Make 3 6 1 420 0 0 (codes "f") [] None None None) 0
    (tree_after (Make 3 5 2 493 0 0 (codes "d") [] None None None) 0 root_tree)

dir : ℕ → Result FileId ℕ
dir id = Ok (record { 0 = id })

judged : List ℕ → List (List ℕ) → List (Result FileId ℕ)
unfolding tree directory_of_path
judged export paths = map (directory_of_path tree export) paths

-- paths below the export path `/`
names : judged (codes "/") (codes "/" ∷ codes "//" ∷ codes "/d" ∷ codes "/d/" ∷ []) ≡ dir 3 ∷ dir 3 ∷ dir 5 ∷ dir 5 ∷ []
unfolding judged dir
names = refl

-- neither `.`, `..` nor an empty name is listed in a directory
names_without_file : judged (codes "/") (codes "/none" ∷ codes "/." ∷ codes "/d/.." ∷ codes "//d" ∷ codes "/d//" ∷ codes "///" ∷ [])
    ≡ replicate 6 (Err 2)
unfolding judged
names_without_file = refl

-- a file, and a name behind it
names_of_file : judged (codes "/") (codes "/f" ∷ codes "/f/" ∷ codes "/f/none" ∷ []) ≡ replicate 3 (Err 20)
unfolding judged
names_of_file = refl

-- a name of 255 bytes may stand there, and one of 256 may not, whatever stands behind it
long_names : judged (codes "/") ((47 ∷ replicate 255 97) ∷ (47 ∷ replicate 256 97) ∷ (47 ∷ (replicate 256 97 ++ codes "/d")) ∷ [])
    ≡ Err 2 ∷ Err 63 ∷ Err 63 ∷ []
unfolding judged
long_names = refl

-- an empty path, and one without the slash
paths_elsewhere : judged (codes "/") ([] ∷ codes "d" ∷ []) ≡ replicate 2 (Err 13)
unfolding judged
paths_elsewhere = refl

-- an export path that ends with a slash
export_with_slash : judged (codes "/ex/") (codes "/ex/" ∷ codes "/ex//" ∷ codes "/ex" ∷ codes "/ex/d" ∷ codes "/ex//d" ∷ [])
    ≡ dir 3 ∷ dir 3 ∷ Err 13 ∷ Err 13 ∷ dir 5 ∷ []
unfolding judged dir
export_with_slash = refl

-- one that doesn't
export_without : judged (codes "/ex") (codes "/ex" ∷ codes "/ex/" ∷ codes "/ex//" ∷ codes "/ex/d/" ∷ codes "/exd" ∷ [])
    ≡ dir 3 ∷ dir 3 ∷ Err 2 ∷ dir 5 ∷ Err 13 ∷ []
unfolding judged dir
export_without = refl

-- `h` mounts `/`, and then a path that isn't there
first : mnt_judgement tree (codes "/") [] (codes "h") (codes "/") ≡ dir 3
unfolding tree dir directory_of_path mnt_judgement
first = refl

second : mnt_judgement tree (codes "/") (mounts_with (codes "h") (codes "/") []) (codes "h") (codes "/none") ≡ Err 2
unfolding tree directory_of_path mnt_judgement
second = refl

dumped : text (results_row (Dump (mounts_with (codes "h") (codes "/") [])))
    ≡ 0 ∷ 0 ∷ 0 ∷ 1 ∷ 0 ∷ 0 ∷ 0 ∷ 1 ∷ 104 ∷ 0 ∷ 0 ∷ 0 ∷ 0 ∷ 0 ∷ 0 ∷ 1 ∷ 47 ∷ 0 ∷ 0 ∷ 0 ∷ 0 ∷ 0 ∷ 0 ∷ 0 ∷ []
unfolding bool_text opaque_text word
dumped = refl

exported : text (results_row (Export (codes "/"))) ≡ 0 ∷ 0 ∷ 0 ∷ 1 ∷ 0 ∷ 0 ∷ 0 ∷ 1 ∷ 47 ∷ 0 ∷ 0 ∷ 0 ∷ 0 ∷ 0 ∷ 0 ∷ 0 ∷ 0 ∷ 0 ∷ 0 ∷ 0 ∷ []
unfolding bool_text opaque_text word
exported = refl

-- `h` mounts `/` and `/d`, `g` mounts `/`, `h` mounts `/` again and with another spelling
abbrev pair : ℕ → List ℕ → MountText
pair host path = record { host = host ∷ []; path = path }

abbrev five : List MountText
five =
    mounts_with (codes "h") (codes "//") (mounts_with (codes "h") (codes "/")
    (mounts_with (codes "g") (codes "/") (mounts_with (codes "h") (codes "/d") (mounts_with (codes "h") (codes "/") []))))

listed_once : five ≡ pair 104 (codes "/") ∷ pair 104 (codes "/d") ∷ pair 103 (codes "/") ∷ pair 104 (codes "//") ∷ []
listed_once = refl

one_taken_out : mounts_without (codes "h") (codes "/") five ≡ pair 104 (codes "/d") ∷ pair 103 (codes "/") ∷ pair 104 (codes "//") ∷ []
one_taken_out = refl

host_taken_out : mounts_without_host (codes "h") five ≡ pair 103 (codes "/") ∷ []
host_taken_out = refl

-- the last place is taken, and then only a pair that is listed may be mounted
judged_behind : ℕ → List ℕ → Result FileId ℕ
unfolding tree directory_of_path mnt_judgement
judged_behind count path = mnt_judgement tree (codes "/") (replicate count (pair 104 (codes "/d"))) (codes "h") path

last_place : judged_behind 4095 (codes "/") ≡ dir 3
unfolding dir judged_behind
last_place = refl

no_place : judged_behind 4096 (codes "/") ≡ Err 10006
unfolding judged_behind
no_place = refl

no_place_needed : judged_behind 4096 (codes "/d") ≡ dir 5
unfolding dir judged_behind
no_place_needed = refl

-- the path is judged first
path_judged_first : judged_behind 4096 (codes "/none") ≡ Err 2
unfolding judged_behind
path_judged_first = refl
