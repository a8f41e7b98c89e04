-- What the procedures that change names and attributes ask of a tree (RFC 1813 sections 3.3.2 and 3.3.8 to 3.3.15).
use Rattle.std.specs.Prelude.{◌≡◌, ℕ, Bool, true, false, List, Option, Some, None, Result, Ok, Err}
use Rattle.gw_model.specs.Statuses as status
use Rattle.rpc_msg.specs.declared.call.Caller.{Caller}
use Rattle.nfs_wire.specs.declared.args.Args.{Args}
use Rattle.nfs_wire.specs.declared.args.Args.TheVariants as args
use Rattle.nfs_wire.specs.declared.args.CreateHow.{CreateHow}
use Rattle.nfs_wire.specs.declared.args.CreateHow.TheVariants as create
use Rattle.name_tree.specs.declared.request.How.{How}
use Rattle.name_tree.specs.declared.request.How.TheVariants.{Unchecked, Guarded, Exclusive}
use Rattle.name_tree.specs.declared.request.NameRequest.{NameRequest}
use Rattle.name_tree.specs.Tree.{Tree}
use Rattle.name_tree.specs.Table.{NameScene, NameJudgement, Refuse, name_judgement, judge_setattr, judge_create, judge_mkdir, judge_symlink, judge_remove, judge_rmdir, judge_rename}
use Rattle.name_queries.specs.declared.found.Found.{Found}
use Rattle.name_queries.specs.Found.{found_file}

abbrev pub how_of : CreateHow → How
how_of (create.Unchecked set) = Unchecked set
how_of (create.Guarded set) = Guarded set
how_of (create.Exclusive verifier) = Exclusive verifier

-- the file of a handle, or the status by which the handle is refused
abbrev pub number_of : Result Found ℕ → Result ℕ ℕ
number_of (Ok found) = Ok found.file
number_of (Err refusal) = Err refusal

abbrev pub file_of : Tree → ℕ → List ℕ → Result ℕ ℕ
file_of t fsid handle = number_of (found_file t fsid handle)

-- A handle that names no file is refused first.
abbrev pub on_file : Result ℕ ℕ → (ℕ → NameJudgement) → NameJudgement
on_file (Err refusal) judge = Refuse refusal
on_file (Ok file) judge = judge file

-- of two handles, the first one's refusal comes first
abbrev pub on_files : Result ℕ ℕ → Result ℕ ℕ → (ℕ → ℕ → NameJudgement) → NameJudgement
on_files first second judge = on_file first (λ file. on_file second (judge file))

-- A changing procedure looks into the call list, and its reply is kept there.
abbrev pub is_changing : Args → Bool
is_changing (args.Setattr handle set guard) = true
is_changing (args.Create place how) = true
is_changing (args.Mkdir place set) = true
is_changing (args.Symlink place set path) = true
is_changing (args.Remove place) = true
is_changing (args.Rmdir place) = true
is_changing (args.Rename old new) = true
is_changing _ = false

-- what a procedure that makes a file, a directory or a link comes to over a tree, whose file system has this number
unfoldable pub making_judgement : NameScene → (fsid moment : ℕ) → Args → NameJudgement
making_judgement s fsid moment (args.Create place how) =
    on_file (file_of s.tree fsid place.dir) (λ dir. judge_create s moment dir place.name (how_of how))
making_judgement s fsid moment (args.Mkdir place set) =
    on_file (file_of s.tree fsid place.dir) (λ dir. judge_mkdir s moment dir place.name set)
making_judgement s fsid moment (args.Symlink place set path) =
    on_file (file_of s.tree fsid place.dir) (λ dir. judge_symlink s moment dir place.name set path)
making_judgement s fsid moment _ = Refuse status.notsupp

-- what a changing procedure comes to
unfoldable pub change_judgement : NameScene → (fsid moment : ℕ) → Args → NameJudgement
change_judgement s fsid moment (args.Setattr handle set guard) =
    on_file (file_of s.tree fsid handle) (λ file. judge_setattr s moment file set guard)
change_judgement s fsid moment (args.Remove place) =
    on_file (file_of s.tree fsid place.dir) (λ dir. judge_remove s dir place.name)
change_judgement s fsid moment (args.Rmdir place) =
    on_file (file_of s.tree fsid place.dir) (λ dir. judge_rmdir s dir place.name)
change_judgement s fsid moment (args.Rename old new) =
    on_files (file_of s.tree fsid old.dir) (file_of s.tree fsid new.dir) (λ dir to. judge_rename s dir old.name to new.name)
change_judgement s fsid moment a = making_judgement s fsid moment a

-- the refusal of a handle, or else this status
abbrev pub refusal_behind : ℕ → Result ℕ ℕ → ℕ
refusal_behind status (Err refusal) = refusal
refusal_behind status (Ok file) = status

-- MKNOD and LINK look at their handles alone, and aren't supported. None for another procedure.
unfoldable pub unsupported_refusal : Tree → (fsid : ℕ) → Args → Option ℕ
unsupported_refusal t fsid (args.Mknod place kind) = Some (refusal_behind status.notsupp (file_of t fsid place.dir))
unsupported_refusal t fsid (args.Link handle place) =
    Some (refusal_behind (refusal_behind status.notsupp (file_of t fsid place.dir)) (file_of t fsid handle))
unsupported_refusal t fsid _ = None

-- who asks, of which tree, and whether it may only be read
abbrev pub scene_of : Tree → Caller → Bool → NameScene
scene_of t c read_only = record { tree = t; caller = c; read_only = read_only }

-- the request has this judgement, or its handles are refused
abbrev pub IsRequest : NameScene → Result NameRequest ℕ → NameJudgement → Type 0
IsRequest s (Ok request) judgement = judgement ≡ name_judgement s request
IsRequest s (Err refusal) judgement = judgement ≡ Refuse refusal

-- so whoever asks
abbrev pub IsRequestBy : Tree → Result NameRequest ℕ → (NameScene → NameJudgement) → Type 0
IsRequestBy t request judgement =
    (c : Caller) (read_only : Bool) → IsRequest (scene_of t c read_only) request (judgement (scene_of t c read_only))
