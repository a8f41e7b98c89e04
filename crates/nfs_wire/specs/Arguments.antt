-- The arguments of each procedure (RFC 1813 sections 3.3 and 5.2): the row of each, and how it is read.
use Rattle.std.specs.Prelude.{ℕ, ◌==◌, if◌then◌else◌, List, [], ◌∷◌, ◌++◌, Option, Result, Ok}
use Rattle.gw_model.specs.Bounds.{max_transfer}
use Rattle.gw_model.specs.declared.Stable.{Stable}
use Rattle.gw_model.specs.declared.Stable.TheVariants.{Unstable, DataSync, FileSync}
use Rattle.xdr.specs.declared.fault.XdrFault.{XdrFault}
use Rattle.xdr.specs.Reading.{Cursor, Reading, start, u32_at, u64_at, fixed_at, opaque_at, finish_at}
use Rattle.nfs_types.specs.declared.set.SetAttr.{SetAttr}
use Rattle.nfs_types.specs.declared.time.Time.{Time}
use Rattle.nfs_types.specs.declared.attr.Device.{Device}
use Rattle.xdr.specs.Rows.{Item, Word, Long, Fixed, Opaque, option_row}
use Rattle.xdr.specs.Forms.{◌>>=◌, ◌&◌, map_at, constant_at, option_at, arm_at, union_at}
use Rattle.nfs_types.specs.Types.{time_row, time_at, set_row, set_at, device_row, device_at}
use Rattle.nfs_wire.specs.Programs.{nfs_program, mount_program}
use Rattle.nfs_wire.specs.Bounds.{longest_handle, longest_name, longest_path}
use Rattle.nfs_wire.specs.declared.args.Args.{Args}
use Rattle.nfs_wire.specs.declared.args.Args.TheVariants as args
use Rattle.nfs_wire.specs.declared.args.DirOp.{DirOp}
use Rattle.nfs_wire.specs.declared.args.CreateHow.{CreateHow}
use Rattle.nfs_wire.specs.declared.args.CreateHow.TheVariants.{Unchecked, Guarded, Exclusive}
use Rattle.nfs_wire.specs.declared.args.NodeKind.{NodeKind}
use Rattle.nfs_wire.specs.declared.args.NodeKind.TheVariants.{Regular, Directory, Block, Character, Link, Socket, Fifo}

-- a handle, a name, a path
abbrev pub handle_item : List ℕ → Item
handle_item v = Opaque longest_handle v

abbrev pub handle_row : List ℕ → List Item
handle_row v = handle_item v ∷ []

abbrev pub handle_at : Cursor → Reading (List ℕ)
handle_at = opaque_at longest_handle

abbrev pub name_row : List ℕ → List Item
name_row v = Opaque longest_name v ∷ []

abbrev pub name_at : Cursor → Reading (List ℕ)
name_at = opaque_at longest_name

abbrev pub path_row : List ℕ → List Item
path_row v = Opaque longest_path v ∷ []

abbrev pub path_at : Cursor → Reading (List ℕ)
path_at = opaque_at longest_path

-- diropargs3: a directory's handle and a name
abbrev pub dir_op_row : DirOp → List Item
dir_op_row p = handle_item p.dir ∷ name_row p.name

abbrev pub dir_op_of : List ℕ × List ℕ → DirOp
dir_op_of p = record { dir = p.0; name = p.1 }

unfoldable pub dir_op_at : Cursor → Reading DirOp
dir_op_at = map_at dir_op_of (handle_at & name_at)

-- stable_how
abbrev pub stable_number : Stable → ℕ
stable_number Unstable = 0
stable_number DataSync = 1
stable_number FileSync = 2

abbrev pub stable_row : Stable → List Item
stable_row s = Word (stable_number s) ∷ []

unfoldable pub stable_at : Cursor → Reading Stable
stable_at = union_at ((0, constant_at Unstable) ∷ (1, constant_at DataSync) ∷ (2, constant_at FileSync) ∷ [])

-- createhow3
abbrev pub how_row : CreateHow → List Item
how_row (Unchecked s) = Word 0 ∷ set_row s
how_row (Guarded s) = Word 1 ∷ set_row s
how_row (Exclusive verifier) = Word 2 ∷ Fixed 8 verifier ∷ []

unfoldable pub how_at : Cursor → Reading CreateHow
how_at = union_at ((0, map_at Unchecked set_at) ∷ (1, map_at Guarded set_at) ∷ (2, map_at Exclusive (fixed_at 8)) ∷ [])

-- mknoddata3
abbrev pub node_row : NodeKind → List Item
node_row Regular = Word 1 ∷ []
node_row Directory = Word 2 ∷ []
node_row (Block s d) = Word 3 ∷ (set_row s ++ device_row d)
node_row (Character s d) = Word 4 ∷ (set_row s ++ device_row d)
node_row Link = Word 5 ∷ []
node_row (Socket s) = Word 6 ∷ set_row s
node_row (Fifo s) = Word 7 ∷ set_row s

abbrev pub block_of : SetAttr × Device → NodeKind
block_of p = Block p.0 p.1

abbrev pub character_of : SetAttr × Device → NodeKind
character_of p = Character p.0 p.1

unfoldable pub node_at : Cursor → Reading NodeKind
node_at =
    union_at (
    (1, constant_at Regular)
    ∷ (2, constant_at Directory)
    ∷ (3, map_at block_of (set_at & device_at))
    ∷ (4, map_at character_of (set_at & device_at))
    ∷ (5, constant_at Link)
    ∷ (6, map_at Socket set_at)
    ∷ (7, map_at Fifo set_at)
    ∷ [])

-- The rows of all procedures.
abbrev pub args_row : Args → List Item
-- NFS
args_row args.Null = []
args_row (args.Getattr handle) = handle_row handle
args_row (args.Setattr handle set guard) = handle_item handle ∷ (set_row set ++ option_row time_row guard)
args_row (args.Lookup place) = dir_op_row place
args_row (args.Access handle mask) = handle_item handle ∷ Word mask ∷ []
args_row (args.Readlink handle) = handle_row handle
args_row (args.Read handle offset count) = handle_item handle ∷ Long offset ∷ Word count ∷ []
args_row (args.Write handle offset count level bytes) =
    handle_item handle ∷ Long offset ∷ Word count ∷ Word (stable_number level) ∷ Opaque max_transfer bytes ∷ []
args_row (args.Create place how) = dir_op_row place ++ how_row how
args_row (args.Mkdir place set) = dir_op_row place ++ set_row set
args_row (args.Symlink place set path) = dir_op_row place ++ (set_row set ++ path_row path)
args_row (args.Mknod place kind) = dir_op_row place ++ node_row kind
args_row (args.Remove place) = dir_op_row place
args_row (args.Rmdir place) = dir_op_row place
args_row (args.Rename «from» to) = dir_op_row «from» ++ dir_op_row to
args_row (args.Link handle place) = handle_item handle ∷ dir_op_row place
args_row (args.Readdir handle cookie verifier count) = handle_item handle ∷ Long cookie ∷ Fixed 8 verifier ∷ Word count ∷ []
args_row (args.Readdirplus handle cookie verifier dircount maxcount) =
    handle_item handle ∷ Long cookie ∷ Fixed 8 verifier ∷ Word dircount ∷ Word maxcount ∷ []
args_row (args.Fsstat handle) = handle_row handle
args_row (args.Fsinfo handle) = handle_row handle
args_row (args.Pathconf handle) = handle_row handle
args_row (args.Commit handle offset count) = handle_item handle ∷ Long offset ∷ Word count ∷ []
-- MOUNT
args_row args.MountNull = []
args_row (args.Mnt path) = path_row path
args_row args.Dump = []
args_row (args.Umnt path) = path_row path
args_row args.Umntall = []
args_row args.Export = []

-- the program and the procedure that have these arguments
abbrev pub procedure_of : Args → ℕ × ℕ
procedure_of args.Null = (nfs_program, 0)
procedure_of (args.Getattr _) = (nfs_program, 1)
procedure_of (args.Setattr _ _ _) = (nfs_program, 2)
procedure_of (args.Lookup _) = (nfs_program, 3)
procedure_of (args.Access _ _) = (nfs_program, 4)
procedure_of (args.Readlink _) = (nfs_program, 5)
procedure_of (args.Read _ _ _) = (nfs_program, 6)
procedure_of (args.Write _ _ _ _ _) = (nfs_program, 7)
procedure_of (args.Create _ _) = (nfs_program, 8)
procedure_of (args.Mkdir _ _) = (nfs_program, 9)
procedure_of (args.Symlink _ _ _) = (nfs_program, 10)
procedure_of (args.Mknod _ _) = (nfs_program, 11)
procedure_of (args.Remove _) = (nfs_program, 12)
procedure_of (args.Rmdir _) = (nfs_program, 13)
procedure_of (args.Rename _ _) = (nfs_program, 14)
procedure_of (args.Link _ _) = (nfs_program, 15)
procedure_of (args.Readdir _ _ _ _) = (nfs_program, 16)
procedure_of (args.Readdirplus _ _ _ _ _) = (nfs_program, 17)
procedure_of (args.Fsstat _) = (nfs_program, 18)
procedure_of (args.Fsinfo _) = (nfs_program, 19)
procedure_of (args.Pathconf _) = (nfs_program, 20)
procedure_of (args.Commit _ _ _) = (nfs_program, 21)
procedure_of args.MountNull = (mount_program, 0)
procedure_of (args.Mnt _) = (mount_program, 1)
procedure_of args.Dump = (mount_program, 2)
procedure_of (args.Umnt _) = (mount_program, 3)
procedure_of args.Umntall = (mount_program, 4)
procedure_of args.Export = (mount_program, 5)

-- how the arguments of more than one part are read

abbrev pub setattr_arguments : List ℕ × (SetAttr × Option Time) → Args
setattr_arguments p = args.Setattr p.0 p.1.0 p.1.1

unfoldable pub setattr_at : Cursor → Reading Args
setattr_at = map_at setattr_arguments (handle_at & set_at & option_at time_at)

abbrev pub access_arguments : List ℕ × ℕ → Args
access_arguments p = args.Access p.0 p.1

unfoldable pub access_at : Cursor → Reading Args
access_at = map_at access_arguments (handle_at & u32_at)

abbrev pub read_arguments : List ℕ × (ℕ × ℕ) → Args
read_arguments p = args.Read p.0 p.1.0 p.1.1

unfoldable pub read_at : Cursor → Reading Args
read_at = map_at read_arguments (handle_at & u64_at & u32_at)

abbrev pub write_arguments : List ℕ × (ℕ × (ℕ × (Stable × List ℕ))) → Args
write_arguments p = args.Write p.0 p.1.0 p.1.1.0 p.1.1.1.0 p.1.1.1.1

abbrev pub data_at : Cursor → Reading (List ℕ)
data_at = opaque_at max_transfer

unfoldable pub write_at : Cursor → Reading Args
write_at = map_at write_arguments (handle_at & u64_at & u32_at & stable_at & data_at)

abbrev pub create_arguments : DirOp × CreateHow → Args
create_arguments p = args.Create p.0 p.1

unfoldable pub create_at : Cursor → Reading Args
create_at = map_at create_arguments (dir_op_at & how_at)

abbrev pub mkdir_arguments : DirOp × SetAttr → Args
mkdir_arguments p = args.Mkdir p.0 p.1

unfoldable pub mkdir_at : Cursor → Reading Args
mkdir_at = map_at mkdir_arguments (dir_op_at & set_at)

abbrev pub symlink_arguments : DirOp × (SetAttr × List ℕ) → Args
symlink_arguments p = args.Symlink p.0 p.1.0 p.1.1

unfoldable pub symlink_at : Cursor → Reading Args
symlink_at = map_at symlink_arguments (dir_op_at & set_at & path_at)

abbrev pub mknod_arguments : DirOp × NodeKind → Args
mknod_arguments p = args.Mknod p.0 p.1

unfoldable pub mknod_at : Cursor → Reading Args
mknod_at = map_at mknod_arguments (dir_op_at & node_at)

abbrev pub rename_arguments : DirOp × DirOp → Args
rename_arguments p = args.Rename p.0 p.1

unfoldable pub rename_at : Cursor → Reading Args
rename_at = map_at rename_arguments (dir_op_at & dir_op_at)

abbrev pub link_arguments : List ℕ × DirOp → Args
link_arguments p = args.Link p.0 p.1

unfoldable pub link_arguments_at : Cursor → Reading Args
link_arguments_at = map_at link_arguments (handle_at & dir_op_at)

abbrev pub readdir_arguments : List ℕ × (ℕ × (List ℕ × ℕ)) → Args
readdir_arguments p = args.Readdir p.0 p.1.0 p.1.1.0 p.1.1.1

unfoldable pub readdir_at : Cursor → Reading Args
readdir_at = map_at readdir_arguments (handle_at & u64_at & fixed_at 8 & u32_at)

abbrev pub readdirplus_arguments : List ℕ × (ℕ × (List ℕ × (ℕ × ℕ))) → Args
readdirplus_arguments p = args.Readdirplus p.0 p.1.0 p.1.1.0 p.1.1.1.0 p.1.1.1.1

unfoldable pub readdirplus_at : Cursor → Reading Args
readdirplus_at = map_at readdirplus_arguments (handle_at & u64_at & fixed_at 8 & u32_at & u32_at)

abbrev pub commit_arguments : List ℕ × (ℕ × ℕ) → Args
commit_arguments p = args.Commit p.0 p.1.0 p.1.1

unfoldable pub commit_at : Cursor → Reading Args
commit_at = map_at commit_arguments (handle_at & u64_at & u32_at)

-- the procedures of NFS and of MOUNT, by their numbers
unfoldable pub nfs_arms : List (ℕ × (Cursor → Reading Args))
nfs_arms =
    (0, constant_at args.Null)
    ∷ (1, map_at args.Getattr handle_at)
    ∷ (2, setattr_at)
    ∷ (3, map_at args.Lookup dir_op_at)
    ∷ (4, access_at)
    ∷ (5, map_at args.Readlink handle_at)
    ∷ (6, read_at)
    ∷ (7, write_at)
    ∷ (8, create_at)
    ∷ (9, mkdir_at)
    ∷ (10, symlink_at)
    ∷ (11, mknod_at)
    ∷ (12, map_at args.Remove dir_op_at)
    ∷ (13, map_at args.Rmdir dir_op_at)
    ∷ (14, rename_at)
    ∷ (15, link_arguments_at)
    ∷ (16, readdir_at)
    ∷ (17, readdirplus_at)
    ∷ (18, map_at args.Fsstat handle_at)
    ∷ (19, map_at args.Fsinfo handle_at)
    ∷ (20, map_at args.Pathconf handle_at)
    ∷ (21, commit_at)
    ∷ []

unfoldable pub mount_arms : List (ℕ × (Cursor → Reading Args))
mount_arms =
    (0, constant_at args.MountNull)
    ∷ (1, map_at args.Mnt path_at)
    ∷ (2, constant_at args.Dump)
    ∷ (3, map_at args.Umnt path_at)
    ∷ (4, constant_at args.Umntall)
    ∷ (5, constant_at args.Export)
    ∷ []

abbrev pub arms_of : ℕ → List (ℕ × (Cursor → Reading Args))
arms_of prog = if prog == nfs_program then nfs_arms else if prog == mount_program then mount_arms else []

-- The arguments of a procedure: the whole of the bytes. A program or a procedure that isn't known has none.
unfoldable pub args_of : ℕ → ℕ → List ℕ → Result Args XdrFault
args_of prog proc bytes = do
  a ← arm_at (arms_of prog) proc 0 (start bytes)
  end ← finish_at a.1
  Ok a.0
