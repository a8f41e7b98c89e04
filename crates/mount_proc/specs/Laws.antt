-- What the definitions of MOUNT come to.
use Rattle.std.specs.Prelude.{◌≡◌, ℕ, true, false, List, Ok}
use Rattle.std.specs.Str.{bytes_eq}
use Rattle.gw_model.specs.declared.FileId.{FileId}
use Rattle.nfs_wire.specs.Results.{MountText}
use Rattle.name_tree.specs.Tree.{Tree, is_dir, root}
use Rattle.mount_proc.specs.ExportPaths.{directory_of_path}
use Rattle.mount_proc.specs.Mounts.{is_mount_of, is_mounted, mounts_with, mounts_without, mounts_without_host}

-- The export path names the root.
abbrev pub ExportNamesRoot : Type 0
ExportNamesRoot = (t : Tree) (export : List ℕ) → directory_of_path t export export ≡ Ok (record { 0 = root })

-- What a path names that isn't refused is a directory, where the root is one.
abbrev pub PathsNameDirectories : Type 0
PathsNameDirectories = (t : Tree) (export path : List ℕ) (dir : FileId)
    → is_dir t root ≡ true → directory_of_path t export path ≡ Ok dir → is_dir t dir.0 ≡ true

-- A pair that was mounted is listed.
abbrev pub MountIsListed : Type 0
MountIsListed = (host path : List ℕ) (ms : List MountText) → is_mounted host path (mounts_with host path ms) ≡ true

-- A new pair that is taken out again leaves the list as it was.
abbrev pub UnmountUndoesMount : Type 0
UnmountUndoesMount = (host path : List ℕ) (ms : List MountText)
    → is_mounted host path ms ≡ false → mounts_without host path (mounts_with host path ms) ≡ ms

-- A pair that was taken out isn't listed, nor is any of a host whose pairs were.
abbrev pub UnmountTakesOut : Type 0
UnmountTakesOut = (host path : List ℕ) (ms : List MountText) → is_mounted host path (mounts_without host path ms) ≡ false

abbrev pub HostIsTakenOut : Type 0
HostIsTakenOut = (host path : List ℕ) (ms : List MountText) → is_mounted host path (mounts_without_host host ms) ≡ false

-- Another pair is listed as before, where it isn't of the host whose pairs were taken out.
abbrev pub MountKeepsOthers : Type 0
MountKeepsOthers = (host path : List ℕ) (other : MountText) (ms : List MountText) → is_mount_of host path other ≡ false
    → is_mounted other.host other.path (mounts_with host path ms) ≡ is_mounted other.host other.path ms

abbrev pub UnmountKeepsOthers : Type 0
UnmountKeepsOthers = (host path : List ℕ) (other : MountText) (ms : List MountText) → is_mount_of host path other ≡ false
    → is_mounted other.host other.path (mounts_without host path ms) ≡ is_mounted other.host other.path ms

abbrev pub OtherHostsStay : Type 0
OtherHostsStay = (host : List ℕ) (other : MountText) (ms : List MountText) → bytes_eq other.host host ≡ false
    → is_mounted other.host other.path (mounts_without_host host ms) ≡ is_mounted other.host other.path ms
