-- The mount list (RFC 1813 section 5): who mounted what, and what each procedure makes of it.
use Rattle.std.specs.Prelude.{◌≡◌, ℕ, ◌≤◌, Bool, false, not, ◌&&◌, ◌||◌, nat_le, if◌then◌else◌}
use Rattle.std.specs.Prelude.{List, [], ◌∷◌, ◌++◌, length, filter, Result, Ok, Err, IsOk}
use Rattle.std.specs.List.{list_any}
use Rattle.std.specs.Str.{bytes_eq}
use Rattle.gw_model.specs.declared.FileId.{FileId}
use Rattle.gw_model.specs.Statuses as status
use Rattle.nfs_wire.specs.Results.{MountText}
use Rattle.name_tree.specs.Tree.{Tree}
use Rattle.mount_proc.specs.declared.refusal.MountRefusal.{MountRefusal}
use Rattle.mount_proc.specs.declared.refusal.MountRefusal.TheVariants.{Status, Memory}
use Rattle.mount_proc.specs.ExportPaths.{directory_of_path, onward_from}

-- the most pairs of host and path
abbrev pub most_mounts : ℕ
most_mounts = 4096

abbrev pub is_mount_of : List ℕ → List ℕ → MountText → Bool
is_mount_of host path m = bytes_eq m.host host && bytes_eq m.path path

-- the pair is listed
abbrev pub is_mounted : List ℕ → List ℕ → List MountText → Bool
is_mounted host path ms = list_any (is_mount_of host path) ms

-- the pair is new, and there is no place for it
abbrev pub has_no_place : List ℕ → List ℕ → List MountText → Bool
has_no_place host path ms = not (is_mounted host path ms) && nat_le most_mounts (length ms)

-- MNT of a path by a host, over a tree and the export path: the directory that is mounted, or a status. The path is judged first.
unfoldable pub mnt_judgement : Tree → List ℕ → List MountText → List ℕ → List ℕ → Result FileId ℕ
mnt_judgement t export ms host path =
    onward_from (directory_of_path t export path) (λ dir. if has_no_place host path ms then Err status.serverfault else Ok dir)

-- A mount that isn't refused lists its pair once, at the end.
abbrev pub mounts_with : List ℕ → List ℕ → List MountText → List MountText
mounts_with host path ms = if is_mounted host path ms then ms else ms ++ record { host = host; path = path } ∷ []

-- UMNT takes the pair out
abbrev pub mounts_without : List ℕ → List ℕ → List MountText → List MountText
mounts_without host path ms = filter (λ m. not (is_mount_of host path m)) ms

-- UMNTALL takes all pairs of the host out
abbrev pub mounts_without_host : List ℕ → List MountText → List MountText
mounts_without_host host ms = filter (λ m. not (bytes_eq m.host host)) ms

-- some pair stands twice
abbrev pub has_pair_twice : List MountText → Bool
has_pair_twice [] = false
has_pair_twice (m ∷ ms) = is_mounted m.host m.path ms || has_pair_twice ms

-- no pair stands twice, and there are at most as many as may be
pub record IsMountList (ms : List MountText) : Type 0 where
  pub few : length ms ≤ most_mounts
  pub once : has_pair_twice ms ≡ false

-- The code's answer to MNT is the judgement. Want of memory comes only in place of listing a new pair.
abbrev pub IsMntAnswer : List ℕ → List ℕ → List MountText → Result FileId ℕ → Result FileId MountRefusal → Type 0
IsMntAnswer host path ms judged (Ok dir) = judged ≡ Ok dir
IsMntAnswer host path ms judged (Err (Status status)) = judged ≡ Err status
IsMntAnswer host path ms judged (Err Memory) = IsOk judged × (is_mounted host path ms ≡ false)
