-- The programs and their versions (RFC 1813 sections 3 and 5).
use Rattle.std.specs.Prelude.{ℕ}

abbrev pub nfs_program : ℕ
nfs_program = 100003

abbrev pub mount_program : ℕ
mount_program = 100005

abbrev pub nfs_version : ℕ
nfs_version = 3

abbrev pub mount_version : ℕ
mount_version = 3
