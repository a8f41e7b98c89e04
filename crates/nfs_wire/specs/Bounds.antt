-- How long the parts of arguments may be, in bytes. The data of a WRITE has at most `max_transfer`.
use Rattle.std.specs.Prelude.{ℕ, ◌≤◌, List, length}
use Rattle.gw_model.specs.Bounds.{max_transfer}
use Rattle.nfs_wire.specs.declared.args.Args.{Args}
use Rattle.nfs_wire.specs.declared.args.Args.TheVariants as args
use Rattle.nfs_wire.specs.declared.args.DirOp.{DirOp}

-- a handle (NFS3_FHSIZE of RFC 1813 section 2.4)
abbrev pub longest_handle : ℕ
longest_handle = 64

-- a name, which RFC 1813 leaves open
abbrev pub longest_name : ℕ
longest_name = 4096

-- a path (MNTPATHLEN of RFC 1813 section 5.1.1)
abbrev pub longest_path : ℕ
longest_path = 1024

abbrev pub IsHandleWithin : List ℕ → Type 0
IsHandleWithin handle = length handle ≤ longest_handle

abbrev pub IsPathWithin : List ℕ → Type 0
IsPathWithin path = length path ≤ longest_path

abbrev pub IsPlaceWithin : DirOp → Type 0
IsPlaceWithin place = IsHandleWithin place.dir × (length place.name ≤ longest_name)

-- Each part of these arguments is within its bound.
abbrev pub IsWithin : Args → Type 0
IsWithin args.Null = Unit {0}
IsWithin (args.Getattr handle) = IsHandleWithin handle
IsWithin (args.Setattr handle set guard) = IsHandleWithin handle
IsWithin (args.Lookup place) = IsPlaceWithin place
IsWithin (args.Access handle mask) = IsHandleWithin handle
IsWithin (args.Readlink handle) = IsHandleWithin handle
IsWithin (args.Read handle offset count) = IsHandleWithin handle
IsWithin (args.Write handle offset count level bytes) = IsHandleWithin handle × (length bytes ≤ max_transfer)
IsWithin (args.Create place how) = IsPlaceWithin place
IsWithin (args.Mkdir place set) = IsPlaceWithin place
IsWithin (args.Symlink place set path) = IsPlaceWithin place × IsPathWithin path
IsWithin (args.Mknod place kind) = IsPlaceWithin place
IsWithin (args.Remove place) = IsPlaceWithin place
IsWithin (args.Rmdir place) = IsPlaceWithin place
IsWithin (args.Rename «from» to) = IsPlaceWithin «from» × IsPlaceWithin to
IsWithin (args.Link handle place) = IsHandleWithin handle × IsPlaceWithin place
IsWithin (args.Readdir handle cookie verifier count) = IsHandleWithin handle
IsWithin (args.Readdirplus handle cookie verifier dircount maxcount) = IsHandleWithin handle
IsWithin (args.Fsstat handle) = IsHandleWithin handle
IsWithin (args.Fsinfo handle) = IsHandleWithin handle
IsWithin (args.Pathconf handle) = IsHandleWithin handle
IsWithin (args.Commit handle offset count) = IsHandleWithin handle
IsWithin args.MountNull = Unit {0}
IsWithin (args.Mnt path) = IsPathWithin path
IsWithin args.Dump = Unit {0}
IsWithin (args.Umnt path) = IsPathWithin path
IsWithin args.Umntall = Unit {0}
IsWithin args.Export = Unit {0}
