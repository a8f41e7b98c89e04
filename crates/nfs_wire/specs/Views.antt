-- What results are seen as, without where their bytes lie.
use Rattle.std.specs.Prelude.{map}
use Rattle.nfs_wire.specs.declared.res.Res.{Res}
use Rattle.nfs_wire.specs.declared.res.Res.TheVariants as res
use Rattle.nfs_wire.specs.declared.res.Entry.{Entry}
use Rattle.nfs_wire.specs.declared.res.EntryPlus.{EntryPlus}
use Rattle.nfs_wire.specs.declared.res.Mounted.{Mounted}
use Rattle.nfs_wire.specs.Results.{EntryText, EntryPlusText, MountText, Results, Null, Getattr, Setattr, Lookup, Access, Readlink, Create, Mkdir, Symlink, Remove, Rmdir, Rename, Readdir, Readdirplus, Fsstat, Fsinfo, Pathconf, MountNull, Mnt, Dump, Umnt, Umntall, Export, Refused}

abbrev pub entry_view : Entry → EntryText
entry_view e = record { file = e.file; name = e.name.now; cookie = e.cookie }

abbrev pub entry_plus_view : EntryPlus → EntryPlusText
entry_plus_view e = record { entry = entry_view e.entry; attr = e.attr; handle = e.handle }

abbrev pub mount_view : Mounted → MountText
mount_view m = record { host = m.host.now; path = m.path.now }

abbrev pub results_of : Res → Results
results_of res.Null = Null
results_of (res.Getattr attr) = Getattr attr
results_of res.Setattr = Setattr
results_of (res.Lookup handle attr) = Lookup handle attr
results_of (res.Access attr mask) = Access attr mask
results_of (res.Readlink path) = Readlink path.now
results_of (res.Create handle attr) = Create handle attr
results_of (res.Mkdir handle attr) = Mkdir handle attr
results_of (res.Symlink handle attr) = Symlink handle attr
results_of res.Remove = Remove
results_of res.Rmdir = Rmdir
results_of res.Rename = Rename
results_of (res.Readdir verifier entries eof) = Readdir verifier (map entry_view entries.now) eof
results_of (res.Readdirplus verifier entries eof) = Readdirplus verifier (map entry_plus_view entries.now) eof
results_of (res.Fsstat stat) = Fsstat stat
results_of (res.Fsinfo info) = Fsinfo info
results_of (res.Pathconf conf) = Pathconf conf
results_of res.MountNull = MountNull
results_of (res.Mnt handle) = Mnt handle
results_of (res.Dump mounts) = Dump (map mount_view mounts.now)
results_of res.Umnt = Umnt
results_of res.Umntall = Umntall
results_of (res.Export path) = Export path.now
results_of (res.Refused status zeros) = Refused status zeros
