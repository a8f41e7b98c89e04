-- Results whose texts can be spelled: no opaque of theirs has 2^32 bytes or more.
use Rattle.std.specs.Prelude.{ℕ, ◌<◌, ◌^◌, List, length}
use Rattle.std.specs.List.{AllByRecursion}
use Rattle.nfs_wire.specs.Results.{EntryText, EntryPlusText, MountText, Results, Readlink, Readdir, Readdirplus, Dump, Export}

abbrev pub IsShort : List ℕ → Type 0
IsShort v = length v < 2 ^ 32

abbrev pub HasShortName : EntryText → Type 0
HasShortName e = IsShort e.name

abbrev pub HasShortNamePlus : EntryPlusText → Type 0
HasShortNamePlus p = IsShort p.entry.name

abbrev pub IsShortMount : MountText → Type 0
IsShortMount m = IsShort m.host × IsShort m.path

abbrev pub CanBeSpelled : Results → Type 0
CanBeSpelled (Readlink path) = IsShort path
CanBeSpelled (Readdir verifier entries eof) = AllByRecursion HasShortName entries
CanBeSpelled (Readdirplus verifier entries eof) = AllByRecursion HasShortNamePlus entries
CanBeSpelled (Dump mounts) = AllByRecursion IsShortMount mounts
CanBeSpelled (Export path) = IsShort path
CanBeSpelled _ = Unit {0}
