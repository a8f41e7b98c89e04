-- The types of RFC 1813 section 2: the row of each, and how it is read.
use Rattle.std.specs.Prelude.{ℕ, ◌*◌, ◌^◌, ◌-◌, ◌/◌, ◌%◌, min, List, [], ◌∷◌, ◌++◌, Option}
use Rattle.xdr.specs.Reading.{Cursor, Reading, u32_at, u64_at}
use Rattle.nfs_types.specs.declared.time.Time.{Time}
use Rattle.nfs_types.specs.declared.time.SetTime.{SetTime}
use Rattle.nfs_types.specs.declared.time.SetTime.TheVariants.{Leave, Server, At}
use Rattle.nfs_types.specs.declared.set.SetAttr.{SetAttr}
use Rattle.nfs_types.specs.declared.file_type.FileType.{FileType}
use Rattle.nfs_types.specs.declared.file_type.FileType.TheVariants.{Regular, Directory, Block, Character, Link, Socket, Fifo}
use Rattle.nfs_types.specs.declared.attr.Attr.{Attr}
use Rattle.nfs_types.specs.declared.attr.Device.{Device}
use Rattle.xdr.specs.Rows.{Item, Word, Long, word_row, long_row, option_row}
use Rattle.xdr.specs.Forms.{◌&◌, map_at, constant_at, option_at, union_at}

-- nfstime3: seconds and nanoseconds
abbrev pub time_row : Time → List Item
time_row t = Word t.seconds ∷ Word t.nanos ∷ []

abbrev pub time_of : ℕ × ℕ → Time
time_of t = record { seconds = t.0; nanos = t.1 }

unfoldable pub time_at : Cursor → Reading Time
time_at = map_at time_of (u32_at & u32_at)

-- set_atime and set_mtime: leave it, the server's moment, or a time that follows
abbrev pub set_time_row : SetTime → List Item
set_time_row Leave = Word 0 ∷ []
set_time_row Server = Word 1 ∷ []
set_time_row (At t) = Word 2 ∷ time_row t

unfoldable pub set_time_at : Cursor → Reading SetTime
set_time_at = union_at ((0, constant_at Leave) ∷ (1, constant_at Server) ∷ (2, map_at At time_at) ∷ [])

-- sattr3: mode, uid, gid, size, atime and mtime, each where it is to be set
abbrev pub set_row : SetAttr → List Item
set_row s =
    option_row word_row s.mode
    ++ (option_row word_row s.uid
    ++ (option_row word_row s.gid
    ++ (option_row long_row s.size ++ (set_time_row s.atime ++ set_time_row s.mtime))))

abbrev pub set_of : Option ℕ × (Option ℕ × (Option ℕ × (Option ℕ × (SetTime × SetTime)))) → SetAttr
set_of s = record { mode = s.0; uid = s.1.0; gid = s.1.1.0; size = s.1.1.1.0; atime = s.1.1.1.1.0; mtime = s.1.1.1.1.1 }

unfoldable pub set_at : Cursor → Reading SetAttr
set_at = map_at set_of (option_at u32_at & option_at u32_at & option_at u32_at & option_at u64_at & set_time_at & set_time_at)

-- ftype3
abbrev pub type_number : FileType → ℕ
type_number Regular = 1
type_number Directory = 2
type_number Block = 3
type_number Character = 4
type_number Link = 5
type_number Socket = 6
type_number Fifo = 7

abbrev pub type_row : FileType → List Item
type_row t = Word (type_number t) ∷ []

unfoldable pub type_at : Cursor → Reading FileType
type_at =
    union_at (
    (1, constant_at Regular)
    ∷ (2, constant_at Directory)
    ∷ (3, constant_at Block)
    ∷ (4, constant_at Character)
    ∷ (5, constant_at Link)
    ∷ (6, constant_at Socket)
    ∷ (7, constant_at Fifo)
    ∷ [])

-- specdata3: two numbers of a device
abbrev pub device_row : Device → List Item
device_row d = Word d.major ∷ Word d.minor ∷ []

abbrev pub device_of : ℕ × ℕ → Device
device_of d = record { major = d.0; minor = d.1 }

unfoldable pub device_at : Cursor → Reading Device
device_at = map_at device_of (u32_at & u32_at)

-- fattr3: type, mode, nlink, uid, gid, size, used, rdev, fsid, fileid, atime, mtime, ctime
abbrev pub attr_row : Attr → List Item
attr_row a =
    Word (type_number a.kind)
    ∷ Word a.mode
    ∷ Word a.nlink
    ∷ Word a.uid
    ∷ Word a.gid
    ∷ Long a.size
    ∷ Long a.used
    ∷ (device_row a.rdev ++ (Long a.fsid ∷ Long a.fileid ∷ (time_row a.atime ++ (time_row a.mtime ++ time_row a.ctime))))

abbrev pub attr_of : FileType × (ℕ × (ℕ × (ℕ × (ℕ × (ℕ × (ℕ × (Device × (ℕ × (ℕ × (Time × (Time × Time))))))))))) → Attr
attr_of a =
    record {
      kind = a.0;
      mode = a.1.0;
      nlink = a.1.1.0;
      uid = a.1.1.1.0;
      gid = a.1.1.1.1.0;
      size = a.1.1.1.1.1.0;
      used = a.1.1.1.1.1.1.0;
      rdev = a.1.1.1.1.1.1.1.0;
      fsid = a.1.1.1.1.1.1.1.1.0;
      fileid = a.1.1.1.1.1.1.1.1.1.0;
      atime = a.1.1.1.1.1.1.1.1.1.1.0;
      mtime = a.1.1.1.1.1.1.1.1.1.1.1.0;
      ctime = a.1.1.1.1.1.1.1.1.1.1.1.1;
    }

unfoldable pub attr_at : Cursor → Reading Attr
attr_at =
    map_at attr_of (
    type_at & u32_at & u32_at & u32_at & u32_at & u64_at & u64_at & device_at & u64_at & u64_at & time_at & time_at & time_at)

-- a moment in milliseconds as a time; seconds stop at their greatest number
abbrev pub moment_time : ℕ → Time
moment_time m = record { seconds = min (m / 1000) (2 ^ 32 - 1); nanos = m % 1000 * 1000000 }
