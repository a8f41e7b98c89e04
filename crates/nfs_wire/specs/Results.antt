-- The results of each procedure (RFC 1813 sections 3.3 and 5.2): the row of each, and how it is read. Attributes before a
-- change are never sent: each wcc_data is the words 0, 0.
use Rattle.std.specs.Prelude.{◌≡◌, ◌≢◌, ◌⊎◌, ℕ, ◌-◌, ◌^◌, Bool, ◌==◌, if◌then◌else◌, List, [], ◌∷◌, ◌++◌, Option, Some, None, Result, Ok, Err}
use Rattle.xdr.specs.declared.fault.XdrFault.{XdrFault}
use Rattle.xdr.specs.declared.fault.XdrFault.TheVariants.{BadChoice}
use Rattle.xdr.specs.Reading.{Cursor, Reading, start, u32_at, u64_at, bool_at, fixed_at, opaque_at, finish_at}
use Rattle.nfs_types.specs.declared.attr.Attr.{Attr}
use Rattle.nfs_types.specs.declared.time.Time.{Time}
use Rattle.xdr.specs.Rows.{Item, Word, Long, Fixed, Opaque, flag}
use Rattle.xdr.specs.Forms.{◌>>=◌, ◌&◌, map_at, constant_at}
use Rattle.nfs_types.specs.Types.{time_row, time_at, attr_row, attr_at}
use Rattle.nfs_wire.specs.declared.res.FsStat.{FsStat}
use Rattle.nfs_wire.specs.declared.res.FsInfo.{FsInfo}
use Rattle.nfs_wire.specs.declared.res.PathConf.{PathConf}
use Rattle.nfs_wire.specs.Programs.{nfs_program, mount_program}
use Rattle.nfs_wire.specs.declared.args.Args.{Args}
use Rattle.nfs_wire.specs.Arguments.{handle_item, handle_at, procedure_of}
use Rattle.xdr.specs.Lists.{list_row, list_at, behind_word, nothing_at, zeros_row, zeros_at}

-- an entry of a directory
pub record EntryText : Type 0 where
  pub file : ℕ
  pub name : List ℕ
  pub cookie : ℕ

-- an entry with the attributes and the handle of its file
pub record EntryPlusText : Type 0 where
  pub entry : EntryText
  pub attr : Attr
  pub handle : List ℕ

-- who mounted what
pub record MountText : Type 0 where
  pub host : List ℕ
  pub path : List ℕ

pub data Results : Type 0 where
  -- NFS
  Null : Results
  Getattr : (attr : Attr) → Results
  Setattr : Results
  Lookup : (handle : List ℕ) (attr : Attr) → Results
  Access : (attr : Attr) (mask : ℕ) → Results
  Readlink : (path : List ℕ) → Results
  Read : (count : ℕ) (eof : Bool) (bytes : List ℕ) → Results
  Write : (count committed : ℕ) (verifier : ℕ) → Results
  Create : (handle : List ℕ) (attr : Attr) → Results
  Mkdir : (handle : List ℕ) (attr : Attr) → Results
  Symlink : (handle : List ℕ) (attr : Attr) → Results
  Remove : Results
  Rmdir : Results
  Rename : Results
  Readdir : (verifier : List ℕ) (entries : List EntryText) (eof : Bool) → Results
  Readdirplus : (verifier : List ℕ) (entries : List EntryPlusText) (eof : Bool) → Results
  Fsstat : (stat : FsStat) → Results
  Fsinfo : (info : FsInfo) → Results
  Pathconf : (conf : PathConf) → Results
  Commit : (verifier : ℕ) → Results
  -- MOUNT
  MountNull : Results
  Mnt : (handle : List ℕ) → Results
  Dump : (mounts : List MountText) → Results
  Umnt : Results
  Umntall : Results
  Export : (path : List ℕ) → Results
  -- any status but NFS3_OK, and words of zero
  Refused : (status zeros : ℕ) → Results

-- an opaque of any length that can be spelled
abbrev pub bytes_item : List ℕ → Item
bytes_item v = Opaque (2 ^ 32 - 1) v

abbrev pub bytes_row : List ℕ → List Item
bytes_row v = bytes_item v ∷ []

abbrev pub any_bytes_at : Cursor → Reading (List ℕ)
any_bytes_at = opaque_at (2 ^ 32 - 1)

abbrev pub flag_item : Bool → Item
flag_item b = Word (flag b)

-- the parts of the rows

abbrev pub dir_entry_row : EntryText → List Item
dir_entry_row e = Long e.file ∷ bytes_item e.name ∷ Long e.cookie ∷ []

abbrev pub entry_plus_row : EntryPlusText → List Item
entry_plus_row p = dir_entry_row p.entry ++ (Word 1 ∷ (attr_row p.attr ++ (Word 1 ∷ handle_item p.handle ∷ [])))

abbrev pub mount_row : MountText → List Item
mount_row m = bytes_item m.host ∷ bytes_item m.path ∷ []

-- of CREATE, MKDIR and SYMLINK: handle and attributes, both present, and wcc_data
abbrev pub new_object_row : List ℕ → Attr → List Item
new_object_row handle attr = Word 1 ∷ handle_item handle ∷ Word 1 ∷ (attr_row attr ++ (Word 0 ∷ Word 0 ∷ []))

abbrev pub stat_row : FsStat → List Item
stat_row s = Long s.tbytes ∷ Long s.fbytes ∷ Long s.abytes ∷ Long s.tfiles ∷ Long s.ffiles ∷ Long s.afiles ∷ Word s.invarsec ∷ []

abbrev pub info_row : FsInfo → List Item
info_row i =
    Word i.rtmax
    ∷ Word i.rtpref
    ∷ Word i.rtmult
    ∷ Word i.wtmax
    ∷ Word i.wtpref
    ∷ Word i.wtmult
    ∷ Word i.dtpref
    ∷ Long i.maxfilesize
    ∷ (time_row i.time_delta ++ (Word i.properties ∷ []))

abbrev pub conf_row : PathConf → List Item
conf_row p =
    Word p.linkmax
    ∷ Word p.name_max
    ∷ flag_item p.no_trunc
    ∷ flag_item p.chown_restricted
    ∷ flag_item p.case_insensitive
    ∷ flag_item p.case_preserving
    ∷ []

-- The rows of all procedures. Behind NFS3_OK, which is 0, stands what was asked for.
abbrev pub results_row : Results → List Item
-- NFS
results_row Null = []
results_row (Getattr attr) = Word 0 ∷ attr_row attr
results_row Setattr = Word 0 ∷ Word 0 ∷ Word 0 ∷ []
results_row (Lookup handle attr) = Word 0 ∷ handle_item handle ∷ Word 1 ∷ (attr_row attr ++ (Word 0 ∷ []))
results_row (Access attr mask) = Word 0 ∷ Word 1 ∷ (attr_row attr ++ (Word mask ∷ []))
results_row (Readlink path) = Word 0 ∷ Word 0 ∷ bytes_item path ∷ []
results_row (Read count eof bytes) = Word 0 ∷ Word 0 ∷ Word count ∷ flag_item eof ∷ bytes_item bytes ∷ []
results_row (Write count committed verifier) = Word 0 ∷ Word 0 ∷ Word 0 ∷ Word count ∷ Word committed ∷ Long verifier ∷ []
results_row (Create handle attr) = Word 0 ∷ new_object_row handle attr
results_row (Mkdir handle attr) = Word 0 ∷ new_object_row handle attr
results_row (Symlink handle attr) = Word 0 ∷ new_object_row handle attr
results_row Remove = Word 0 ∷ Word 0 ∷ Word 0 ∷ []
results_row Rmdir = Word 0 ∷ Word 0 ∷ Word 0 ∷ []
results_row Rename = Word 0 ∷ Word 0 ∷ Word 0 ∷ Word 0 ∷ Word 0 ∷ []
results_row (Readdir verifier entries eof) = Word 0 ∷ Word 0 ∷ Fixed 8 verifier ∷ (list_row dir_entry_row entries ++ (flag_item eof ∷ []))
results_row (Readdirplus verifier entries eof) =
    Word 0 ∷ Word 0 ∷ Fixed 8 verifier ∷ (list_row entry_plus_row entries ++ (flag_item eof ∷ []))
results_row (Fsstat stat) = Word 0 ∷ Word 0 ∷ stat_row stat
results_row (Fsinfo info) = Word 0 ∷ Word 0 ∷ info_row info
results_row (Pathconf conf) = Word 0 ∷ Word 0 ∷ conf_row conf
results_row (Commit verifier) = Word 0 ∷ Word 0 ∷ Word 0 ∷ Long verifier ∷ []
-- MOUNT
results_row MountNull = []
results_row (Mnt handle) = Word 0 ∷ handle_item handle ∷ Word 1 ∷ Word 1 ∷ []
results_row (Dump mounts) = list_row mount_row mounts
results_row Umnt = []
results_row Umntall = []
results_row (Export path) = Word 1 ∷ bytes_item path ∷ Word 0 ∷ Word 0 ∷ []
results_row (Refused status zeros) = Word status ∷ zeros_row zeros

-- how the parts are read

abbrev pub dir_entry_of : ℕ × (List ℕ × ℕ) → EntryText
dir_entry_of p = record { file = p.0; name = p.1.0; cookie = p.1.1 }

abbrev pub dir_entry_at : Cursor → Reading EntryText
dir_entry_at = map_at dir_entry_of (u64_at & any_bytes_at & u64_at)

abbrev pub entry_plus_of : EntryText × (Attr × List ℕ) → EntryPlusText
entry_plus_of p = record { entry = p.0; attr = p.1.0; handle = p.1.1 }

abbrev pub entry_plus_at : Cursor → Reading EntryPlusText
entry_plus_at = map_at entry_plus_of (dir_entry_at & behind_word 1 (attr_at & behind_word 1 handle_at))

abbrev pub mount_of : List ℕ × List ℕ → MountText
mount_of p = record { host = p.0; path = p.1 }

abbrev pub mount_at : Cursor → Reading MountText
mount_at = map_at mount_of (any_bytes_at & any_bytes_at)

abbrev pub new_object_at : Cursor → Reading (List ℕ × (Attr × Unit {0}))
new_object_at = behind_word 1 (handle_at & behind_word 1 (attr_at & zeros_at 2))

abbrev pub stat_of : ℕ × (ℕ × (ℕ × (ℕ × (ℕ × (ℕ × ℕ))))) → FsStat
stat_of p =
    record {
      tbytes = p.0;
      fbytes = p.1.0;
      abytes = p.1.1.0;
      tfiles = p.1.1.1.0;
      ffiles = p.1.1.1.1.0;
      afiles = p.1.1.1.1.1.0;
      invarsec = p.1.1.1.1.1.1;
    }

abbrev pub stat_at : Cursor → Reading FsStat
stat_at = map_at stat_of (u64_at & u64_at & u64_at & u64_at & u64_at & u64_at & u32_at)

abbrev pub info_of : ℕ × (ℕ × (ℕ × (ℕ × (ℕ × (ℕ × (ℕ × (ℕ × (Time × ℕ)))))))) → FsInfo
info_of p =
    record {
      rtmax = p.0;
      rtpref = p.1.0;
      rtmult = p.1.1.0;
      wtmax = p.1.1.1.0;
      wtpref = p.1.1.1.1.0;
      wtmult = p.1.1.1.1.1.0;
      dtpref = p.1.1.1.1.1.1.0;
      maxfilesize = p.1.1.1.1.1.1.1.0;
      time_delta = p.1.1.1.1.1.1.1.1.0;
      properties = p.1.1.1.1.1.1.1.1.1;
    }

abbrev pub info_at : Cursor → Reading FsInfo
info_at = map_at info_of (u32_at & u32_at & u32_at & u32_at & u32_at & u32_at & u32_at & u64_at & time_at & u32_at)

abbrev pub conf_of : ℕ × (ℕ × (Bool × (Bool × (Bool × Bool)))) → PathConf
conf_of p =
    record {
      linkmax = p.0;
      name_max = p.1.0;
      no_trunc = p.1.1.0;
      chown_restricted = p.1.1.1.0;
      case_insensitive = p.1.1.1.1.0;
      case_preserving = p.1.1.1.1.1;
    }

abbrev pub conf_at : Cursor → Reading PathConf
conf_at = map_at conf_of (u32_at & u32_at & bool_at & bool_at & bool_at & bool_at)

-- what is made of the parts

abbrev pub lookup_results : List ℕ × (Attr × Unit {0}) → Results
lookup_results p = Lookup p.0 p.1.0

abbrev pub access_results : Attr × ℕ → Results
access_results p = Access p.0 p.1

abbrev pub read_results : ℕ × (Bool × List ℕ) → Results
read_results p = Read p.0 p.1.0 p.1.1

abbrev pub write_results : ℕ × (ℕ × ℕ) → Results
write_results p = Write p.0 p.1.0 p.1.1

abbrev pub create_results : List ℕ × (Attr × Unit {0}) → Results
create_results p = Create p.0 p.1.0

abbrev pub mkdir_results : List ℕ × (Attr × Unit {0}) → Results
mkdir_results p = Mkdir p.0 p.1.0

abbrev pub symlink_results : List ℕ × (Attr × Unit {0}) → Results
symlink_results p = Symlink p.0 p.1.0

abbrev pub readdir_results : List ℕ × (List EntryText × Bool) → Results
readdir_results p = Readdir p.0 p.1.0 p.1.1

abbrev pub readdirplus_results : List ℕ × (List EntryPlusText × Bool) → Results
readdirplus_results p = Readdirplus p.0 p.1.0 p.1.1

abbrev pub mnt_results : List ℕ × Unit {0} → Results
mnt_results p = Mnt p.0

abbrev pub export_results : List ℕ × Unit {0} → Results
export_results p = Export p.0

-- nothing is sent but these words
abbrev pub zeros_only_at : Results → ℕ → Cursor → Reading Results
zeros_only_at results zeros = map_at (λ u. results) (zeros_at zeros)

-- what stands behind NFS3_OK, and how many words of zero behind another status; None where no status is sent
pub record ResultForm : Type 0 where
  pub done : Cursor → Reading Results
  pub refused : Option ℕ

abbrev pub with_status : (Cursor → Reading Results) → ℕ → ResultForm
with_status r zeros = record { done = r; refused = Some zeros }

abbrev pub without_status : (Cursor → Reading Results) → ResultForm
without_status r = record { done = r; refused = None }

-- MKNOD and LINK are always refused.
abbrev pub never_at : Cursor → Reading Results
never_at c = Err (BadChoice c.place)

unfoldable pub nfs_forms : List (ℕ × ResultForm)
nfs_forms =
    (0, without_status (constant_at Null))
    ∷ (1, with_status (map_at Getattr attr_at) 0)
    ∷ (2, with_status (zeros_only_at Setattr 2) 2)
    ∷ (3, with_status (map_at lookup_results (handle_at & behind_word 1 (attr_at & zeros_at 1))) 1)
    ∷ (4, with_status (map_at access_results (behind_word 1 (attr_at & u32_at))) 1)
    ∷ (5, with_status (map_at Readlink (behind_word 0 any_bytes_at)) 1)
    ∷ (6, with_status (map_at read_results (behind_word 0 (u32_at & bool_at & any_bytes_at))) 1)
    ∷ (7, with_status (map_at write_results (behind_word 0 (behind_word 0 (u32_at & u32_at & u64_at)))) 2)
    ∷ (8, with_status (map_at create_results new_object_at) 2)
    ∷ (9, with_status (map_at mkdir_results new_object_at) 2)
    ∷ (10, with_status (map_at symlink_results new_object_at) 2)
    ∷ (11, with_status never_at 2)
    ∷ (12, with_status (zeros_only_at Remove 2) 2)
    ∷ (13, with_status (zeros_only_at Rmdir 2) 2)
    ∷ (14, with_status (zeros_only_at Rename 4) 4)
    ∷ (15, with_status never_at 3)
    ∷ (16, with_status (map_at readdir_results (behind_word 0 (fixed_at 8 & list_at dir_entry_at & bool_at))) 1)
    ∷ (17, with_status (map_at readdirplus_results (behind_word 0 (fixed_at 8 & list_at entry_plus_at & bool_at))) 1)
    ∷ (18, with_status (map_at Fsstat (behind_word 0 stat_at)) 1)
    ∷ (19, with_status (map_at Fsinfo (behind_word 0 info_at)) 1)
    ∷ (20, with_status (map_at Pathconf (behind_word 0 conf_at)) 1)
    ∷ (21, with_status (map_at Commit (behind_word 0 (behind_word 0 u64_at))) 2)
    ∷ []

unfoldable pub mount_forms : List (ℕ × ResultForm)
mount_forms =
    (0, without_status (constant_at MountNull))
    ∷ (1, with_status (map_at mnt_results (handle_at & behind_word 1 (behind_word 1 nothing_at))) 0)
    ∷ (2, without_status (map_at Dump (list_at mount_at)))
    ∷ (3, without_status (constant_at Umnt))
    ∷ (4, without_status (constant_at Umntall))
    ∷ (5, without_status (map_at export_results (behind_word 1 (any_bytes_at & zeros_at 2))))
    ∷ []

abbrev pub forms_of : ℕ → List (ℕ × ResultForm)
forms_of prog = if prog == nfs_program then nfs_forms else if prog == mount_program then mount_forms else []

-- a status, and what stands behind it
abbrev pub by_status : (Cursor → Reading Results) → ℕ → Cursor → Reading Results
by_status r zeros c = do
  status ← u32_at c
  if status.0 == 0 then r status.1 else map_at (λ u. Refused status.0 zeros) (zeros_at zeros) status.1

abbrev pub by_count : (Cursor → Reading Results) → Option ℕ → Cursor → Reading Results
by_count r None c = r c
by_count r (Some zeros) c = by_status r zeros c

abbrev pub form_at : ResultForm → Cursor → Reading Results
form_at a c = by_count a.done a.refused c

abbrev pub find_at : List (ℕ × ResultForm) → ℕ → Cursor → Reading Results
find_at [] proc c = Err (BadChoice c.place)
find_at (a ∷ answers) proc c = if proc == a.0 then form_at a.1 c else find_at answers proc c

-- The results of a procedure: the whole of the bytes. A program or a procedure that isn't known has none.
unfoldable pub results_at : ℕ → ℕ → List ℕ → Result Results XdrFault
results_at prog proc bytes = do
  r ← find_at (forms_of prog) proc (start bytes)
  end ← finish_at r.1
  Ok r.0

-- how many words of zero stand behind a failing status of a procedure
abbrev pub zeros_in : List (ℕ × ResultForm) → ℕ → Option ℕ
zeros_in [] proc = None
zeros_in (a ∷ answers) proc = if proc == a.0 then a.1.refused else zeros_in answers proc

-- how many stand behind a failing status of the procedure that has these arguments
abbrev pub zeros_of : Args → Option ℕ
zeros_of a = zeros_in (forms_of (procedure_of a).0) (procedure_of a).1

-- the procedure whose results these are, where they aren't refused
abbrev pub procedure_of_results : Results → Option (ℕ × ℕ)
procedure_of_results Null = Some (nfs_program, 0)
procedure_of_results (Getattr _) = Some (nfs_program, 1)
procedure_of_results Setattr = Some (nfs_program, 2)
procedure_of_results (Lookup _ _) = Some (nfs_program, 3)
procedure_of_results (Access _ _) = Some (nfs_program, 4)
procedure_of_results (Readlink _) = Some (nfs_program, 5)
procedure_of_results (Read _ _ _) = Some (nfs_program, 6)
procedure_of_results (Write _ _ _) = Some (nfs_program, 7)
procedure_of_results (Create _ _) = Some (nfs_program, 8)
procedure_of_results (Mkdir _ _) = Some (nfs_program, 9)
procedure_of_results (Symlink _ _) = Some (nfs_program, 10)
procedure_of_results Remove = Some (nfs_program, 12)
procedure_of_results Rmdir = Some (nfs_program, 13)
procedure_of_results Rename = Some (nfs_program, 14)
procedure_of_results (Readdir _ _ _) = Some (nfs_program, 16)
procedure_of_results (Readdirplus _ _ _) = Some (nfs_program, 17)
procedure_of_results (Fsstat _) = Some (nfs_program, 18)
procedure_of_results (Fsinfo _) = Some (nfs_program, 19)
procedure_of_results (Pathconf _) = Some (nfs_program, 20)
procedure_of_results (Commit _) = Some (nfs_program, 21)
procedure_of_results MountNull = Some (mount_program, 0)
procedure_of_results (Mnt _) = Some (mount_program, 1)
procedure_of_results (Dump _) = Some (mount_program, 2)
procedure_of_results Umnt = Some (mount_program, 3)
procedure_of_results Umntall = Some (mount_program, 4)
procedure_of_results (Export _) = Some (mount_program, 5)
procedure_of_results (Refused _ _) = None

-- a refusal by this procedure
abbrev pub Refuses : ℕ → ℕ → Results → Type 0
Refuses prog proc results =
    (status : ℕ) × (zeros : ℕ) × (results ≡ Refused status zeros) × (status ≢ 0) × (zeros_in (forms_of prog) proc ≡ Some zeros)

-- These results may be the answer of this procedure.
abbrev pub AnswerOf : ℕ → ℕ → Results → Type 0
AnswerOf prog proc results = (procedure_of_results results ≡ Some (prog, proc)) ⊎ Refuses prog proc results
