-- The types' readings are exact.
use Rattle.std.proofs.Common.{ℕ, List, [], ◌∷◌, ◌++◌, refl, Option}
use Rattle.xdr.specs.Reading.{Cursor, Reading, u32_at, u64_at}
use Rattle.nfs_types.specs.declared.time.SetTime.{SetTime}
use Rattle.nfs_types.specs.declared.time.SetTime.TheVariants.{Leave, Server, At}
use Rattle.nfs_types.specs.declared.file_type.FileType.{FileType}
use Rattle.nfs_types.specs.declared.file_type.FileType.TheVariants.{Regular, Directory, Block, Character, Link, Socket, Fifo}
use Rattle.xdr.specs.Rows.{Item, word_row, long_row, option_row}
use Rattle.xdr.specs.Forms.{◌&◌, map_at, constant_at, option_at}
use Rattle.xdr.specs.Exact.{IsExact}
use Rattle.nfs_types.specs.Types.{time_row, time_of, time_at, set_time_row, set_time_at, set_row, set_of, set_at, type_row, type_at, device_row, device_of, device_at, attr_row, attr_of, attr_at}
use Rattle.xdr.proofs.Exact.{exact_u32, exact_u64, both, remade, option, given_arm, made_arm, has_given, has_made, HasArm, union}

abbrev words : IsExact (u32_at & u32_at) (λ (t : ℕ × ℕ). word_row t.0 ++ word_row t.1)
words = both u32_at u32_at word_row word_row exact_u32 exact_u32

pub exact_time : IsExact time_at time_row
unfolding time_at
exact_time = remade time_of (λ t. (t.seconds, t.nanos)) (u32_at & u32_at) (λ t. word_row t.0 ++ word_row t.1) time_row words (λ t. refl) (λ t. refl)

pub exact_device : IsExact device_at device_row
unfolding device_at
exact_device = remade device_of (λ d. (d.major, d.minor)) (u32_at & u32_at) (λ t. word_row t.0 ++ word_row t.1) device_row words (λ d. refl) (λ d. refl)

abbrev set_arms : List (ℕ × (Cursor → Reading SetTime))
set_arms = (0, constant_at Leave) ∷ (1, constant_at Server) ∷ (2, map_at At time_at) ∷ []

set_arm : (t : SetTime) → HasArm set_time_row set_arms t
set_arm Leave = has_given set_time_row set_arms 0 Leave refl (λ place c. refl)
set_arm Server = has_given set_time_row set_arms 1 Server refl (λ place c. refl)
set_arm (At t) = has_made set_time_row set_arms 2 At time_at time_row exact_time t refl (λ place c. refl)

pub exact_set_time : IsExact set_time_at set_time_row
unfolding set_time_at
exact_set_time =
    union set_time_row set_arms (given_arm set_time_row 0 Leave refl, (given_arm set_time_row 1 Server refl, (made_arm set_time_row 2 At time_at time_row exact_time (λ t. refl), tt))) set_arm

abbrev optional_u32 : IsExact (option_at u32_at) (option_row word_row)
optional_u32 = option u32_at word_row exact_u32

abbrev word_option : Option ℕ → List Item
word_option n = option_row word_row n

abbrev long_option : Option ℕ → List Item
long_option n = option_row long_row n

pub exact_set : IsExact set_at set_row
unfolding set_at
exact_set =
    remade set_of (λ s. (s.mode, (s.uid, (s.gid, (s.size, (s.atime, s.mtime)))))) _ _ set_row
    (both (option_at u32_at) _ word_option _ optional_u32
    (both (option_at u32_at) _ word_option _ optional_u32
    (both (option_at u32_at) _ word_option _ optional_u32
    (both (option_at u64_at) _ long_option _ (option u64_at long_row exact_u64)
    (both set_time_at set_time_at set_time_row set_time_row exact_set_time exact_set_time)))))
    (λ s. refl) (λ s. refl)

abbrev types : List (ℕ × (Cursor → Reading FileType))
types = (1, constant_at Regular) ∷ (2, constant_at Directory) ∷ (3, constant_at Block) ∷ (4, constant_at Character) ∷ (5, constant_at Link) ∷ (6, constant_at Socket) ∷ (7, constant_at Fifo) ∷ []

type_arm : (t : FileType) → HasArm type_row types t
type_arm Regular = has_given type_row types 1 Regular refl (λ place c. refl)
type_arm Directory = has_given type_row types 2 Directory refl (λ place c. refl)
type_arm Block = has_given type_row types 3 Block refl (λ place c. refl)
type_arm Character = has_given type_row types 4 Character refl (λ place c. refl)
type_arm Link = has_given type_row types 5 Link refl (λ place c. refl)
type_arm Socket = has_given type_row types 6 Socket refl (λ place c. refl)
type_arm Fifo = has_given type_row types 7 Fifo refl (λ place c. refl)

pub exact_type : IsExact type_at type_row
unfolding type_at
exact_type =
    union type_row types
    (given_arm type_row 1 Regular refl, (given_arm type_row 2 Directory refl, (given_arm type_row 3 Block refl, (given_arm type_row 4 Character refl, (given_arm type_row 5 Link refl, (given_arm type_row 6 Socket refl, (given_arm type_row 7 Fifo refl, tt)))))))
    type_arm

pub exact_attr : IsExact attr_at attr_row
unfolding attr_at
exact_attr =
    remade attr_of (λ a. (a.kind, (a.mode, (a.nlink, (a.uid, (a.gid, (a.size, (a.used, (a.rdev, (a.fsid, (a.fileid, (a.atime, (a.mtime, a.ctime))))))))))))) _ _ attr_row
    (both type_at _ type_row _ exact_type
    (both u32_at _ word_row _ exact_u32
    (both u32_at _ word_row _ exact_u32
    (both u32_at _ word_row _ exact_u32
    (both u32_at _ word_row _ exact_u32
    (both u64_at _ long_row _ exact_u64
    (both u64_at _ long_row _ exact_u64
    (both device_at _ device_row _ exact_device
    (both u64_at _ long_row _ exact_u64
    (both u64_at _ long_row _ exact_u64
    (both time_at _ time_row _ exact_time
    (both time_at time_at time_row time_row exact_time exact_time))))))))))))
    (λ a. refl) (λ a. refl)
