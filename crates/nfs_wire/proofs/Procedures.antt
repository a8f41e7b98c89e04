-- A procedure's arguments are read from exactly their spellings.
use Rattle.std.proofs.Common.{◌≡◌, ℕ, ◌+◌, Bool, true, false, cond, ◌==◌, List, [], ◌∷◌, ◌++◌, length, refl, sym, ap, ◌∙◌, subst, append-nil, Option, Result, Ok}
use Rattle.std.proofs.lemmas.Bool.{eqb-true}
use Rattle.gw_model.specs.declared.Stable.{Stable}
use Rattle.xdr.specs.declared.fault.XdrFault.{XdrFault}
use Rattle.xdr.specs.Reading.{Cursor, Reading, Takes, start, u32_at, u64_at, fixed_at, finish_at}
use Rattle.xdr.proofs.Opaques.{finish_forth, finish_back}
use Rattle.nfs_types.specs.declared.set.SetAttr.{SetAttr}
use Rattle.nfs_types.specs.declared.time.Time.{Time}
use Rattle.xdr.specs.Rows.{Item, Opaque, Spells, text, AllFit, word_row, long_row, option_row}
use Rattle.xdr.specs.Forms.{◌&◌, map_at, constant_at, option_at, arm_at}
use Rattle.xdr.specs.Exact.{IsExact}
use Rattle.nfs_types.specs.Types.{time_row, time_at, set_row, set_at}
use Rattle.xdr.proofs.Texts.{spells_text}
use Rattle.xdr.proofs.Taken.{bind_ok, bind_is, got, got_is, moved, takes_none, none_taken}
use Rattle.xdr.proofs.Exact.{exact_u32, exact_u64, exact_opaque, both, option, made_forth, made_back}
use Rattle.nfs_types.proofs.Types.{exact_time, exact_set}
use Rattle.nfs_wire.specs.declared.args.Args.{Args}
use Rattle.nfs_wire.specs.declared.args.Args.TheVariants as args
use Rattle.nfs_wire.specs.declared.args.DirOp.{DirOp}
use Rattle.nfs_wire.specs.declared.args.CreateHow.{CreateHow}
use Rattle.nfs_wire.specs.declared.args.NodeKind.{NodeKind}
use Rattle.nfs_wire.specs.Programs.{nfs_program, mount_program}
use Rattle.nfs_wire.specs.Arguments.{handle_row, handle_at, path_row, path_at, dir_op_row, dir_op_at, stable_row, stable_at, how_row, how_at, node_row, node_at, args_row, procedure_of, setattr_arguments, setattr_at, access_arguments, access_at, read_arguments, read_at, write_arguments, data_at, write_at, create_arguments, create_at, mkdir_arguments, mkdir_at, symlink_arguments, symlink_at, mknod_arguments, mknod_at, rename_arguments, rename_at, link_arguments, link_arguments_at, readdir_arguments, readdir_at, readdirplus_arguments, readdirplus_at, commit_arguments, commit_at, nfs_arms, mount_arms, arms_of, args_of}
use Rattle.nfs_wire.proofs.Parts.{exact_handle, exact_path, verifier_row, exact_verifier, exact_place, exact_stable, exact_how, exact_node}

-- what this procedure reads is its own, and spelled so
abbrev IsProcedure : ℕ → ℕ → (Cursor → Reading Args) → Type 0
IsProcedure prog k r = (c d : Cursor) (y : Args) → r c ≡ Ok (y, d) → (procedure_of y ≡ (prog, k)) × Takes Spells c (args_row y) d

-- and back
abbrev Reads : (Cursor → Reading Args) → Args → Type 0
Reads r y = (c d : Cursor) → Takes Spells c (args_row y) d → r c ≡ Ok (y, d)

given_procedure : (prog k : ℕ) (x : Args) → procedure_of x ≡ (prog, k) → args_row x ≡ [] → IsProcedure prog k (constant_at x)
given_procedure prog k x a h c d y e =
    let same = got_is x y c d e in
    (ap procedure_of (sym same.0) ∙ a, moved c c d [] (args_row y) (sym h ∙ ap args_row same.0) same.1 (takes_none c c refl))

given_reads : (x : Args) → args_row x ≡ [] → Reads (constant_at x) x
given_reads x h c d t = ap (got x) (none_taken c d (moved c d d (args_row x) [] h refl t))

made_procedure : {A : Type 0} (prog k : ℕ) (make : A → Args) (r : Cursor → Reading A) (p : A → List Item) → IsExact r p → ((x : A) → procedure_of (make x) ≡ (prog, k)) → ((x : A) → args_row (make x) ≡ p x) → IsProcedure prog k (map_at make r)
made_procedure prog k make r p f a h c d y e =
    let x = made_forth make r p f c d y e in
    (ap procedure_of (sym x.1) ∙ a x.0, moved c d d (p x.0) (args_row y) (sym (h x.0) ∙ ap args_row x.1) refl x.2)

made_reads : {A : Type 0} (make : A → Args) (r : Cursor → Reading A) (p : A → List Item) → IsExact r p → (x : A) → args_row (make x) ≡ p x → Reads (map_at make r) (make x)
made_reads make r p f x h c d t = made_back make r p f c d x (moved c d d (args_row (make x)) (p x) h refl t)

-- the parts of each procedure's arguments

abbrev setattr_parts : List ℕ × (SetAttr × Option Time) → List Item
setattr_parts t = handle_row t.0 ++ (set_row t.1.0 ++ option_row time_row t.1.1)

exact_setattr : IsExact (handle_at & set_at & option_at time_at) setattr_parts
exact_setattr = both handle_at _ handle_row _ exact_handle (both set_at (option_at time_at) set_row (option_row time_row) exact_set (option time_at time_row exact_time))

abbrev access_parts : List ℕ × ℕ → List Item
access_parts t = handle_row t.0 ++ word_row t.1

exact_access : IsExact (handle_at & u32_at) access_parts
exact_access = both handle_at u32_at handle_row word_row exact_handle exact_u32

abbrev range_parts : List ℕ × (ℕ × ℕ) → List Item
range_parts t = handle_row t.0 ++ (long_row t.1.0 ++ word_row t.1.1)

exact_range : IsExact (handle_at & u64_at & u32_at) range_parts
exact_range = both handle_at _ handle_row _ exact_handle (both u64_at u32_at long_row word_row exact_u64 exact_u32)

abbrev data_row : List ℕ → List Item
data_row v = Opaque 1048576 v ∷ []

abbrev write_parts : List ℕ × (ℕ × (ℕ × (Stable × List ℕ))) → List Item
write_parts t = handle_row t.0 ++ (long_row t.1.0 ++ (word_row t.1.1.0 ++ (stable_row t.1.1.1.0 ++ data_row t.1.1.1.1)))

exact_write : IsExact (handle_at & u64_at & u32_at & stable_at & data_at) write_parts
exact_write =
    both handle_at _ handle_row _ exact_handle
    (both u64_at _ long_row _ exact_u64
    (both u32_at _ word_row _ exact_u32
    (both stable_at data_at stable_row data_row exact_stable (exact_opaque 1048576))))

abbrev create_parts : DirOp × CreateHow → List Item
create_parts t = dir_op_row t.0 ++ how_row t.1

exact_create : IsExact (dir_op_at & how_at) create_parts
exact_create = both dir_op_at how_at dir_op_row how_row exact_place exact_how

abbrev mkdir_parts : DirOp × SetAttr → List Item
mkdir_parts t = dir_op_row t.0 ++ set_row t.1

exact_mkdir : IsExact (dir_op_at & set_at) mkdir_parts
exact_mkdir = both dir_op_at set_at dir_op_row set_row exact_place exact_set

abbrev symlink_parts : DirOp × (SetAttr × List ℕ) → List Item
symlink_parts t = dir_op_row t.0 ++ (set_row t.1.0 ++ path_row t.1.1)

exact_symlink : IsExact (dir_op_at & set_at & path_at) symlink_parts
exact_symlink = both dir_op_at _ dir_op_row _ exact_place (both set_at path_at set_row path_row exact_set exact_path)

abbrev mknod_parts : DirOp × NodeKind → List Item
mknod_parts t = dir_op_row t.0 ++ node_row t.1

exact_mknod : IsExact (dir_op_at & node_at) mknod_parts
exact_mknod = both dir_op_at node_at dir_op_row node_row exact_place exact_node

abbrev rename_parts : DirOp × DirOp → List Item
rename_parts t = dir_op_row t.0 ++ dir_op_row t.1

exact_rename : IsExact (dir_op_at & dir_op_at) rename_parts
exact_rename = both dir_op_at dir_op_at dir_op_row dir_op_row exact_place exact_place

abbrev link_parts : List ℕ × DirOp → List Item
link_parts t = handle_row t.0 ++ dir_op_row t.1

exact_link : IsExact (handle_at & dir_op_at) link_parts
exact_link = both handle_at dir_op_at handle_row dir_op_row exact_handle exact_place

abbrev readdir_parts : List ℕ × (ℕ × (List ℕ × ℕ)) → List Item
readdir_parts t = handle_row t.0 ++ (long_row t.1.0 ++ (verifier_row t.1.1.0 ++ word_row t.1.1.1))

exact_readdir : IsExact (handle_at & u64_at & fixed_at 8 & u32_at) readdir_parts
exact_readdir = both handle_at _ handle_row _ exact_handle (both u64_at _ long_row _ exact_u64 (both (fixed_at 8) u32_at verifier_row word_row exact_verifier exact_u32))

abbrev readdirplus_parts : List ℕ × (ℕ × (List ℕ × (ℕ × ℕ))) → List Item
readdirplus_parts t = handle_row t.0 ++ (long_row t.1.0 ++ (verifier_row t.1.1.0 ++ (word_row t.1.1.1.0 ++ word_row t.1.1.1.1)))

exact_readdirplus : IsExact (handle_at & u64_at & fixed_at 8 & u32_at & u32_at) readdirplus_parts
exact_readdirplus = both handle_at _ handle_row _ exact_handle (both u64_at _ long_row _ exact_u64 (both (fixed_at 8) _ verifier_row _ exact_verifier (both u32_at u32_at word_row word_row exact_u32 exact_u32)))

-- each number stands for its procedure

abbrev AreProcedures : ℕ → List (ℕ × (Cursor → Reading Args)) → Type 0
AreProcedures prog [] = Unit {0}
AreProcedures prog (arm ∷ arms) = IsProcedure prog arm.0 arm.1 × AreProcedures prog arms

nfs_procedures : AreProcedures nfs_program nfs_arms
unfolding nfs_arms mount_arms setattr_at access_at read_at write_at create_at mkdir_at symlink_at mknod_at rename_at link_arguments_at readdir_at readdirplus_at commit_at
nfs_procedures =
    (given_procedure nfs_program 0 args.Null refl refl, (made_procedure nfs_program 1 args.Getattr handle_at handle_row exact_handle (λ x. refl) (λ x. refl), (made_procedure nfs_program 2 setattr_arguments _ setattr_parts exact_setattr (λ x. refl) (λ x. refl), (made_procedure nfs_program 3 args.Lookup dir_op_at dir_op_row exact_place (λ x. refl) (λ x. refl), (made_procedure nfs_program 4 access_arguments _ access_parts exact_access (λ x. refl) (λ x. refl), (made_procedure nfs_program 5 args.Readlink handle_at handle_row exact_handle (λ x. refl) (λ x. refl), (made_procedure nfs_program 6 read_arguments _ range_parts exact_range (λ x. refl) (λ x. refl), (made_procedure nfs_program 7 write_arguments _ write_parts exact_write (λ x. refl) (λ x. refl), (made_procedure nfs_program 8 create_arguments _ create_parts exact_create (λ x. refl) (λ x. refl), (made_procedure nfs_program 9 mkdir_arguments _ mkdir_parts exact_mkdir (λ x. refl) (λ x. refl), (made_procedure nfs_program 10 symlink_arguments _ symlink_parts exact_symlink (λ x. refl) (λ x. refl), (made_procedure nfs_program 11 mknod_arguments _ mknod_parts exact_mknod (λ x. refl) (λ x. refl), (made_procedure nfs_program 12 args.Remove dir_op_at dir_op_row exact_place (λ x. refl) (λ x. refl), (made_procedure nfs_program 13 args.Rmdir dir_op_at dir_op_row exact_place (λ x. refl) (λ x. refl), (made_procedure nfs_program 14 rename_arguments _ rename_parts exact_rename (λ x. refl) (λ x. refl), (made_procedure nfs_program 15 link_arguments _ link_parts exact_link (λ x. refl) (λ x. refl), (made_procedure nfs_program 16 readdir_arguments _ readdir_parts exact_readdir (λ x. refl) (λ x. refl), (made_procedure nfs_program 17 readdirplus_arguments _ readdirplus_parts exact_readdirplus (λ x. refl) (λ x. refl), (made_procedure nfs_program 18 args.Fsstat handle_at handle_row exact_handle (λ x. refl) (λ x. refl), (made_procedure nfs_program 19 args.Fsinfo handle_at handle_row exact_handle (λ x. refl) (λ x. refl), (made_procedure nfs_program 20 args.Pathconf handle_at handle_row exact_handle (λ x. refl) (λ x. refl), (made_procedure nfs_program 21 commit_arguments _ range_parts exact_range (λ x. refl) (λ x. refl), tt))))))))))))))))))))))

mount_procedures : AreProcedures mount_program mount_arms
unfolding mount_arms
mount_procedures =
    (given_procedure mount_program 0 args.MountNull refl refl, (made_procedure mount_program 1 args.Mnt path_at path_row exact_path (λ x. refl) (λ x. refl), (given_procedure mount_program 2 args.Dump refl refl, (made_procedure mount_program 3 args.Umnt path_at path_row exact_path (λ x. refl) (λ x. refl), (given_procedure mount_program 4 args.Umntall refl refl, (given_procedure mount_program 5 args.Export refl refl, tt))))))

program_procedures : (prog : ℕ) → AreProcedures prog (arms_of prog)
program_procedures prog = go (prog == nfs_program) refl (prog == mount_program) refl where
  go : (n : Bool) → (prog == nfs_program) ≡ n → (m : Bool) → (prog == mount_program) ≡ m → AreProcedures prog (cond n nfs_arms (cond m mount_arms []))
  go true p m q = subst (λ (k : ℕ). AreProcedures k nfs_arms) (sym (eqb-true prog nfs_program p)) nfs_procedures
  go false p true q = subst (λ (k : ℕ). AreProcedures k mount_arms) (sym (eqb-true prog mount_program q)) mount_procedures
  go false p false q = tt

-- what the arm of a number reads
arm_forth : (prog : ℕ) (arms : List (ℕ × (Cursor → Reading Args))) → AreProcedures prog arms → (n place : ℕ) (c d : Cursor) (y : Args) → arm_at arms n place c ≡ Ok (y, d) → (procedure_of y ≡ (prog, n)) × Takes Spells c (args_row y) d
arm_forth prog [] are n place c d y e = cc
arm_forth prog (arm ∷ arms) are n place c d y e = go (n == arm.0) refl e (λ h. arm_forth prog arms are.1 n place c d y h) where
  go : (b : Bool) → (n == arm.0) ≡ b → cond b (arm.1 c) (arm_at arms n place c) ≡ Ok (y, d) → (arm_at arms n place c ≡ Ok (y, d) → (procedure_of y ≡ (prog, n)) × Takes Spells c (args_row y) d) → (procedure_of y ≡ (prog, n)) × Takes Spells c (args_row y) d
  go true p h later = let t = are.0 c d y h in (t.0 ∙ ap (λ (k : ℕ). (prog, k)) (sym (eqb-true n arm.0 p)), t.1)
  go false p h later = later h

-- each value is read by the arm of its procedure
abbrev own_arm : Args → Cursor → Reading Args
own_arm y = arm_at (arms_of (procedure_of y).0) (procedure_of y).1 0

reads : (y : Args) → Reads (own_arm y) y
unfolding nfs_arms mount_arms setattr_at access_at read_at write_at create_at mkdir_at symlink_at mknod_at rename_at link_arguments_at readdir_at readdirplus_at commit_at
reads args.Null = given_reads args.Null refl
reads (args.Getattr h) = made_reads args.Getattr handle_at handle_row exact_handle h refl
reads (args.Setattr h s g) = made_reads setattr_arguments _ setattr_parts exact_setattr (h, (s, g)) refl
reads (args.Lookup p) = made_reads args.Lookup dir_op_at dir_op_row exact_place p refl
reads (args.Access h m) = made_reads access_arguments _ access_parts exact_access (h, m) refl
reads (args.Readlink h) = made_reads args.Readlink handle_at handle_row exact_handle h refl
reads (args.Read h o n) = made_reads read_arguments _ range_parts exact_range (h, (o, n)) refl
reads (args.Write h o n s b) = made_reads write_arguments _ write_parts exact_write (h, (o, (n, (s, b)))) refl
reads (args.Create p h) = made_reads create_arguments _ create_parts exact_create (p, h) refl
reads (args.Mkdir p s) = made_reads mkdir_arguments _ mkdir_parts exact_mkdir (p, s) refl
reads (args.Symlink p s b) = made_reads symlink_arguments _ symlink_parts exact_symlink (p, (s, b)) refl
reads (args.Mknod p k) = made_reads mknod_arguments _ mknod_parts exact_mknod (p, k) refl
reads (args.Remove p) = made_reads args.Remove dir_op_at dir_op_row exact_place p refl
reads (args.Rmdir p) = made_reads args.Rmdir dir_op_at dir_op_row exact_place p refl
reads (args.Rename p q) = made_reads rename_arguments _ rename_parts exact_rename (p, q) refl
reads (args.Link h p) = made_reads link_arguments _ link_parts exact_link (h, p) refl
reads (args.Readdir h k v n) = made_reads readdir_arguments _ readdir_parts exact_readdir (h, (k, (v, n))) refl
reads (args.Readdirplus h k v n m) = made_reads readdirplus_arguments _ readdirplus_parts exact_readdirplus (h, (k, (v, (n, m)))) refl
reads (args.Fsstat h) = made_reads args.Fsstat handle_at handle_row exact_handle h refl
reads (args.Fsinfo h) = made_reads args.Fsinfo handle_at handle_row exact_handle h refl
reads (args.Pathconf h) = made_reads args.Pathconf handle_at handle_row exact_handle h refl
reads (args.Commit h o n) = made_reads commit_arguments _ range_parts exact_range (h, (o, n)) refl
reads args.MountNull = given_reads args.MountNull refl
reads (args.Mnt p) = made_reads args.Mnt path_at path_row exact_path p refl
reads args.Dump = given_reads args.Dump refl
reads (args.Umnt p) = made_reads args.Umnt path_at path_row exact_path p refl
reads args.Umntall = given_reads args.Umntall refl
reads args.Export = given_reads args.Export refl

-- a whole message

abbrev done : Args → Result Args XdrFault
done x = Ok x

ok_is : (x y : Args) → done x ≡ done y → x ≡ y
ok_is x y e = cc

abbrev ends : ℕ → Cursor
ends n = record { place = n; left = [] }

pub args_forth : (prog proc : ℕ) (bytes : List ℕ) (y : Args) → args_of prog proc bytes ≡ Ok y → (procedure_of y ≡ (prog, proc)) × Spells bytes (args_row y)
unfolding args_of
args_forth prog proc bytes y e =
    let a = bind_ok (arm_at (arms_of prog) proc 0 (start bytes)) _ _ e in
    let end = bind_ok (finish_at a.0.1) _ _ a.2 in
    let same = ok_is a.0.0 y end.2 in
    let t = arm_forth prog (arms_of prog) (program_procedures prog) proc 0 (start bytes) a.0.1 a.0.0 a.1 in
    let whole : bytes ≡ t.1.front = t.1.left ∙ ap (λ (k : List ℕ). t.1.front ++ k) (finish_forth a.0.1 end.1) ∙ append-nil t.1.front in
    (ap procedure_of (sym same) ∙ t.0, subst (λ (k : Args). Spells bytes (args_row k)) same (subst (λ (k : List ℕ). Spells k (args_row a.0.0)) (sym whole) t.1.spelled))

pub args_back : (prog proc : ℕ) (bytes : List ℕ) (y : Args) → procedure_of y ≡ (prog, proc) → Spells bytes (args_row y) → args_of prog proc bytes ≡ Ok y
unfolding args_of
args_back prog proc bytes y h s =
    let d = ends (0 + length bytes) in
    let t : Takes Spells (start bytes) (args_row y) d = record { front = bytes; spelled = s; left = sym (append-nil bytes); place = refl } in
    let read : arm_at (arms_of prog) proc 0 (start bytes) ≡ Ok (y, d) = subst (λ (k : ℕ × ℕ). arm_at (arms_of k.0) k.1 0 (start bytes) ≡ Ok (y, d)) h (reads y (start bytes) d t) in
    bind_is (arm_at (arms_of prog) proc 0 (start bytes)) _ (y, d) _ read (bind_is (finish_at d) _ tt _ (finish_back d refl) refl)

pub args_again : (y : Args) → AllFit (args_row y) → args_of (procedure_of y).0 (procedure_of y).1 (text (args_row y)) ≡ Ok y
args_again y fits = args_back (procedure_of y).0 (procedure_of y).1 (text (args_row y)) y refl (spells_text (args_row y) fits)
