-- A procedure's results are read from exactly their spellings.
use Rattle.std.proofs.Common.{inl, inr, ◌≡◌, ◌≢◌, ℕ, ◌+◌, Bool, true, false, cond, ◌==◌, List, [], ◌∷◌, ◌++◌, length, refl, sym, ap, ◌∙◌, subst, append-nil, Option, Some, None, Result, Ok}
use Rattle.std.proofs.lemmas.Bool.{eqb-true, eqb-false, ne_eqb}
use Rattle.xdr.specs.declared.fault.XdrFault.{XdrFault}
use Rattle.xdr.specs.Reading.{Cursor, Reading, Takes, start, u32_at, u64_at, bool_at, fixed_at, finish_at}
use Rattle.xdr.proofs.Opaques.{finish_forth, finish_back}
use Rattle.nfs_types.specs.declared.attr.Attr.{Attr}
use Rattle.xdr.specs.Rows.{Item, Word, Spells, text, AllFit, word_row, long_row}
use Rattle.xdr.specs.Forms.{◌&◌, map_at, constant_at}
use Rattle.xdr.specs.Exact.{IsExact}
use Rattle.nfs_types.specs.Types.{time_row, time_at, attr_row, attr_at}
use Rattle.xdr.proofs.Texts.{spells_text}
use Rattle.xdr.proofs.Taken.{bind_ok, bind_is, got, got_is, moved, takes_none, none_taken, takes_then, takes_parts}
use Rattle.xdr.proofs.Exact.{exact_u32, exact_u64, flag_row, exact_bool, exact_opaque, both, remade, made_forth, made_back}
use Rattle.nfs_types.proofs.Types.{exact_time, exact_attr}
use Rattle.nfs_wire.specs.Programs.{nfs_program, mount_program}
use Rattle.nfs_wire.specs.Arguments.{handle_row, handle_at}
use Rattle.xdr.specs.Lists.{list_row, list_at, behind_word, nothing_at, zeros_row, zeros_at}
use Rattle.nfs_wire.specs.Results as results
use Rattle.nfs_wire.specs.Results.{EntryText, EntryPlusText, MountText, Results, bytes_row, any_bytes_at, dir_entry_row, entry_plus_row, mount_row, new_object_row, stat_row, info_row, conf_row, results_row, dir_entry_of, dir_entry_at, entry_plus_of, entry_plus_at, mount_of, mount_at, new_object_at, stat_of, stat_at, info_of, info_at, conf_of, conf_at, lookup_results, access_results, read_results, write_results, create_results, mkdir_results, symlink_results, readdir_results, readdirplus_results, mnt_results, export_results, zeros_only_at, ResultForm, with_status, without_status, never_at, nfs_forms, mount_forms, forms_of, by_status, by_count, form_at, find_at, results_at, zeros_in, procedure_of_results, Refuses, AnswerOf}
use Rattle.nfs_wire.proofs.Parts.{exact_handle, verifier_row, exact_verifier}
use Rattle.xdr.proofs.Lists.{exact_after, exact_nothing, exact_zeros, exact_list}

-- the parts

abbrev none_row : Unit {0} → List Item
none_row u = []

exact_bytes : IsExact any_bytes_at bytes_row
exact_bytes = exact_opaque 4294967295

exact_listed : IsExact dir_entry_at dir_entry_row
exact_listed =
    remade dir_entry_of (λ e. (e.file, (e.name, e.cookie))) (u64_at & any_bytes_at & u64_at) (λ t. long_row t.0 ++ (bytes_row t.1.0 ++ long_row t.1.1)) dir_entry_row
    (both u64_at _ long_row _ exact_u64 (both any_bytes_at u64_at bytes_row long_row exact_bytes exact_u64))
    (λ e. refl) (λ t. refl)

abbrev handle_behind : List ℕ → List Item
handle_behind h = Word 1 ∷ handle_row h

abbrev plus_behind : Attr × List ℕ → List Item
plus_behind t = Word 1 ∷ (attr_row t.0 ++ handle_behind t.1)

exact_plus_behind : IsExact (behind_word 1 (attr_at & behind_word 1 handle_at)) plus_behind
exact_plus_behind = exact_after 1 (attr_at & behind_word 1 handle_at) (λ t. attr_row t.0 ++ handle_behind t.1) (both attr_at (behind_word 1 handle_at) attr_row handle_behind exact_attr (exact_after 1 handle_at handle_row exact_handle))

exact_plus : IsExact entry_plus_at entry_plus_row
exact_plus =
    remade entry_plus_of (λ p. (p.entry, (p.attr, p.handle))) (dir_entry_at & behind_word 1 (attr_at & behind_word 1 handle_at)) (λ t. dir_entry_row t.0 ++ plus_behind t.1) entry_plus_row
    (both dir_entry_at (behind_word 1 (attr_at & behind_word 1 handle_at)) dir_entry_row plus_behind exact_listed exact_plus_behind)
    (λ p. refl) (λ t. refl)

exact_mounted : IsExact mount_at mount_row
exact_mounted =
    remade mount_of (λ m. (m.host, m.path)) (any_bytes_at & any_bytes_at) (λ t. bytes_row t.0 ++ bytes_row t.1) mount_row (both any_bytes_at any_bytes_at bytes_row bytes_row exact_bytes exact_bytes) (λ m. refl) (λ t. refl)

exact_stat : IsExact stat_at stat_row
exact_stat =
    remade stat_of (λ s. (s.tbytes, (s.fbytes, (s.abytes, (s.tfiles, (s.ffiles, (s.afiles, s.invarsec))))))) _ _ stat_row
    (both u64_at _ long_row _ exact_u64
    (both u64_at _ long_row _ exact_u64
    (both u64_at _ long_row _ exact_u64
    (both u64_at _ long_row _ exact_u64
    (both u64_at _ long_row _ exact_u64
    (both u64_at u32_at long_row word_row exact_u64 exact_u32))))))
    (λ s. refl) (λ t. refl)

exact_info : IsExact info_at info_row
exact_info =
    remade info_of (λ i. (i.rtmax, (i.rtpref, (i.rtmult, (i.wtmax, (i.wtpref, (i.wtmult, (i.dtpref, (i.maxfilesize, (i.time_delta, i.properties)))))))))) _ _ info_row
    (both u32_at _ word_row _ exact_u32
    (both u32_at _ word_row _ exact_u32
    (both u32_at _ word_row _ exact_u32
    (both u32_at _ word_row _ exact_u32
    (both u32_at _ word_row _ exact_u32
    (both u32_at _ word_row _ exact_u32
    (both u32_at _ word_row _ exact_u32
    (both u64_at _ long_row _ exact_u64
    (both time_at u32_at time_row word_row exact_time exact_u32)))))))))
    (λ i. refl) (λ t. refl)

exact_conf : IsExact conf_at conf_row
exact_conf =
    remade conf_of (λ p. (p.linkmax, (p.name_max, (p.no_trunc, (p.chown_restricted, (p.case_insensitive, p.case_preserving)))))) _ _ conf_row
    (both u32_at _ word_row _ exact_u32
    (both u32_at _ word_row _ exact_u32
    (both bool_at _ flag_row _ exact_bool
    (both bool_at _ flag_row _ exact_bool
    (both bool_at bool_at flag_row flag_row exact_bool exact_bool)))))
    (λ p. refl) (λ t. refl)

-- attributes, and a number of words of zero
abbrev attr_zeros : ℕ → Attr × Unit {0} → List Item
attr_zeros n t = Word 1 ∷ (attr_row t.0 ++ zeros_row n)

exact_attr_zeros : (n : ℕ) → IsExact (behind_word 1 (attr_at & zeros_at n)) (attr_zeros n)
exact_attr_zeros n = exact_after 1 (attr_at & zeros_at n) (λ t. attr_row t.0 ++ zeros_row n) (both attr_at (zeros_at n) attr_row (λ u. zeros_row n) exact_attr (exact_zeros n))

abbrev handle_attr : ℕ → List ℕ × (Attr × Unit {0}) → List Item
handle_attr n t = handle_row t.0 ++ attr_zeros n t.1

exact_handle_attr : (n : ℕ) → IsExact (handle_at & behind_word 1 (attr_at & zeros_at n)) (handle_attr n)
exact_handle_attr n = both handle_at (behind_word 1 (attr_at & zeros_at n)) handle_row (attr_zeros n) exact_handle (exact_attr_zeros n)

abbrev made_parts : List ℕ × (Attr × Unit {0}) → List Item
made_parts t = Word 1 ∷ handle_attr 2 t

exact_made : IsExact new_object_at made_parts
exact_made = exact_after 1 (handle_at & behind_word 1 (attr_at & zeros_at 2)) (handle_attr 2) (exact_handle_attr 2)

abbrev access_parts : Attr × ℕ → List Item
access_parts t = Word 1 ∷ (attr_row t.0 ++ word_row t.1)

exact_access : IsExact (behind_word 1 (attr_at & u32_at)) access_parts
exact_access = exact_after 1 (attr_at & u32_at) (λ t. attr_row t.0 ++ word_row t.1) (both attr_at u32_at attr_row word_row exact_attr exact_u32)

abbrev path_parts : List ℕ → List Item
path_parts v = Word 0 ∷ bytes_row v

exact_path : IsExact (behind_word 0 any_bytes_at) path_parts
exact_path = exact_after 0 any_bytes_at bytes_row exact_bytes

abbrev read_parts : ℕ × (Bool × List ℕ) → List Item
read_parts t = Word 0 ∷ (word_row t.0 ++ (flag_row t.1.0 ++ bytes_row t.1.1))

exact_read : IsExact (behind_word 0 (u32_at & bool_at & any_bytes_at)) read_parts
exact_read =
    exact_after 0 (u32_at & bool_at & any_bytes_at) (λ t. word_row t.0 ++ (flag_row t.1.0 ++ bytes_row t.1.1)) (both u32_at _ word_row _ exact_u32 (both bool_at any_bytes_at flag_row bytes_row exact_bool exact_bytes))

abbrev write_parts : ℕ × (ℕ × ℕ) → List Item
write_parts t = Word 0 ∷ Word 0 ∷ (word_row t.0 ++ (word_row t.1.0 ++ long_row t.1.1))

exact_write : IsExact (behind_word 0 (behind_word 0 (u32_at & u32_at & u64_at))) write_parts
exact_write =
    exact_after 0 (behind_word 0 (u32_at & u32_at & u64_at)) _
    (exact_after 0 (u32_at & u32_at & u64_at) (λ t. word_row t.0 ++ (word_row t.1.0 ++ long_row t.1.1)) (both u32_at _ word_row _ exact_u32 (both u32_at u64_at word_row long_row exact_u32 exact_u64)))

abbrev listing_parts : {A : Type 0} → (A → List Item) → List ℕ × (List A × Bool) → List Item
listing_parts p t = Word 0 ∷ (verifier_row t.0 ++ (list_row p t.1.0 ++ flag_row t.1.1))

exact_listing : {A : Type 0} (r : Cursor → Reading A) (p : A → List Item) → IsExact r p → IsExact (behind_word 0 (fixed_at 8 & list_at r & bool_at)) (listing_parts p)
exact_listing r p f =
    exact_after 0 (fixed_at 8 & list_at r & bool_at) (λ t. verifier_row t.0 ++ (list_row p t.1.0 ++ flag_row t.1.1)) (both (fixed_at 8) _ verifier_row _ exact_verifier (both (list_at r) bool_at (list_row p) flag_row (exact_list r p f) exact_bool))

abbrev commit_parts : ℕ → List Item
commit_parts v = Word 0 ∷ Word 0 ∷ long_row v

exact_commit : IsExact (behind_word 0 (behind_word 0 u64_at)) commit_parts
exact_commit = exact_after 0 (behind_word 0 u64_at) (λ v. Word 0 ∷ long_row v) (exact_after 0 u64_at long_row exact_u64)

abbrev mnt_parts : List ℕ × Unit {0} → List Item
mnt_parts t = handle_row t.0 ++ (Word 1 ∷ Word 1 ∷ [])

exact_mnt : IsExact (handle_at & behind_word 1 (behind_word 1 nothing_at)) mnt_parts
exact_mnt = both handle_at (behind_word 1 (behind_word 1 nothing_at)) handle_row (λ u. Word 1 ∷ Word 1 ∷ []) exact_handle (exact_after 1 (behind_word 1 nothing_at) (λ u. Word 1 ∷ []) (exact_after 1 nothing_at none_row exact_nothing))

abbrev export_parts : List ℕ × Unit {0} → List Item
export_parts t = Word 1 ∷ (bytes_row t.0 ++ zeros_row 2)

exact_export : IsExact (behind_word 1 (any_bytes_at & zeros_at 2)) export_parts
exact_export = exact_after 1 (any_bytes_at & zeros_at 2) (λ t. bytes_row t.0 ++ zeros_row 2) (both any_bytes_at (zeros_at 2) bytes_row (λ u. zeros_row 2) exact_bytes (exact_zeros 2))

-- each number stands for its procedure

-- what this answer reads is its procedure's, and spelled so
abbrev IsAnswer : ℕ → ℕ → ResultForm → Type 0
IsAnswer prog k a = (c d : Cursor) (y : Results) → form_at a c ≡ Ok (y, d) → AnswerOf prog k y × Takes Spells c (results_row y) d

told : {A : Type 0} (prog k : ℕ) (make : A → Results) (r : Cursor → Reading A) (p : A → List Item) → IsExact r p → ((x : A) → procedure_of_results (make x) ≡ Some (prog, k)) → ((x : A) → results_row (make x) ≡ p x) → IsAnswer prog k (without_status (map_at make r))
told prog k make r p f a h c d y e =
    let x = made_forth make r p f c d y e in
    (inl (ap procedure_of_results (sym x.1) ∙ a x.0), moved c d d (p x.0) (results_row y) (sym (h x.0) ∙ ap results_row x.1) refl x.2)

told_nothing : (prog k : ℕ) (x : Results) → procedure_of_results x ≡ Some (prog, k) → results_row x ≡ [] → IsAnswer prog k (without_status (constant_at x))
told_nothing prog k x a h c d y e =
    let same = got_is x y c d e in
    (inl (ap procedure_of_results (sym same.0) ∙ a), moved c c d [] (results_row y) (sym h ∙ ap results_row same.0) same.1 (takes_none c c refl))

-- what stands behind NFS3_OK
abbrev IsDone : ℕ → ℕ → (Cursor → Reading Results) → Type 0
IsDone prog k r = (c d : Cursor) (y : Results) → r c ≡ Ok (y, d) → (tail : List Item) × (procedure_of_results y ≡ Some (prog, k)) × (results_row y ≡ Word 0 ∷ tail) × Takes Spells c tail d

done_by : {A : Type 0} (prog k : ℕ) (make : A → Results) (r : Cursor → Reading A) (p : A → List Item) → IsExact r p → ((x : A) → procedure_of_results (make x) ≡ Some (prog, k)) → ((x : A) → results_row (make x) ≡ Word 0 ∷ p x) → IsDone prog k (map_at make r)
done_by prog k make r p f a h c d y e = let x = made_forth make r p f c d y e in (p x.0, ap procedure_of_results (sym x.1) ∙ a x.0, ap results_row (sym x.1) ∙ h x.0, x.2)

done_only : (prog k : ℕ) (x : Results) (zeros : ℕ) → procedure_of_results x ≡ Some (prog, k) → results_row x ≡ Word 0 ∷ zeros_row zeros → IsDone prog k (zeros_only_at x zeros)
done_only prog k x zeros a h = done_by prog k (λ u. x) (zeros_at zeros) (λ u. zeros_row zeros) (exact_zeros zeros) (λ u. a) (λ u. h)

done_never : (prog k : ℕ) → IsDone prog k never_at
done_never prog k c d y e = cc

replied : (prog k zeros : ℕ) (r : Cursor → Reading Results) → IsDone prog k r → zeros_in (forms_of prog) k ≡ Some zeros → IsAnswer prog k (with_status r zeros)
replied prog k zeros r done z c d y e = let s = bind_ok (u32_at c) _ _ e in go s.0.0 s.0.1 s.1 (s.0.0 == 0) refl s.2 where
  go : (n : ℕ) (b : Cursor) → u32_at c ≡ Ok (n, b) → (t : Bool) → (n == 0) ≡ t → cond t (r b) (map_at (λ u. results.Refused n zeros) (zeros_at zeros) b) ≡ Ok (y, d) → AnswerOf prog k y × Takes Spells c (results_row y) d
  go n b h true q g =
      let x = done b d y g in
      let taken = takes_then c b d (word_row 0) x.0 (moved c b b (word_row n) (word_row 0) (ap word_row (eqb-true n 0 q)) refl ((exact_u32 c b n).0 h)) x.3 in
      (inl x.1, moved c d d (Word 0 ∷ x.0) (results_row y) (sym x.2) refl taken)
  go n b h false q g =
      let x = made_forth (λ u. results.Refused n zeros) (zeros_at zeros) (λ u. zeros_row zeros) (exact_zeros zeros) b d y g in
      let taken = takes_then c b d (word_row n) (zeros_row zeros) ((exact_u32 c b n).0 h) x.2 in
      (inr (n, zeros, sym x.1, eqb-false n 0 q, z), moved c d d (Word n ∷ zeros_row zeros) (results_row y) (ap results_row x.1) refl taken)

abbrev AreAnswers : ℕ → List (ℕ × ResultForm) → Type 0
AreAnswers prog [] = Unit {0}
AreAnswers prog (a ∷ answers) = IsAnswer prog a.0 a.1 × AreAnswers prog answers

abbrev nfs_done : (k : ℕ) (x : Results) (zeros : ℕ) → procedure_of_results x ≡ Some (nfs_program, k) → results_row x ≡ Word 0 ∷ zeros_row zeros → zeros_in nfs_forms k ≡ Some zeros → IsAnswer nfs_program k (with_status (zeros_only_at x zeros) zeros)
nfs_done k x zeros a h z = replied nfs_program k zeros (zeros_only_at x zeros) (done_only nfs_program k x zeros a h) z

nfs_made : {A : Type 0} (k zeros : ℕ) (make : A → Results) (r : Cursor → Reading A) (p : A → List Item) → IsExact r p → ((x : A) → procedure_of_results (make x) ≡ Some (nfs_program, k)) → ((x : A) → results_row (make x) ≡ Word 0 ∷ p x) → zeros_in nfs_forms k ≡ Some zeros → IsAnswer nfs_program k (with_status (map_at make r) zeros)
nfs_made k zeros make r p f a h z = replied nfs_program k zeros (map_at make r) (done_by nfs_program k make r p f a h) z

nfs_all : AreAnswers nfs_program nfs_forms
unfolding nfs_forms
nfs_all =
    (told_nothing nfs_program 0 results.Null refl refl, (nfs_made 1 0 results.Getattr attr_at attr_row exact_attr (λ x. refl) (λ x. refl) refl, (nfs_done 2 results.Setattr 2 refl refl refl, (nfs_made 3 1 lookup_results _ (handle_attr 1) (exact_handle_attr 1) (λ x. refl) (λ x. refl) refl, (nfs_made 4 1 access_results _ access_parts exact_access (λ x. refl) (λ x. refl) refl, (nfs_made 5 1 results.Readlink _ path_parts exact_path (λ x. refl) (λ x. refl) refl, (nfs_made 6 1 read_results _ read_parts exact_read (λ x. refl) (λ x. refl) refl, (nfs_made 7 2 write_results _ write_parts exact_write (λ x. refl) (λ x. refl) refl, (nfs_made 8 2 create_results new_object_at made_parts exact_made (λ x. refl) (λ x. refl) refl, (nfs_made 9 2 mkdir_results new_object_at made_parts exact_made (λ x. refl) (λ x. refl) refl, (nfs_made 10 2 symlink_results new_object_at made_parts exact_made (λ x. refl) (λ x. refl) refl, (replied nfs_program 11 2 never_at (done_never nfs_program 11) refl, (nfs_done 12 results.Remove 2 refl refl refl, (nfs_done 13 results.Rmdir 2 refl refl refl, (nfs_done 14 results.Rename 4 refl refl refl, (replied nfs_program 15 3 never_at (done_never nfs_program 15) refl, (nfs_made 16 1 readdir_results _ (listing_parts dir_entry_row) (exact_listing dir_entry_at dir_entry_row exact_listed) (λ x. refl) (λ x. refl) refl, (nfs_made 17 1 readdirplus_results _ (listing_parts entry_plus_row) (exact_listing entry_plus_at entry_plus_row exact_plus) (λ x. refl) (λ x. refl) refl, (nfs_made 18 1 results.Fsstat _ (λ x. Word 0 ∷ stat_row x) (exact_after 0 stat_at stat_row exact_stat) (λ x. refl) (λ x. refl) refl, (nfs_made 19 1 results.Fsinfo _ (λ x. Word 0 ∷ info_row x) (exact_after 0 info_at info_row exact_info) (λ x. refl) (λ x. refl) refl, (nfs_made 20 1 results.Pathconf _ (λ x. Word 0 ∷ conf_row x) (exact_after 0 conf_at conf_row exact_conf) (λ x. refl) (λ x. refl) refl, (nfs_made 21 2 results.Commit _ commit_parts exact_commit (λ x. refl) (λ x. refl) refl, tt))))))))))))))))))))))

mount_all : AreAnswers mount_program mount_forms
unfolding mount_forms
mount_all =
    (told_nothing mount_program 0 results.MountNull refl refl, (replied mount_program 1 0 (map_at mnt_results (handle_at & behind_word 1 (behind_word 1 nothing_at))) (done_by mount_program 1 mnt_results _ mnt_parts exact_mnt (λ x. refl) (λ x. refl)) refl, (told mount_program 2 results.Dump _ (list_row mount_row) (exact_list mount_at mount_row exact_mounted) (λ x. refl) (λ x. refl), (told_nothing mount_program 3 results.Umnt refl refl, (told_nothing mount_program 4 results.Umntall refl refl, (told mount_program 5 export_results _ export_parts exact_export (λ x. refl) (λ x. refl), tt))))))

all_answers : (prog : ℕ) → AreAnswers prog (forms_of prog)
all_answers prog = go (prog == nfs_program) refl (prog == mount_program) refl where
  go : (n : Bool) → (prog == nfs_program) ≡ n → (m : Bool) → (prog == mount_program) ≡ m → AreAnswers prog (cond n nfs_forms (cond m mount_forms []))
  go true p m q = subst (λ (k : ℕ). AreAnswers k nfs_forms) (sym (eqb-true prog nfs_program p)) nfs_all
  go false p true q = subst (λ (k : ℕ). AreAnswers k mount_forms) (sym (eqb-true prog mount_program q)) mount_all
  go false p false q = tt

find_forth : (prog : ℕ) (answers : List (ℕ × ResultForm)) → AreAnswers prog answers → (n : ℕ) (c d : Cursor) (y : Results) → find_at answers n c ≡ Ok (y, d) → AnswerOf prog n y × Takes Spells c (results_row y) d
find_forth prog [] are n c d y e = cc
find_forth prog (a ∷ answers) are n c d y e = go (n == a.0) refl e (λ h. find_forth prog answers are.1 n c d y h) where
  go : (b : Bool) → (n == a.0) ≡ b → cond b (form_at a.1 c) (find_at answers n c) ≡ Ok (y, d) → (find_at answers n c ≡ Ok (y, d) → AnswerOf prog n y × Takes Spells c (results_row y) d) → AnswerOf prog n y × Takes Spells c (results_row y) d
  go true p h later = let t = are.0 c d y h in (subst (λ (k : ℕ). AnswerOf prog k y) (sym (eqb-true n a.0 p)) t.0, t.1)
  go false p h later = later h

-- and back: each value is read as the answer of its procedure

abbrev Reads : (Cursor → Reading Results) → Results → Type 0
Reads r y = (c d : Cursor) → Takes Spells c (results_row y) d → r c ≡ Ok (y, d)

abbrev OwnReads : Results → Option (ℕ × ℕ) → Type 0
OwnReads y None = Unit {0}
OwnReads y (Some q) = Reads (find_at (forms_of q.0) q.1) y

reads_nothing : (x : Results) → results_row x ≡ [] → Reads (constant_at x) x
reads_nothing x h c d t = ap (got x) (none_taken c d (moved c d d (results_row x) [] h refl t))

reads_told : {A : Type 0} (make : A → Results) (r : Cursor → Reading A) (p : A → List Item) → IsExact r p → (x : A) → results_row (make x) ≡ p x → Reads (map_at make r) (make x)
reads_told make r p f x h c d t = made_back make r p f c d x (moved c d d (results_row (make x)) (p x) h refl t)

reads_done : {A : Type 0} (count : ℕ) (make : A → Results) (r : Cursor → Reading A) (p : A → List Item) → IsExact r p → (x : A) → results_row (make x) ≡ Word 0 ∷ p x → Reads (by_status (map_at make r) count) (make x)
reads_done count make r p f x h c d t =
    let k = takes_parts c d (word_row 0) (p x) (moved c d d (results_row (make x)) (Word 0 ∷ p x) h refl t) in
    bind_is (u32_at c) _ (0, k.between) _ ((exact_u32 c k.between 0).1 k.first) (made_back make r p f k.between d x k.second)

reads_only : (x : Results) (n zeros : ℕ) → results_row x ≡ Word 0 ∷ zeros_row n → Reads (by_status (zeros_only_at x n) zeros) x
reads_only x n zeros h = reads_done zeros (λ u. x) (zeros_at n) (λ u. zeros_row n) (exact_zeros n) tt h

own : (y : Results) → OwnReads y (procedure_of_results y)
unfolding nfs_forms mount_forms
own results.Null = reads_nothing results.Null refl
own (results.Getattr a) = reads_done 0 results.Getattr attr_at attr_row exact_attr a refl
own results.Setattr = reads_only results.Setattr 2 2 refl
own (results.Lookup h a) = reads_done 1 lookup_results _ (handle_attr 1) (exact_handle_attr 1) (h, (a, tt)) refl
own (results.Access a m) = reads_done 1 access_results _ access_parts exact_access (a, m) refl
own (results.Readlink p) = reads_done 1 results.Readlink _ path_parts exact_path p refl
own (results.Read n e b) = reads_done 1 read_results _ read_parts exact_read (n, (e, b)) refl
own (results.Write n s v) = reads_done 2 write_results _ write_parts exact_write (n, (s, v)) refl
own (results.Create h a) = reads_done 2 create_results new_object_at made_parts exact_made (h, (a, tt)) refl
own (results.Mkdir h a) = reads_done 2 mkdir_results new_object_at made_parts exact_made (h, (a, tt)) refl
own (results.Symlink h a) = reads_done 2 symlink_results new_object_at made_parts exact_made (h, (a, tt)) refl
own results.Remove = reads_only results.Remove 2 2 refl
own results.Rmdir = reads_only results.Rmdir 2 2 refl
own results.Rename = reads_only results.Rename 4 4 refl
own (results.Readdir v es e) = reads_done 1 readdir_results _ (listing_parts dir_entry_row) (exact_listing dir_entry_at dir_entry_row exact_listed) (v, (es, e)) refl
own (results.Readdirplus v es e) = reads_done 1 readdirplus_results _ (listing_parts entry_plus_row) (exact_listing entry_plus_at entry_plus_row exact_plus) (v, (es, e)) refl
own (results.Fsstat s) = reads_done 1 results.Fsstat _ (λ x. Word 0 ∷ stat_row x) (exact_after 0 stat_at stat_row exact_stat) s refl
own (results.Fsinfo i) = reads_done 1 results.Fsinfo _ (λ x. Word 0 ∷ info_row x) (exact_after 0 info_at info_row exact_info) i refl
own (results.Pathconf p) = reads_done 1 results.Pathconf _ (λ x. Word 0 ∷ conf_row x) (exact_after 0 conf_at conf_row exact_conf) p refl
own (results.Commit v) = reads_done 2 results.Commit _ commit_parts exact_commit v refl
own results.MountNull = reads_nothing results.MountNull refl
own (results.Mnt h) = reads_done 0 mnt_results _ mnt_parts exact_mnt (h, tt) refl
own (results.Dump ms) = reads_told results.Dump _ (list_row mount_row) (exact_list mount_at mount_row exact_mounted) ms refl
own results.Umnt = reads_nothing results.Umnt refl
own results.Umntall = reads_nothing results.Umntall refl
own (results.Export p) = reads_told export_results _ export_parts exact_export (p, tt) refl
own (results.Refused s z) = tt

-- a refusal
reads_refused : (status zeros : ℕ) (r : Cursor → Reading Results) → status ≢ 0 → Reads (by_status r zeros) (results.Refused status zeros)
reads_refused status zeros r ne c d t =
    let k = takes_parts c d (word_row status) (zeros_row zeros) t in
    let b = k.between in
    let read = made_back (λ u. results.Refused status zeros) (zeros_at zeros) (λ u. zeros_row zeros) (exact_zeros zeros) b d tt k.second in
    bind_is (u32_at c) _ (status, b) _ ((exact_u32 c b status).1 k.first) (ap (λ (t : Bool). cond t (r b) (map_at (λ u. results.Refused status zeros) (zeros_at zeros) b)) (ne_eqb status 0 ne) ∙ read)

find_refused : (status count : ℕ) → status ≢ 0 → (answers : List (ℕ × ResultForm)) (n : ℕ) → zeros_in answers n ≡ Some count → Reads (find_at answers n) (results.Refused status count)
find_refused status count ne [] n z c d t = cc
find_refused status count ne (a ∷ answers) n z c d t = go (n == a.0) z (λ h. find_refused status count ne answers n h c d t) where
  go : (b : Bool) → cond b a.1.refused (zeros_in answers n) ≡ Some count → (zeros_in answers n ≡ Some count → find_at answers n c ≡ Ok (results.Refused status count, d)) → cond b (form_at a.1 c) (find_at answers n c) ≡ Ok (results.Refused status count, d)
  go true h later = ap (λ (o : Option ℕ). by_count a.1.done o c) h ∙ reads_refused status count a.1.done ne c d t
  go false h later = later h

find_back : (prog proc : ℕ) (y : Results) → AnswerOf prog proc y → Reads (find_at (forms_of prog) proc) y
find_back prog proc y (inl h) = subst (λ (o : Option (ℕ × ℕ)). OwnReads y o) h (own y)
find_back prog proc y (inr h) = subst (λ (k : Results). Reads (find_at (forms_of prog) proc) k) (sym h.2) (find_refused h.0 h.1 h.3 (forms_of prog) proc h.4)

-- a whole message

abbrev done : Results → Result Results XdrFault
done x = Ok x

ok_is : (x y : Results) → done x ≡ done y → x ≡ y
ok_is x y e = cc

abbrev ends : ℕ → Cursor
ends n = record { place = n; left = [] }

pub results_forth : (prog proc : ℕ) (bytes : List ℕ) (y : Results) → results_at prog proc bytes ≡ Ok y → AnswerOf prog proc y × Spells bytes (results_row y)
unfolding results_at
results_forth prog proc bytes y e =
    let a = bind_ok (find_at (forms_of prog) proc (start bytes)) _ _ e in
    let end = bind_ok (finish_at a.0.1) _ _ a.2 in
    let same = ok_is a.0.0 y end.2 in
    let t = find_forth prog (forms_of prog) (all_answers prog) proc (start bytes) a.0.1 a.0.0 a.1 in
    let whole : bytes ≡ t.1.front = t.1.left ∙ ap (λ (k : List ℕ). t.1.front ++ k) (finish_forth a.0.1 end.1) ∙ append-nil t.1.front in
    (subst (λ (k : Results). AnswerOf prog proc k) same t.0, subst (λ (k : Results). Spells bytes (results_row k)) same (subst (λ (k : List ℕ). Spells k (results_row a.0.0)) (sym whole) t.1.spelled))

pub results_back : (prog proc : ℕ) (bytes : List ℕ) (y : Results) → AnswerOf prog proc y → Spells bytes (results_row y) → results_at prog proc bytes ≡ Ok y
unfolding results_at
results_back prog proc bytes y h s =
    let d = ends (0 + length bytes) in
    let t : Takes Spells (start bytes) (results_row y) d = record { front = bytes; spelled = s; left = sym (append-nil bytes); place = refl } in
    bind_is (find_at (forms_of prog) proc (start bytes)) _ (y, d) _ (find_back prog proc y h (start bytes) d t) (bind_is (finish_at d) _ tt _ (finish_back d refl) refl)

pub results_again : (prog proc : ℕ) (y : Results) → AnswerOf prog proc y → AllFit (results_row y) → results_at prog proc (text (results_row y)) ≡ Ok y
results_again prog proc y h fits = results_back prog proc (text (results_row y)) y h (spells_text (results_row y) fits)
