-- What a handle names.
use Rattle.std.proofs.Common.{◌≡◌, ℕ, ◌<◌, ◌^◌, Bool, true, false, cond, not, List, length, take, drop, Result, Ok, Err, refl, sym, ◌∙◌, ap}
use Rattle.std.specs.Prelude.{◌==◌, ◌&&◌, bytes_eq, if◌then◌else◌}
use Rattle.std.specs.Int.{w64, from_be_bytes}
use Rattle.std.proofs.lemmas.Slice.Eq.{bytes_eq-Decides}
use Rattle.md5.specs.Md5.{md5}
use Rattle.handles.specs.Handle.{handle_text, ids_text, IsHandle}
use Rattle.handles.proofs.Handles.{ids-of_handle, file-of_ids, fsid-of_ids}
use Rattle.gw_model.specs.Statuses.{badhandle, inval, stale}
use Rattle.gw_config.specs.Settings.{Settings}
use Rattle.file_requests.specs.declared.message.WriteArgs.{WriteArgs}
use Rattle.file_requests.specs.Messages.{is_file, is_handle, file_in, fsid_in, counted_file, numbered_file, handle_file, writable_file, write_file}

is_one : (handle : List ℕ) → IsHandle handle → is_handle handle ≡ true
is_one handle h = ap (λ n. (n == 32) && bytes_eq (md5 (take 16 handle)) (drop 16 handle)) h.whole ∙ (bytes_eq-Decides (md5 (take 16 handle)) (drop 16 handle)).1 (sym h.digest)

abbrev pick : ℕ → ℕ → Bool → ℕ → ℕ → Result ℕ ℕ
pick own files b f g = if not b then Err badhandle else numbered_file own files f g

pub handle_found : (own files : ℕ) (handle : List ℕ) (f g : ℕ) → f < 2 ^ 64 → g < 2 ^ 64 → IsHandle handle → handle ≡ handle_text f g → handle_file own files handle ≡ numbered_file own files f g
handle_found own files handle f g hf hg h e =
    let ids : take 16 handle ≡ ids_text f g = ap (take 16) e ∙ ids-of_handle f g in
    let file : file_in handle ≡ f = ap (λ x. from_be_bytes w64 (take 8 x)) ids ∙ file-of_ids f g hf in
    let fsid : fsid_in handle ≡ g = ap (λ x. from_be_bytes w64 (drop 8 x)) ids ∙ fsid-of_ids f g hg in
    ap (λ b. pick own files b (file_in handle) (fsid_in handle)) (is_one handle h) ∙ ap (λ x. pick own files true x (fsid_in handle)) file ∙ ap (pick own files true f) fsid

-- what a file is found by, and why none is

abbrev pub IsJudged : ℕ → Result ℕ ℕ → Type 0
IsJudged files (Ok file) = is_file files file ≡ true
IsJudged files (Err status) = (status == 0) ≡ false

judged_if : (files : ℕ) (b : Bool) (x y : Result ℕ ℕ) → (b ≡ true → IsJudged files x) → (b ≡ false → IsJudged files y) → IsJudged files (cond b x y)
judged_if files true x y h k = h refl
judged_if files false x y h k = k refl

and_second : (a b : Bool) → a && b ≡ true → b ≡ true
and_second true b h = h
and_second false b h = absurd (cc h)

judged_number : (own files file fsid : ℕ) → IsJudged files (numbered_file own files file fsid)
judged_number own files file fsid = judged_if files (fsid == own && is_file files file) (Ok file) (Err stale) (λ h. and_second (fsid == own) (is_file files file) h) (λ h. refl)

judged_handle : (own files : ℕ) (handle : List ℕ) → IsJudged files (handle_file own files handle)
judged_handle own files handle =
    judged_if files (not (is_handle handle)) (Err badhandle) (numbered_file own files (file_in handle) (fsid_in handle)) (λ h. refl)
    (λ h. judged_number own files (file_in handle) (fsid_in handle))

judged_count : (files : ℕ) (q : WriteArgs) (r : Result ℕ ℕ) → IsJudged files r → IsJudged files (counted_file q r)
judged_count files q (Ok file) h = judged_if files (q.count == length q.data) (Ok file) (Err inval) (λ e. h) (λ e. refl)
judged_count files q (Err status) h = h

judged_change : (files : ℕ) (read_only : Bool) (r : Result ℕ ℕ) → IsJudged files r → IsJudged files (writable_file read_only r)
judged_change files true (Ok file) h = refl
judged_change files false (Ok file) h = h
judged_change files read_only (Err status) h = h

pub judged_write_file : (settings : Settings) (files : ℕ) (q : WriteArgs) → IsJudged files (write_file settings files q)
judged_write_file settings files q =
    judged_change files settings.read_only (counted_file q (handle_file settings.fsid files q.handle))
    (judged_count files q (handle_file settings.fsid files q.handle) (judged_handle settings.fsid files q.handle))
