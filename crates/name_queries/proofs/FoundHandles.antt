-- What a handle names.
use Rattle.std.proofs.Common.{◌≡◌, ℕ, ◌<◌, ◌^◌, Bool, true, not, List, take, drop, Result, Err, sym, ◌∙◌, ap}
use Rattle.std.specs.Prelude.{◌==◌, ◌&&◌, bytes_eq, if◌then◌else◌}
use Rattle.std.specs.Int.{w64, from_be_bytes}
use Rattle.std.proofs.lemmas.Slice.Eq.{bytes_eq-Decides}
use Rattle.md5.specs.Md5.{md5}
use Rattle.gw_model.specs.Statuses as status
use Rattle.handles.specs.Handle.{handle_text, ids_text, IsHandle}
use Rattle.handles.proofs.Handles.{ids-of_handle, file-of_ids, fsid-of_ids}
use Rattle.name_tree.specs.Tree.{Tree}
use Rattle.name_queries.specs.declared.found.Found.{Found}
use Rattle.name_queries.specs.Found.{file_number, found_by_numbers, found_file, has_handle_shape, system_number}

shaped : (handle : List ℕ) → IsHandle handle → has_handle_shape handle ≡ true
shaped handle h =
    ap (λ n. (n == 32) && bytes_eq (md5 (take 16 handle)) (drop 16 handle)) h.whole
    ∙ (bytes_eq-Decides (md5 (take 16 handle)) (drop 16 handle)).1 (sym h.digest)

abbrev pick : Tree → ℕ → Bool → ℕ → ℕ → Result Found ℕ
pick t fsid shape file system = if not shape then Err status.badhandle else found_by_numbers t fsid file system

-- a handle of these numbers
pub handle-found : (t : Tree) (fsid : ℕ) (handle : List ℕ) (f g : ℕ) → f < 2 ^ 64 → g < 2 ^ 64 → IsHandle handle → handle ≡ handle_text f g
    → found_file t fsid handle ≡ found_by_numbers t fsid f g
unfolding found_file
handle-found t fsid handle f g hf hg h e =
    let ids : take 16 handle ≡ ids_text f g = ap (take 16) e ∙ ids-of_handle f g in
    let file : file_number handle ≡ f = ap (λ x. from_be_bytes w64 (take 8 x)) ids ∙ file-of_ids f g hf in
    let system : system_number handle ≡ g = ap (λ x. from_be_bytes w64 (drop 8 x)) ids ∙ fsid-of_ids f g hg in
    ap (λ b. pick t fsid b (file_number handle) (system_number handle)) (shaped handle h)
    ∙ ap (λ x. pick t fsid true x (system_number handle)) file
    ∙ ap (pick t fsid true f) system
