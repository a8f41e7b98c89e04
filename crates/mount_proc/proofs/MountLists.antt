-- A mount list stays one: what a pair that is added or taken out makes of it.
use Rattle.std.proofs.Common.{◌≡◌, ℕ, ◌≤◌, ◌<◌, Bool, true, false, cond, not, ◌&&◌, ◌||◌, if◌then◌else◌, nat_le, Result, Ok, Err, OnOk, OnErr}
use Rattle.std.proofs.Common.{List, [], ◌∷◌, ◌++◌, length, filter, refl, sym, subst, arith, length-append, true≢false}
use Rattle.std.proofs.lemmas.Bool.{leb-false}
use Rattle.std.proofs.lemmas.Cmp.{nat_list_eq_equiv}
use Rattle.std.proofs.lemmas.List.Folds.{list_any-append}
use Rattle.gw_model.specs.declared.FileId.{FileId}
use Rattle.gw_model.specs.Statuses as status
use Rattle.nfs_wire.specs.Results.{MountText}
use Rattle.name_tree.specs.Tree.{Tree}
use Rattle.mount_proc.specs.ExportPaths.{directory_of_path, onward_from}
use Rattle.mount_proc.specs.Mounts.{IsMountList, has_pair_twice, is_mount_of, is_mounted, mnt_judgement, most_mounts}

pub same_pair_swap : (m n : MountText) → is_mount_of m.host m.path n ≡ is_mount_of n.host n.path m
same_pair_swap m n = λ i. nat_list_eq_equiv.symm n.host m.host i && nat_list_eq_equiv.symm n.path m.path i

-- what a filter keeps

unmounted_stays : (keeps : MountText → Bool) (host path : List ℕ) (ms : List MountText)
    → is_mounted host path ms ≡ false → is_mounted host path (filter keeps ms) ≡ false
unmounted_stays keeps host path [] none = refl
unmounted_stays keeps host path (m ∷ ms) none = by (keeps m) (is_mount_of host path m) refl none (unmounted_stays keeps host path ms)
  where
    by : (kept is : Bool) → is_mount_of host path m ≡ is → (is || is_mounted host path ms) ≡ false
        → (is_mounted host path ms ≡ false → is_mounted host path (filter keeps ms) ≡ false)
        → is_mounted host path (cond kept (m ∷ filter keeps ms) (filter keeps ms)) ≡ false
    by kept true same none rest = absurd (true≢false none)
    by true false same none rest = rw same (rest none)
    by false false same none rest = rest none

once_filtered : (keeps : MountText → Bool) (ms : List MountText) → has_pair_twice ms ≡ false → has_pair_twice (filter keeps ms) ≡ false
once_filtered keeps [] once = refl
once_filtered keeps (m ∷ ms) once = by (keeps m) (is_mounted m.host m.path ms) refl once (once_filtered keeps ms)
  where
    by : (kept is : Bool) → is_mounted m.host m.path ms ≡ is → (is || has_pair_twice ms) ≡ false
        → (has_pair_twice ms ≡ false → has_pair_twice (filter keeps ms) ≡ false)
        → has_pair_twice (cond kept (m ∷ filter keeps ms) (filter keeps ms)) ≡ false
    by kept true same once rest = absurd (true≢false once)
    by true false same once rest = rw (unmounted_stays keeps m.host m.path ms same) (rest once)
    by false false same once rest = rest once

few_filtered : (keeps : MountText → Bool) (ms : List MountText) → length (filter keeps ms) ≤ length ms
few_filtered keeps [] = omega arith
few_filtered keeps (m ∷ ms) = by (keeps m) (few_filtered keeps ms)
  where
    by : (kept : Bool) → length (filter keeps ms) ≤ length ms → length (cond kept (m ∷ filter keeps ms) (filter keeps ms)) ≤ length (m ∷ ms)
    by true rest = omega arith
    by false rest = omega arith

pub filtered_is_list : (keeps : MountText → Bool) (ms : List MountText) → IsMountList ms → IsMountList (filter keeps ms)
filtered_is_list keeps ms is = record { few = omega (arith, is.few, few_filtered keeps ms); once = once_filtered keeps ms is.once }

-- a new pair at the end

once_with : (m : MountText) (ms : List MountText) → is_mounted m.host m.path ms ≡ false → has_pair_twice ms ≡ false
    → has_pair_twice (ms ++ m ∷ []) ≡ false
once_with m [] new once = refl
once_with m (n ∷ ms) new once =
    by (is_mount_of m.host m.path n) (same_pair_swap m n) new (is_mounted n.host n.path ms) refl once (once_with m ms)
  where
    by : (is : Bool) → is ≡ is_mount_of n.host n.path m → (is || is_mounted m.host m.path ms) ≡ false
        → (twice : Bool) → is_mounted n.host n.path ms ≡ twice → (twice || has_pair_twice ms) ≡ false
        → (is_mounted m.host m.path ms ≡ false → has_pair_twice ms ≡ false → has_pair_twice (ms ++ m ∷ []) ≡ false)
        → (is_mounted n.host n.path (ms ++ m ∷ []) || has_pair_twice (ms ++ m ∷ [])) ≡ false
    by true swap new twice same once rest = absurd (true≢false new)
    by false swap new true same once rest = absurd (true≢false once)
    by false swap new false same once rest =
        rw (list_any-append (is_mount_of n.host n.path) ms (m ∷ [])) (rw same (rw (sym swap) (rest new once)))

pub longer_is_list : (host path : List ℕ) (ms : List MountText) → is_mounted host path ms ≡ false → length ms < most_mounts → IsMountList ms
    → IsMountList (ms ++ record { host = host; path = path } ∷ [])
longer_is_list host path ms new room is =
    let m : MountText = record { host = host; path = path } in
    record { few = omega (arith, room, length-append ms (m ∷ [])); once = once_with m ms new is.once }

-- what is left where it was tried to list a new pair
pub tried_is_list : {T E : Type 0} (tried : Result T E) (host path : List ℕ) (old new : List MountText)
    → OnOk tried (new ≡ old ++ record { host = host; path = path } ∷ []) → OnErr tried (new ≡ old)
    → is_mounted host path old ≡ false → length old < most_mounts → IsMountList old → IsMountList new
tried_is_list (Ok x) host path old new ok err unlisted room is = subst IsMountList (sym ok) (longer_is_list host path old unlisted room is)
tried_is_list (Err e) host path old new ok err unlisted room is = subst IsMountList (sym err) is

-- a new pair that isn't refused has a place
pub judged_has_place : (t : Tree) (export host path : List ℕ) (ms : List MountText) (dir : FileId)
    → mnt_judgement t export ms host path ≡ Ok dir → is_mounted host path ms ≡ false → length ms < most_mounts
unfolding mnt_judgement
judged_has_place t export host path ms dir judged unlisted =
    by (directory_of_path t export path) (is_mounted host path ms) unlisted (nat_le most_mounts (length ms)) refl judged
  where
    by : (found : Result FileId ℕ) (listed : Bool) → listed ≡ false → (full : Bool) → nat_le most_mounts (length ms) ≡ full
        → onward_from found (λ d. if not listed && full then Err status.serverfault else Ok d) ≡ Ok dir → length ms < most_mounts
    by (Err s) listed unlisted full same judged = absurd (cc)
    by (Ok d) true unlisted full same judged = absurd (true≢false unlisted)
    by (Ok d) false unlisted true same judged = absurd (cc)
    by (Ok d) false unlisted false same judged = leb-false most_mounts (length ms) same
