-- Which pairs are listed after a mount, and after pairs were taken out.
use Rattle.std.proofs.Common.{◌≡◌, ℕ, Bool, true, false, cond, not, ◌&&◌, ◌||◌, List, [], ◌∷◌, ◌++◌, filter, refl, sym, ap, ◌∙◌, true≢false}
use Rattle.std.specs.List.{list_any}
use Rattle.std.specs.Str.{bytes_eq}
use Rattle.std.proofs.lemmas.Bool.{false≢true}
use Rattle.std.proofs.lemmas.Cmp.{nat_list_eq_equiv}
use Rattle.std.proofs.lemmas.List.{append-nil}
use Rattle.std.proofs.lemmas.List.Elements.{filter-append}
use Rattle.std.proofs.lemmas.List.Folds.{list_any-append}
use Rattle.std.proofs.lemmas.Slice.Eq.{bytes_eq-Decides}
use Rattle.nfs_wire.specs.Results.{MountText}
use Rattle.mount_proc.specs.Mounts.{is_mount_of, is_mounted, mounts_without}
use Rattle.mount_proc.specs.Laws.{HostIsTakenOut, MountIsListed, MountKeepsOthers, OtherHostsStay}
use Rattle.mount_proc.specs.Laws.{UnmountKeepsOthers, UnmountTakesOut, UnmountUndoesMount}
use Rattle.mount_proc.proofs.MountLists.{same_pair_swap}

-- two tests

first_holds : (a b : Bool) → (a && b) ≡ true → a ≡ true
first_holds true b both = refl
first_holds false b both = absurd (false≢true both)

second_holds : (a b : Bool) → (a && b) ≡ true → b ≡ true
second_holds true b both = both
second_holds false b both = absurd (false≢true both)

or_nothing : (a : Bool) → (a || (false || false)) ≡ a
or_nothing true = refl
or_nothing false = refl

or_holds : (a : Bool) → (a || (true || false)) ≡ true
or_holds true = refl
or_holds false = refl

-- what is left once those are taken out that pass a test

module _ (out test : MountText → Bool) where
  none_left : ((m : MountText) → test m ≡ true → out m ≡ true) → (ms : List MountText)
      → list_any test (filter (λ m. not (out m)) ms) ≡ false
  none_left within [] = refl
  none_left within (m ∷ ms) = by (out m) refl (test m) refl (none_left within ms)
    where
      by : (o : Bool) → out m ≡ o → (b : Bool) → test m ≡ b → list_any test (filter (λ n. not (out n)) ms) ≡ false
          → list_any test (cond (not o) (m ∷ filter (λ n. not (out n)) ms) (filter (λ n. not (out n)) ms)) ≡ false
      by true goes b is rest = rest
      by false stays true is rest = absurd (true≢false (sym (within m is) ∙ stays))
      by false stays false is rest = rw is rest

  others_left : ((m : MountText) → out m ≡ true → test m ≡ false) → (ms : List MountText)
      → list_any test (filter (λ m. not (out m)) ms) ≡ list_any test ms
  others_left apart [] = refl
  others_left apart (m ∷ ms) = by (out m) refl (others_left apart ms)
    where
      by : (o : Bool) → out m ≡ o → list_any test (filter (λ n. not (out n)) ms) ≡ list_any test ms
          → list_any test (cond (not o) (m ∷ filter (λ n. not (out n)) ms) (filter (λ n. not (out n)) ms)) ≡ (test m || list_any test ms)
      by true goes rest = rw (apart m goes) rest
      by false stays rest = ap (λ b. test m || b) rest

all_left : (out : MountText → Bool) (ms : List MountText) → list_any out ms ≡ false → filter (λ m. not (out m)) ms ≡ ms
all_left out [] none = refl
all_left out (m ∷ ms) none = by (out m) none (all_left out ms)
  where
    by : (o : Bool) → (o || list_any out ms) ≡ false → (list_any out ms ≡ false → filter (λ m. not (out m)) ms ≡ ms)
        → cond (not o) (m ∷ filter (λ m. not (out m)) ms) (filter (λ m. not (out m)) ms) ≡ m ∷ ms
    by true none rest = absurd (true≢false none)
    by false none rest = ap (λ l. m ∷ l) (rest none)

-- the pair that a test finds

module _ (host path : List ℕ) where
  abbrev pair : MountText
  pair = record { host = host; path = path }

  itself : is_mount_of host path pair ≡ true
  itself = λ i. nat_list_eq_equiv.refl host i && nat_list_eq_equiv.refl path i

  -- a pair that is this one isn't the other one
  apart_from : (other m : MountText) → is_mount_of host path other ≡ false → is_mount_of host path m ≡ true
      → is_mount_of other.host other.path m ≡ false
  apart_from other m differs is =
      let host_is : m.host ≡ host = (bytes_eq-Decides m.host host).0 (first_holds (bytes_eq m.host host) (bytes_eq m.path path) is) in
      let path_is : m.path ≡ path = (bytes_eq-Decides m.path path).0 (second_holds (bytes_eq m.host host) (bytes_eq m.path path) is) in
      (λ i. bytes_eq (host_is i) other.host && bytes_eq (path_is i) other.path) ∙ (same_pair_swap other pair ∙ differs)

pub mount_is_listed : MountIsListed
mount_is_listed host path ms = by (is_mounted host path ms) refl
  where
    by : (b : Bool) → is_mounted host path ms ≡ b → is_mounted host path (cond b ms (ms ++ pair host path ∷ [])) ≡ true
    by true is = is
    by false is =
        rw (list_any-append (is_mount_of host path) ms (pair host path ∷ [])) (rw (itself host path) (or_holds (is_mounted host path ms)))

pub unmount_undoes_mount : UnmountUndoesMount
unmount_undoes_mount host path ms unlisted =
    rw unlisted (filter-append (λ m. not (is_mount_of host path m)) ms (pair host path ∷ [])
    ∙ (ap (λ b. mounts_without host path ms ++ cond (not b) (pair host path ∷ []) []) (itself host path)
    ∙ (append-nil (mounts_without host path ms) ∙ all_left (is_mount_of host path) ms unlisted)))

pub unmount_takes_out : UnmountTakesOut
unmount_takes_out host path ms = none_left (is_mount_of host path) (is_mount_of host path) (λ m is. is) ms

pub host_is_taken_out : HostIsTakenOut
host_is_taken_out host path ms =
    none_left (λ m. bytes_eq m.host host) (is_mount_of host path) (λ m is. first_holds (bytes_eq m.host host) (bytes_eq m.path path) is) ms

pub mount_keeps_others : MountKeepsOthers
mount_keeps_others host path other ms differs = by (is_mounted host path ms)
  where
    new_differs : is_mount_of other.host other.path (pair host path) ≡ false
    new_differs = apart_from host path other (pair host path) differs (itself host path)

    by : (b : Bool) → is_mounted other.host other.path (cond b ms (ms ++ pair host path ∷ [])) ≡ is_mounted other.host other.path ms
    by true = refl
    by false =
        list_any-append (is_mount_of other.host other.path) ms (pair host path ∷ [])
        ∙ (ap (λ b. is_mounted other.host other.path ms || (b || false)) new_differs ∙ or_nothing (is_mounted other.host other.path ms))

pub unmount_keeps_others : UnmountKeepsOthers
unmount_keeps_others host path other ms differs =
    others_left (is_mount_of host path) (is_mount_of other.host other.path) (λ m is. apart_from host path other m differs is) ms

pub other_hosts_stay : OtherHostsStay
other_hosts_stay host other ms differs = others_left (λ m. bytes_eq m.host host) (is_mount_of other.host other.path) apart ms
  where
    apart : (m : MountText) → bytes_eq m.host host ≡ true → is_mount_of other.host other.path m ≡ false
    apart m is =
        let host_is : m.host ≡ host = (bytes_eq-Decides m.host host).0 is in
        (λ i. bytes_eq (host_is i) other.host && bytes_eq m.path other.path)
        ∙ ap (λ b. b && bytes_eq m.path other.path) (nat_list_eq_equiv.symm host other.host ∙ differs)
