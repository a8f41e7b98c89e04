-- A deletion in each member.
use Rattle.std.proofs.Common.{◌≡◌, ◌≤◌, ◌⊎◌, inl, inr, ℕ, zero, suc, ◌<◌, Bool, true, false, List, [], ◌∷◌, length, if◌then◌else◌, is_some, IfSome, IfNone, Option, Some, None, refl, sym, ◌∙◌, ap, subst, arith}
use Rattle.std.proofs.lemmas.List.Sums.{sum_by-cons}
use Rattle.std.specs.List.{AllByRecursion, AllZip}
use Rattle.gw_model.specs.declared.object.ObjectId.{ObjectId}
use Rattle.append_store.specs.State.{ObjectState, Missing, Kept, Lent, IsAway, IsThere, durable_of, bytes_of}
use Rattle.append_store.specs.Calls.{Guards}
use Rattle.replica_store.specs.Parts.{PartView}
use Rattle.replica_store.specs.Seats.{SeatView, KnownState, AllTakePart, TakesPart, IsCalledAt, column, has_no_member, losses_of, none_live, state_of, told_by}
use Rattle.replica_store.specs.Steps.{Deletes, Together}
use Rattle.replica_store.specs.Kept.{AllTouch, AllUnused, Deleted, NoneCalled, told_now}
use Rattle.replica_store.proofs.InTurn.{members_of, as_many}
use Rattle.replica_store.proofs.Told.{AllFit, IsKept, kept_told, told_kept}

-- a fact under a premise, of each
pub under : {X : Type 0} (told : Type 0) (P : X → Type 0) (xs : List X) → (told → AllByRecursion P xs) → AllByRecursion (λ x. told → P x) xs
under told P [] all = tt
under told P (x ∷ xs) all = (λ t. (all t).0, under told P xs (λ t. (all t).1))

module _ {X : Type 0} (v : X → SeatView) where
  pub zip_part : (xs : List X) (ps : List PartView) → length ps ≡ length xs → AllTakePart v xs ps → AllZip (λ s p. TakesPart (v s) p) xs ps
  zip_part [] [] long all = tt
  zip_part (x ∷ xs) [] long all = absurd (omega (arith, long))
  zip_part xs (p ∷ ps) long all = all

pub zip_many : {X P : Type 0} (R : X → P → Type 0) (xs : List X) (ps : List P) → AllZip R xs ps → length ps ≡ length xs
zip_many R [] [] is = refl
zip_many R [] (p ∷ ps) is = absurd is
zip_many R (x ∷ xs) [] is = absurd is
zip_many R (x ∷ xs) (p ∷ ps) is = let n = zip_many R xs ps is.1 in omega (arith, n)

module _ {X : Type 0} (v : X → SeatView) (object : ObjectId) where
  fit_there : (bytes : List ℕ) (synced : ℕ) (xs : List X) (ps : List PartView) → AllFit v object bytes synced xs ps → AllZip (λ s p. TakesPart (v s) p) xs ps → AllByRecursion (λ s. (v s).live ≡ true → IsThere ((v s).at object)) xs
  fit_there bytes synced [] [] fit part = tt
  fit_there bytes synced [] (p ∷ ps) fit part = absurd fit
  fit_there bytes synced (x ∷ xs) [] fit part = absurd fit
  fit_there bytes synced (x ∷ xs) (p ∷ ps) fit part = (λ live. let c = fit.0.copy (part.0 live) in subst IsThere (sym c.kept) tt, fit_there bytes synced xs ps fit.1 part.1)

  -- an object that the store tells to be there is there in each member that is called
  pub there_each : (told : Type 0) (xs : List X) (k : KnownState) → (told → IsThere (told_now v object xs k)) → AllTakePart v xs k.parts → AllByRecursion (λ s. told → (v s).live ≡ true → IsThere ((v s).at object)) xs
  there_each told xs k there part = under told (λ s. (v s).live ≡ true → IsThere ((v s).at object)) xs (λ t.
      let kept = kept_told v object k xs (there t) in
      fit_there (bytes_of (state_of (column v xs object) k.chief)) k.synced xs k.parts kept.all (zip_part v xs k.parts (zip_many _ xs k.parts kept.all) part))

  -- and out of none
  pub fit_inside : (bytes : List ℕ) (synced : ℕ) (xs : List X) (ps : List PartView) → AllFit v object bytes synced xs ps → AllByRecursion (λ s. IsAway ((v s).at object) → ⊥) xs
  fit_inside bytes synced [] [] fit = tt
  fit_inside bytes synced [] (p ∷ ps) fit = absurd fit
  fit_inside bytes synced (x ∷ xs) [] fit = absurd fit
  fit_inside bytes synced (x ∷ xs) (p ∷ ps) fit = (fit.0.inside, fit_inside bytes synced xs ps fit.1)

  pub inside_each : (told : Type 0) (xs : List X) (k : KnownState) → (told → IsThere (told_now v object xs k)) → AllByRecursion (λ s. told → IsAway ((v s).at object) → ⊥) xs
  inside_each told xs k there = under told (λ s. IsAway ((v s).at object) → ⊥) xs (λ t.
      let kept = kept_told v object k xs (there t) in
      fit_inside (bytes_of (state_of (column v xs object) k.chief)) k.synced xs k.parts kept.all)

module _ {X : Type 0} (v : X → SeatView) (told : Type 0) (object : ObjectId) where
  abbrev R : X → X → PartView → PartView → Type 0
  R s t p q = Deletes told object (v s) (v t) p q

  pub delete_touched : (xs ys : List X) (ps qs : List PartView) → Together R xs ys ps qs → AllTouch told v object xs ys
  delete_touched xs ys ps qs is = members_of R _ (λ x y p q r. r.rest) xs ys ps qs is

  may_inside : (a b : ObjectState) → (b ≡ a) ⊎ (b ≡ Missing) → (IsAway a → ⊥) → IsAway b → ⊥
  may_inside a b (inl same) none away = none (subst IsAway same away)
  may_inside a b (inr gone) none away = subst IsAway gone away

  delete_unused : (xs ys : List X) (ps qs : List PartView) → Together R xs ys ps qs → AllByRecursion (λ s. told → IsAway ((v s).at object) → ⊥) xs → AllUnused told v object ys
  delete_unused [] [] [] [] is inside = tt
  delete_unused [] [] [] (q ∷ qs) is inside = absurd is
  delete_unused [] [] (p ∷ ps) qs is inside = absurd is
  delete_unused [] (y ∷ ys) ps qs is inside = absurd is
  delete_unused (x ∷ xs) [] ps qs is inside = absurd is
  delete_unused (x ∷ xs) (y ∷ ys) [] qs is inside = absurd is
  delete_unused (x ∷ xs) (y ∷ ys) (p ∷ ps) [] is inside = absurd is
  delete_unused (x ∷ xs) (y ∷ ys) (p ∷ ps) (q ∷ qs) is inside = (
    record {
      missing = λ t live. is.0.done live t;
      inside = λ t. may_inside ((v x).at object) ((v y).at object) (is.0.may t) (inside.0 t);
    },
    delete_unused xs ys ps qs is.1 inside.1,
  )

  losses_later : (xs ys : List X) (ps qs : List PartView) → Together R xs ys ps qs → told → losses_of v xs object ≤ losses_of v ys object
  losses_later [] [] [] [] is t = omega arith
  losses_later [] [] [] (q ∷ qs) is t = absurd is
  losses_later [] [] (p ∷ ps) qs is t = absurd is
  losses_later [] (y ∷ ys) ps qs is t = absurd is
  losses_later (x ∷ xs) [] ps qs is t = absurd is
  losses_later (x ∷ xs) (y ∷ ys) [] qs is t = absurd is
  losses_later (x ∷ xs) (y ∷ ys) (p ∷ ps) [] is t = absurd is
  losses_later (x ∷ xs) (y ∷ ys) (p ∷ ps) (q ∷ qs) is t = let a = (is.0.guards t).later in let b = losses_later xs ys ps qs is.1 t in omega (arith, a, b, sum_by-cons (λ s. (v s).losses object) x xs, sum_by-cons (λ s. (v s).losses object) y ys)

  head_same : (x y : X) (xs ys : List X) → (v x).losses object ≤ (v y).losses object → losses_of v xs object ≤ losses_of v ys object → losses_of v (x ∷ xs) object ≡ losses_of v (y ∷ ys) object → ((v x).losses object ≡ (v y).losses object) × (losses_of v xs object ≡ losses_of v ys object)
  head_same x y xs ys a b same =
      let c = sum_by-cons (λ s. (v s).losses object) x xs in let d = sum_by-cons (λ s. (v s).losses object) y ys in
      (omega (arith, a, b, c, d, same), omega (arith, a, b, c, d, same))

  -- a copy that is gone with no loss had nothing durable
  nothing_kept : (synced e : ℕ) (bytes : List ℕ) (a b : ObjectState) → synced ≤ e → a ≡ Kept bytes e → b ≡ Missing → durable_of a ≤ durable_of b → synced ≤ 0
  nothing_kept synced e bytes a b more kept gone held = let x = ap durable_of kept in let y = ap durable_of gone in omega (arith, more, x, y, held)

  lost_nothing : (bytes : List ℕ) (synced : ℕ) (xs ys : List X) (ps qs : List PartView) (k : ℕ) → Together R xs ys ps qs → AllFit v object bytes synced xs ps → AllZip (λ s p. TakesPart (v s) p) xs ps → told → IsCalledAt v ys k → losses_of v xs object ≡ losses_of v ys object → synced ≤ 0
  lost_nothing bytes synced [] [] [] [] k is fit part t at same = absurd at
  lost_nothing bytes synced [] [] [] (q ∷ qs) k is fit part t at same = absurd is
  lost_nothing bytes synced [] [] (p ∷ ps) qs k is fit part t at same = absurd is
  lost_nothing bytes synced [] (y ∷ ys) ps qs k is fit part t at same = absurd is
  lost_nothing bytes synced (x ∷ xs) [] ps qs k is fit part t at same = absurd is
  lost_nothing bytes synced (x ∷ xs) (y ∷ ys) [] qs k is fit part t at same = absurd is
  lost_nothing bytes synced (x ∷ xs) (y ∷ ys) (p ∷ ps) [] k is fit part t at same = absurd is
  lost_nothing bytes synced (x ∷ xs) (y ∷ ys) (p ∷ ps) (q ∷ qs) zero is fit part t at same =
      let g = is.0.guards t in
      let h = head_same x y xs ys g.later (losses_later xs ys ps qs is.1 t) same in
      let c = fit.0.copy (part.0 (is.0.rest.live at)) in
      nothing_kept synced c.durable bytes ((v x).at object) ((v y).at object) c.more c.kept (is.0.done at t) (g.held h.0)
  lost_nothing bytes synced (x ∷ xs) (y ∷ ys) (p ∷ ps) (q ∷ qs) (suc k) is fit part t at same =
      let g = is.0.guards t in
      let h = head_same x y xs ys g.later (losses_later xs ys ps qs is.1 t) same in
      lost_nothing bytes synced xs ys ps qs k is.1 fit.1 part.1 t at h.1

  told_none : (k : KnownState) (xs : List X) (bytes : List ℕ) → IsKept v object k xs bytes → k.synced ≤ 0 → durable_of (told_now v object xs k) ≤ 0
  told_none k xs bytes kept none = let e = ap durable_of (told_kept v object k xs bytes kept) in omega (arith, e, none)

  -- a member is still called
  pub deleted_some : (xs ys : List X) (k : KnownState) (qs : List PartView) (first : ℕ) → Together R xs ys k.parts qs → (told → IsThere (told_now v object xs k)) → AllTakePart v xs k.parts → length k.parts ≡ length xs → IsCalledAt v ys first → AllUnused told v object ys × (told → Guards (told_now v object xs k) Missing (losses_of v xs object) (losses_of v ys object))
  deleted_some xs ys k qs first is there part long at = (
    delete_unused xs ys k.parts qs is (inside_each v object told xs k there),
    λ t. record {
      later = losses_later xs ys k.parts qs is t;
      held = λ same.
          let kept = kept_told v object k xs (there t) in
          told_none k xs (bytes_of (state_of (column v xs object) k.chief)) kept (lost_nothing (bytes_of (state_of (column v xs object) k.chief)) k.synced xs ys k.parts qs first is kept.all (zip_part v xs k.parts long part) t at same);
    },
  )

  -- none is called any more
  none_fit : (bytes : List ℕ) (synced : ℕ) (xs ys : List X) (ps qs : List PartView) → Together R xs ys ps qs → AllFit v object bytes synced xs ps → NoneCalled v ys → told → AllFit v object bytes synced ys qs
  none_fit bytes synced [] [] [] [] is fit none t = tt
  none_fit bytes synced [] [] [] (q ∷ qs) is fit none t = absurd is
  none_fit bytes synced [] [] (p ∷ ps) qs is fit none t = absurd is
  none_fit bytes synced [] (y ∷ ys) ps qs is fit none t = absurd is
  none_fit bytes synced (x ∷ xs) [] ps qs is fit none t = absurd is
  none_fit bytes synced (x ∷ xs) (y ∷ ys) [] qs is fit none t = absurd is
  none_fit bytes synced (x ∷ xs) (y ∷ ys) (p ∷ ps) [] is fit none t = absurd is
  none_fit bytes synced (x ∷ xs) (y ∷ ys) (p ∷ ps) (q ∷ qs) is fit none t = (
    record {
      copy = λ live. let e = is.0.flag in let off = none.0 in absurd (cc);
      inside = may_inside ((v x).at object) ((v y).at object) (is.0.may t) fit.0.inside;
    },
    none_fit bytes synced xs ys ps qs is.1 fit.1 none.1 t,
  )

  none_part : (xs ys : List X) (ps qs : List PartView) → Together R xs ys ps qs → AllZip (λ s p. TakesPart (v s) p) ys qs
  none_part [] [] [] [] is = tt
  none_part [] [] [] (q ∷ qs) is = absurd is
  none_part [] [] (p ∷ ps) qs is = absurd is
  none_part [] (y ∷ ys) ps qs is = absurd is
  none_part (x ∷ xs) [] ps qs is = absurd is
  none_part (x ∷ xs) (y ∷ ys) [] qs is = absurd is
  none_part (x ∷ xs) (y ∷ ys) (p ∷ ps) [] is = absurd is
  none_part (x ∷ xs) (y ∷ ys) (p ∷ ps) (q ∷ qs) is = (λ live. is.0.flag ∙ live, none_part xs ys ps qs is.1)

  all_off : (xs ys : List X) (ps qs : List PartView) → Together R xs ys ps qs → NoneCalled v ys → none_live qs ≡ true
  all_off [] [] [] [] is none = refl
  all_off [] [] [] (q ∷ qs) is none = absurd is
  all_off [] [] (p ∷ ps) qs is none = absurd is
  all_off [] (y ∷ ys) ps qs is none = absurd is
  all_off (x ∷ xs) [] ps qs is none = absurd is
  all_off (x ∷ xs) (y ∷ ys) [] qs is none = absurd is
  all_off (x ∷ xs) (y ∷ ys) (p ∷ ps) [] is none = absurd is
  all_off (x ∷ xs) (y ∷ ys) (p ∷ ps) (q ∷ qs) is none = rw (is.0.flag ∙ none.0, all_off xs ys ps qs is.1 none.1) refl

  gives_up : (qs : List PartView) → 0 < length qs → none_live qs ≡ true → has_no_member qs ≡ true
  gives_up [] some off = absurd (omega (arith, some))
  gives_up (q ∷ qs) some off = off

  some_seat : (xs : List X) (k : ℕ) (bytes : List ℕ) (e : ℕ) → state_of (column v xs object) k ≡ Kept bytes e → 0 < length xs
  some_seat [] k bytes e is = absurd (cc)
  some_seat (x ∷ xs) k bytes e is = omega arith

  chief_may : (xs ys : List X) (ps qs : List PartView) (k : ℕ) → Together R xs ys ps qs → told → (state_of (column v ys object) k ≡ state_of (column v xs object) k) ⊎ (state_of (column v ys object) k ≡ Missing)
  chief_may [] [] [] [] k is t = inl refl
  chief_may [] [] [] (q ∷ qs) k is t = absurd is
  chief_may [] [] (p ∷ ps) qs k is t = absurd is
  chief_may [] (y ∷ ys) ps qs k is t = absurd is
  chief_may (x ∷ xs) [] ps qs k is t = absurd is
  chief_may (x ∷ xs) (y ∷ ys) [] qs k is t = absurd is
  chief_may (x ∷ xs) (y ∷ ys) (p ∷ ps) [] k is t = absurd is
  chief_may (x ∷ xs) (y ∷ ys) (p ∷ ps) (q ∷ qs) zero is t = is.0.may t
  chief_may (x ∷ xs) (y ∷ ys) (p ∷ ps) (q ∷ qs) (suc k) is t = chief_may xs ys ps qs k is.1 t

  chief_lost : (bytes : List ℕ) (synced e : ℕ) (xs ys : List X) (ps qs : List PartView) (k : ℕ) → Together R xs ys ps qs → AllFit v object bytes synced xs ps → AllZip (λ s p. TakesPart (v s) p) xs ps → told → state_of (column v xs object) k ≡ Kept bytes e → state_of (column v ys object) k ≡ Missing → losses_of v xs object ≡ losses_of v ys object → synced ≤ 0
  chief_lost bytes synced e [] [] [] [] k is fit part t kept gone same = absurd (cc)
  chief_lost bytes synced e [] [] [] (q ∷ qs) k is fit part t kept gone same = absurd is
  chief_lost bytes synced e [] [] (p ∷ ps) qs k is fit part t kept gone same = absurd is
  chief_lost bytes synced e [] (y ∷ ys) ps qs k is fit part t kept gone same = absurd is
  chief_lost bytes synced e (x ∷ xs) [] ps qs k is fit part t kept gone same = absurd is
  chief_lost bytes synced e (x ∷ xs) (y ∷ ys) [] qs k is fit part t kept gone same = absurd is
  chief_lost bytes synced e (x ∷ xs) (y ∷ ys) (p ∷ ps) [] k is fit part t kept gone same = absurd is
  chief_lost bytes synced e (x ∷ xs) (y ∷ ys) (p ∷ ps) (q ∷ qs) zero is fit part t kept gone same = by (v x).live refl
    where
      by : (b : Bool) → (v x).live ≡ b → synced ≤ 0
      by true live =
          let g = is.0.guards t in
          let h = head_same x y xs ys g.later (losses_later xs ys ps qs is.1 t) same in
          let c = fit.0.copy (part.0 live) in
          nothing_kept synced c.durable bytes ((v x).at object) ((v y).at object) c.more c.kept gone (g.held h.0)
      by false off = let stays = is.0.idle off in absurd (cc)
  chief_lost bytes synced e (x ∷ xs) (y ∷ ys) (p ∷ ps) (q ∷ qs) (suc k) is fit part t kept gone same =
      let g = is.0.guards t in
      let h = head_same x y xs ys g.later (losses_later xs ys ps qs is.1 t) same in
      chief_lost bytes synced e xs ys ps qs k is.1 fit.1 part.1 t kept gone h.1

  take_part : (xs ys : List X) (ps qs : List PartView) → Together R xs ys ps qs → AllTakePart v ys qs
  take_part xs ys ps [] is = tt
  take_part xs ys ps (q ∷ qs) is = none_part xs ys ps (q ∷ qs) is

  module _ (xs ys : List X) (chief synced : ℕ) (ps qs : List PartView) where
    abbrev before : KnownState
    before = record { chief = chief; synced = synced; parts = ps }

    abbrev after : KnownState
    after = record { chief = chief; synced = synced; parts = qs }

    given_up : Together R xs ys ps qs → NoneCalled v ys → (bytes : List ℕ) → IsKept v object before xs bytes → has_no_member qs ≡ true
    given_up is none bytes kept =
        let some = some_seat xs chief bytes kept.durable kept.chief in
        let n = as_many R xs ys ps qs is in
        gives_up qs (omega (arith, some, n.0, n.1, n.2)) (all_off xs ys ps qs is none)

    still_or_gone : Together R xs ys ps qs → NoneCalled v ys → told → (bytes : List ℕ) → IsKept v object before xs bytes → (state_of (column v ys object) chief ≡ state_of (column v xs object) chief) ⊎ (state_of (column v ys object) chief ≡ Missing) → (told_now v object ys after ≡ told_now v object xs before) ⊎ ((told_now v object ys after ≡ Missing) × (state_of (column v ys object) chief ≡ Missing))
    still_or_gone is none t bytes kept (inl same) =
        let now : IsKept v object after ys bytes = record { durable = kept.durable; chief = same ∙ kept.chief; low = kept.low; all = none_fit bytes synced xs ys ps qs is kept.all none t } in
        inl (told_kept v object after ys bytes now ∙ sym (told_kept v object before xs bytes kept))
    still_or_gone is none t bytes kept (inr gone) = inr (ap (told_by after (column v ys object)) gone ∙ ap (λ b. if b then Missing else Lent []) (given_up is none bytes kept), gone)

    only_may : (told_now v object ys after ≡ told_now v object xs before) ⊎ ((told_now v object ys after ≡ Missing) × (state_of (column v ys object) chief ≡ Missing)) → (told_now v object ys after ≡ told_now v object xs before) ⊎ (told_now v object ys after ≡ Missing)
    only_may (inl same) = inl same
    only_may (inr gone) = inr gone.0

    held_none : Together R xs ys ps qs → AllZip (λ s p. TakesPart (v s) p) xs ps → told → (bytes : List ℕ) → IsKept v object before xs bytes → losses_of v xs object ≡ losses_of v ys object → (told_now v object ys after ≡ told_now v object xs before) ⊎ ((told_now v object ys after ≡ Missing) × (state_of (column v ys object) chief ≡ Missing)) → durable_of (told_now v object xs before) ≤ durable_of (told_now v object ys after)
    held_none is part t bytes kept same (inl still) = let e = ap durable_of still in omega (arith, e)
    held_none is part t bytes kept same (inr gone) =
        let z = told_none before xs bytes kept (chief_lost bytes synced kept.durable xs ys ps qs chief is kept.all part t kept.chief gone.1 same) in
        omega (arith, z)

    pub deleted_none : Together R xs ys ps qs → (told → IsThere (told_now v object xs before)) → AllTakePart v xs ps → length ps ≡ length xs → NoneCalled v ys → Deleted told v object xs ys before after false
    deleted_none is there part long none = (
      none,
      take_part xs ys ps qs is,
      λ t. only_may (cases t),
      λ t. record {
        later = losses_later xs ys ps qs is t;
        held = λ same. held_none is (zip_part v xs ps long part) t (bytes_at t) (kept_at t) same (cases t);
      },
    )
      where
        bytes_at : told → List ℕ
        bytes_at t = bytes_of (state_of (column v xs object) chief)

        kept_at : (t : told) → IsKept v object before xs (bytes_at t)
        kept_at t = kept_told v object before xs (there t)

        cases : told → (told_now v object ys after ≡ told_now v object xs before) ⊎ ((told_now v object ys after ≡ Missing) × (state_of (column v ys object) chief ≡ Missing))
        cases t = still_or_gone is none t (bytes_at t) (kept_at t) (chief_may xs ys ps qs chief is t)

    pub deleted_by : Together R xs ys ps qs → (told → IsThere (told_now v object xs before)) → AllTakePart v xs ps → length ps ≡ length xs → (first : Option ℕ) → IfSome first (IsCalledAt v ys) → IfNone first (NoneCalled v ys) → Deleted told v object xs ys before after (is_some first)
    deleted_by is there part long (Some k) some none = deleted_some xs ys before qs k is there part long some
    deleted_by is there part long None some none = deleted_none is there part long none
