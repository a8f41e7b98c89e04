-- What a call comes to, by what it makes of the members and of the list.
use Rattle.std.proofs.Common.{◌≡◌, ◌≢◌, ◌≤◌, inl, inr, ℕ, ◌<◌, ◌++◌, Bool, true, false, not, is_some, if◌then◌else◌, List, [], ◌∷◌, length, map, min, Option, Some, None, IfSome, Ok, Err, refl, sym, ◌∙◌, ap, subst, arith, sum_by}
use Rattle.std.proofs.lemmas.List.Sums.{sum_by-cons}
use Rattle.gw_model.specs.declared.object.ObjectId.{ObjectId}
use Rattle.gw_outside.specs.Causes.{Carries}
use Rattle.append_store.specs.State.{ObjectState, Missing, Kept, Lent, IsThere, durable_of}
use Rattle.append_store.specs.Calls.{Creates, Guards}
use Rattle.replica_store.specs.Marks.{joined, one_mark}
use Rattle.replica_store.specs.Parts.{FilesState, PartView, AreCopies, counts, one_if, part_of}
use Rattle.replica_store.specs.Seats.{SeatView, KnownState, AllTakePart, IsSoundAt, called_of, column, counts_of, has_no_member, known_at, losses_of, mark_in, none_live, are_copies, state_of, told_by, told_of}
use Rattle.replica_store.specs.Kept.{AllTouch, AllUnused, Deleted, NoneCalled, TakenOut, told_now}
use Rattle.replica_store.specs.Objects.{AreSound, CreatesIn, DeletesIn, GivesIn, LeavesOtherObjects, TakesIn, told_at}
use Rattle.replica_store.proofs.Marking.{marks_tell}
use Rattle.replica_store.proofs.Told.{both, kept_told}
use Rattle.replica_store.proofs.Changes.{fewer_called, leaves_others, none_are_called}
use Rattle.replica_store.proofs.Deleting.{zip_many}

creates_itself : (s : ObjectState) → s ≢ Missing → Creates s s
creates_itself Missing other = absurd (other refl)
creates_itself (Kept bytes durable) other = refl
creates_itself (Lent m) other = refl

none_take_part : (ps : List PartView) → none_live ps ≡ true → sum_by (λ p. one_if p.live) ps ≡ 0
none_take_part [] off = refl
none_take_part (p ∷ ps) off =
    let b = both (not p.live) (none_live ps) off in
    let a = is_off p.live b.0 in let c = none_take_part ps b.1 in
    omega (arith, a, c, sum_by-cons (λ r. one_if r.live) p ps)
  where
    is_off : (b : Bool) → not b ≡ true → one_if b ≡ 0
    is_off true e = absurd (cc)
    is_off false e = refl

module _ {X : Type 0} (v : X → SeatView) where
  pub given_none : (xs : List X) (ps : List PartView) → has_no_member ps ≡ true → AllTakePart v xs ps → called_of v xs ≡ 0
  given_none xs [] up part = absurd (cc)
  given_none xs (p ∷ ps) up part = let a = fewer_called v xs (p ∷ ps) part in let b = none_take_part (p ∷ ps) up in omega (arith, a, b)

  -- an object in the list isn't missing while a member is called
  pub not_missing : (xs : List X) (k : KnownState) (states : List ObjectState) → AllTakePart v xs k.parts → 0 < called_of v xs → told_of (Some k) states ≢ Missing
  not_missing xs k states part some = by (state_of states k.chief)
    where
      up : (b : Bool) → has_no_member k.parts ≡ b → (if b then Missing else Lent []) ≢ Missing
      up true given same = let e = given_none xs k.parts given part in absurd (omega (arith, some, e))
      up false given same = cc

      kept : (b : Bool) (bytes : List ℕ) (n : ℕ) → (if b then Kept bytes n else Lent []) ≢ Missing
      kept true bytes n same = cc
      kept false bytes n same = cc

      by : (s : ObjectState) → told_by k states s ≢ Missing
      by Missing = up (has_no_member k.parts) refl
      by (Kept bytes durable) = kept (are_copies bytes k.synced k.parts states) bytes (min k.synced (length bytes))
      by (Lent m) = λ same. cc

-- a file of these parts is out
lent_marks : (ms ns : List ObjectId) → Lent ms ≡ Lent ns → ms ≡ ns
lent_marks ms ns same = cc

some_mark : (ps : List PartView) → 0 < length ps → [] ≡ joined (map (λ p. p.mark) ps) → ⊥
some_mark [] some same = absurd (omega (arith, some))
some_mark (p ∷ ps) some same = by p.mark same
  where
    by : (m : Option (List ObjectId)) → [] ≡ one_mark m ++ joined (map (λ r. r.mark) ps) → ⊥
    by None same = cc
    by (Some m) same = cc

pub own_marks : (o : Option KnownState) (states : List ObjectState) (ps : List PartView) → 0 < length ps → told_of o states ≡ Lent (joined (map (λ p. p.mark) ps)) → map mark_in states ≡ map (λ p. p.mark) ps
own_marks None states ps some same = cc
own_marks (Some k) states ps some same = by (state_of states k.chief) same
  where
    up : (b : Bool) → (if b then Missing else Lent []) ≡ Lent (joined (map (λ p. p.mark) ps)) → ⊥
    up true same = cc
    up false same = some_mark ps some (lent_marks _ _ same)

    kept : (b : Bool) (bytes : List ℕ) (n : ℕ) → (if b then Kept bytes n else Lent []) ≡ Lent (joined (map (λ p. p.mark) ps)) → ⊥
    kept true bytes n same = cc
    kept false bytes n same = some_mark ps some (lent_marks _ _ same)

    by : (s : ObjectState) → told_by k states s ≡ Lent (joined (map (λ p. p.mark) ps)) → map mark_in states ≡ map (λ p. p.mark) ps
    by Missing same = absurd (up (has_no_member k.parts) same)
    by (Kept bytes durable) same = absurd (kept (are_copies bytes k.synced k.parts states) bytes (min k.synced (length bytes)) same)
    by (Lent m) same = marks_tell _ _ (lent_marks _ _ same)

map_many : {A B : Type 0} (f : A → B) (xs : List A) → length (map f xs) ≡ length xs
map_many f [] = refl
map_many f (x ∷ xs) = let n = map_many f xs in omega (arith, n)

module _ {X : Type 0} (v : X → SeatView) (told : Type 0) (object : ObjectId) where
  touch_self : (xs : List X) → AllTouch told v object xs xs
  touch_self [] = tt
  touch_self (x ∷ xs) = (record { live = λ live. live; others = λ t q other. refl; no_losses = λ t q other. refl; later = omega arith }, touch_self xs)

  at_known : (xs : List X) (known : List (ObjectId × KnownState)) (o : Option KnownState) → known_at known object ≡ o → told_at v xs known object ≡ told_of o (column v xs object)
  at_known xs known o is = ap (λ k. told_of k (column v xs object)) is

  pub sound_known : (xs : List X) (known : List (ObjectId × KnownState)) (o : Option KnownState) → AreSound told v xs known → known_at known object ≡ o → IsSoundAt told v xs object o
  sound_known xs known o sound is = subst (IsSoundAt told v xs object) is (sound object)

  pub there_known : (xs : List X) (known : List (ObjectId × KnownState)) (o : Option KnownState) → (told → IsThere (told_at v xs known object)) → known_at known object ≡ o → told → IsThere (told_of o (column v xs object))
  there_known xs known o there is t = subst IsThere (at_known xs known o is) (there t)

  -- nothing is done
  pub leaves_all : (xs : List X) (old new : List (ObjectId × KnownState)) → AreSound told v xs old → ((q : ObjectId) → q ≢ object → known_at new q ≡ known_at old q) → known_at new object ≡ known_at old object → LeavesOtherObjects told v object xs xs old new
  leaves_all xs old new sound others here = leaves_others v told object xs xs old new sound others (subst (IsSoundAt told v xs object) (sym here) (sound object)) (touch_self xs)

  was_missing : (xs : List X) (old : List (ObjectId × KnownState)) → known_at old object ≡ None → told_at v xs old object ≡ Missing
  was_missing xs old none = at_known xs old None none

  guards_missing : (xs ys : List X) (old new : List (ObjectId × KnownState)) → known_at old object ≡ None → (told → losses_of v xs object ≤ losses_of v ys object) → told → Guards (told_at v xs old object) (told_at v ys new object) (losses_of v xs object) (losses_of v ys object)
  guards_missing xs ys old new none losses t = record { later = losses t; held = λ same. let e = ap durable_of (was_missing xs old none) in omega (arith, e) }

  module _ {T E : Type 0} where
    before_some : (xs : List X) (known : List (ObjectId × KnownState)) (o : Option KnownState) (x : T) → AreSound told v xs known → known_at known object ≡ o → is_some o ≡ true → CreatesIn {T = T} {E = E} told v object xs xs known known (Ok x)
    before_some xs known None x sound is there = absurd (cc)
    before_some xs known (Some k) x sound is there = record {
      rest = leaves_all xs known known sound (λ q other. refl) refl;
      done = λ t some. creates_itself (told_at v xs known object) (λ missing. not_missing v xs k (column v xs object) (sound_known xs known (Some k) sound is) some (sym (at_known xs known (Some k) is) ∙ missing));
      may = λ t. inl refl;
      refused = tt;
      guards = λ t. record { later = omega arith; held = λ same. omega arith };
      losses_there = λ t other. refl;
    }

    -- the list has it
    pub created_before : (xs : List X) (known : List (ObjectId × KnownState)) (x : T) → AreSound told v xs known → is_some (known_at known object) ≡ true → CreatesIn {T = T} {E = E} told v object xs xs known known (Ok x)
    created_before xs known x sound there = before_some xs known (known_at known object) x sound refl there

    module _ (xs ys : List X) (old new : List (ObjectId × KnownState)) (sound : AreSound told v xs old) (none : known_at old object ≡ None) (others : (q : ObjectId) → q ≢ object → known_at new q ≡ known_at old q) (touched : AllTouch told v object xs ys) (losses : told → losses_of v xs object ≤ losses_of v ys object) where
      pub created_made : (k : KnownState) (x : T) → known_at new object ≡ Some k → AllTakePart v ys k.parts → (told → told_now v object ys k ≡ Kept [] 0) → CreatesIn {T = T} {E = E} told v object xs ys old new (Ok x)
      created_made k x here part made = record {
        rest = leaves_others v told object xs ys old new sound others (subst (IsSoundAt told v ys object) (sym here) part) touched;
        done = λ t some. subst (λ s. Creates s (told_at v ys new object)) (sym (was_missing xs old none)) (at_known ys new (Some k) here ∙ made t);
        may = λ t. inr (subst (λ s. Creates s (told_at v ys new object)) (sym (was_missing xs old none)) (at_known ys new (Some k) here ∙ made t));
        refused = tt;
        guards = guards_missing xs ys old new none losses;
        losses_there = λ t other. absurd (other (was_missing xs old none));
      }

      pub created_none : (x : T) → known_at new object ≡ None → AllUnused told v object ys → NoneCalled v ys → CreatesIn {T = T} {E = E} told v object xs ys old new (Ok x)
      created_none x here unused off = record {
        rest = leaves_others v told object xs ys old new sound others (subst (IsSoundAt told v ys object) (sym here) unused) touched;
        done = λ t some. let e = none_are_called v ys off in absurd (omega (arith, some, e));
        may = λ t. inl (at_known ys new None here ∙ sym (was_missing xs old none));
        refused = tt;
        guards = guards_missing xs ys old new none losses;
        losses_there = λ t other. absurd (other (was_missing xs old none));
      }

      pub created_refused : (e : E) → known_at new object ≡ None → AllUnused told v object ys → CreatesIn {T = T} {E = E} told v object xs ys old new (Err e)
      created_refused e here unused = record {
        rest = leaves_others v told object xs ys old new sound others (subst (IsSoundAt told v ys object) (sym here) unused) touched;
        done = tt;
        may = λ t. inl (at_known ys new None here ∙ sym (was_missing xs old none));
        refused = λ t. at_known ys new None here ∙ sym (was_missing xs old none);
        guards = guards_missing xs ys old new none losses;
        losses_there = λ t other. absurd (other (was_missing xs old none));
      }

    -- memory was refused before the members were called
    pub refused_before : (xs : List X) (old new : List (ObjectId × KnownState)) (e : E) → AreSound told v xs old → known_at old object ≡ None → ((q : ObjectId) → q ≢ object → known_at new q ≡ known_at old q) → known_at new object ≡ None → CreatesIn {T = T} {E = E} told v object xs xs old new (Err e)
    refused_before xs old new e sound none others here = created_refused xs xs old new sound none others (touch_self xs) (λ t. omega arith) e here (sound_known xs old None sound none)

  not_lifted : (xs : List X) (o : Option KnownState) → IfSome o (λ k. length k.parts ≢ length xs) → IsThere (told_of o (column v xs object)) → ⊥
  not_lifted xs None other there = there
  not_lifted xs (Some k) other there = other (zip_many _ xs k.parts (kept_told v object k xs there).all)

  module _ (xs ys : List X) (old new : List (ObjectId × KnownState)) (k : KnownState) (sound : AreSound told v xs old) (is : known_at old object ≡ Some k) (others : (q : ObjectId) → q ≢ object → known_at new q ≡ known_at old q) (touched : AllTouch told v object xs ys) where
    pub deleted_gone : (k' : KnownState) → Deleted told v object xs ys k k' true → known_at new object ≡ None → DeletesIn told v object xs ys old new true
    deleted_gone k' deleted here = record {
      rest = leaves_others v told object xs ys old new sound others (subst (IsSoundAt told v ys object) (sym here) deleted.0) touched;
      tried = λ t. refl;
      done = λ yes t some. at_known ys new None here;
      may = λ t. inr (at_known ys new None here);
      guards = λ t. rw (at_known xs old (Some k) is, at_known ys new None here) (deleted.1 t);
    }

    pub deleted_still : (k' : KnownState) → Deleted told v object xs ys k k' false → known_at new object ≡ Some k' → DeletesIn told v object xs ys old new true
    deleted_still k' deleted here = record {
      rest = leaves_others v told object xs ys old new sound others (subst (IsSoundAt told v ys object) (sym here) deleted.1) touched;
      tried = λ t. refl;
      done = λ yes t some. let e = none_are_called v ys deleted.0 in absurd (omega (arith, some, e));
      may = λ t. rw (at_known xs old (Some k) is, at_known ys new (Some k') here) (deleted.2 t);
      guards = λ t. rw (at_known xs old (Some k) is, at_known ys new (Some k') here) (deleted.3 t);
    }

    pub taken_in : (k' : KnownState) (f : Option FilesState) → known_at new object ≡ Some k' → AllTakePart v ys k'.parts → (told → losses_of v ys object ≡ losses_of v xs object) → TakenOut told (told_now v object xs k) (told_now v object ys k') f → TakesIn told v object xs ys old new f
    taken_in k' f here part losses taken = record {
      rest = leaves_others v told object xs ys old new sound others (subst (IsSoundAt told v ys object) (sym here) part) touched;
      losses = losses;
      taken = rw (at_known xs old (Some k) is, at_known ys new (Some k') here) taken;
    }

  module _ (xs : List X) (old new : List (ObjectId × KnownState)) (sound : AreSound told v xs old) (there : told → IsThere (told_at v xs old object)) (others : (q : ObjectId) → q ≢ object → known_at new q ≡ known_at old q) (here : known_at new object ≡ known_at old object) where
    still : told_at v xs new object ≡ told_at v xs old object
    still = ap (λ o. told_of o (column v xs object)) here

    pub not_deleted : IfSome (known_at old object) (λ k. length k.parts ≢ length xs) → DeletesIn told v object xs xs old new false
    not_deleted other = record {
      rest = leaves_all xs old new sound others here;
      tried = λ t. absurd (not_lifted xs (known_at old object) other (there t));
      done = λ yes t some. absurd (cc);
      may = λ t. inl still;
      guards = λ t. record { later = omega arith; held = λ same. let e = ap durable_of still in omega (arith, e) };
    }

    pub not_taken : TakesIn told v object xs xs old new None
    not_taken = record { rest = leaves_all xs old new sound others here; losses = λ t. refl; taken = λ t. still }

    pub not_there : IfSome (known_at old object) (λ k. length k.parts ≢ length xs) → told → ⊥
    not_there other t = not_lifted xs (known_at old object) other (there t)

  -- a file that can't be the one that was taken
  pub foreign : (xs : List X) (known : List (ObjectId × KnownState)) (k : KnownState) → AreSound told v xs known → AreCopies told k.parts k.chief k.synced → (length k.parts ≡ length xs → is_some (known_at known object) ≡ true → ⊥) → GivesIn told v object xs xs known known k false
  foreign xs known k sound are other = record {
    rest = leaves_all xs known known sound (λ q ne. refl) refl;
    own = λ t same. absurd (never t same);
    own_losses = λ t same. refl;
    losses = λ t. omega arith;
    count = λ no. absurd (cc);
  }
    where
      is_known : (o : Option KnownState) → told_of o (column v xs object) ≡ Lent (joined (map (λ p. p.mark) k.parts)) → is_some o ≡ true
      is_known None same = cc
      is_known (Some k') same = refl

      never : told → told_at v xs known object ≡ Lent (joined (map (λ p. p.mark) k.parts)) → ⊥
      never t same =
          let there = are.there in
          let e = ap length (own_marks (known_at known object) (column v xs object) k.parts (omega (arith, there)) same) in
          let m = map_many mark_in (column v xs object) in let n = map_many (λ p. p.mark) k.parts in let o = map_many (λ s. (v s).at object) xs in
          other (omega (arith, e, m, n, o)) (is_known (known_at known object) same)

  pub given_in : (xs ys : List X) (old new : List (ObjectId × KnownState)) (k k' : KnownState) → AreSound told v xs old → ((q : ObjectId) → q ≢ object → known_at new q ≡ known_at old q) → AllTouch told v object xs ys → known_at new object ≡ Some k' → AllTakePart v ys k'.parts → AreCopies told k.parts k.chief k.synced
      → (told → map mark_in (column v xs object) ≡ map (λ p. p.mark) k.parts → AreCopies told k.parts k.chief k.synced → told_now v object ys k' ≡ Kept (part_of k.parts k.chief).content (min k.synced (length (part_of k.parts k.chief).content)))
      → (told → map mark_in (column v xs object) ≡ map (λ p. p.mark) k.parts → losses_of v ys object ≡ losses_of v xs object)
      → (told → losses_of v xs object ≤ losses_of v ys object) → Carries (counts_of v xs) (counts k.parts) (counts_of v ys) → GivesIn told v object xs ys old new k true
  given_in xs ys old new k k' sound others touched here part are own own_losses losses count = record {
    rest = leaves_others v told object xs ys old new sound others (subst (IsSoundAt told v ys object) (sym here) part) touched;
    own = λ t same. at_known ys new (Some k') here ∙ own t (marks same) are;
    own_losses = λ t same. own_losses t (marks same);
    losses = losses;
    count = λ yes. count;
  }
    where
      marks : told_at v xs old object ≡ Lent (joined (map (λ p. p.mark) k.parts)) → map mark_in (column v xs object) ≡ map (λ p. p.mark) k.parts
      marks same = let there = are.there in own_marks (known_at old object) (column v xs object) k.parts (omega (arith, there)) same
