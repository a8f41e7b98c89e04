-- What a member had it has, through one call after another.
use Rattle.std.proofs.Common.{◌≡◌, ◌≢◌, ◌⊎◌, inl, inr, List, [], ◌∷◌, refl, sym, ◌∙◌, subst, arith}
use Rattle.gw_model.specs.declared.object.ObjectId.{ObjectId}
use Rattle.append_store.specs.State.{ObjectState, Missing, Kept, Lent, IsAway}
use Rattle.replica_store.specs.Kept.{AllTouch}
use Rattle.replica_store.specs.Seats.{SeatView}
use Rattle.replica_store.specs.Starting.{AllEndure, AllLevelled, Endures, IsContinued, IsLevelled, Upholds}
use Rattle.replica_store.specs.Steps.{Touches}
use Rattle.replica_store.proofs.Changes.{same_name}
use Rattle.replica_store.proofs.Serving.{front_both, front_self}

pub upholds_same : (a b : ObjectState) → b ≡ a → Upholds a b
upholds_same Missing b same = λ away. subst IsAway same away
upholds_same (Kept bytes durable) b same = record { content = bytes; durable = durable; kept = same; front = front_self bytes bytes refl; more = omega arith }
upholds_same (Lent m) b same = same

pub upholds_both : (a b c : ObjectState) → Upholds a b → Upholds b c → Upholds a c
upholds_both Missing Missing c one two = two
upholds_both Missing (Kept bytes durable) c one two = λ away. subst IsAway two.kept away
upholds_both Missing (Lent m) c one two = absurd (one tt)
upholds_both (Kept bytes durable) b c one two =
    let next : IsContinued one.content one.durable c = subst (λ s. Upholds s c) one.kept two in
    let d = one.more in let e = next.more in
    record {
      content = next.content;
      durable = next.durable;
      kept = next.kept;
      front = front_both bytes one.content next.content one.front next.front;
      more = omega (arith, d, e);
    }
upholds_both (Lent m) b c one two = subst (λ s. Upholds s c) one two

pub there_on : (a b : ObjectState) → Upholds a b → a ≢ Missing → b ≢ Missing
there_on Missing b held other = absurd (other refl)
there_on (Kept bytes durable) b held other = λ none. let e : Kept held.content held.durable ≡ Missing = sym held.kept ∙ none in cc
there_on (Lent m) b held other = λ none. let e : Lent m ≡ Missing = sym held ∙ none in cc

pub endures_same : (told : Type 0) (s : SeatView) → Endures told s s
endures_same told s = record {
  live = λ l. l;
  held = λ t q. upholds_same (s.at q) (s.at q) refl;
  losses = λ t q. omega arith;
  losses_there = λ t q other. refl;
  later = omega arith;
}

pub endures_both : (told : Type 0) (x y z : SeatView) → Endures told x y → Endures told y z → Endures told x z
endures_both told x y z one two = record {
  live = λ l. one.live (two.live l);
  held = λ t q. upholds_both (x.at q) (y.at q) (z.at q) (one.held t q) (two.held t q);
  losses = λ t q. let a = one.losses t q in let b = two.losses t q in omega (arith, a, b);
  losses_there = λ t q other. two.losses_there t q (there_on (x.at q) (y.at q) (one.held t q) other) ∙ one.losses_there t q other;
  later = let a = one.later in let b = two.later in omega (arith, a, b);
}

-- a call that touches one object, and keeps what was there
pub endures_at : (told : Type 0) (o : ObjectId) (s t : SeatView) → Touches told o s t → IsLevelled told o s t → Endures told s t
endures_at told o s t touch level = record {
  live = touch.live;
  held = λ u q. held_by u q (same_name q o);
  losses = λ u q. let e = losses_by u q (same_name q o) in omega (arith, e);
  losses_there = λ u q other. losses_by u q (same_name q o);
  later = touch.later;
}
  where
    held_by : told → (q : ObjectId) → (q ≡ o) ⊎ (q ≢ o) → Upholds (s.at q) (t.at q)
    held_by u q (inl same) = subst (λ r. Upholds (s.at r) (t.at r)) (sym same) (level.held u)
    held_by u q (inr other) = upholds_same (s.at q) (t.at q) (touch.others u q other)

    losses_by : told → (q : ObjectId) → (q ≡ o) ⊎ (q ≢ o) → t.losses q ≡ s.losses q
    losses_by u q (inl same) = subst (λ r. t.losses r ≡ s.losses r) (sym same) (level.losses u)
    losses_by u q (inr other) = touch.no_losses u q other

module _ {X : Type 0} (told : Type 0) (v : X → SeatView) where
  pub all_same : (xs : List X) → AllEndure told v xs xs
  all_same [] = tt
  all_same (x ∷ xs) = (endures_same told (v x), all_same xs)

  pub all_both : (xs ys zs : List X) → AllEndure told v xs ys → AllEndure told v ys zs → AllEndure told v xs zs
  all_both [] [] [] one two = tt
  all_both [] [] (z ∷ zs) one two = absurd two
  all_both [] (y ∷ ys) zs one two = absurd one
  all_both (x ∷ xs) [] zs one two = absurd one
  all_both (x ∷ xs) (y ∷ ys) [] one two = absurd two
  all_both (x ∷ xs) (y ∷ ys) (z ∷ zs) one two = (endures_both told (v x) (v y) (v z) one.0 two.0, all_both xs ys zs one.1 two.1)

  pub all_at : (o : ObjectId) (xs ys : List X) → AllTouch told v o xs ys → AllLevelled told v o xs ys → AllEndure told v xs ys
  all_at o [] [] touch level = tt
  all_at o [] (y ∷ ys) touch level = absurd touch
  all_at o (x ∷ xs) [] touch level = absurd touch
  all_at o (x ∷ xs) (y ∷ ys) touch level = (endures_at told o (v x) (v y) touch.0 level.0, all_at o xs ys touch.1 level.1)

  pub levelled_same : (o : ObjectId) (xs : List X) → AllLevelled told v o xs xs
  levelled_same o [] = tt
  levelled_same o (x ∷ xs) = (record { held = λ t. upholds_same _ _ refl; losses = λ t. refl }, levelled_same o xs)
