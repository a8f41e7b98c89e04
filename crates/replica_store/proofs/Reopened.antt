-- What the members have of an object after its copies were made equal again.
use Rattle.std.proofs.Common.{◌≡◌, ◌⊎◌, inl, inr, ◌<◌, ◌^◌, ◌-◌, ℕ, Bool, true, false, zero, suc, List, [], ◌∷◌, length, min, is_some, if◌then◌else◌, Option, Some, None, refl, sym, ◌∙◌, ap, subst, arith}
use Rattle.std.proofs.lemmas.List.{length-take}
use Rattle.std.specs.List.{AllByRecursion, AllZip}
use Rattle.gw_model.specs.declared.object.ObjectId.{ObjectId}
use Rattle.append_store.specs.State.{ObjectState, Missing, Kept, Lent, IsAway, IsCrashImage}
use Rattle.replica_store.specs.Kept.{AllTouch, NoneCalled, told_now}
use Rattle.replica_store.specs.Levels.{AreFronts, AreLevel, IsFront, Serves, StayFronts}
use Rattle.replica_store.specs.Parts.{PartView, part_of}
use Rattle.replica_store.specs.Reopening.{AwaitsLevel, HasFront, IsGivenUp, IsLed, IsLeft, IsOutOfNone}
use Rattle.replica_store.specs.Seats.{SeatView, KnownState, AllTakePart, TakesPart, column, has_no_member, losses_of, mark_in, none_live, state_of, told_by}
use Rattle.replica_store.specs.Starting.{AllLevelled, IsLevelled, Upholds}
use Rattle.replica_store.specs.Steps.{GivenAs, GivesFile, TakenAs, TakesFile, Together, Touches}
use Rattle.replica_store.proofs.Changes.{sum_same}
use Rattle.replica_store.proofs.Enduring.{upholds_same}
use Rattle.replica_store.proofs.Pairs.{at_pair, at_part, each_part, same_length}
use Rattle.replica_store.proofs.Told.{FitsIn, IsKept, told_kept}

-- what one member had (x), has while its file is out (y), and has then (z), with its file as it was taken (p)
-- and when it goes back (q), and its part then (r)
record Chain (told : Type 0) (object : ObjectId) (x y z : SeatView) (p q r : PartView) : Type 0 where
  part : PartView
  takes : TakesFile told object x y part p
  serves : Serves told p q
  gives : GivesFile told object y z q r

-- its file wasn't taken, and it has what it had; or it has what the file has
record Took (told : Type 0) (object : ObjectId) (x z : SeatView) (p q : PartView) : Type 0 where
  live : p.live ≡ true
  before : told → x.at object ≡ Kept p.content p.durable
  after : told → z.at object ≡ Kept q.content q.durable
  losses : told → z.losses object ≡ x.losses object

record Left (told : Type 0) (object : ObjectId) (x z : SeatView) (p : PartView) : Type 0 where
  idle : p.live ≡ false
  same : told → z.at object ≡ x.at object
  losses : told → z.losses object ≡ x.losses object

settle : (told : Type 0) (object : ObjectId) (x y z : SeatView) (p q r : PartView) (m : Option (List ObjectId)) → p.mark ≡ m → Chain told object x y z p q r → Took told object x z p q ⊎ Left told object x z p
settle told object x y z p q r None is c = inr (record {
  idle = c.takes.there ∙ ap (λ n. is_some n) is;
  same = λ t. (c.gives.nothing (c.serves.mark ∙ is)).0 ∙ subst (λ n. TakenAs p n (x.at object) (y.at object)) is (c.takes.taken t);
  losses = λ t. (c.gives.nothing (c.serves.mark ∙ is)).1 ∙ c.takes.losses t;
})
settle told object x y z p q r (Some m) is c =
    let out : (told → mark_in (y.at object) ≡ q.mark) = λ t. ap mark_in (subst (λ n. TakenAs p n (x.at object) (y.at object)) is (c.takes.taken t)).1 ∙ sym (c.serves.mark ∙ is) in
    inl (record {
      live = c.takes.there ∙ ap (λ n. is_some n) is;
      before = λ t. (subst (λ n. TakenAs p n (x.at object) (y.at object)) is (c.takes.taken t)).0;
      after = λ t. subst (λ n. GivenAs q n (y.at object) (z.at object)) (c.serves.mark ∙ is) (c.gives.own t (out t));
      losses = λ t. c.gives.own_losses t (out t) ∙ c.takes.losses t;
    })

settled : (told : Type 0) (object : ObjectId) (x y z : SeatView) (p q r : PartView) → Chain told object x y z p q r → Took told object x z p q ⊎ Left told object x z p
settled told object x y z p q r c = settle told object x y z p q r p.mark refl c

kept_content : (a b : List ℕ) (d e : ℕ) → Kept a d ≡ Kept b e → a ≡ b
kept_content a b d e same = cc

-- the file that was taken has a front, if the member had one
front_taken : (told : Type 0) (object : ObjectId) (x y z : SeatView) (p q r : PartView) (bytes : List ℕ) (least : ℕ) → Chain told object x y z p q r → told → HasFront bytes least (x.at object) → p.live ≡ true → IsFront bytes least p.content
front_taken told object x y z p q r bytes least c t has live = by (settled told object x y z p q r c)
  where
    by : Took told object x z p q ⊎ Left told object x z p → IsFront bytes least p.content
    by (inl took) = subst (IsFront bytes least) (kept_content _ _ _ _ (sym has.kept ∙ took.before t)) has.front
    by (inr left) = absurd (let off = left.idle in cc)

-- the member has a front then, if it had one
front_left : (told : Type 0) (object : ObjectId) (x y z : SeatView) (p q r : PartView) (bytes : List ℕ) (least : ℕ) → Chain told object x y z p q r → told → HasFront bytes least (x.at object) → (p.live ≡ true → told → IsFront bytes least q.content) → HasFront bytes least (z.at object)
front_left told object x y z p q r bytes least c t has stay = by (settled told object x y z p q r c)
  where
    by : Took told object x z p q ⊎ Left told object x z p → HasFront bytes least (z.at object)
    by (inl took) = record { content = q.content; durable = q.durable; kept = took.after t; front = stay took.live t }
    by (inr left) = record { content = has.content; durable = has.durable; kept = left.same t ∙ has.kept; front = has.front }

-- what a member has whose file was written to the end
has_file : (told : Type 0) (object : ObjectId) (x y z : SeatView) (p q r : PartView) → Chain told object x y z p q r → told → q.live ≡ true → z.at object ≡ Kept q.content q.durable
has_file told object x y z p q r c t live = by (settled told object x y z p q r c)
  where
    by : Took told object x z p q ⊎ Left told object x z p → z.at object ≡ Kept q.content q.durable
    by (inl took) = took.after t
    by (inr left) = absurd (let on = c.serves.live live in let off = left.idle in cc)

not_away : (s t : ObjectState) → t ≡ s → (IsAway s → ⊥) → IsAway t → ⊥
not_away s t same inside away = inside (subst IsAway same away)

kept_inside : (s : ObjectState) (b : List ℕ) (d : ℕ) → s ≡ Kept b d → IsAway s → ⊥
kept_inside s b d same away = subst IsAway same away

stays_inside : (told : Type 0) (object : ObjectId) (x y z : SeatView) (p q r : PartView) → Chain told object x y z p q r → told → (IsAway (x.at object) → ⊥) → IsAway (z.at object) → ⊥
stays_inside told object x y z p q r c t inside = by (settled told object x y z p q r c)
  where
    by : Took told object x z p q ⊎ Left told object x z p → IsAway (z.at object) → ⊥
    by (inl took) = kept_inside _ _ _ (took.after t)
    by (inr left) = not_away _ _ (left.same t) inside

keeps_losses : (told : Type 0) (object : ObjectId) (x y z : SeatView) (p q r : PartView) → Chain told object x y z p q r → told → z.losses object ≡ x.losses object
keeps_losses told object x y z p q r c t = by (settled told object x y z p q r c)
  where
    by : Took told object x z p q ⊎ Left told object x z p → z.losses object ≡ x.losses object
    by (inl took) = took.losses t
    by (inr left) = left.losses t

-- the member has what it had
levelled : (told : Type 0) (object : ObjectId) (x y z : SeatView) (p q r : PartView) → Chain told object x y z p q r → IsLevelled told object x z
levelled told object x y z p q r c = by (settled told object x y z p q r c)
  where
    by : Took told object x z p q ⊎ Left told object x z p → IsLevelled told object x z
    by (inl took) = record {
      held = λ t. subst (λ s. Upholds s (z.at object)) (sym (took.before t))
          (record { content = q.content; durable = q.durable; kept = took.after t; front = c.serves.front t; more = c.serves.durable t });
      losses = took.losses;
    }
    by (inr left) = record { held = λ t. upholds_same _ _ (left.same t); losses = left.losses }

stays_left : (told : Type 0) (object : ObjectId) (x y z : SeatView) (p q r : PartView) → Chain told object x y z p q r → told → p.live ≡ false → z.at object ≡ x.at object
stays_left told object x y z p q r c t off = by (settled told object x y z p q r c)
  where
    by : Took told object x z p q ⊎ Left told object x z p → z.at object ≡ x.at object
    by (inl took) = absurd (let on = took.live in cc)
    by (inr left) = left.same t

not_called : (a b : Bool) → (a ≡ true → b ≡ true) → b ≡ false → a ≡ false
not_called true b more off = absurd (let e = more refl in cc)
not_called false b more off = refl

none_live_of : (ps : List PartView) → AllByRecursion (λ p. p.live ≡ false) ps → none_live ps ≡ true
none_live_of [] all = refl
none_live_of (p ∷ ps) all = rw (all.0, none_live_of ps all.1) refl

given_up : (ps : List PartView) → 0 < length ps → AllByRecursion (λ p. p.live ≡ false) ps → has_no_member ps ≡ true
given_up [] some all = absurd (omega (arith, some))
given_up (p ∷ ps) some all = none_live_of (p ∷ ps) all

-- the members by their places
abbrev no_view : SeatView
no_view = record { at = λ q. Missing; losses = λ q. 0; count = 0; live = false; made = false }

module _ {X : Type 0} (v : X → SeatView) where
  abbrev pub view_of : List X → ℕ → SeatView
  view_of [] k = no_view
  view_of (s ∷ ss) zero = v s
  view_of (s ∷ ss) (suc k) = view_of ss k

  column_at : (q : ObjectId) (ss : List X) (k : ℕ) → state_of (column v ss q) k ≡ (view_of ss k).at q
  column_at q [] k = refl
  column_at q (s ∷ ss) zero = refl
  column_at q (s ∷ ss) (suc k) = column_at q ss k

  pub at_member : (R : SeatView → SeatView → PartView → PartView → Type 0) (xs ys : List X) (ps qs : List PartView) (k : ℕ) → Together (λ s t p q. R (v s) (v t) p q) xs ys ps qs → k < length xs → R (view_of xs k) (view_of ys k) (part_of ps k) (part_of qs k)
  at_member R [] ys ps qs k is lt = absurd (omega (arith, lt))
  at_member R (x ∷ xs) [] ps qs k is lt = absurd is
  at_member R (x ∷ xs) (y ∷ ys) [] qs k is lt = absurd is
  at_member R (x ∷ xs) (y ∷ ys) (p ∷ ps) [] k is lt = absurd is
  at_member R (x ∷ xs) (y ∷ ys) (p ∷ ps) (q ∷ qs) zero is lt = is.0
  at_member R (x ∷ xs) (y ∷ ys) (p ∷ ps) (q ∷ qs) (suc k) is lt = at_member R xs ys ps qs k is.1 (omega (arith, lt))

  pub at_view : (P : SeatView → Type 0) (ss : List X) (k : ℕ) → AllByRecursion (λ s. P (v s)) ss → k < length ss → P (view_of ss k)
  at_view P [] k all lt = absurd (omega (arith, lt))
  at_view P (s ∷ ss) zero all lt = all.0
  at_view P (s ∷ ss) (suc k) all lt = at_view P ss k all.1 (omega (arith, lt))

  pub each_zip : (S : SeatView → PartView → Type 0) (ss : List X) (ps : List PartView) → length ps ≡ length ss → ((k : ℕ) → k < length ss → S (view_of ss k) (part_of ps k)) → AllZip (λ s p. S (v s) p) ss ps
  each_zip S [] [] same at = tt
  each_zip S [] (p ∷ ps) same at = absurd (omega (arith, same))
  each_zip S (s ∷ ss) [] same at = absurd (omega (arith, same))
  each_zip S (s ∷ ss) (p ∷ ps) same at = (at 0 (omega arith), each_zip S ss ps (omega (arith, same)) (λ k lt. at (suc k) (omega (arith, lt))))

  pub each_two : (S : SeatView → SeatView → Type 0) (xs ys : List X) → length ys ≡ length xs → ((k : ℕ) → k < length xs → S (view_of xs k) (view_of ys k)) → AllZip (λ s t. S (v s) (v t)) xs ys
  each_two S [] [] same at = tt
  each_two S [] (y ∷ ys) same at = absurd (omega (arith, same))
  each_two S (x ∷ xs) [] same at = absurd (omega (arith, same))
  each_two S (x ∷ xs) (y ∷ ys) same at = (at 0 (omega arith), each_two S xs ys (omega (arith, same)) (λ k lt. at (suc k) (omega (arith, lt))))

  counted : (R : SeatView → SeatView → PartView → PartView → Type 0) (xs ys : List X) (ps qs : List PartView) → Together (λ s t p q. R (v s) (v t) p q) xs ys ps qs → (length ys ≡ length xs) × (length qs ≡ length ps) × (length ps ≡ length xs)
  counted R [] [] [] [] is = (refl, refl, refl)
  counted R [] [] [] (q ∷ qs) is = absurd is
  counted R [] [] (p ∷ ps) qs is = absurd is
  counted R [] (y ∷ ys) ps qs is = absurd is
  counted R (x ∷ xs) [] ps qs is = absurd is
  counted R (x ∷ xs) (y ∷ ys) [] qs is = absurd is
  counted R (x ∷ xs) (y ∷ ys) (p ∷ ps) [] is = absurd is
  counted R (x ∷ xs) (y ∷ ys) (p ∷ ps) (q ∷ qs) is =
      let n = counted R xs ys ps qs is.1 in
      let a = n.0 in let b = n.1 in let c = n.2 in
      (omega (arith, a), omega (arith, b), omega (arith, c))

  view_same : (q : ObjectId) (xs zs : List X) (k : ℕ) → AllZip (λ s u. (v u).at q ≡ (v s).at q) xs zs → (view_of zs k).at q ≡ (view_of xs k).at q
  view_same q [] [] k is = refl
  view_same q [] (z ∷ zs) k is = absurd is
  view_same q (x ∷ xs) [] k is = absurd is
  view_same q (x ∷ xs) (z ∷ zs) zero is = is.0
  view_same q (x ∷ xs) (z ∷ zs) (suc k) is = view_same q xs zs k is.1

  inside_range : (q : ObjectId) (ss : List X) (k : ℕ) (b : List ℕ) (d : ℕ) → (view_of ss k).at q ≡ Kept b d → k < length ss
  inside_range q [] k b d is = absurd (cc)
  inside_range q (s ∷ ss) zero b d is = omega arith
  inside_range q (s ∷ ss) (suc k) b d is = let a = inside_range q ss k b d is in omega (arith, a)

  module _ (told : Type 0) (object : ObjectId) (xs ys zs : List X) (os ps qs rs : List PartView) (takes : Together (λ s t p q. TakesFile told object (v s) (v t) p q) xs ys os ps) (serves : AllZip (Serves told) ps qs) (gives : Together (λ s t p q. GivesFile told object (v s) (v t) p q) ys zs qs rs) where
    chain : (k : ℕ) → k < length xs → Chain told object (view_of xs k) (view_of ys k) (view_of zs k) (part_of ps k) (part_of qs k) (part_of rs k)
    chain k lt =
        let n = counted (TakesFile told object) xs ys os ps takes in
        let long = n.0 in let many = n.1 in let few = n.2 in
        record {
          part = part_of os k;
          takes = at_member (TakesFile told object) xs ys os ps k takes lt;
          serves = at_pair _ ps qs k serves (omega (arith, lt, many, few));
          gives = at_member (GivesFile told object) ys zs qs rs k gives (omega (arith, lt, long));
        }

    many_members : length zs ≡ length xs
    many_members = let a = (counted (TakesFile told object) xs ys os ps takes).0 in let b = (counted (GivesFile told object) ys zs qs rs gives).0 in omega (arith, a, b)

    pub many_files : length qs ≡ length xs
    many_files = let a = (counted (TakesFile told object) xs ys os ps takes).0 in let b = (counted (GivesFile told object) ys zs qs rs gives).2 in omega (arith, a, b)

    pub many_parts : length rs ≡ length zs
    many_parts = let c = counted (GivesFile told object) ys zs qs rs gives in let a = c.0 in let b = c.1 in let d = c.2 in omega (arith, a, b, d)

    pub all_touch : AllTouch told v object xs zs
    all_touch = each_two (Touches told object) xs zs many_members (λ k lt.
        let c = chain k lt in
        let a = c.takes.rest in
        let b = c.gives.rest in
        record {
          live = λ l. a.live (b.live l);
          others = λ t q other. b.others t q other ∙ a.others t q other;
          no_losses = λ t q other. b.no_losses t q other ∙ a.no_losses t q other;
          later = let e = a.later in let f = b.later in omega (arith, e, f);
        })

    part_each : AllZip (λ s p. TakesPart (v s) p) zs rs
    part_each = each_zip TakesPart zs rs many_parts (λ k lt live. (chain k (let e = many_members in omega (arith, lt, e))).gives.flag ∙ live)

    pub all_part : AllTakePart v zs rs
    all_part = by rs part_each
      where
        by : (us : List PartView) → AllZip (λ s p. TakesPart (v s) p) zs us → AllTakePart v zs us
        by [] is = tt
        by (u ∷ us) is = is

    pub all_levelled : AllLevelled told v object xs zs
    all_levelled = each_two (IsLevelled told object) xs zs many_members (λ k lt. levelled told object _ _ _ _ _ _ (chain k lt))

    pub same_losses : told → losses_of v zs object ≡ losses_of v xs object
    same_losses t = sum_same (λ s. (v s).losses object) xs zs (each_two (λ s u. u.losses object ≡ s.losses object) xs zs many_members (λ k lt.
        keeps_losses told object _ _ _ _ _ _ (chain k lt) t))

    -- the files that were taken have fronts
    pub taken_fronts : (bytes : List ℕ) (least : ℕ) → AllByRecursion (λ s. (v s).live ≡ true → told → HasFront bytes least ((v s).at object)) xs → AreFronts told bytes least ps
    taken_fronts bytes least fronts = each_part _ ps (λ k lt live t.
        let n = counted (TakesFile told object) xs ys os ps takes in
        let many = n.1 in let few = n.2 in
        let there : k < length xs = omega (arith, lt, many, few) in
        let c = chain k there in
        front_taken told object _ _ _ _ _ _ bytes least c t (at_view (λ s. s.live ≡ true → told → HasFront bytes least (s.at object)) xs k fronts there (c.takes.called live) t) live)

    all_inside : IsOutOfNone told v object xs → told → (k : ℕ) → k < length zs → IsAway ((view_of zs k).at object) → ⊥
    all_inside inside t k lt =
        let e = many_members in
        let there : k < length xs = omega (arith, lt, e) in
        stays_inside told object _ _ _ _ _ _ (chain k there) t (at_view (λ s. told → IsAway (s.at object) → ⊥) xs k inside there t)

    -- a member was called to the end: all that are have its bytes
    pub level_now : (bytes : List ℕ) (least lead kept : ℕ) → IsOutOfNone told v object xs → told → length bytes < 2 ^ 63 → lead < length qs → (part_of qs lead).live ≡ true → AreLevel told (part_of qs lead).content qs → length (part_of qs lead).content ≡ kept → IsFront bytes least (part_of qs lead).content → IsCrashImage (Kept bytes least) (told_now v object zs (record { chief = lead; synced = kept; parts = rs }))
    level_now bytes least lead kept inside t low there live level size front =
        let own = (part_of qs lead).content in
        let many = many_files in
        let more = many_members in
        let lt : lead < length xs = omega (arith, there, many) in
        let cut : length own ≡ min (length own) (length bytes) = ap length front.front ∙ length-take (length own) bytes in
        let is : IsKept v object (record { chief = lead; synced = kept; parts = rs }) zs own = record {
          durable = (part_of qs lead).durable;
          chief = column_at object zs lead ∙ has_file told object _ _ _ _ _ _ (chain lead lt) t live;
          low = omega (arith, cut, low);
          all = each_zip (λ s p. FitsIn own kept p.live (s.at object)) zs rs many_parts (λ k lz.
              let c = chain k (omega (arith, lz, more)) in
              record {
                copy = λ on.
                    let written = c.gives.live (sym c.gives.flag ∙ on) in
                    let whole = at_part _ qs k level (omega (arith, lz, more, many)) written t in
                    let enough = whole.durable in
                    record {
                      durable = (part_of qs k).durable;
                      kept = has_file told object _ _ _ _ _ _ c t written ∙ ap (λ b. Kept b (part_of qs k).durable) whole.content;
                      more = omega (arith, enough, size);
                    };
                inside = all_inside inside t k lz;
              });
        } in
        image_of bytes least own kept _ front (told_kept v object _ zs own is) size
      where
        image_of : (bytes : List ℕ) (least : ℕ) (own : List ℕ) (kept : ℕ) (s : ObjectState) → IsFront bytes least own → s ≡ Kept own (min kept (length own)) → length own ≡ kept → IsCrashImage (Kept bytes least) s
        image_of bytes least own kept s front is size =
            let cut : length own ≡ min (length own) (length bytes) = ap length front.front ∙ length-take (length own) bytes in
            let m : min kept (length own) ≡ length own = omega (arith, size) in
            (length own, front.long, omega (arith, cut), is ∙ ap (λ n. Kept own n) m ∙ ap (λ b. Kept b (length own)) front.front)

    -- none is called any more: all that the one has that tells it is durable
    pub none_now : (bytes : List ℕ) (least chief : ℕ) → IsOutOfNone told v object xs → told → length bytes < 2 ^ 63 → HasFront bytes least (state_of (column v xs object) chief) → StayFronts told bytes least ps qs → AllByRecursion (λ p. p.live ≡ false) qs → IsCrashImage (Kept bytes least) (told_now v object zs (record { chief = chief; synced = 2 ^ 64 - 1; parts = rs }))
    none_now bytes least chief inside t low has stay none =
        let start : HasFront bytes least ((view_of xs chief).at object) = subst (HasFront bytes least) (column_at object xs chief) has in
        let lt = inside_range object xs chief _ _ start.kept in
        let n = counted (TakesFile told object) xs ys os ps takes in
        let many = n.1 in let few = n.2 in
        let more = many_members in
        let files = many_files in
        let c = chain chief lt in
        let now = front_left told object _ _ _ _ _ _ bytes least c t start (at_pair _ ps qs chief stay (omega (arith, lt, many, few))) in
        let own = now.content in
        let cut : length own ≡ min (length own) (length bytes) = ap length now.front.front ∙ length-take (length own) bytes in
        let is : IsKept v object (record { chief = chief; synced = 2 ^ 64 - 1; parts = rs }) zs own = record {
          durable = now.durable;
          chief = column_at object zs chief ∙ now.kept;
          low = omega (arith, cut, low);
          all = each_zip (λ s p. FitsIn own (2 ^ 64 - 1) p.live (s.at object)) zs rs many_parts (λ k lz.
              let d = chain k (omega (arith, lz, more)) in
              record {
                copy = λ on. absurd (let written = d.gives.live (sym d.gives.flag ∙ on) in let off = at_part _ qs k none (omega (arith, lz, more, files)) in cc);
                inside = all_inside inside t k lz;
              });
        } in
        let m : min (2 ^ 64 - 1) (length own) ≡ length own = omega (arith, cut, low) in
        let long = now.front.long in
        (length own, long, omega (arith, cut), told_kept v object _ zs own is ∙ ap (λ n. Kept own n) m ∙ ap (λ b. Kept b (length own)) now.front.front)

    same_two : NoneCalled v xs → told → AllZip (λ s u. (v u).at object ≡ (v s).at object) xs zs
    same_two none t = each_two (λ s u. u.at object ≡ s.at object) xs zs many_members (λ k lt.
        let c = chain k lt in
        stays_left told object _ _ _ _ _ _ c t (not_called (part_of ps k).live (view_of xs k).live c.takes.called (at_view (λ s. s.live ≡ false) xs k none lt)))

    -- an object that was given up stays so
    pub given_up_now : (k : KnownState) (chief synced : ℕ) → chief ≡ k.chief → IsGivenUp told v object xs k → told → told_now v object zs (record { chief = chief; synced = synced; parts = rs }) ≡ Missing
    given_up_now k chief synced same is t =
        let more = many_members in
        let parts = many_parts in
        let some = is.some in
        let here : state_of (column v zs object) chief ≡ Missing =
        column_at object zs chief ∙ view_same object xs zs chief (same_two is.none t) ∙ sym (column_at object xs chief)
        ∙ ap (state_of (column v xs object)) same ∙ is.chief t in
        let up : has_no_member rs ≡ true = given_up rs (omega (arith, some, more, parts)) (each_part _ rs (λ i lt.
        let there : i < length xs = omega (arith, lt, parts, more) in
        let c = chain i there in
        let off = at_view (λ s. s.live ≡ false) xs i is.none there in
        c.gives.flag ∙ not_called _ _ c.gives.rest.live (not_called _ _ c.takes.rest.live off))) in
        ap (told_by (record { chief = chief; synced = synced; parts = rs }) (column v zs object)) here
        ∙ ap (λ b. if b then Missing else Lent []) up

    -- where no member is called none is written to the end
    pub none_leads : NoneCalled v xs → (lead : ℕ) → lead < length qs → (part_of qs lead).live ≡ true → ⊥
    none_leads none lead there live =
        let many = many_files in
        let lt : lead < length xs = omega (arith, there, many) in
        let c = chain lead lt in
        let on = c.takes.called (c.serves.live live) in
        let off = at_view (λ s. s.live ≡ false) xs lead none lt in
        absurd (cc)

  -- what the store tells when the files are back
  module _ (told : Type 0) (object : ObjectId) (xs ys zs : List X) (os ps qs rs : List PartView) (takes : Together (λ s t p q. TakesFile told object (v s) (v t) p q) xs ys os ps) (serves : AllZip (Serves told) ps qs) (gives : Together (λ s t p q. GivesFile told object (v s) (v t) p q) ys zs qs rs) (k : KnownState) (chief lead kept : ℕ) (same : chief ≡ k.chief) where
    pub level_end : ((bytes : List ℕ) (least : ℕ) → AreFronts told bytes least ps → StayFronts told bytes least ps qs) → IsLed told ps qs lead kept ⊎ IsLeft chief qs lead kept → (bytes : List ℕ) (least : ℕ) → AwaitsLevel told v object bytes least xs k → told → IsCrashImage (Kept bytes least) (told_now v object zs (record { chief = lead; synced = kept; parts = rs }))
    level_end stays (inl led) bytes least awaits t =
        let fronts = taken_fronts told object xs ys zs os ps qs rs takes serves gives bytes least awaits.fronts in
        let stay = stays bytes least fronts in
        let long = same_length _ ps qs serves in
        let there = led.there in
        let lt : lead < length ps = omega (arith, there, long) in
        let front = at_pair _ ps qs lead stay lt ((at_pair _ ps qs lead serves lt).live led.live) t in
        level_now told object xs ys zs os ps qs rs takes serves gives bytes least lead kept awaits.inside t (awaits.low t) led.there led.live (led.level bytes least fronts) (led.length t) front
    level_end stays (inr left) bytes least awaits t =
        let fronts = taken_fronts told object xs ys zs os ps qs rs takes serves gives bytes least awaits.fronts in
        let has = subst (λ c. HasFront bytes least (state_of (column v xs object) c)) (sym (left.same ∙ same)) (awaits.chief t) in
        subst (λ n. IsCrashImage (Kept bytes least) (told_now v object zs (record { chief = lead; synced = n; parts = rs }))) (sym left.all)
        (none_now told object xs ys zs os ps qs rs takes serves gives bytes least lead awaits.inside t (awaits.low t) has (stays bytes least fronts) left.none)

    pub given_end : IsLed told ps qs lead kept ⊎ IsLeft chief qs lead kept → IsGivenUp told v object xs k → told → told_now v object zs (record { chief = lead; synced = kept; parts = rs }) ≡ Missing
    given_end (inl led) is t = absurd (none_leads told object xs ys zs os ps qs rs takes serves gives is.none lead led.there led.live)
    given_end (inr left) is t = given_up_now told object xs ys zs os ps qs rs takes serves gives k lead kept (left.same ∙ same) is t
