-- Files that calls were made on.
use Rattle.std.proofs.Common.{◌≡◌, ◌≤◌, ◌<◌, ◌+◌, ◌++◌, ℕ, Bool, true, false, zero, suc, List, [], ◌∷◌, length, take, drop, is_some, not, min, set, refl, sym, ◌∙◌, ap, subst, arith}
use Rattle.std.proofs.lemmas.List.{get_or-set_same, length-set, length-take, take-take, take_all, take_min}
use Rattle.std.proofs.lemmas.List.Sums.{sum_by-cons}
use Rattle.std.specs.List.{AllZip}
use Rattle.gw_outside.specs.Tally.{one_call}
use Rattle.gw_outside.specs.declared.tally.Tally.{Tally}
use Rattle.replica_store.specs.Copying.{Extends}
use Rattle.replica_store.specs.Levels.{AreFronts, AreLevel, AreMeasured, CatchesUp, Completes, FailsOn, HasFailed, IsFront, Lends, Measures, Serves, StayFronts}
use Rattle.replica_store.specs.Parts.{IsCalled, IsLead, PartView, Syncs, live_of, one_if, part_of}
use Rattle.replica_store.proofs.Extending.{extends_none, two_pieces}
use Rattle.replica_store.proofs.Pairs.{at_pair, at_part, each_part, same_length}

pub failed_later : (b : Bool) (s t : Tally) → t ≡ one_call b s → FailsOn s t
failed_later true s t is = let e = ap (λ c. c.failed) is in omega (arith, e)
failed_later false s t is = let e = ap (λ c. c.failed) is in omega (arith, e)

pub failed_rose : (s t : Tally) → t ≡ one_call true s → HasFailed s t
failed_rose s t is = let e = ap (λ c. c.failed) is in omega (arith, e)

-- one after another
not_live : (a b : Bool) → (b ≡ true → a ≡ true) → a ≡ false → b ≡ false
not_live true b more off = absurd cc
not_live false true more off = absurd (let e = more refl in cc)
not_live false false more off = refl

dropped_both : (told : Type 0) (x y z : PartView) (b : Bool) → y.live ≡ b → Serves told x y → Serves told y z → IsCalled x → z.live ≡ false → HasFailed x.tally z.tally
dropped_both told x y z true on r s called off = let h = s.dropped (on, ap is_some r.mark ∙ called.1) off in let m = r.later in omega (arith, h, m)
dropped_both told x y z false on r s called off = let h = r.dropped called on in let m = s.later in omega (arith, h, m)

-- a list is a front of itself, and a front of a front is one
pub front_self : (xs ys : List ℕ) → ys ≡ xs → xs ≡ take (length xs) ys
front_self xs ys same = sym same ∙ sym (take_all (length xs) ys (let e = ap length same in omega (arith, e)))

pub front_both : (xs ys zs : List ℕ) → xs ≡ take (length xs) ys → ys ≡ take (length ys) zs → xs ≡ take (length xs) zs
front_both xs ys zs one two =
    let e : length xs ≡ length (take (length xs) ys) = ap length one in
    let l = length-take (length xs) ys in
    one ∙ ap (λ us. take (length xs) us) two ∙ take-take (length xs) (length ys) zs (omega (arith, e, l))

pub serves_both : (told : Type 0) (x y z : PartView) → Serves told x y → Serves told y z → Serves told x z
serves_both told x y z r s = record {
  live = λ l. r.live (s.live l);
  idle = λ off t. s.idle (not_live x.live y.live r.live off) t ∙ r.idle off t;
  front = λ t. front_both x.content y.content z.content (r.front t) (s.front t);
  durable = λ t. let a = r.durable t in let b = s.durable t in omega (arith, a, b);
  mark = s.mark ∙ r.mark;
  later = let a = r.later in let b = s.later in omega (arith, a, b);
  dropped = λ called off. dropped_both told x y z y.live refl r s called off;
}

pub serves_same : (told : Type 0) (x : PartView) → Serves told x x
serves_same told x = record {
  live = λ l. l;
  idle = λ off t. refl;
  front = λ t. front_self x.content x.content refl;
  durable = λ t. omega arith;
  mark = refl;
  later = omega arith;
  dropped = λ called off. absurd (let on = called.0 in cc);
}

pub measures_serves : (told : Type 0) (x y : PartView) → Measures x y → Serves told x y
measures_serves told x y r = record {
  live = λ l. sym r.live ∙ l;
  idle = λ off t. r.content;
  front = λ t. front_self x.content y.content r.content;
  durable = λ t. let e = r.durable in omega (arith, e);
  mark = r.mark;
  later = let e = ap (λ c. c.failed) r.tally in omega (arith, e);
  dropped = λ called off. absurd (let on = called.0 in let same = r.live in cc);
}

pub syncs_serves : (told : Type 0) (x y : PartView) → Syncs told x y → Serves told x y
syncs_serves told x y r = record {
  live = λ l. (r.live l).0;
  idle = λ off t. r.content t;
  front = λ t. front_self x.content y.content (r.content t);
  durable = λ t. r.durable t;
  mark = r.mark;
  later = r.failing;
  dropped = λ called off. failed_rose _ _ (r.called called ∙ ap (λ b. one_call (not b) x.tally) off);
}

pub lends_both : (told : Type 0) (x y z : PartView) → Lends told x y → Lends told y z → Lends told x z
lends_both told x y z r s = record { serves = serves_both told x y z r.serves s.serves; content = λ t. s.content t ∙ r.content t }

pub catch_from : (told : Type 0) (s s' : List ℕ) (x y : PartView) → (told → s' ≡ s) → CatchesUp told s' x y → CatchesUp told s x y
catch_from told s s' x y same r = record { serves = r.serves; content = λ t. subst (λ z. Extends z x.content y.content) (same t) (r.content t) }

pub complete_from : (told : Type 0) (s s' : List ℕ) (x y : PartView) → (told → s' ≡ s) → Completes told s' x y → Completes told s x y
complete_from told s s' x y same r = record {
  catches = catch_from told s s' x y same r.catches;
  whole = λ live t. subst (λ z. length z ≤ length y.content) (same t) (r.whole live t);
}

pub lends_catches : (told : Type 0) (x y : PartView) → Lends told x y → CatchesUp told x.content x y
lends_catches told x y r = record { serves = r.serves; content = λ t. extends_none _ _ _ (r.content t) }

pub lends_completes : (told : Type 0) (x y : PartView) → Lends told x y → Completes told x.content x y
lends_completes told x y r = record {
  catches = lends_catches told x y r;
  whole = λ live t. let e = ap length (r.content t) in omega (arith, e);
}

-- the chief is put back in its place
pub gathered : (R : PartView → PartView → Type 0) (xs ys : List PartView) (i : ℕ) (m v : PartView) → AllZip R (set xs i m) ys → R (part_of xs i) v → i < length xs → AllZip R xs (set ys i v)
gathered R [] ys i m v all r lt = absurd (omega arith)
gathered R (x ∷ xs) [] zero m v all r lt = absurd all
gathered R (x ∷ xs) (y ∷ ys) zero m v all r lt = (r, all.1)
gathered R (x ∷ xs) [] (suc i) m v all r lt = absurd all
gathered R (x ∷ xs) (y ∷ ys) (suc i) m v all r lt = (all.0, gathered R xs ys i m v all.1 r (omega arith))

pub back_at : (ys : List PartView) (i : ℕ) (v : PartView) → i < length ys → part_of (set ys i v) i ≡ v
back_at ys i v lt = get_or-set_same ys i v _ lt

-- a front of the longest one's bytes that got some of what it lacked
caught : (s c c' : List ℕ) → c ≡ take (length c) s → length c ≤ length s → Extends s c c' → (c' ≡ take (length c') s) × (length c ≤ length c') × (length c' ≤ length s)
caught s c c' front short is =
    let l = length-take (length c) s in
    let e : length c ≡ length (take (length c) s) = omega (arith, l, short) in
    let whole : c' ≡ take (length c + is.added) s = is.content ∙ ap (λ a. a ++ take is.added (drop (length c) s)) front ∙ two_pieces s (length c) is.added (length c) e in
    let long : length c' ≡ min (length c + is.added) (length s) = ap length whole ∙ length-take (length c + is.added) s in
    (whole ∙ sym (take_min (length c + is.added) s) ∙ ap (λ n. take n s) (sym long), omega (arith, long, short), omega (arith, long))

-- a front of a front
front_of_front : (bytes s c : List ℕ) → s ≡ take (length s) bytes → c ≡ take (length c) bytes → length c ≤ length s → c ≡ take (length c) s
front_of_front bytes s c fs fc short = fc ∙ sym (take-take (length c) (length s) bytes short) ∙ ap (λ z. take (length c) z) (sym fs)

pub front_after : (bytes : List ℕ) (least : ℕ) (s c c' : List ℕ) → IsFront bytes least s → IsFront bytes least c → length c ≤ length s → Extends s c c' → IsFront bytes least c'
front_after bytes least s c c' fs fc short is =
    let got = caught s c c' (front_of_front bytes s c fs.front fc.front short) short is in
    let far = got.1 in
    let near = got.2 in
    record {
      long = let a = fc.long in omega (arith, a, far);
      front = got.0 ∙ ap (λ z. take (length c') z) fs.front ∙ take-take (length c') (length s) bytes near;
    }

pub whole_after : (bytes : List ℕ) (least : ℕ) (s c c' : List ℕ) → IsFront bytes least s → IsFront bytes least c → length c ≤ length s → Extends s c c' → length s ≤ length c' → c' ≡ s
whole_after bytes least s c c' fs fc short is whole =
    let got = caught s c c' (front_of_front bytes s c fs.front fc.front short) short is in
    got.0 ∙ take_all (length c') s whole

pub each_pair : (R : PartView → PartView → Type 0) (xs ys : List PartView) → length ys ≡ length xs → ((k : ℕ) → k < length xs → R (part_of xs k) (part_of ys k)) → AllZip R xs ys
each_pair R [] [] same at = tt
each_pair R [] (y ∷ ys) same at = absurd (omega arith)
each_pair R (x ∷ xs) [] same at = absurd (omega arith)
each_pair R (x ∷ xs) (y ∷ ys) same at = (at 0 (omega arith), each_pair R xs ys (omega arith) (λ k lt. at (suc k) (omega arith)))

-- none that is written is longer than the one that leads
pub none_longer : (ps : List PartView) (i k : ℕ) → IsLead ps i → AreMeasured ps → k < length ps → (part_of ps k).live ≡ true → length (part_of ps k).content ≤ length (part_of ps i).content
none_longer ps i k is measured lt live =
    let a = at_part _ ps k is.most lt live in
    let b = at_part _ ps k measured lt in
    let there = is.there in
    let c = at_part _ ps i measured there in
    omega (arith, a, b, c)

-- what a round leaves
pub round_fronts : (told : Type 0) (xs ys : List PartView) (i : ℕ) → IsLead xs i → AreMeasured xs → AllZip (CatchesUp told (part_of xs i).content) xs ys → (bytes : List ℕ) (least : ℕ) → AreFronts told bytes least xs → StayFronts told bytes least xs ys
round_fronts told xs ys i is measured all bytes least fronts =
    each_pair _ xs ys (same_length _ xs ys all) (λ k lt live t.
    let lead = at_part _ xs i fronts is.there is.live t in
    let own = at_part _ xs k fronts lt live t in
    front_after bytes least _ _ _ lead own (none_longer xs i k is measured lt live) ((at_pair _ xs ys k all lt).content t))

pub synced_fronts : (told : Type 0) (xs ys zs : List PartView) → AllZip (Syncs told) ys zs → (bytes : List ℕ) (least : ℕ) → StayFronts told bytes least xs ys → StayFronts told bytes least xs zs
synced_fronts told xs ys zs syncs bytes least stay =
    let long = same_length _ xs ys stay in
    let long2 = same_length _ ys zs syncs in
    each_pair _ xs zs (omega (arith, long, long2)) (λ k lt live t.
    let s = at_pair _ ys zs k syncs (omega (arith, long, lt)) in
    subst (IsFront bytes least) (sym (s.content t)) (at_pair _ xs ys k stay lt live t))

pub round_level : (told : Type 0) (xs ys zs : List PartView) (i : ℕ) → IsLead xs i → AreMeasured xs → AllZip (Completes told (part_of xs i).content) xs ys → Lends told (part_of xs i) (part_of ys i) → AllZip (Syncs told) ys zs → (bytes : List ℕ) (least : ℕ) → AreFronts told bytes least xs → AreLevel told (part_of zs i).content zs
round_level told xs ys zs i is measured all lends syncs bytes least fronts =
    let long = same_length _ xs ys all in
    let long2 = same_length _ ys zs syncs in
    let there = is.there in
    each_part _ zs (λ k lt live t.
    let s = at_pair _ ys zs k syncs (omega (arith, long2, lt)) in
    let c = at_pair _ xs ys k all (omega (arith, long, long2, lt)) in
    let chief = at_pair _ ys zs i syncs (omega (arith, long, there)) in
    let on = (s.live live).0 in
    let was = c.catches.serves.live on in
    let lead = at_part _ xs i fronts there is.live t in
    let own = at_part _ xs k fronts (omega (arith, long, long2, lt)) was t in
    let same : (part_of ys k).content ≡ (part_of xs i).content = whole_after bytes least _ _ _ lead own (none_longer xs i k is measured (omega (arith, long, long2, lt)) was) (c.catches.content t) (c.whole on t) in
    let now : (part_of zs k).content ≡ (part_of zs i).content = s.content t ∙ same ∙ sym (lends.content t) ∙ sym (chief.content t) in
    record {
      content = now;
      durable = let d = (s.live live).1 t in let e = ap length now in omega (arith, d, e);
    })

pub round_serves : (told : Type 0) (s : List ℕ) (xs ys zs : List PartView) → AllZip (CatchesUp told s) xs ys → AllZip (Syncs told) ys zs → AllZip (Serves told) xs zs
round_serves told s xs ys zs all syncs =
    let long = same_length _ xs ys all in
    let long2 = same_length _ ys zs syncs in
    each_pair _ xs zs (omega (arith, long, long2)) (λ k lt.
    serves_both told _ _ _ (at_pair _ xs ys k all lt).serves (syncs_serves told _ _ (at_pair _ ys zs k syncs (omega (arith, long, lt)))))

pub all_serve : (told : Type 0) (xs ys zs : List PartView) → AllZip (Serves told) xs ys → AllZip (Serves told) ys zs → AllZip (Serves told) xs zs
all_serve told xs ys zs r s =
    let long = same_length _ xs ys r in
    let long2 = same_length _ ys zs s in
    each_pair _ xs zs (omega (arith, long, long2)) (λ k lt. serves_both told _ _ _ (at_pair _ xs ys k r lt) (at_pair _ ys zs k s (omega (arith, long, lt))))

pub all_same : (told : Type 0) (xs : List PartView) → AllZip (Serves told) xs xs
all_same told xs = each_pair _ xs xs refl (λ k lt. serves_same told _)

-- rounds after one another
pub stay_same : (told : Type 0) (xs : List PartView) (bytes : List ℕ) (least : ℕ) → AreFronts told bytes least xs → StayFronts told bytes least xs xs
stay_same told xs bytes least fronts = each_pair _ xs xs refl (λ k lt. at_part _ xs k fronts lt)

pub fronts_now : (told : Type 0) (xs ys : List PartView) (bytes : List ℕ) (least : ℕ) → AllZip (Serves told) xs ys → StayFronts told bytes least xs ys → AreFronts told bytes least ys
fronts_now told xs ys bytes least serves stay =
    let long = same_length _ xs ys serves in
    each_part _ ys (λ k lt live t. at_pair _ xs ys k stay (omega (arith, long, lt)) ((at_pair _ xs ys k serves (omega (arith, long, lt))).live live) t)

stay_one : (told : Type 0) (bytes : List ℕ) (least : ℕ) (y z : PartView) (b : Bool) → y.live ≡ b → Serves told y z → told → IsFront bytes least y.content → (y.live ≡ true → told → IsFront bytes least z.content) → IsFront bytes least z.content
stay_one told bytes least y z true on serves t was now = now on t
stay_one told bytes least y z false off serves t was now = subst (IsFront bytes least) (sym (serves.idle off t)) was

pub stay_both : (told : Type 0) (xs ys zs : List PartView) (bytes : List ℕ) (least : ℕ) → StayFronts told bytes least xs ys → AllZip (Serves told) ys zs → StayFronts told bytes least ys zs → StayFronts told bytes least xs zs
stay_both told xs ys zs bytes least first serves second =
    let long = same_length _ xs ys first in
    let long2 = same_length _ ys zs second in
    each_pair _ xs zs (omega (arith, long, long2)) (λ k lt live t.
    stay_one told bytes least (part_of ys k) (part_of zs k) (part_of ys k).live refl
    (at_pair _ ys zs k serves (omega (arith, long, lt))) t
    (at_pair _ xs ys k first lt live t) (at_pair _ ys zs k second (omega (arith, long, lt))))

pub measured_stay : (told : Type 0) (xs ys : List PartView) (bytes : List ℕ) (least : ℕ) → AllZip Measures xs ys → AreFronts told bytes least xs → StayFronts told bytes least xs ys
measured_stay told xs ys bytes least all fronts =
    each_pair _ xs ys (same_length _ xs ys all) (λ k lt live t. subst (IsFront bytes least) (sym (at_pair _ xs ys k all lt).content) (at_part _ xs k fronts lt live t))

pub measured_serve : (told : Type 0) (xs ys : List PartView) → AllZip Measures xs ys → AllZip (Serves told) xs ys
measured_serve told xs ys all = each_pair _ xs ys (same_length _ xs ys all) (λ k lt. measures_serves told _ _ (at_pair _ xs ys k all lt))

pub are_measured : (xs ys : List PartView) → AllZip Measures xs ys → AreMeasured ys
are_measured xs ys all = let long = same_length _ xs ys all in each_part _ ys (λ k lt. (at_pair _ xs ys k all (omega (arith, long, lt))).measured)

-- each round that fails drops one
one_less : (a b : Bool) → (b ≡ true → a ≡ true) → one_if b ≤ one_if a
one_less true true more = omega arith
one_less true false more = omega arith
one_less false true more = absurd (let e = more refl in cc)
one_less false false more = omega arith

pub no_more_live : (told : Type 0) (xs ys : List PartView) → AllZip (Serves told) xs ys → live_of ys ≤ live_of xs
no_more_live told [] [] all = omega arith
no_more_live told [] (y ∷ ys) all = absurd all
no_more_live told (x ∷ xs) [] all = absurd all
no_more_live told (x ∷ xs) (y ∷ ys) all =
    let a = one_less x.live y.live all.0.live in
    let b = no_more_live told xs ys all.1 in
    omega (arith, a, b, sum_by-cons (λ p. one_if p.live) x xs, sum_by-cons (λ p. one_if p.live) y ys)

pub fewer_live : (told : Type 0) (xs ys : List PartView) (i : ℕ) → AllZip (Serves told) xs ys → i < length xs → (part_of xs i).live ≡ true → (part_of ys i).live ≡ false → live_of ys < live_of xs
fewer_live told [] ys i all lt on off = absurd (omega arith)
fewer_live told (x ∷ xs) [] i all lt on off = absurd all
fewer_live told (x ∷ xs) (y ∷ ys) zero all lt on off =
    let a : one_if x.live ≡ 1 = ap one_if on in
    let c : one_if y.live ≡ 0 = ap one_if off in
    let b = no_more_live told xs ys all.1 in
    omega (arith, a, b, c, sum_by-cons (λ p. one_if p.live) x xs, sum_by-cons (λ p. one_if p.live) y ys)
fewer_live told (x ∷ xs) (y ∷ ys) (suc i) all lt on off =
    let a = one_less x.live y.live all.0.live in
    let b = fewer_live told xs ys i all.1 (omega arith) on off in
    omega (arith, a, b, sum_by-cons (λ p. one_if p.live) x xs, sum_by-cons (λ p. one_if p.live) y ys)

-- the chief is out, the others catch up, and it is put back
module _ (told : Type 0) (xs mids ys zs : List PartView) (i : ℕ) (chief m v : PartView) (lt : i < length xs) (is : chief ≡ part_of xs i) (out : mids ≡ set xs i m) (back : zs ≡ set ys i v) (lends : Lends told chief v) where
  pub gathered_parts : AllZip (CatchesUp told chief.content) mids ys → AllZip (CatchesUp told (part_of xs i).content) xs zs
  gathered_parts all = subst (λ us. AllZip (CatchesUp told (part_of xs i).content) xs us) (sym back)
      (gathered (CatchesUp told (part_of xs i).content) xs ys i m v
      (subst (λ us. AllZip (CatchesUp told (part_of xs i).content) us ys) out (subst (λ p. AllZip (CatchesUp told p.content) mids ys) is all))
      (subst (λ p. CatchesUp told p.content p v) is (lends_catches told chief v lends)) lt)

  pub gathered_whole : AllZip (Completes told chief.content) mids ys → AllZip (Completes told (part_of xs i).content) xs zs
  gathered_whole all = subst (λ us. AllZip (Completes told (part_of xs i).content) xs us) (sym back)
      (gathered (Completes told (part_of xs i).content) xs ys i m v
      (subst (λ us. AllZip (Completes told (part_of xs i).content) us ys) out (subst (λ p. AllZip (Completes told p.content) mids ys) is all))
      (subst (λ p. Completes told p.content p v) is (lends_completes told chief v lends)) lt)

  back_now : AllZip (CatchesUp told chief.content) mids ys → part_of zs i ≡ v
  back_now all =
      let a = same_length _ mids ys all in
      let b = ap length out ∙ length-set xs i m in
      ap (λ us. part_of us i) back ∙ back_at ys i v (omega (arith, a, b, lt))

  pub gathered_chief : AllZip (CatchesUp told chief.content) mids ys → Lends told (part_of xs i) (part_of zs i)
  gathered_chief all = subst (λ p. Lends told (part_of xs i) p) (sym (back_now all)) (subst (λ p. Lends told p v) is lends)

  pub gathered_live : AllZip (CatchesUp told chief.content) mids ys → v.live ≡ (part_of zs i).live
  gathered_live all = sym (ap (λ p. p.live) (back_now all))

pub round_length : (told : Type 0) (s : List ℕ) (xs ys zs : List PartView) (i : ℕ) → IsLead xs i → AreMeasured xs → AllZip (CatchesUp told s) xs ys → Lends told (part_of xs i) (part_of ys i) → AllZip (Syncs told) ys zs → told → length (part_of zs i).content ≡ (part_of xs i).kept
round_length told s xs ys zs i is measured all lends syncs t =
    let there = is.there in
    let long = same_length _ xs ys all in
    ap length ((at_pair _ ys zs i syncs (omega (arith, long, there))).content t ∙ lends.content t) ∙ sym (at_part _ xs i measured there)

pub round_there : (told : Type 0) (s : List ℕ) (xs ys zs : List PartView) (i : ℕ) → IsLead xs i → AllZip (CatchesUp told s) xs ys → AllZip (Syncs told) ys zs → i < length zs
round_there told s xs ys zs i is all syncs =
    let there = is.there in
    let a = same_length _ xs ys all in
    let b = same_length _ ys zs syncs in
    omega (arith, a, b, there)

-- a round after the others
pub step_pairs : (told : Type 0) (ws xs ys zs : List PartView) → AllZip (Serves told) ws xs → AllZip Measures xs ys → AllZip (Serves told) ys zs → AllZip (Serves told) ws zs
step_pairs told ws xs ys zs one two three = all_serve told ws ys zs (all_serve told ws xs ys one (measured_serve told xs ys two)) three

pub measured_pairs : (told : Type 0) (ws xs ys : List PartView) → AllZip (Serves told) ws xs → AllZip Measures xs ys → AllZip (Serves told) ws ys
measured_pairs told ws xs ys one two = all_serve told ws xs ys one (measured_serve told xs ys two)

pub measured_fronts : (told : Type 0) (ws xs ys : List PartView) (bytes : List ℕ) (least : ℕ) → AllZip (Serves told) ws xs → AllZip Measures xs ys → StayFronts told bytes least ws xs → StayFronts told bytes least ws ys
measured_fronts told ws xs ys bytes least one two stay =
    stay_both told ws xs ys bytes least stay (measured_serve told xs ys two) (measured_stay told xs ys bytes least two (fronts_now told ws xs bytes least one stay))

pub step_now : (told : Type 0) (ws xs ys : List PartView) (bytes : List ℕ) (least : ℕ) → AllZip (Serves told) ws xs → AllZip Measures xs ys → StayFronts told bytes least ws xs → AreFronts told bytes least ys
step_now told ws xs ys bytes least one two stay =
    fronts_now told ws ys bytes least (measured_pairs told ws xs ys one two) (measured_fronts told ws xs ys bytes least one two stay)

pub step_fronts : (told : Type 0) (ws xs ys zs : List PartView) (bytes : List ℕ) (least : ℕ) → AllZip (Serves told) ws xs → AllZip Measures xs ys → AllZip (Serves told) ys zs → (AreFronts told bytes least ys → StayFronts told bytes least ys zs) → StayFronts told bytes least ws xs → StayFronts told bytes least ws zs
step_fronts told ws xs ys zs bytes least one two three last stay =
    stay_both told ws ys zs bytes least (measured_fronts told ws xs ys bytes least one two stay) three (last (step_now told ws xs ys bytes least one two stay))

pub step_fewer : (told : Type 0) (xs ys zs : List PartView) (i : ℕ) → AllZip Measures xs ys → AllZip (Serves told) ys zs → IsLead ys i → (part_of zs i).live ≡ false → live_of zs < live_of xs
step_fewer told xs ys zs i two three is off =
    let a = no_more_live told xs ys (measured_serve told xs ys two) in
    let b = fewer_live told ys zs i three is.there is.live off in
    omega (arith, a, b)
