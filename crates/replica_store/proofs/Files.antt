-- What a call on each of the members' files means for all of them.
use Rattle.std.proofs.Common.{map, is_some, not, ◌≡◌, ◌≤◌, ℕ, min, ◌-◌, ◌^◌, ◌+◌, ◌<◌, ◌++◌, true, false, List, [], ◌∷◌, length, take, refl, sym, ◌∙◌, ap, subst, arith}
use Rattle.std.proofs.lemmas.List.{length-append}
use Rattle.std.specs.List.{AllByRecursion, AllZip}
use Rattle.replica_store.specs.Marks.{joined}
use Rattle.replica_store.specs.Parts.{OnlyFailedDropped, AllFailed, FailsToRead, ReadsFile, PartView, Appends, DropsShort, Syncs, Grows, LeadsAppend, IsIdle, IsLead, AreCopies, counts, part_of}
use Rattle.gw_outside.specs.Causes.{next_count}
use Rattle.gw_outside.specs.Tally.{one_call}
use Rattle.replica_store.proofs.Pairs.{at_pair, at_part, each_part, same_length, counts_grow, compose, same_map, weaker_pairs, weaker_where}

grow : (told : Type 0) (bytes : List ℕ) (most : ℕ) → most ≤ length bytes → (x y z : PartView) → Appends told bytes x y → (y.live ≡ true → y.kept ≤ most) → DropsShort most y z → Grows told bytes most x z
grow told bytes most few x y z r p s = record {
  live = λ l. sym r.live ∙ (s.live l).0;
  mark = s.mark ∙ r.mark;
  content = λ l t.
      let same : y.kept ≡ most = omega (arith, p (s.live l).0, (s.live l).1) in
      s.content ∙ r.content (sym r.live ∙ (s.live l).0) t ∙ ap (λ n. x.content ++ take n bytes) same;
  durable = λ t. let a = r.durable t in omega (arith, a, s.durable);
  later = let a = r.later in omega (arith, a, s.count);
  failed = λ called short. s.tally ∙ r.failed called (omega (arith, p (r.live ∙ called.0), short));
  dropped = λ called off. s.tally ∙ r.failed called (let less = s.dropped (r.live ∙ called.0) off in omega (arith, less, few));
}

pub leads_all : (told : Type 0) (bytes : List ℕ) (olds mids news : List PartView) (lead kept : ℕ) → AllZip (Appends told bytes) olds mids → IsLead mids lead → kept ≡ (part_of mids lead).kept → AllZip (DropsShort kept) mids news → LeadsAppend told bytes olds news lead kept
leads_all told bytes olds mids news lead kept appends is same drops =
    let long = same_length _ olds mids appends in
    let long2 = same_length _ mids news drops in
    let there = is.there in
    let a = at_pair _ olds mids lead appends (omega (arith, long, there)) in
    let d = at_pair _ mids news lead drops there in
    record {
      few = let f = a.kept in omega (arith, f, same);
      there = omega (arith, there, long2);
      live = sym a.live ∙ is.live;
      content = λ t. d.content ∙ a.content (sym a.live ∙ is.live) t ∙ ap (λ n. (part_of olds lead).content ++ take n bytes) (sym same);
      pairs = compose _ _ _ _ (grow told bytes kept (let f = a.kept in omega (arith, f, same))) olds mids news appends (subst (λ n. AllByRecursion (λ p. p.live ≡ true → p.kept ≤ n) mids) (sym same) is.most) drops;
    }

-- an append that kept some leaves copies of what it made
pub append_copies : (told : Type 0) (bytes : List ℕ) (olds news : List PartView) (chief synced lead kept : ℕ) → AreCopies told olds chief synced → LeadsAppend told bytes olds news lead kept → AreCopies told news lead synced
append_copies told bytes olds news chief synced lead kept are is =
    let long = same_length _ olds news is.pairs in
    let there = is.there in
    let old = at_part _ olds lead are.copies (omega (arith, long, there)) in
    let whole : (told → (part_of news lead).content ≡ (part_of olds chief).content ++ take kept bytes) = λ t. is.content t ∙ ap (λ b. b ++ take kept bytes) (old.content is.live t) in
    record {
      there = there;
      held = ap (λ m. is_some m) ((at_pair _ olds news lead is.pairs (omega (arith, long, there))).mark) ∙ old.there is.live;
      copies = each_part _ news (λ k lt.
          let g = at_pair _ olds news k is.pairs (omega (arith, long, lt)) in
          let o = at_part _ olds k are.copies (omega (arith, long, lt)) in
          record {
            there = λ l. ap (λ m. is_some m) g.mark ∙ o.there (g.live l);
            content = λ l t. g.content l t ∙ ap (λ b. b ++ take kept bytes) (o.content (g.live l) t) ∙ sym (whole t);
            durable = λ l t. let a = o.durable (g.live l) t in let b = g.durable t in omega (arith, a, b);
          });
    }

pub append_content : (told : Type 0) (bytes : List ℕ) (olds news : List PartView) (chief synced lead kept : ℕ) → AreCopies told olds chief synced → LeadsAppend told bytes olds news lead kept → told → (part_of news lead).content ≡ (part_of olds chief).content ++ take kept bytes
append_content told bytes olds news chief synced lead kept are is t =
    let long = same_length _ olds news is.pairs in
    let there = is.there in
    let old = at_part _ olds lead are.copies (omega (arith, long, there)) in
    is.content t ∙ ap (λ b. b ++ take kept bytes) (old.content is.live t)

-- where none is written any more, nothing changes
pub idle_copies : (told : Type 0) (bytes : List ℕ) (olds news : List PartView) (chief synced : ℕ) → AreCopies told olds chief synced → IsIdle told bytes olds news → AreCopies told news chief synced
idle_copies told bytes olds news chief synced are is =
    let long = same_length _ olds news is.pairs in
    let there = are.there in
    let a = at_pair _ olds news chief is.pairs there in
    let dead = at_part _ news chief is.none (omega (arith, there, long)) in
    let same = a.idle (sym a.live ∙ dead) in
    record {
      there = omega (arith, there, long);
      held = ap (λ m. is_some m) a.mark ∙ are.held;
      copies = each_part _ news (λ k lt. let d = at_part _ news k is.none lt in record {
        there = λ l. absurd (cc);
        content = λ l t. absurd (cc);
        durable = λ l t. absurd (cc);
      });
    }

pub idle_content : (told : Type 0) (bytes : List ℕ) (olds news : List PartView) (chief synced : ℕ) → AreCopies told olds chief synced → IsIdle told bytes olds news → (part_of news chief).content ≡ (part_of olds chief).content
idle_content told bytes olds news chief synced are is =
    let long = same_length _ olds news is.pairs in
    let there = are.there in
    let a = at_pair _ olds news chief is.pairs there in
    let dead = at_part _ news chief is.none (omega (arith, there, long)) in
    a.idle (sym a.live ∙ dead)

-- counts
pub lead_counts : (told : Type 0) (bytes : List ℕ) (olds news : List PartView) (lead kept : ℕ) → LeadsAppend told bytes olds news lead kept → counts olds ≤ counts news
lead_counts told bytes olds news lead kept is = counts_grow _ (λ x y r. r.later) olds news is.pairs

pub idle_counts : (told : Type 0) (bytes : List ℕ) (olds news : List PartView) → IsIdle told bytes olds news → counts olds ≤ counts news
idle_counts told bytes olds news is = counts_grow _ (λ x y r. r.later) olds news is.pairs

-- an hsync
pub sync_copies : (told : Type 0) (olds news : List PartView) (chief synced : ℕ) → AreCopies told olds chief synced → AllZip (Syncs told) olds news → AreCopies told news chief synced
sync_copies told olds news chief synced are is =
    let long = same_length _ olds news is in
    let there = are.there in
    let c = at_pair _ olds news chief is there in
    record {
      there = omega (arith, there, long);
      held = ap (λ m. is_some m) c.mark ∙ are.held;
      copies = each_part _ news (λ k lt.
          let s = at_pair _ olds news k is (omega (arith, long, lt)) in
          let o = at_part _ olds k are.copies (omega (arith, long, lt)) in
          record {
            there = λ l. ap (λ m. is_some m) s.mark ∙ o.there (s.live l).0;
            content = λ l t. s.content t ∙ o.content (s.live l).0 t ∙ sym (c.content t);
            durable = λ l t. let a = o.durable (s.live l).0 t in let b = s.durable t in omega (arith, a, b);
          });
    }

pub synced_copies : (told : Type 0) (olds news : List PartView) (chief synced synced' : ℕ) → AreCopies told olds chief synced → AllZip (Syncs told) olds news → synced' ≡ length (part_of news chief).content → AreCopies told news chief synced'
synced_copies told olds news chief synced synced' are is all =
    let long = same_length _ olds news is in
    let old = sync_copies told olds news chief synced are is in
    record {
      there = old.there;
      held = old.held;
      copies = each_part _ news (λ k lt.
          let s = at_pair _ olds news k is (omega (arith, long, lt)) in
          let o = at_part _ news k old.copies lt in
          record {
            there = o.there;
            content = o.content;
            durable = λ l t. let a = (s.live l).1 t in let b = ap length (o.content l t) in omega (arith, a, b, all);
          });
    }

pub sync_content : (told : Type 0) (olds news : List PartView) (chief : ℕ) → AllZip (Syncs told) olds news → chief < length olds → told → (part_of news chief).content ≡ (part_of olds chief).content
sync_content told olds news chief is there t = (at_pair _ olds news chief is there).content t

pub sync_counts : (told : Type 0) (olds news : List PartView) → AllZip (Syncs told) olds news → counts olds ≤ counts news
sync_counts told olds news is = counts_grow _ (λ x y r. r.later) olds news is

pub append_durable : (told : Type 0) (bytes : List ℕ) (olds news : List PartView) (chief synced lead kept : ℕ) → AreCopies told olds chief synced → LeadsAppend told bytes olds news lead kept → told → min synced (length (part_of olds chief).content) ≤ min synced (length (part_of news lead).content)
append_durable told bytes olds news chief synced lead kept are is t =
    let e = ap length (append_content told bytes olds news chief synced lead kept are is t) in
    let f = length-append (part_of olds chief).content (take kept bytes) in
    omega (arith, e, f)

pub same_durable : (xs ys : List ℕ) (synced : ℕ) → ys ≡ xs → min synced (length xs) ≤ min synced (length ys)
same_durable xs ys synced same = let e = ap length same in omega (arith, e)

pub synced_durable : (told : Type 0) (olds news : List PartView) (chief synced synced' : ℕ) → AreCopies told olds chief synced → AllZip (Syncs told) olds news → synced' ≡ length (part_of news chief).content → told → min synced (length (part_of olds chief).content) ≤ min synced' (length (part_of news chief).content)
synced_durable told olds news chief synced synced' are is all t =
    let e = ap length (sync_content told olds news chief is are.there t) in omega (arith, e, all)

-- counts that are capped
pub later_count : (a b r s : ℕ) → a ≤ b → r ≤ s → min (a + r) (2 ^ 64 - 1) ≤ min (b + s) (2 ^ 64 - 1)
later_count a b r s ab rs = omega arith

pub later_refused : (a b r : ℕ) → a ≤ b → min (a + r) (2 ^ 64 - 1) ≤ min (b + min (r + 1) (2 ^ 64 - 1)) (2 ^ 64 - 1)
later_refused a b r ab = omega arith

pub rose_refused : (a b r : ℕ) → a ≤ b → next_count (min (a + r) (2 ^ 64 - 1)) ≤ min (b + min (r + 1) (2 ^ 64 - 1)) (2 ^ 64 - 1)
rose_refused a b r ab = omega arith

-- a read
pub reads_same : (told : Type 0) (x : PartView) → ReadsFile told x x
reads_same told x = record { live = λ l. l; mark = refl; content = λ t. refl; durable = λ t. refl; later = omega arith; dropped = λ called off. absurd (let on = called.0 in cc) }

pub read_copies : (told : Type 0) (olds news : List PartView) (chief synced : ℕ) → AreCopies told olds chief synced → AllZip (ReadsFile told) olds news → AreCopies told news chief synced
read_copies told olds news chief synced are is =
    let long = same_length _ olds news is in
    let there = are.there in
    let c = at_pair _ olds news chief is there in
    record {
      there = omega (arith, there, long);
      held = ap (λ m. is_some m) c.mark ∙ are.held;
      copies = each_part _ news (λ k lt.
          let s = at_pair _ olds news k is (omega (arith, long, lt)) in
          let o = at_part _ olds k are.copies (omega (arith, long, lt)) in
          record {
            there = λ l. ap (λ m. is_some m) s.mark ∙ o.there (s.live l);
            content = λ l t. s.content t ∙ o.content (s.live l) t ∙ sym (c.content t);
            durable = λ l t. let a = o.durable (s.live l) t in let b = s.durable t in omega (arith, a, b);
          });
    }

pub equal_durable : (xs ys : List ℕ) (synced : ℕ) → ys ≡ xs → min synced (length ys) ≡ min synced (length xs)
equal_durable xs ys synced same = ap (λ b. min synced (length b)) same

pub read_counts : (told : Type 0) (olds news : List PartView) → AllZip (ReadsFile told) olds news → counts olds ≤ counts news
read_counts told olds news is = counts_grow _ (λ x y r. r.later) olds news is

pub sync_there : (told : Type 0) (olds news : List PartView) (chief synced : ℕ) → AreCopies told olds chief synced → AllZip (Syncs told) olds news → chief < length news
sync_there told olds news chief synced are is = (sync_copies told olds news chief synced are is).there

pub stay_content : (told : Type 0) (olds news : List PartView) (chief synced : ℕ) → AreCopies told olds chief synced → AllZip (ReadsFile told) olds news → told → (part_of news chief).content ≡ (part_of olds chief).content
stay_content told olds news chief synced are is t = (at_pair _ olds news chief is are.there).content t

pub chief_copies : (told : Type 0) (ps : List PartView) (chief synced : ℕ) → AreCopies told ps chief synced → told → AllByRecursion (λ p. p.live ≡ true → p.content ≡ (part_of ps chief).content) ps
chief_copies told ps chief synced are t = each_part _ ps (λ k lt live. (at_part _ ps k are.copies lt).content live t)

-- the marks stay
pub append_mark : (told : Type 0) (bytes : List ℕ) (olds news : List PartView) (lead kept : ℕ) → LeadsAppend told bytes olds news lead kept → joined (map (λ p. p.mark) news) ≡ joined (map (λ p. p.mark) olds)
append_mark told bytes olds news lead kept is = ap joined (same_map _ _ (λ x y r. r.mark) olds news is.pairs)

pub idle_mark : (told : Type 0) (bytes : List ℕ) (olds news : List PartView) → IsIdle told bytes olds news → joined (map (λ p. p.mark) news) ≡ joined (map (λ p. p.mark) olds)
idle_mark told bytes olds news is = ap joined (same_map _ _ (λ x y r. r.mark) olds news is.pairs)

pub sync_mark : (told : Type 0) (olds news : List PartView) → AllZip (Syncs told) olds news → joined (map (λ p. p.mark) news) ≡ joined (map (λ p. p.mark) olds)
sync_mark told olds news is = ap joined (same_map _ _ (λ x y r. r.mark) olds news is)

pub read_mark : (told : Type 0) (olds news : List PartView) → AllZip (ReadsFile told) olds news → joined (map (λ p. p.mark) news) ≡ joined (map (λ p. p.mark) olds)
read_mark told olds news is = ap joined (same_map _ _ (λ x y r. r.mark) olds news is)

-- a fault is answered only where each file that was written failed
pub append_failed : (told : Type 0) (bytes : List ℕ) (olds news : List PartView) (chief synced lead kept : ℕ) → AreCopies told olds chief synced → LeadsAppend told bytes olds news lead kept → kept < length bytes → AllFailed olds news
append_failed told bytes olds news chief synced lead kept are is short = weaker_where _ _ _ (λ x y c g live. g.failed (live, c.there live) short) olds news are.copies is.pairs

pub idle_failed : (told : Type 0) (bytes : List ℕ) (olds news : List PartView) → IsIdle told bytes olds news → AllFailed olds news
idle_failed told bytes olds news is = dead olds news is.pairs is.none
  where
    dead : (xs ys : List PartView) → AllZip (Appends told bytes) xs ys → AllByRecursion (λ p. p.live ≡ false) ys → AllFailed xs ys
    dead [] [] pairs none = tt
    dead [] (y ∷ ys) pairs none = absurd pairs
    dead (x ∷ xs) [] pairs none = absurd pairs
    dead (x ∷ xs) (y ∷ ys) pairs none = (λ live. let l = pairs.0.live in let n = none.0 in absurd (cc), dead xs ys pairs.1 none.1)

pub read_failed : (told : Type 0) (olds news : List PartView) (chief synced size : ℕ) → AreCopies told olds chief synced → size ≡ length (part_of olds chief).content → AllZip (FailsToRead told size) olds news → told → AllFailed olds news
read_failed told olds news chief synced size are same is t = weaker_where _ _ _ (λ x y c r live. r.failed (live, c.there live) (ap length (c.content live t) ∙ sym same)) olds news are.copies is

pub fails_reads : (told : Type 0) (size : ℕ) (olds news : List PartView) → AllZip (FailsToRead told size) olds news → AllZip (ReadsFile told) olds news
fails_reads told size olds news is = weaker_pairs _ _ (λ x y r. r.reads) olds news is

-- only those that failed are dropped
pub append_dropped : (told : Type 0) (bytes : List ℕ) (olds news : List PartView) (chief synced lead kept : ℕ) → AreCopies told olds chief synced → LeadsAppend told bytes olds news lead kept → OnlyFailedDropped olds news
append_dropped told bytes olds news chief synced lead kept are is = weaker_where _ _ _ (λ x y c g live off. g.dropped (live, c.there live) off) olds news are.copies is.pairs

pub idle_dropped : (told : Type 0) (bytes : List ℕ) (olds news : List PartView) → IsIdle told bytes olds news → OnlyFailedDropped olds news
idle_dropped told bytes olds news is = weaker_pairs _ _ (λ x y f live off. f live) olds news (idle_failed told bytes olds news is)

pub sync_dropped : (told : Type 0) (olds news : List PartView) (chief synced : ℕ) → AreCopies told olds chief synced → AllZip (Syncs told) olds news → OnlyFailedDropped olds news
sync_dropped told olds news chief synced are is = weaker_where _ _ _ (λ x y c s live off. s.called (live, c.there live) ∙ ap (λ b. one_call (not b) x.tally) off) olds news are.copies is

pub read_dropped : (told : Type 0) (olds news : List PartView) (chief synced : ℕ) → AreCopies told olds chief synced → AllZip (ReadsFile told) olds news → OnlyFailedDropped olds news
read_dropped told olds news chief synced are is = weaker_where _ _ _ (λ x y c r live off. r.dropped (live, c.there live) off) olds news are.copies is
