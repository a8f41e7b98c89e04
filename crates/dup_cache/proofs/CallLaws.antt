-- The laws of keys and of replies that are kept.
use Rattle.std.proofs.Common.{◌≡◌, ◌≢◌, ℕ, ◌<◌, ◌^◌, ◌-◌, Bool, true, false, cond, List, [], ◌∷◌, zero, suc, take, drop, Option, Some, None, IfSome, refl, sym, ◌∙◌, ap, subst, option_and_then, true≢false}
use Rattle.std.specs.Int.{w32, from_be_bytes}
use Rattle.std.specs.Str.{bytes_eq}
use Rattle.std.specs.Map.{lookup, lookup_entry, remove_entry, set_value}
use Rattle.std.specs.Option.{option_map_or}
use Rattle.std.specs.Cmp.Lexicographic.{bytes_decides, nat_list_eq_equiv}
use Rattle.std.proofs.lemmas.Nat.{from_be_bytes-to_be_bytes_4}
use Rattle.std.proofs.lemmas.Option.{none-some}
use Rattle.lru.specs.LruCache.{lru_cache, promoted, put_entries}
use Rattle.lru.proofs.CallerLemmas.{lookup-put_entries}
use Rattle.dup_cache.specs.CallList.{KeptReply, Empty, Filled, call_key, filled_text}
use Rattle.dup_cache.specs.Laws.{CallKeysDiffer, AnswersAgain, UseKeepsAnswers, OthersKeepAnswers}
use Rattle.dup_cache.proofs.CallEntries.{Agrees, agrees, lookup-promoted}

-- ---- keys

client-of_key : (client : ℕ) (call : List ℕ) → client < 2 ^ 32 → from_be_bytes w32 (take 4 (call_key client call)) ≡ client
unfolding call_key
client-of_key client call low = from_be_bytes-to_be_bytes_4 client low

call-of_key : (client : ℕ) (call : List ℕ) → drop 4 (call_key client call) ≡ call
unfolding call_key
call-of_key client call = refl

pub keys_differ : CallKeysDiffer
keys_differ client client' call call' low low' same = (
  sym (client-of_key client call low) ∙ (ap (λ (key : List ℕ). from_be_bytes w32 (take 4 key)) same ∙ client-of_key client' call' low'),
  sym (call-of_key client call) ∙ (ap (drop 4) same ∙ call-of_key client' call'),
)

-- ---- the reply of the call itself

module _ (test : List ℕ → Bool) where
  lookup-set_same : (es : List (List ℕ × KeptReply)) (v w : KeptReply) → lookup test es ≡ Some v → lookup test (set_value test es w) ≡ Some w
  lookup-set_same [] v w there = absurd (none-some v there)
  lookup-set_same (e ∷ es) v w there = by (test e.0) refl there (lookup-set_same es v w)
    where
      by : (b : Bool) → test e.0 ≡ b → cond b (Some e.1) (lookup test es) ≡ Some v → (lookup test es ≡ Some v → lookup test (set_value test es w) ≡ Some w)
          → lookup test (cond b ((e.0, w) ∷ es) (e ∷ set_value test es w)) ≡ Some w
      by true t h rest = rw t refl
      by false t h rest = rw t (rest h)

pub answers_again : AnswersAgain
answers_again key text room l =
    ap (option_and_then filled_text)
    (lookup-set_same (bytes_eq key) (put_entries bytes_eq (lru_cache l.calls l.most) key (Empty room)) (Empty room) (Filled text)
    (lookup-put_entries bytes_eq (lru_cache l.calls l.most) key (Empty room) nat_list_eq_equiv))

-- ---- the replies of others

-- either the same, or gone
abbrev IsSameOrGone : Option KeptReply → Option KeptReply → Type 0
IsSameOrGone None old = Unit {0}
IsSameOrGone (Some v) old = old ≡ Some v

same_or_gone : (o : Option KeptReply) → IsSameOrGone o o
same_or_gone None = tt
same_or_gone (Some v) = refl

module _ (test other : List ℕ → Bool) (apart : (k : List ℕ) → test k ≡ true → other k ≡ false) where
  lookup-set_apart : (es : List (List ℕ × KeptReply)) (w : KeptReply) → lookup other (set_value test es w) ≡ lookup other es
  lookup-set_apart [] w = refl
  lookup-set_apart (e ∷ es) w = by (test e.0) refl (lookup-set_apart es w)
    where
      by : (b : Bool) → test e.0 ≡ b → lookup other (set_value test es w) ≡ lookup other es
          → lookup other (cond b ((e.0, w) ∷ es) (e ∷ set_value test es w)) ≡ lookup other (e ∷ es)
      by true t rest = rw (apart e.0 t) refl
      by false t rest = ap (cond (other e.0) (Some e.1)) rest

  lookup-removed_apart : (es : List (List ℕ × KeptReply)) → lookup other (remove_entry test es) ≡ lookup other es
  lookup-removed_apart [] = refl
  lookup-removed_apart (e ∷ es) = by (test e.0) refl (lookup-removed_apart es)
    where
      by : (b : Bool) → test e.0 ≡ b → lookup other (remove_entry test es) ≡ lookup other es
          → lookup other (cond b es (e ∷ remove_entry test es)) ≡ lookup other (e ∷ es)
      by true t rest = rw (apart e.0 t) refl
      by false t rest = ap (cond (other e.0) (Some e.1)) rest

  promoted_apart : (es : List (List ℕ × KeptReply)) (o : Option (List ℕ × KeptReply)) → Agrees test es o
      → lookup other (option_map_or (λ e. e ∷ remove_entry test es) o es) ≡ lookup other es
  promoted_apart es None h = refl
  promoted_apart es (Some e) h = rw (apart e.0 h.1) (lookup-removed_apart es)

  lookup-take : (n : ℕ) (es : List (List ℕ × KeptReply)) → IsSameOrGone (lookup other (take n es)) (lookup other es)
  lookup-take zero es = tt
  lookup-take (suc n) [] = tt
  lookup-take (suc n) (e ∷ es) = by (other e.0) (lookup-take n es)
    where
      by : (b : Bool) → IsSameOrGone (lookup other (take n es)) (lookup other es) → IsSameOrGone (cond b (Some e.1) (lookup other (take n es))) (cond b (Some e.1) (lookup other es))
      by true rest = refl
      by false rest = rest

  put_apart : (es : List (List ℕ × KeptReply)) (key : List ℕ) (w : KeptReply) (n : ℕ) (o : Option (List ℕ × KeptReply)) → test key ≡ true → Agrees test es o
      → IsSameOrGone (lookup other (option_map_or (λ e. (e.0, w) ∷ remove_entry test es) o ((key, w) ∷ take n es))) (lookup other es)
  put_apart es key w n None t h = rw (apart key t) (lookup-take n es)
  put_apart es key w n (Some e) t h = rw (apart e.0 h.1, lookup-removed_apart es) (same_or_gone (lookup other es))

-- keys with other bytes pass no test for these
apart_keys : (key other : List ℕ) → other ≢ key → (k : List ℕ) → bytes_eq key k ≡ true → bytes_eq other k ≡ false
apart_keys key other differ k is = by (bytes_eq other k) refl
  where
    by : (b : Bool) → bytes_eq other k ≡ b → b ≡ false
    by true same = absurd (differ ((bytes_decides other k).0 same ∙ sym ((bytes_decides key k).0 is)))
    by false same = refl

-- a test for the same key, and for one with other bytes
pub use_keeps_answers : UseKeepsAnswers
use_keeps_answers key other l = ap (option_and_then filled_text) (by (bytes_eq other key) refl)
  where
    by : (b : Bool) → bytes_eq other key ≡ b → lookup (bytes_eq other) (promoted (bytes_eq key) l.calls) ≡ lookup (bytes_eq other) l.calls
    by true same = subst (λ (k : List ℕ). lookup (bytes_eq other) (promoted (bytes_eq k) l.calls) ≡ lookup (bytes_eq other) l.calls) ((bytes_decides other key).0 same) (lookup-promoted (bytes_eq other) l.calls)
    by false differ = promoted_apart (bytes_eq key) (bytes_eq other) (apart_keys key other (λ is. true≢false (sym ((bytes_decides other key).1 is) ∙ differ))) l.calls (lookup_entry (bytes_eq key) l.calls) (agrees (bytes_eq key) l.calls)

answer_kept : (o old : Option KeptReply) → IsSameOrGone o old → IfSome (option_and_then filled_text o) (λ answer. option_and_then filled_text old ≡ Some answer)
answer_kept None old h = tt
answer_kept (Some (Empty room)) old h = tt
answer_kept (Some (Filled text)) old h = rw h refl

pub others_keep_answers : OthersKeepAnswers
others_keep_answers key other text room l differ =
    let apart = apart_keys key other differ in
    let begun = put_entries bytes_eq (lru_cache l.calls l.most) key (Empty room) in
    let kept : IsSameOrGone (lookup (bytes_eq other) begun) (lookup (bytes_eq other) l.calls) =
    put_apart (bytes_eq key) (bytes_eq other) apart l.calls key (Empty room) (l.most - 1) (lookup_entry (bytes_eq key) l.calls) (nat_list_eq_equiv.refl key) (agrees (bytes_eq key) l.calls) in
    answer_kept (lookup (bytes_eq other) (set_value (bytes_eq key) begun (Filled text))) (lookup (bytes_eq other) l.calls)
    (subst (λ (o : Option KeptReply). IsSameOrGone o (lookup (bytes_eq other) l.calls)) (sym (lookup-set_apart (bytes_eq key) (bytes_eq other) apart begun (Filled text))) kept)
