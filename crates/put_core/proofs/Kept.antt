-- What an upload keeps true of its fields holds after each step.
use Rattle.std.proofs.Common.{◌≡◌, ◌≢◌, ℕ, zero, suc, ◌+◌, ◌*◌, ◌<◌, ◌≤◌, Bool, true, false, not, cond, List, [], ◌∷◌, ◌++◌, Some, None, refl, sym, ◌∙◌, ap, subst, arith, map, length, set, get_or, length-append}
use Rattle.std.specs.Prelude.{count_by, remove, replicate, is_some, Vec}
use Rattle.std.specs.Vec.{with_items}
use Rattle.std.proofs.lemmas.List.{length-set, length-map, get_or-set_same, get_or-set_other, with_items_is}
use Rattle.std.proofs.lemmas.List.Edits.{length-remove}
use Rattle.std.proofs.lemmas.List.Sums.{count_by-le-length, sum_by-cons}
use Rattle.put_core.specs.declared.call.ChunkState.{ChunkState}
use Rattle.put_core.specs.declared.call.ChunkState.TheVariants.{Idle, Sent, Held}
use Rattle.put_core.specs.declared.call.SentWrite.{SentWrite}
use Rattle.gw_model.specs.Bounds.{max_transfer}
use Rattle.put_core.specs.Steps.{PutState, new_put, chunk_count, first_unheld, is_unsent, is_sent, is_unheld, unheld_chunk, unsent_chunk, no_write, sent_write, without_write, after_hold, most_beginnings, most_breaks, most_chunks, most_window}
use Rattle.put_core.specs.Kept.{AreOthers, AreSent, busy_chunks, commit_count, xid_bound, IsKept}
use Rattle.put_core.proofs.ChunkLists.{count_set, count_unheld, count_unsent, first_anew, first_unsent, first_same}
use Rattle.put_core.proofs.Choices.{IsToBeSent}
use Rattle.put_core.proofs.Windows.{AreAhead, one_if, sent_in_all, ahead_same, ahead_less, ahead_changed, ahead_held, ahead_all, window_more, window_most}

-- Outstanding WRITEs.

others_at : (c : ℕ) (ks : List SentWrite) (i : ℕ) → AreOthers c ks → i < length ks → (get_or ks i no_write).chunk ≢ c
others_at c [] i o within = absurd (omega arith)
others_at c (k ∷ ks) zero o within = o.0
others_at c (k ∷ ks) (suc i) o within = others_at c ks i o.1 (omega arith)

others_removed : (c : ℕ) (ks : List SentWrite) (i : ℕ) → AreOthers c ks → AreOthers c (remove ks i)
others_removed c [] zero o = tt
others_removed c [] (suc i) o = tt
others_removed c (k ∷ ks) zero o = o.1
others_removed c (k ∷ ks) (suc i) o = (o.0, others_removed c ks i o.1)

others_added : (c : ℕ) (ks : List SentWrite) (k : SentWrite) → AreOthers c ks → k.chunk ≢ c → AreOthers c (ks ++ k ∷ [])
others_added c [] k o other = (other, tt)
others_added c (l ∷ ks) k o other = (o.0, others_added c ks k o.1 other)

pub sent_at : (ms : List ChunkState) (ks : List SentWrite) (i : ℕ) → AreSent ms ks → i < length ks → ((get_or ks i no_write).chunk < length ms) × (get_or ms (get_or ks i no_write).chunk Idle ≡ Sent)
sent_at ms [] i s within = absurd (omega arith)
sent_at ms (k ∷ ks) zero s within = (s.0, s.1)
sent_at ms (k ∷ ks) (suc i) s within = sent_at ms ks i s.3 (omega arith)

sent_beside : (ms : List ChunkState) (c : ℕ) (m : ChunkState) (ks : List SentWrite) → AreSent ms ks → AreOthers c ks → AreSent (set ms c m) ks
sent_beside ms c m [] s o = tt
sent_beside ms c m (k ∷ ks) s o =
    (omega (arith, length-set ms c m, s.0), get_or-set_other ms c k.chunk m Idle o.0 ∙ s.1, s.2, sent_beside ms c m ks s.3 o.1)

sent_removed : (ms : List ChunkState) (ks : List SentWrite) (i : ℕ) (m : ChunkState) → AreSent ms ks → i < length ks → AreSent (set ms (get_or ks i no_write).chunk m) (remove ks i)
sent_removed ms [] i m s within = absurd (omega arith)
sent_removed ms (k ∷ ks) zero m s within = sent_beside ms k.chunk m ks s.3 s.2
sent_removed ms (k ∷ ks) (suc i) m s within =
    let c : ℕ = (get_or ks i no_write).chunk in
    let other : c ≢ k.chunk = others_at k.chunk ks i s.2 (omega arith) in
    (omega (arith, length-set ms c m, s.0), get_or-set_other ms c k.chunk m Idle (λ e. other (sym e)) ∙ s.1, others_removed k.chunk ks i s.2, sent_removed ms ks i m s.3 (omega arith))

-- A chunk that is idle has no outstanding WRITE.
idle_other : (ms : List ChunkState) (c : ℕ) (ks : List SentWrite) → AreSent ms ks → get_or ms c Idle ≡ Idle → AreOthers c ks
idle_other ms c [] s idle = tt
idle_other ms c (k ∷ ks) s idle = ((λ e. clash (sym s.1 ∙ (ap (λ d. get_or ms d Idle) e ∙ idle))), idle_other ms c ks s.3 idle)
  where
    clash : Sent ≡ Idle → ⊥
    clash e = absurd (cc)

sent_added : (ms : List ChunkState) (xid c : ℕ) (ks : List SentWrite) → AreSent ms ks → AreOthers c ks → c < length ms → AreSent (set ms c Sent) (ks ++ sent_write xid c ∷ [])
sent_added ms xid c [] s o within = (omega (arith, length-set ms c Sent), get_or-set_same ms c Sent Idle within, tt, tt)
sent_added ms xid c (k ∷ ks) s o within =
    (omega (arith, length-set ms c Sent, s.0), get_or-set_other ms c k.chunk Sent Idle o.0 ∙ s.1, others_added k.chunk ks (sent_write xid c) s.2 (λ e. o.0 (sym e)), sent_added ms xid c ks s.3 o.1 within)

sent_forgotten : (ms : List ChunkState) (ks : List SentWrite) → AreSent ms ks → AreSent (map unheld_chunk ms) ks
sent_forgotten ms [] s = tt
sent_forgotten ms (k ∷ ks) s = (omega (arith, length-map ms unheld_chunk, s.0), still ms k.chunk s.1, s.2, sent_forgotten ms ks s.3)
  where
    still : (ms : List ChunkState) (c : ℕ) → get_or ms c Idle ≡ Sent → get_or (map unheld_chunk ms) c Idle ≡ Sent
    still [] c is = is
    still (m ∷ ms) zero is = ap unheld_chunk is
    still (m ∷ ms) (suc c) is = still ms c is

-- One of these WRITEs is released, and its chunk idle.

unsent_same : (ms : List ChunkState) (c : ℕ) → get_or ms c Idle ≡ Sent → map unsent_chunk (set ms c Idle) ≡ map unsent_chunk ms
unsent_same [] c is = refl
unsent_same (m ∷ ms) zero is = ap (λ x. x ∷ map unsent_chunk ms) (sym (ap unsent_chunk is))
unsent_same (m ∷ ms) (suc c) is = ap (λ xs. unsent_chunk m ∷ xs) (unsent_same ms c is)

pub released_next : (ms : List ChunkState) (w : SentWrite) (ws : List SentWrite) → AreSent ms (w ∷ ws) → length (w ∷ ws) ≡ count_by is_sent ms
    → AreSent (set ms w.chunk Idle) ws × (length ws ≡ count_by is_sent (set ms w.chunk Idle)) × (map unsent_chunk (set ms w.chunk Idle) ≡ map unsent_chunk ms)
released_next ms w ws s counted = (sent_beside ms w.chunk Idle ws s.3 s.2, omega (arith, counted, less), unsent_same ms w.chunk s.1)
  where
    less : count_by is_sent (set ms w.chunk Idle) + 1 ≡ count_by is_sent ms
    less = let e = subst (λ (m : ChunkState). count_by is_sent (set ms w.chunk Idle) + cond (is_sent m) 1 0 ≡ count_by is_sent ms + 0) s.1 (count_set is_sent ms w.chunk Idle s.0) in omega arith

-- Where no WRITE is outstanding, none is to be released.
pub none_unsent : (ms : List ChunkState) → count_by is_sent ms ≡ 0 → map unsent_chunk ms ≡ ms
none_unsent [] none = refl
none_unsent (Idle ∷ ms) none = ap (λ xs. Idle ∷ xs) (none_unsent ms (omega (arith, sum_by-cons (one_if is_sent) Idle ms)))
none_unsent (Sent ∷ ms) none = absurd (omega (arith, sum_by-cons (one_if is_sent) Sent ms))
none_unsent (Held ∷ ms) none = ap (λ xs. Held ∷ xs) (none_unsent ms (omega (arith, sum_by-cons (one_if is_sent) Held ms)))

-- The steps.

length_idle : (n : ℕ) → length (replicate n Idle) ≡ n
length_idle zero = refl
length_idle (suc n) = ap suc (length_idle n)

first_idle : (n : ℕ) → first_unheld (replicate n Idle) ≡ 0
first_idle zero = refl
first_idle (suc n) = refl

pub sent_idle : (n : ℕ) → count_by is_sent (replicate n Idle) ≡ 0
sent_idle zero = refl
sent_idle (suc n) = omega (arith, sum_by-cons (one_if is_sent) Idle (replicate n Idle), sent_idle n)

kept_new : (size chunk window room : ℕ) (backward : Bool) (ms : List ChunkState) → ms ≡ replicate (chunk_count size chunk) Idle → 1 ≤ chunk → chunk ≤ max_transfer → 1 ≤ window → window ≤ most_window → chunk_count size chunk ≤ most_chunks
    → most_beginnings * window ≤ room → IsKept (record (new_put size chunk window backward) { chunks = ms }) 0 room
kept_new size chunk window room backward ms is a b c d few spare = record {
  number = ap length is ∙ length_idle (chunk_count size chunk);
  few = omega (arith, ap length is, length_idle (chunk_count size chunk));
  chunk_least = a;
  chunk_most = b;
  window_least = c;
  window_most = d;
  least = sym (ap first_unheld is ∙ first_idle (chunk_count size chunk));
  outstanding = tt;
  counted = sym none;
  ahead = ahead_all window (0 * window) ms (omega (arith, none));
  fit = omega arith;
  spare = spare;
  numbers = omega arith;
  beginnings = omega arith;
  retries = omega arith;
  breaks = omega arith;
}
  where
    none : count_by is_sent ms ≡ 0
    none = ap (count_by is_sent) is ∙ sent_idle (chunk_count size chunk)

-- A chunk of the present window that is idle is sent.
kept_sends : (s : PutState) (first room c : ℕ) → IsKept s first room → IsToBeSent s c
    → IsKept (record s { chunks = set s.chunks c Sent; writes = s.writes ++ sent_write (s.last + 1) c ∷ []; last = s.last + 1 }) first room
kept_sends s first room c k to_send = record {
  number = length-set s.chunks c Sent ∙ k.number;
  few = omega (arith, length-set s.chunks c Sent, k.few);
  chunk_least = k.chunk_least;
  chunk_most = k.chunk_most;
  window_least = k.window_least;
  window_most = k.window_most;
  least = k.least ∙ sym (first_same s.chunks c Sent (sym (ap is_unheld to_send.idle)));
  outstanding = sent_added s.chunks (s.last + 1) c s.writes k.outstanding (idle_other s.chunks c s.writes k.outstanding to_send.idle) to_send.within;
  counted = one_more ∙ sym sents;
  ahead = ahead;
  fit = omega (arith, one_more, sents, sent_in_all (record s { chunks = set s.chunks c Sent }), ahead, window_most s.beginnings most_beginnings s.window to_send.begun);
  spare = k.spare;
  numbers = omega (arith, busies, k.numbers);
  beginnings = k.beginnings;
  retries = k.retries;
  breaks = k.breaks;
}
  where
    sents : count_by is_sent (set s.chunks c Sent) ≡ count_by is_sent s.chunks + 1
    sents = let e = subst (λ (m : ChunkState). count_by is_sent (set s.chunks c Sent) + cond (is_sent m) 1 0 ≡ count_by is_sent s.chunks + 1) to_send.idle (count_set is_sent s.chunks c Sent to_send.within) in omega arith

    busies : busy_chunks (set s.chunks c Sent) ≡ busy_chunks s.chunks + 1
    busies = let e = subst (λ (m : ChunkState). busy_chunks (set s.chunks c Sent) + cond (not (is_unsent m)) 1 0 ≡ busy_chunks s.chunks + 1) to_send.idle (count_set (λ m. not (is_unsent m)) s.chunks c Sent to_send.within) in omega arith

    one_more : length (s.writes ++ sent_write (s.last + 1) c ∷ []) ≡ count_by is_sent s.chunks + 1
    one_more = omega (arith, length-append s.writes (sent_write (s.last + 1) c ∷ []), k.counted)

    ahead : AreAhead s.window (s.beginnings * s.window) (set s.chunks c Sent)
    ahead = ahead_changed s.window (s.beginnings * s.window) s.chunks c Sent (sym (ap is_unheld to_send.idle)) (λ e is. omega (arith, ahead_same s.chunks c e Sent (omega (arith, to_send.near, is)))) k.ahead

-- There is room for one more outstanding WRITE.
pub room_for : (s : PutState) (first room c : ℕ) → IsKept s first room → IsToBeSent s c → length s.writes < room
room_for s first room c k to_send =
    omega (arith, (kept_sends s first room c k to_send).fit, length-append s.writes (sent_write (s.last + 1) c ∷ []), k.spare)

-- So at most 16 windows of WRITEs are outstanding.
pub few_writes : (s : PutState) (first room c xid : ℕ) (ks : List SentWrite) → IsKept s first room → IsToBeSent s c → ks ≡ s.writes ++ sent_write xid c ∷ [] → length ks ≤ most_beginnings * s.window
few_writes s first room c xid ks k to_send is =
    omega (arith, ap length is, length-append s.writes (sent_write xid c ∷ []), length-append s.writes (sent_write (s.last + 1) c ∷ []), (kept_sends s first room c k to_send).fit)

pub kept_broken : (s : PutState) (first room : ℕ) (ms : List ChunkState) (ks : List SentWrite) → IsKept s first room → ms ≡ map unsent_chunk s.chunks → ks ≡ [] → s.breaks < most_breaks → IsKept (record s { chunks = ms; writes = ks; commit = None; breaks = s.breaks + 1 }) first room
kept_broken s first room ms ks k is none few = record {
  number = lengths ∙ k.number;
  few = omega (arith, lengths, k.few);
  chunk_least = k.chunk_least;
  chunk_most = k.chunk_most;
  window_least = k.window_least;
  window_most = k.window_most;
  least = k.least ∙ sym (ap first_unheld is ∙ first_unsent s.chunks);
  outstanding = subst (λ xs. AreSent ms xs) (sym none) tt;
  counted = ap length none ∙ sym no_sent;
  ahead = ahead_all s.window (s.beginnings * s.window) ms (omega (arith, no_sent));
  fit = omega (arith, ap length none);
  spare = k.spare;
  numbers = go (is_some s.commit) (count_by-le-length (λ m. not (is_unsent m)) s.chunks) k.numbers;
  beginnings = k.beginnings;
  retries = k.retries;
  breaks = omega arith;
}
  where
    lengths : length ms ≡ length s.chunks
    lengths = ap length is ∙ length-map s.chunks unsent_chunk

    no_sent : count_by is_sent ms ≡ 0
    no_sent = ap (count_by is_sent) is ∙ count_unsent s.chunks

    go : (b : Bool) → busy_chunks s.chunks ≤ length s.chunks → s.last ≤ busy_chunks s.chunks + cond b 1 0 + s.retries + (most_chunks + 2) * (s.beginnings + s.breaks) → s.last ≤ busy_chunks ms + 0 + s.retries + (most_chunks + 2) * (s.beginnings + (s.breaks + 1))
    go true b n = omega (arith, k.few)
    go false b n = omega (arith, k.few)

pub slack_again : (s : PutState) (first room : ℕ) (ms : List ChunkState) → IsKept s first room → s.last < busy_chunks ms + commit_count s.commit + s.retries + (most_chunks + 2) * (s.beginnings + 1 + s.breaks)
slack_again s first room ms k = omega (arith, count_by-le-length (λ m. not (is_unsent m)) s.chunks, k.few, k.numbers)

pub kept_begun_again : (s : PutState) (first room : ℕ) (ms : List ChunkState) → IsKept s first room → ms ≡ map unheld_chunk s.chunks → s.beginnings < most_beginnings → IsKept (record s { chunks = ms; verifier = None; beginnings = s.beginnings + 1 }) 0 room
kept_begun_again s first room ms k is few = record {
  number = lengths ∙ k.number;
  few = omega (arith, lengths, k.few);
  chunk_least = k.chunk_least;
  chunk_most = k.chunk_most;
  window_least = k.window_least;
  window_most = k.window_most;
  least = sym (ap first_unheld is ∙ first_anew s.chunks);
  outstanding = subst (λ xs. AreSent xs s.writes) (sym is) (sent_forgotten s.chunks s.writes k.outstanding);
  counted = k.counted ∙ sym sents;
  ahead = ahead_all s.window ((s.beginnings + 1) * s.window) ms (omega (arith, sents, sent_in_all s, k.ahead, window_more s.beginnings s.window));
  fit = k.fit;
  spare = k.spare;
  numbers = omega (arith, slack_again s first room ms k);
  beginnings = omega arith;
  retries = k.retries;
  breaks = k.breaks;
}
  where
    lengths : length ms ≡ length s.chunks
    lengths = ap length is ∙ length-map s.chunks unheld_chunk

    sents : count_by is_sent ms ≡ count_by is_sent s.chunks
    sents = ap (count_by is_sent) is ∙ count_unheld s.chunks

-- An outstanding WRITE is closed, and its chunk idle: a call is told by a count.
kept_released : (s : PutState) (first room place : ℕ) → IsKept s first room → place < length s.writes → s.last < xid_bound s → IsKept (without_write place (get_or s.writes place no_write).chunk Idle s) first room
kept_released s first room place k within slack = record {
  number = length-set s.chunks c Idle ∙ k.number;
  few = omega (arith, length-set s.chunks c Idle, k.few);
  chunk_least = k.chunk_least;
  chunk_most = k.chunk_most;
  window_least = k.window_least;
  window_most = k.window_most;
  least = k.least ∙ sym (first_same s.chunks c Idle (sym (ap is_unheld was.1)));
  outstanding = sent_removed s.chunks s.writes place Idle k.outstanding within;
  counted = omega (arith, length-remove s.writes place within, sents, k.counted);
  ahead = ahead_changed s.window (s.beginnings * s.window) s.chunks c Idle (sym (ap is_unheld was.1)) (λ e is. ahead_less s.chunks c e Idle refl) k.ahead;
  fit = omega (arith, length-remove s.writes place within, k.fit);
  spare = k.spare;
  numbers = omega (arith, busies, slack);
  beginnings = k.beginnings;
  retries = k.retries;
  breaks = k.breaks;
}
  where
    c : ℕ
    c = (get_or s.writes place no_write).chunk

    was : ((get_or s.writes place no_write).chunk < length s.chunks) × (get_or s.chunks (get_or s.writes place no_write).chunk Idle ≡ Sent)
    was = sent_at s.chunks s.writes place k.outstanding within

    sents : count_by is_sent (set s.chunks c Idle) + 1 ≡ count_by is_sent s.chunks
    sents = let e = subst (λ (m : ChunkState). count_by is_sent (set s.chunks c Idle) + cond (is_sent m) 1 0 ≡ count_by is_sent s.chunks + 0) was.1 (count_set is_sent s.chunks c Idle was.0) in omega arith

    busies : busy_chunks (set s.chunks c Idle) + 1 ≡ busy_chunks s.chunks
    busies = let e = subst (λ (m : ChunkState). busy_chunks (set s.chunks c Idle) + cond (not (is_unsent m)) 1 0 ≡ busy_chunks s.chunks + 0) was.1 (count_set (λ m. not (is_unsent m)) s.chunks c Idle was.0) in omega arith

-- An outstanding WRITE is closed, and its chunk held.
kept_held : (s : PutState) (first room place verifier : ℕ) (f : ℕ) → IsKept s first room → place < length s.writes → f ≡ first_unheld (set s.chunks (get_or s.writes place no_write).chunk Held)
    → IsKept (after_hold place (get_or s.writes place no_write).chunk verifier s) f room
kept_held s first room place verifier f k within is = record {
  number = length-set s.chunks c Held ∙ k.number;
  few = omega (arith, length-set s.chunks c Held, k.few);
  chunk_least = k.chunk_least;
  chunk_most = k.chunk_most;
  window_least = k.window_least;
  window_most = k.window_most;
  least = is;
  outstanding = sent_removed s.chunks s.writes place Held k.outstanding within;
  counted = omega (arith, length-remove s.writes place within, sents, k.counted);
  ahead = ahead_held s.window (s.beginnings * s.window) s.chunks c k.window_least k.ahead;
  fit = omega (arith, length-remove s.writes place within, k.fit);
  spare = k.spare;
  numbers = omega (arith, busies, k.numbers);
  beginnings = k.beginnings;
  retries = k.retries;
  breaks = k.breaks;
}
  where
    c : ℕ
    c = (get_or s.writes place no_write).chunk

    was : ((get_or s.writes place no_write).chunk < length s.chunks) × (get_or s.chunks (get_or s.writes place no_write).chunk Idle ≡ Sent)
    was = sent_at s.chunks s.writes place k.outstanding within

    sents : count_by is_sent (set s.chunks c Held) + 1 ≡ count_by is_sent s.chunks
    sents = let e = subst (λ (m : ChunkState). count_by is_sent (set s.chunks c Held) + cond (is_sent m) 1 0 ≡ count_by is_sent s.chunks + 0) was.1 (count_set is_sent s.chunks c Held was.0) in omega arith

    busies : busy_chunks (set s.chunks c Held) + 1 ≡ busy_chunks s.chunks + 1
    busies = let e = subst (λ (m : ChunkState). busy_chunks (set s.chunks c Held) + cond (not (is_unsent m)) 1 0 ≡ busy_chunks s.chunks + 1) was.1 (count_set (λ m. not (is_unsent m)) s.chunks c Held was.0) in omega arith

-- As the code leaves them.

-- What stands at a place doesn't depend on what is read past the end.
pub same_at : (ks : List SentWrite) (i : ℕ) (k : SentWrite) → i < length ks → k ≡ get_or ks i k → k ≡ get_or ks i no_write
same_at ks i k within is = is ∙ any ks i k within
  where
    any : (ks : List SentWrite) (i : ℕ) (k : SentWrite) → i < length ks → get_or ks i k ≡ get_or ks i no_write
    any [] i k within = absurd (omega arith)
    any (l ∷ ks) zero k within = refl
    any (l ∷ ks) (suc i) k within = any ks i k (omega arith)

pub kept_released_as : (s : PutState) (first room place : ℕ) (k : SentWrite) (ks : List SentWrite) → IsKept s first room → place < length s.writes → s.last < xid_bound s → k ≡ get_or s.writes place no_write → ks ≡ remove s.writes place
    → IsKept (record s { chunks = set s.chunks k.chunk Idle; writes = ks }) first room
kept_released_as s first room place k ks kept within slack at rest =
    subst (λ (l : SentWrite). IsKept (record s { chunks = set s.chunks l.chunk Idle; writes = ks }) first room) (sym at)
    (subst (λ (ls : List SentWrite). IsKept (record s { chunks = set s.chunks (get_or s.writes place no_write).chunk Idle; writes = ls }) first room) (sym rest) (kept_released s first room place kept within slack))

pub kept_held_as : (s : PutState) (first room place verifier : ℕ) (f : ℕ) (k : SentWrite) (ks : List SentWrite) → IsKept s first room → place < length s.writes → k ≡ get_or s.writes place no_write → ks ≡ remove s.writes place → f ≡ first_unheld (set s.chunks k.chunk Held)
    → IsKept (record s { chunks = set s.chunks k.chunk Held; writes = ks; verifier = Some verifier }) f room
kept_held_as s first room place verifier f k ks kept within at rest is =
    subst (λ (l : SentWrite). IsKept (record s { chunks = set s.chunks l.chunk Held; writes = ks; verifier = Some verifier }) f room) (sym at)
    (subst (λ (ls : List SentWrite). IsKept (record s { chunks = set s.chunks (get_or s.writes place no_write).chunk Held; writes = ls; verifier = Some verifier }) f room) (sym rest)
    (kept_held s first room place verifier f kept within (is ∙ ap (λ (l : SentWrite). first_unheld (set s.chunks l.chunk Held)) at)))

-- The elements of a vector that were written as a slice.
pub items_after : {Z : Type 0} (v : Vec ChunkState Z) (f : ChunkState → ChunkState) (ms : List ChunkState) → ms ≡ map f v.items → (with_items v ms).items ≡ map f v.items
items_after v f ms is = with_items_is v ms (ap length is ∙ (length-map v.items f ∙ sym v.ok.0)) ∙ is

pub kept_new_as : (size chunk window room : ℕ) (backward : Bool) (ms : List ChunkState) (ks : List SentWrite) → ms ≡ replicate (chunk_count size chunk) Idle → ks ≡ [] → 1 ≤ chunk → chunk ≤ max_transfer → 1 ≤ window → window ≤ most_window
    → chunk_count size chunk ≤ most_chunks → most_beginnings * window ≤ room → IsKept (record (new_put size chunk window backward) { chunks = ms; writes = ks }) 0 room
kept_new_as size chunk window room backward ms ks is none a b c d few spare =
    subst (λ (xs : List SentWrite). IsKept (record (new_put size chunk window backward) { chunks = ms; writes = xs }) 0 room) (sym none) (kept_new size chunk window room backward ms is a b c d few spare)

pub kept_sends_as : (s : PutState) (first room c xid : ℕ) (ks : List SentWrite) → IsKept s first room → IsToBeSent s c → xid ≡ s.last + 1 → ks ≡ s.writes ++ sent_write xid c ∷ []
    → IsKept (record s { chunks = set s.chunks c Sent; writes = ks; last = xid }) first room
kept_sends_as s first room c xid ks kept to_send next is =
    subst (λ (x : ℕ). IsKept (record s { chunks = set s.chunks c Sent; writes = ks; last = x }) first room) (sym next)
    (subst (λ (ls : List SentWrite). IsKept (record s { chunks = set s.chunks c Sent; writes = ls; last = s.last + 1 }) first room) (sym (is ∙ ap (λ (x : ℕ). s.writes ++ sent_write x c ∷ []) next)) (kept_sends s first room c kept to_send))
