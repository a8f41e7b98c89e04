-- Each call leaves a sound desk sound.
use Rattle.std.proofs.Common.{ℕ, ◌+◌, ◌<◌, ◌≤◌, Bool, true, false, not, cond, List, [], ◌∷◌, ◌++◌, length, Some, arith, length-append}
use Rattle.std.specs.Prelude.{◌==◌, find, filter, is_some}
use Rattle.tickets.specs.Desk.{TicketId, DeskState, new_desk, next_ticket, with_issued, with_answered, with_dropped, with_cancelled, RiseFrom, AreUpTo, IsSound}

RiseFrom-lower : (ts : List TicketId) (low low' : ℕ) → low' ≤ low → RiseFrom low ts → RiseFrom low' ts
RiseFrom-lower [] low low' le rise = tt
RiseFrom-lower (t ∷ ts) low low' le rise = (omega arith, rise.1)

RiseFrom-push : (ts : List TicketId) (t : TicketId) (low high : ℕ) → low ≤ high → high < t.number → AreUpTo high ts → RiseFrom low ts → RiseFrom low (ts ++ t ∷ [])
RiseFrom-push [] t low high le above up rise = (omega arith, tt)
RiseFrom-push (u ∷ ts) t low high le above up rise = (rise.0, RiseFrom-push ts t u.number high up.0 above up.1 rise.1)

AreUpTo-push : (ts : List TicketId) (t : TicketId) (high : ℕ) → high < t.number → AreUpTo high ts → AreUpTo t.number (ts ++ t ∷ [])
AreUpTo-push [] t high above up = (omega arith, tt)
AreUpTo-push (u ∷ ts) t high above up = (omega arith, AreUpTo-push ts t high above up.1)

pub RiseFrom-filter : (p : TicketId → Bool) (ts : List TicketId) (low : ℕ) → RiseFrom low ts → RiseFrom low (filter p ts)
RiseFrom-filter p [] low rise = tt
RiseFrom-filter p (t ∷ ts) low rise = go (p t) (RiseFrom-filter p ts t.number rise.1)
  where
    go : (b : Bool) → RiseFrom t.number (filter p ts) → RiseFrom low (cond b (t ∷ filter p ts) (filter p ts))
    go true rest = (rise.0, rest)
    go false rest = RiseFrom-lower (filter p ts) t.number low (omega arith) rest

pub AreUpTo-filter : (p : TicketId → Bool) (ts : List TicketId) (high : ℕ) → AreUpTo high ts → AreUpTo high (filter p ts)
AreUpTo-filter p [] high up = tt
AreUpTo-filter p (t ∷ ts) high up = go (p t) (AreUpTo-filter p ts high up.1)
  where
    go : (b : Bool) → AreUpTo high (filter p ts) → AreUpTo high (cond b (t ∷ filter p ts) (filter p ts))
    go true rest = (up.0, rest)
    go false rest = rest

pub length-filter-le : (p : TicketId → Bool) (ts : List TicketId) → length (filter p ts) ≤ length ts
length-filter-le p [] = omega arith
length-filter-le p (t ∷ ts) = go (p t) (length-filter-le p ts)
  where
    go : (b : Bool) → length (filter p ts) ≤ length ts → length (cond b (t ∷ filter p ts) (filter p ts)) ≤ length (t ∷ ts)
    go true le = omega arith
    go false le = omega arith

-- What is found is one of those that the filter takes out.
pub length-filter-found : (q : TicketId → Bool) (ts : List TicketId) → length (filter (λ t. not (q t)) ts) + cond (is_some (find q ts)) 1 0 ≤ length ts
length-filter-found q [] = omega arith
length-filter-found q (t ∷ ts) = go (q t) (length-filter-found q ts) (length-filter-le (λ u. not (q u)) ts)
  where
    go : (b : Bool) → length (filter (λ u. not (q u)) ts) + cond (is_some (find q ts)) 1 0 ≤ length ts → length (filter (λ u. not (q u)) ts) ≤ length ts
        → length (cond (not b) (t ∷ filter (λ u. not (q u)) ts) (filter (λ u. not (q u)) ts)) + cond (is_some (cond b (Some t) (find q ts))) 1 0 ≤ length (t ∷ ts)
    go true le lower = omega arith
    go false le lower = omega arith

pub sound_new : IsSound new_desk
sound_new = record { rising = tt; issued_before = tt; counted = omega arith }

pub sound_issued : (conn xid : ℕ) (d : DeskState) → IsSound d → IsSound (with_issued conn xid d)
sound_issued conn xid d s = record {
  rising = RiseFrom-push d.waiting (next_ticket conn xid d) 0 d.last (omega arith) (omega arith) s.issued_before s.rising;
  issued_before = AreUpTo-push d.waiting (next_ticket conn xid d) d.last (omega arith) s.issued_before;
  counted = let h = s.counted in omega (arith, length-append d.waiting (next_ticket conn xid d ∷ []));
}

pub sound_filtered : (p : TicketId → Bool) (d : DeskState) → IsSound d → IsSound (record d { waiting = filter p d.waiting })
sound_filtered p d s = record {
  rising = RiseFrom-filter p d.waiting 0 s.rising;
  issued_before = AreUpTo-filter p d.waiting d.last s.issued_before;
  counted = let h = s.counted in omega (arith, length-filter-le p d.waiting);
}

pub sound_dropped : (n : ℕ) (d : DeskState) → IsSound d → IsSound (with_dropped n d)
sound_dropped n d s = sound_filtered (λ t. not (t.number == n)) d s

pub sound_cancelled : (conn : ℕ) (d : DeskState) → IsSound d → IsSound (with_cancelled conn d)
sound_cancelled conn d s = sound_filtered (λ t. not (t.conn == conn)) d s

pub sound_answered : (n : ℕ) (d : DeskState) → IsSound d → IsSound (with_answered n d)
sound_answered n d s = record {
  rising = RiseFrom-filter (λ t. not (t.number == n)) d.waiting 0 s.rising;
  issued_before = AreUpTo-filter (λ t. not (t.number == n)) d.waiting d.last s.issued_before;
  counted = let h = s.counted in omega (arith, length-filter-found (λ t. t.number == n) d.waiting);
}
