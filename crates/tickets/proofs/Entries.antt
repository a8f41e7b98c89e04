-- The desk's map as its tickets: what a change of the map does to them.
use Rattle.std.proofs.Common.{◌≡◌, ℕ, ◌+◌, ◌<◌, ◌≤◌, Bool, true, false, not, cond, List, [], ◌∷◌, ◌++◌, Option, None, Some, refl, sym, ◌∙◌, ap, arith}
use Rattle.std.specs.Prelude.{◌==◌, find, filter, option_map, is_some}
use Rattle.std.specs.Ordering.{nat_cmp, match_ordering}
use Rattle.std.specs.declared.cmp.Ordering.TheVariants.{Greater}
use Rattle.std.specs.Cmp.{nat_cmp_is}
use Rattle.std.specs.BTreeMap.{insert_entry, is_at}
use Rattle.std.specs.Map.{remove_entry, lookup}
use Rattle.std.proofs.lemmas.Bool.{eqb-true, ne_eqb}
use Rattle.tickets.specs.declared.desk.Asker.{Asker}
use Rattle.tickets.specs.Desk.{TicketId, RiseFrom, AreUpTo, IsSound, with_issued, with_answered, with_dropped, with_cancelled}
use Rattle.tickets.specs.Entries.{ticket_of, tickets_of, desk_of}

-- An entry above all others comes last.
pub tickets_of-insert_entry : (es : List (ℕ × Asker)) (n high : ℕ) (a : Asker) → AreUpTo high (tickets_of es) → high < n
    → tickets_of (insert_entry nat_cmp es n a) ≡ tickets_of es ++ ticket_of n a ∷ []
tickets_of-insert_entry [] n high a up above = refl
tickets_of-insert_entry (e ∷ es) n high a up above =
    let greater : Greater ≡ nat_cmp n e.0 = nat_cmp_is n e.0 Greater (omega arith) in
    ap (λ o. tickets_of (match_ordering o ((n, a) ∷ e ∷ es) ((e.0, a) ∷ es) (e ∷ insert_entry nat_cmp es n a))) (sym greater)
    ∙ ap (λ ts. ticket_of e.0 e.1 ∷ ts) (tickets_of-insert_entry es n high a up.1 above)

-- Whether an entry is at a number, by the map's test and by equality.
at_number : (n m : ℕ) → is_at (nat_cmp n) m ≡ (m == n)
at_number n m = grind arith

-- Where numbers rise from n on, none is n.
pub without-above : (ts : List TicketId) (n low : ℕ) → RiseFrom low ts → n ≤ low → filter (λ t. not (t.number == n)) ts ≡ ts
without-above [] n low rise le = refl
without-above (t ∷ ts) n low rise le =
    let other : (t.number == n) ≡ false = ne_eqb t.number n (λ e. omega arith) in
    rw other (ap (λ xs. t ∷ xs) (without-above ts n t.number rise.1 (omega arith)))

-- the tickets of other numbers
abbrev others : ℕ → List TicketId → List TicketId
others n ts = filter (λ t. not (t.number == n)) ts

-- Removing the entry at a number takes out the tickets of that number.
pub tickets_of-remove_entry : (es : List (ℕ × Asker)) (n low : ℕ) → RiseFrom low (tickets_of es)
    → tickets_of (remove_entry (is_at (nat_cmp n)) es) ≡ filter (λ t. not (t.number == n)) (tickets_of es)
tickets_of-remove_entry [] n low rise = refl
tickets_of-remove_entry (e ∷ es) n low rise = rw (at_number n e.0) (go (e.0 == n) refl (tickets_of-remove_entry es n e.0 rise.1))
  where
    go : (b : Bool) → (e.0 == n) ≡ b → tickets_of (remove_entry (is_at (nat_cmp n)) es) ≡ others n (tickets_of es)
        → tickets_of (cond b es (e ∷ remove_entry (is_at (nat_cmp n)) es)) ≡ cond (not b) (ticket_of e.0 e.1 ∷ others n (tickets_of es)) (others n (tickets_of es))
    go true is rest = sym (without-above (tickets_of es) n e.0 rise.1 (omega (arith, eqb-true e.0 n is)))
    go false is rest = ap (λ ts. ticket_of e.0 e.1 ∷ ts) rest

-- What is found at a number in the map is the ticket of that number.
pub find-tickets_of : (es : List (ℕ × Asker)) (n : ℕ)
    → find (λ t. t.number == n) (tickets_of es) ≡ option_map (ticket_of n) (lookup (is_at (nat_cmp n)) es)
find-tickets_of [] n = refl
find-tickets_of (e ∷ es) n = rw (at_number n e.0) (go (e.0 == n) refl (find-tickets_of es n))
  where
    go : (b : Bool) → (e.0 == n) ≡ b → find (λ t. t.number == n) (tickets_of es) ≡ option_map (ticket_of n) (lookup (is_at (nat_cmp n)) es)
        → cond b (Some (ticket_of e.0 e.1)) (find (λ t. t.number == n) (tickets_of es)) ≡ option_map (ticket_of n) (cond b (Some e.1) (lookup (is_at (nat_cmp n)) es))
    go true is rest = ap (λ m. Some (ticket_of m e.1)) (eqb-true e.0 n is)
    go false is rest = rest

-- The entries of other connections are their tickets.
pub tickets_of-filter : (es : List (ℕ × Asker)) (conn : ℕ)
    → tickets_of (filter (λ e. not (e.1.conn == conn)) es) ≡ filter (λ t. not (t.conn == conn)) (tickets_of es)
tickets_of-filter [] conn = refl
tickets_of-filter (e ∷ es) conn = go (not (e.1.conn == conn)) (tickets_of-filter es conn)
  where
    kept : List (ℕ × Asker)
    kept = filter (λ d. not (d.1.conn == conn)) es

    left : List TicketId
    left = filter (λ t. not (t.conn == conn)) (tickets_of es)

    go : (b : Bool) → tickets_of kept ≡ left → tickets_of (cond b (e ∷ kept) kept) ≡ cond b (ticket_of e.0 e.1 ∷ left) left
    go true rest = ap (λ ts. ticket_of e.0 e.1 ∷ ts) rest
    go false rest = rest

-- A change of the map under the desk's rule is the change of the desk.
pub desk_of-insert_entry : (last sent n : ℕ) (a : Asker) (es new : List (ℕ × Asker)) → IsSound (desk_of last es sent) → n ≡ last + 1
    → new ≡ insert_entry nat_cmp es n a → desk_of n new sent ≡ with_issued a.conn a.xid (desk_of last es sent)
desk_of-insert_entry last sent n a es new s next is = λ i. record {
  last = next i;
  waiting = (ap tickets_of is ∙ (tickets_of-insert_entry es n last a s.issued_before (omega arith) ∙ ap (λ m. tickets_of es ++ ticket_of m a ∷ []) next)) i;
  sent = sent;
}

pub desk_of-remove_entry : (last sent n : ℕ) (es new : List (ℕ × Asker)) → IsSound (desk_of last es sent)
    → new ≡ remove_entry (is_at (nat_cmp n)) es → desk_of last new sent ≡ with_dropped n (desk_of last es sent)
desk_of-remove_entry last sent n es new s is =
    ap (λ ts. record { last = last; waiting = ts; sent = sent }) (ap tickets_of is ∙ tickets_of-remove_entry es n 0 s.rising)

pub desk_of-filter : (last sent conn : ℕ) (es new : List (ℕ × Asker))
    → new ≡ filter (λ e. not (e.1.conn == conn)) es → desk_of last new sent ≡ with_cancelled conn (desk_of last es sent)
desk_of-filter last sent conn es new is =
    ap (λ ts. record { last = last; waiting = ts; sent = sent }) (ap tickets_of is ∙ tickets_of-filter es conn)

pub desk_of-answered : (last sent sent' n : ℕ) (es new : List (ℕ × Asker)) (o : Option Asker) → IsSound (desk_of last es sent)
    → new ≡ remove_entry (is_at (nat_cmp n)) es → o ≡ lookup (is_at (nat_cmp n)) es → sent' ≡ sent + cond (is_some o) 1 0
    → desk_of last new sent' ≡ with_answered n (desk_of last es sent)
desk_of-answered last sent sent' n es new o s is value count = λ i. record {
  last = last;
  waiting = (ap tickets_of is ∙ tickets_of-remove_entry es n 0 s.rising) i;
  sent = (count ∙ ap (λ b. sent + cond b 1 0) (same o ∙ ap is_some (ap (option_map (ticket_of n)) value ∙ sym (find-tickets_of es n)))) i;
}
  where
    same : (a : Option Asker) → is_some a ≡ is_some (option_map (ticket_of n) a)
    same None = refl
    same (Some a) = refl
