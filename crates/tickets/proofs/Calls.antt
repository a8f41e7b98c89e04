-- The laws of a desk over any list of calls.
use Rattle.std.proofs.Common.{◌≡◌, ◌≢◌, ℕ, ◌+◌, ◌<◌, ◌≤◌, Bool, true, false, not, cond, List, [], ◌∷◌, ◌++◌, length, Option, None, Some, refl, sym, ◌∙◌, ap, subst, arith, inl, inr, append_assoc}
use Rattle.std.specs.Prelude.{◌==◌, ◌⊎◌, find, filter, is_some, All, Contains}
use Rattle.std.specs.List.{cons_option}
use Rattle.std.proofs.lemmas.Bool.{eqb-true, eqb-false, ne_eqb, eq-eqb}
use Rattle.std.proofs.lemmas.List.Elements.{All-nil, All-cons, All-weaker, All-filter, All-contains, All-contains_itself, Contains-append_left, Contains-append_right, Contains-append_cases, Contains-push}
use Rattle.tickets.specs.Desk.{TicketId, DeskState, waiting_ticket, next_ticket, with_issued, with_answered, with_dropped, with_cancelled, RiseFrom, AreUpTo, IsSound}
use Rattle.tickets.specs.Laws.{DeskCall, Issue, Refused, Send, DropTicket, CancelConn, after_call, after_calls, issue_of, reply_of, issued_tickets, replied_tickets, replies_to, StaysSound, AtMostOneReply, NeverWaitsAgain, WaitsNoMore, CancelsAll, NumbersRise, RepliesToAskers, CountsReplies, FindsItsTicket}
use Rattle.tickets.proofs.Sound.{sound_new, sound_issued, sound_answered, sound_dropped, sound_cancelled}

sound_after : (call : DeskCall) (d : DeskState) → IsSound d → IsSound (after_call call d)
sound_after (Issue conn xid) d s = sound_issued conn xid d s
sound_after Refused d s = s
sound_after (Send n) d s = sound_answered n d s
sound_after (DropTicket n) d s = sound_dropped n d s
sound_after (CancelConn conn) d s = sound_cancelled conn d s

sound_after_all : (calls : List DeskCall) (d : DeskState) → IsSound d → IsSound (after_calls calls d)
sound_after_all [] d s = s
sound_after_all (call ∷ calls) d s = sound_after_all calls (after_call call d) (sound_after call d s)

pub stays_sound : StaysSound
stays_sound = (sound_new, sound_after_all)

-- What isn't found isn't found among fewer.
find-filter : (q p : TicketId → Bool) (ts : List TicketId) → find q ts ≡ None → find q (filter p ts) ≡ None
find-filter q p [] none = refl
find-filter q p (t ∷ ts) none = go (q t) refl none (find-filter q p ts)
  where
    go : (b : Bool) → q t ≡ b → cond b (Some t) (find q ts) ≡ None → (find q ts ≡ None → find q (filter p ts) ≡ None) → find q (cond (p t) (t ∷ filter p ts) (filter p ts)) ≡ None
    go true is none rest = absurd (cc)
    go false is none rest = keep (p t) (rest none)
      where
        keep : (b : Bool) → find q (filter p ts) ≡ None → find q (cond b (t ∷ filter p ts) (filter p ts)) ≡ None
        keep true none = rw is none
        keep false none = none

-- What is taken out isn't found.
find-filter_out : (q : TicketId → Bool) (ts : List TicketId) → find q (filter (λ t. not (q t)) ts) ≡ None
find-filter_out q [] = refl
find-filter_out q (t ∷ ts) = go (q t) refl (find-filter_out q ts)
  where
    go : (b : Bool) → q t ≡ b → find q (filter (λ u. not (q u)) ts) ≡ None → find q (cond (not b) (t ∷ filter (λ u. not (q u)) ts) (filter (λ u. not (q u)) ts)) ≡ None
    go true is none = none
    go false is none = rw is none

pub waits_no_more : WaitsNoMore
waits_no_more n d = (find-filter_out (λ t. t.number == n) d.waiting, find-filter_out (λ t. t.number == n) d.waiting)

-- A ticket above all others isn't found under their numbers.
find-push : (ts : List TicketId) (t : TicketId) (n : ℕ) → n < t.number → find (λ u. u.number == n) ts ≡ None → find (λ u. u.number == n) (ts ++ t ∷ []) ≡ None
find-push [] t n above none = rw (ne_eqb t.number n (λ e. omega arith)) refl
find-push (u ∷ ts) t n above none = go (u.number == n) none (find-push ts t n above)
  where
    go : (b : Bool) → cond b (Some u) (find (λ v. v.number == n) ts) ≡ None → (find (λ v. v.number == n) ts ≡ None → find (λ v. v.number == n) (ts ++ t ∷ []) ≡ None) → cond b (Some u) (find (λ v. v.number == n) (ts ++ t ∷ [])) ≡ None
    go true none rest = absurd (cc)
    go false none rest = rest none

-- One call leaves a number that was issued and doesn't wait as it is.
still_none : (call : DeskCall) (n : ℕ) (d : DeskState) → n ≤ d.last → waiting_ticket n d ≡ None → waiting_ticket n (after_call call d) ≡ None
still_none (Issue conn xid) n d old none = find-push d.waiting (next_ticket conn xid d) n (omega arith) none
still_none Refused n d old none = none
still_none (Send m) n d old none = find-filter (λ t. t.number == n) (λ t. not (t.number == m)) d.waiting none
still_none (DropTicket m) n d old none = find-filter (λ t. t.number == n) (λ t. not (t.number == m)) d.waiting none
still_none (CancelConn conn) n d old none = find-filter (λ t. t.number == n) (λ t. not (t.conn == conn)) d.waiting none

last_rises : (call : DeskCall) (d : DeskState) → d.last ≤ (after_call call d).last
last_rises (Issue conn xid) d = omega arith
last_rises Refused d = omega arith
last_rises (Send m) d = omega arith
last_rises (DropTicket m) d = omega arith
last_rises (CancelConn conn) d = omega arith

-- What is found under a number has it, is one of the list, and is at most what the list comes to.
found_number : (m : ℕ) (ts : List TicketId) (t : TicketId) → find (λ u. u.number == m) ts ≡ Some t → t.number ≡ m
found_number m [] t is = absurd (cc)
found_number m (u ∷ us) t is = go (u.number == m) refl is (found_number m us t)
  where
    go : (b : Bool) → (u.number == m) ≡ b → cond b (Some u) (find (λ v. v.number == m) us) ≡ Some t → (find (λ v. v.number == m) us ≡ Some t → t.number ≡ m) → t.number ≡ m
    go true same is rest = let e : u ≡ t = cc in ap (λ v. v.number) (sym e) ∙ eqb-true u.number m same
    go false same is rest = rest is

found_contained : (q : TicketId → Bool) (ts : List TicketId) (t : TicketId) → find q ts ≡ Some t → Contains ts t
found_contained q [] t is = absurd (cc)
found_contained q (u ∷ us) t is = go (q u) is (found_contained q us t)
  where
    go : (b : Bool) → cond b (Some u) (find q us) ≡ Some t → (find q us ≡ Some t → Contains us t) → Contains (u ∷ us) t
    go true is rest = let e : u ≡ t = cc in subst (Contains (u ∷ us)) e (Contains-append_left (u ∷ []) us u (Contains-push [] u))
    go false is rest = Contains-append_right (u ∷ []) us t (rest is)

found_up_to : (q : TicketId → Bool) (ts : List TicketId) (t : TicketId) (high : ℕ) → AreUpTo high ts → find q ts ≡ Some t → t.number ≤ high
found_up_to q [] t high up is = absurd (cc)
found_up_to q (u ∷ us) t high up is = go (q u) is (found_up_to q us t high up.1)
  where
    go : (b : Bool) → cond b (Some u) (find q us) ≡ Some t → (find q us ≡ Some t → t.number ≤ high) → t.number ≤ high
    go true is rest = let e : u.number ≡ t.number = cc in omega arith
    go false is rest = rest is

-- A number that doesn't wait gets no reply from one call.
no_reply : (call : DeskCall) (n : ℕ) (d : DeskState) (rest : List TicketId) → waiting_ticket n d ≡ None → filter (λ t. t.number == n) (cons_option (reply_of call d) rest) ≡ filter (λ t. t.number == n) rest
no_reply (Issue conn xid) n d rest none = refl
no_reply Refused n d rest none = refl
no_reply (DropTicket m) n d rest none = refl
no_reply (CancelConn conn) n d rest none = refl
no_reply (Send m) n d rest none = go (waiting_ticket m d) refl
  where
    other : (t : TicketId) → waiting_ticket m d ≡ Some t → t.number ≡ n → ⊥
    other t is same = let e : m ≡ n = sym (found_number m d.waiting t is) ∙ same in let f : waiting_ticket n d ≡ Some t = subst (λ k. waiting_ticket k d ≡ Some t) e is in absurd (cc)

    go : (o : Option TicketId) → waiting_ticket m d ≡ o → filter (λ t. t.number == n) (cons_option o rest) ≡ filter (λ t. t.number == n) rest
    go None is = refl
    go (Some t) is = rw (ne_eqb t.number n (other t is)) refl

pub never_waits_again : NeverWaitsAgain
never_waits_again n [] d old none = (none, refl)
never_waits_again n (call ∷ calls) d old none =
    let later = never_waits_again n calls (after_call call d) (omega (arith, last_rises call d)) (still_none call n d old none) in
    (later.0, no_reply call n d (replied_tickets calls (after_call call d)) none ∙ later.1)

-- The first reply under a number is the last one.
one_reply : (n m : ℕ) (calls : List DeskCall) (d : DeskState) → IsSound d → length (replies_to n calls (with_answered m d)) ≤ 1 → length (replies_to n (Send m ∷ calls) d) ≤ 1
one_reply n m calls d s few = go (waiting_ticket m d) refl
  where
    go : (o : Option TicketId) → waiting_ticket m d ≡ o → length (filter (λ t. t.number == n) (cons_option o (replied_tickets calls (with_answered m d)))) ≤ 1
    go None is = few
    go (Some t) is = under (t.number == n) refl
      where
        under : (b : Bool) → (t.number == n) ≡ b → length (cond b (t ∷ replies_to n calls (with_answered m d)) (replies_to n calls (with_answered m d))) ≤ 1
        under false same = few
        under true same =
            let e : t.number ≡ n = eqb-true t.number n same in
            let m_is : m ≡ n = sym (found_number m d.waiting t is) ∙ e in
            let none : waiting_ticket n (with_answered m d) ≡ None = subst (λ k. waiting_ticket n (with_answered k d) ≡ None) (sym m_is) (waits_no_more n d).0 in
            let old : n ≤ d.last = omega (arith, found_up_to (λ u. u.number == m) d.waiting t d.last s.issued_before is) in
            let no_more : replies_to n calls (with_answered m d) ≡ [] = (never_waits_again n calls (with_answered m d) old none).1 in
            rw no_more (omega arith)

pub at_most_one_reply : AtMostOneReply
at_most_one_reply n [] d s = omega arith
at_most_one_reply n (Issue conn xid ∷ calls) d s = at_most_one_reply n calls (with_issued conn xid d) (sound_issued conn xid d s)
at_most_one_reply n (Refused ∷ calls) d s = at_most_one_reply n calls d s
at_most_one_reply n (Send m ∷ calls) d s = one_reply n m calls d s (at_most_one_reply n calls (with_answered m d) (sound_answered m d s))
at_most_one_reply n (DropTicket m ∷ calls) d s = at_most_one_reply n calls (with_dropped m d) (sound_dropped m d s)
at_most_one_reply n (CancelConn conn ∷ calls) d s = at_most_one_reply n calls (with_cancelled conn d) (sound_cancelled conn d s)

pub numbers_rise : NumbersRise
numbers_rise [] d = (tt, omega arith)
numbers_rise (Issue conn xid ∷ calls) d = let later = numbers_rise calls (with_issued conn xid d) in ((omega arith, later.0), let h = later.1 in omega arith)
numbers_rise (Refused ∷ calls) d = numbers_rise calls d
numbers_rise (Send m ∷ calls) d = numbers_rise calls (with_answered m d)
numbers_rise (DropTicket m ∷ calls) d = numbers_rise calls (with_dropped m d)
numbers_rise (CancelConn conn ∷ calls) d = numbers_rise calls (with_cancelled conn d)

-- One call's reply is counted.
counts_one : (call : DeskCall) (d : DeskState) (rest : List TicketId) → (after_call call d).sent + length rest ≡ d.sent + length (cons_option (reply_of call d) rest)
counts_one (Issue conn xid) d rest = refl
counts_one Refused d rest = refl
counts_one (DropTicket m) d rest = refl
counts_one (CancelConn conn) d rest = refl
counts_one (Send m) d rest = go (waiting_ticket m d)
  where
    go : (o : Option TicketId) → d.sent + cond (is_some o) 1 0 + length rest ≡ d.sent + length (cons_option o rest)
    go None = omega arith
    go (Some t) = omega arith

pub counts_replies : CountsReplies
counts_replies [] d = omega arith
counts_replies (call ∷ calls) d = counts_replies calls (after_call call d) ∙ counts_one call d (replied_tickets calls (after_call call d))

-- a ticket of another connection
abbrev IsOther : ℕ → TicketId → Type 0
IsOther conn t = t.conn ≢ conn

others_only : (conn : ℕ) (ts : List TicketId) → All (IsOther conn) (filter (λ t. not (t.conn == conn)) ts)
others_only conn [] = All-nil (IsOther conn)
others_only conn (t ∷ ts) = go (t.conn == conn) refl (others_only conn ts)
  where
    go : (b : Bool) → (t.conn == conn) ≡ b → All (IsOther conn) (filter (λ u. not (u.conn == conn)) ts) → All (IsOther conn) (cond (not b) (t ∷ filter (λ u. not (u.conn == conn)) ts) (filter (λ u. not (u.conn == conn)) ts))
    go true same rest = rest
    go false same rest = All-cons (IsOther conn) t (filter (λ u. not (u.conn == conn)) ts) (eqb-false t.conn conn same) rest

pub cancels_all : CancelsAll
cancels_all conn d = others_only conn d.waiting

-- Among rising numbers each finds its ticket.
abbrev IsFoundIn : ℕ → List TicketId → TicketId → Type 0
IsFoundIn low ts t = (low < t.number) × (find (λ u. u.number == t.number) ts ≡ Some t)

rising_finds : (low : ℕ) (ts : List TicketId) → RiseFrom low ts → All (IsFoundIn low ts) ts
rising_finds low [] rise = All-nil (IsFoundIn low [])
rising_finds low (u ∷ us) rise = All-cons (IsFoundIn low (u ∷ us)) u us (rise.0, first) (All-weaker (IsFoundIn u.number us) (IsFoundIn low (u ∷ us)) behind us (rising_finds u.number us rise.1))
  where
    first : find (λ v. v.number == u.number) (u ∷ us) ≡ Some u
    first = rw (eq-eqb u.number u.number refl) refl

    behind : (t : TicketId) → IsFoundIn u.number us t → IsFoundIn low (u ∷ us) t
    behind t found = let above = found.0 in (omega (arith, rise.0), rw (ne_eqb u.number t.number (λ e. omega arith)) found.1)

pub finds_its_ticket : FindsItsTicket
finds_its_ticket t d s waits = (All-contains (IsFoundIn 0 d.waiting) d.waiting t (rising_finds 0 d.waiting s.rising) waits).1

-- What is left of a list was in it.
filter_within : (p : TicketId → Bool) (ts : List TicketId) (t : TicketId) → Contains (filter p ts) t → Contains ts t
filter_within p ts t among = All-contains (Contains ts) (filter p ts) t (All-filter p (Contains ts) ts (All-contains_itself ts)) among

-- What waits after a call waited before, or was issued by it.
waits_after : (call : DeskCall) (d : DeskState) (t : TicketId) → Contains (after_call call d).waiting t → Contains (d.waiting ++ cons_option (issue_of call d) []) t
waits_after (Issue conn xid) d t waits = waits
waits_after Refused d t waits = Contains-append_left d.waiting [] t waits
waits_after (Send m) d t waits = Contains-append_left d.waiting [] t (filter_within (λ u. not (u.number == m)) d.waiting t waits)
waits_after (DropTicket m) d t waits = Contains-append_left d.waiting [] t (filter_within (λ u. not (u.number == m)) d.waiting t waits)
waits_after (CancelConn conn) d t waits = Contains-append_left d.waiting [] t (filter_within (λ u. not (u.conn == conn)) d.waiting t waits)

-- One call's reply goes to a ticket that waited.
replies_to_waiting : (call : DeskCall) (d : DeskState) (more rest : List TicketId) → All (Contains (d.waiting ++ more)) rest → All (Contains (d.waiting ++ more)) (cons_option (reply_of call d) rest)
replies_to_waiting (Issue conn xid) d more rest among = among
replies_to_waiting Refused d more rest among = among
replies_to_waiting (DropTicket m) d more rest among = among
replies_to_waiting (CancelConn conn) d more rest among = among
replies_to_waiting (Send m) d more rest among = go (waiting_ticket m d) refl
  where
    go : (o : Option TicketId) → waiting_ticket m d ≡ o → All (Contains (d.waiting ++ more)) (cons_option o rest)
    go None is = among
    go (Some t) is = All-cons (Contains (d.waiting ++ more)) t rest (Contains-append_left d.waiting more t (found_contained (λ u. u.number == m) d.waiting t is)) among

-- Tickets of a call and of those after it are tickets of all.
among_all : (call : DeskCall) (d : DeskState) (later : List TicketId) (t : TicketId) → Contains ((after_call call d).waiting ++ later) t → Contains (d.waiting ++ cons_option (issue_of call d) later) t
among_all call d later t among = subst (λ ts. Contains ts t) (split (issue_of call d)) (join (Contains-append_cases (after_call call d).waiting later t among))
  where
    split : (o : Option TicketId) → (d.waiting ++ cons_option o []) ++ later ≡ d.waiting ++ cons_option o later
    split None = append_assoc d.waiting [] later
    split (Some u) = append_assoc d.waiting (u ∷ []) later

    join : Contains (after_call call d).waiting t ⊎ Contains later t → Contains ((d.waiting ++ cons_option (issue_of call d) []) ++ later) t
    join (inl waits) = Contains-append_left (d.waiting ++ cons_option (issue_of call d) []) later t (waits_after call d t waits)
    join (inr behind) = Contains-append_right (d.waiting ++ cons_option (issue_of call d) []) later t behind

pub replies_to_askers : RepliesToAskers
replies_to_askers [] d = All-nil (Contains (d.waiting ++ []))
replies_to_askers (call ∷ calls) d =
    replies_to_waiting call d (cons_option (issue_of call d) (issued_tickets calls (after_call call d))) (replied_tickets calls (after_call call d))
    (All-weaker (Contains ((after_call call d).waiting ++ issued_tickets calls (after_call call d))) (Contains (d.waiting ++ cons_option (issue_of call d) (issued_tickets calls (after_call call d)))) (λ t among. among_all call d (issued_tickets calls (after_call call d)) t among) (replied_tickets calls (after_call call d)) (replies_to_askers calls (after_call call d)))
