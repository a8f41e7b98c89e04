-- A message is read as a call exactly where it is one by its values behind one another.
use Rattle.std.proofs.Common.{inl, inr, ◌≡◌, ℕ, zero, suc, ◌+◌, ◌≤◌, Bool, true, false, cond, ◌==◌, nat_lt, List, [], ◌∷◌, ◌++◌, length, refl, sym, ap, ◌∙◌, subst, arith, Result, Ok, Err}
use Rattle.std.proofs.lemmas.Bool.{le-ltb}
use Rattle.std.proofs.lemmas.Bool.Decides.{nat_tests}
use Rattle.xdr.specs.declared.fault.XdrFault.{XdrFault}
use Rattle.xdr.specs.declared.fault.XdrFault.TheVariants as xdr
use Rattle.xdr.specs.Items.{SpellsU32, SpellsOpaque}
use Rattle.xdr.specs.Reading.{Cursor, Reading, Takes, start, u32_at, opaque_at, finish_at}
use Rattle.xdr.proofs.Numbers.{done, enough, u32_forth, u32_back}
use Rattle.xdr.proofs.Opaques.{opaque_forth, opaque_back, finish_forth, finish_back}
use Rattle.rpc_msg.specs.declared.fault.CallFault.{CallFault}
use Rattle.rpc_msg.specs.declared.fault.CallFault.TheVariants.{NotCall, RpcMismatch, RejectedCred, Short}
use Rattle.rpc_msg.specs.Calls.{◌>>=◌, SenderText, CallText, nobody, words_at, groups_at, system_sender, or_bad_cred, sender_of, or_short, call_word_at, or_auth, call_opaque_at, call_body_at, call_of}
use Rattle.rpc_msg.proofs.Chains.{Then, SpellsWords, AtEnd, ChainSystem, ChainSender, ChainParts, ChainCall}

-- a chain that was done: its first step was done, and so was the rest
record Step {A B E : Type 0} (r : Result A E) (f : A → Result B E) (y : B) : Type 0 where
  value : A
  first : r ≡ Ok value
  then_on : f value ≡ Ok y

step : {A B E : Type 0} (r : Result A E) (f : A → Result B E) (y : B) → (r >>= f) ≡ Ok y → Step r f y
step (Ok x) f y e = record { value = x; first = refl; then_on = e }
step (Err fault) f y e = cc

-- and back
chain : {A B E : Type 0} (r : Result A E) (f : A → Result B E) (x : A) (y : B) → r ≡ Ok x → f x ≡ Ok y → (r >>= f) ≡ Ok y
chain (Ok z) f x y e h = let same : z ≡ x = cc in ap f same ∙ h
chain (Err fault) f x y e h = cc

part_forth : (c : Cursor) (p : ℕ × Cursor) → call_word_at c ≡ Ok p → Takes SpellsU32 c p.0 p.1
unfolding call_word_at
part_forth c p e = u32_forth c p.1 p.0 (go (u32_at c) e) where
  go : (r : Reading ℕ) → or_short r ≡ Ok p → r ≡ Ok (p.0, p.1)
  go (Ok x) h = let same : x ≡ p = cc in ap (λ (k : ℕ × Cursor). Ok k) same
  go (Err fault) h = cc

part_back : (c to : Cursor) (n : ℕ) → Takes SpellsU32 c n to → call_word_at c ≡ Ok (n, to)
unfolding call_word_at
part_back c to n t = ap (λ (r : Reading ℕ). or_short r) (u32_back c to n t)

auth_forth : (id : ℕ) (c : Cursor) (p : List ℕ × Cursor) → call_opaque_at id c ≡ Ok p → (length p.0 ≤ 400) × Takes SpellsOpaque c p.0 p.1
unfolding call_opaque_at
auth_forth id c p e = opaque_forth 400 c p.1 p.0 (go (opaque_at 400 c) e) where
  go : (r : Reading (List ℕ)) → or_auth id r ≡ Ok p → r ≡ Ok (p.0, p.1)
  go (Ok x) h = let same : x ≡ p = cc in ap (λ (k : List ℕ × Cursor). Ok k) same
  go (Err (xdr.TooLong place)) h = cc
  go (Err (xdr.Short place)) h = cc
  go (Err (xdr.BadBool place)) h = cc
  go (Err (xdr.BadChoice place)) h = cc
  go (Err (xdr.Trailing place)) h = cc

auth_back : (id : ℕ) (c to : Cursor) (v : List ℕ) → length v ≤ 400 → Takes SpellsOpaque c v to → call_opaque_at id c ≡ Ok (v, to)
unfolding call_opaque_at
auth_back id c to v few t = ap (λ (r : Reading (List ℕ)). or_auth id r) (opaque_back 400 c to v (few, t))

-- what was taken and what follows are a spelling
then_forth : {A : Type 0} (Spells : List ℕ → A → Type 0) (value : A) (Follows : List ℕ → Type 0) (c to : Cursor) → Takes Spells c value to → Follows to.left → Then Spells value Follows c.left
then_forth Spells value Follows c to t f = (t.front, to.left, t.left, t.spelled, f)

-- and back: what stands behind
then_takes : {A : Type 0} (Spells : List ℕ → A → Type 0) (value : A) (c : Cursor) (front rest : List ℕ) → c.left ≡ front ++ rest → Spells front value → Takes Spells c value (record { place = c.place + length front; left = rest })
then_takes Spells value c front rest e s = record { front = front; spelled = s; left = e; place = refl }

abbrev got : {A : Type 0} → A → Cursor → Reading A
got x c = Ok (x, c)

-- what two readings that are equal gave
got_parts : {A : Type 0} (x y : A) (c d : Cursor) → got x c ≡ got y d → (x ≡ y) × (c ≡ d)
got_parts {A = A} x y c d e = let p = done false (xdr.Short 0) (x, c) (y, d) e in (ap (λ (k : A × Cursor). k.0) p.1, ap (λ (k : A × Cursor). k.1) p.1)

abbrev Words : List ℕ → ℕ → Cursor → Cursor → Type 1
Words ws n c to = (length ws ≡ n) × ((Follows : List ℕ → Type 0) → Follows to.left → SpellsWords ws Follows c.left)

words_forth : (n : ℕ) (c to : Cursor) (ws : List ℕ) → words_at n c ≡ Ok (ws, to) → Words ws n c to
unfolding words_at
words_forth zero c to ws e =
    let p = got_parts [] ws c to e in
    (ap length (sym p.0), λ Follows f. subst (λ (k : List ℕ). SpellsWords k Follows c.left) p.0 (subst (λ (k : Cursor). Follows k.left) (sym p.1) f))
words_forth (suc n) c to ws e =
    let s = step (u32_at c) _ _ e in
    let t = step (words_at n s.value.1) _ _ s.then_on in
    let rest = words_forth n s.value.1 t.value.1 t.value.0 t.first in
    let p = got_parts (s.value.0 ∷ t.value.0) ws t.value.1 to t.then_on in
    let taken = u32_forth c s.value.1 s.value.0 s.first in
    (ap length (sym p.0) ∙ ap (λ (k : ℕ). suc k) rest.0, λ Follows f. subst (λ (k : List ℕ). SpellsWords k Follows c.left) p.0 (then_forth SpellsU32 s.value.0 (SpellsWords t.value.0 Follows) c s.value.1 taken (rest.1 Follows (subst (λ (k : Cursor). Follows k.left) (sym p.1) f))))

-- words that are there are read
record Read (r : Cursor → Cursor → Type 0) (c : Cursor) (Follows : List ℕ → Type 0) : Type 0 where
  to : Cursor
  read : r c to
  follows : Follows to.left

words_back : (ws : List ℕ) (c : Cursor) (Follows : List ℕ → Type 0) → SpellsWords ws Follows c.left → Read (λ a b. words_at (length ws) a ≡ Ok (ws, b)) c Follows
unfolding words_at
words_back [] c Follows f = record { to = c; read = refl; follows = f }
words_back (w ∷ ws) c Follows s =
    let next : Cursor = record { place = c.place + length s.0; left = s.1 } in
    let taken = u32_back c next w (then_takes SpellsU32 w c s.0 s.1 s.2 s.3) in
    let rest = words_back ws next Follows s.4 in
    record { to = rest.to; read = chain (u32_at c) _ (w, next) _ taken (chain (words_at (length ws) next) _ (ws, rest.to) _ rest.read refl); follows = rest.follows }

few_of : {A : Type 0} (n : ℕ) (fault : XdrFault) (r : Result A XdrFault) (y : A) → cond (nat_lt 16 n) (Err fault) r ≡ Ok y → (n ≤ 16) × (r ≡ Ok y)
few_of n fault r y e = go (nat_lt 16 n) refl e where
  go : (b : Bool) → nat_lt 16 n ≡ b → cond b (Err fault) r ≡ Ok y → (n ≤ 16) × (r ≡ Ok y)
  go true t h = cc
  go false t h = (enough 16 n t, h)

abbrev sender : ℕ → ℕ → List ℕ → List ℕ → SenderText
sender uid gid gids host = record { uid = uid; gid = gid; gids = gids; host = host }

pub system_forth : (body : List ℕ) (s : SenderText) → system_sender body ≡ Ok s → ChainSystem body s
unfolding system_sender groups_at
system_forth body s e =
    let stamp = step (u32_at (start body)) _ _ e in
    let host = step (opaque_at 255 stamp.value.1) _ _ stamp.then_on in
    let uid = step (u32_at host.value.1) _ _ host.then_on in
    let gid = step (u32_at uid.value.1) _ _ uid.then_on in
    let gids = step (groups_at gid.value.1) _ _ gid.then_on in
    let end = step (finish_at gids.value.1) _ _ gids.then_on in
    let count = step (u32_at gid.value.1) _ _ gids.first in
    let few = few_of count.value.0 (xdr.TooLong gid.value.1.place) (words_at count.value.0 count.value.1) gids.value count.then_on in
    let words = words_forth count.value.0 count.value.1 gids.value.1 gids.value.0 few.1 in
    let ended : gids.value.1.left ≡ [] = finish_forth gids.value.1 end.first in
    let tail = words.1 AtEnd ended in
    let h = opaque_forth 255 stamp.value.1 host.value.1 host.value.0 host.first in
    let same : record { uid = uid.value.0; gid = gid.value.0; gids = gids.value.0; host = host.value.0 } ≡ s = (done false (xdr.Short 0) (sender uid.value.0 gid.value.0 gids.value.0 host.value.0) s end.then_on).1 in
    subst (λ (k : SenderText). ChainSystem body k) same (
      h.0,
      subst (λ (k : ℕ). k ≤ 16) (sym words.0) few.0,
      (
        stamp.value.0,
        then_forth SpellsU32 stamp.value.0 _ (start body) stamp.value.1 (u32_forth (start body) stamp.value.1 stamp.value.0 stamp.first)
            (then_forth SpellsOpaque host.value.0 _ stamp.value.1 host.value.1 h.1
            (then_forth SpellsU32 uid.value.0 _ host.value.1 uid.value.1 (u32_forth host.value.1 uid.value.1 uid.value.0 uid.first)
            (then_forth SpellsU32 gid.value.0 _ uid.value.1 gid.value.1 (u32_forth uid.value.1 gid.value.1 gid.value.0 gid.first)
            (then_forth SpellsU32 (length gids.value.0) _ gid.value.1 count.value.1 (subst (λ (k : ℕ). Takes SpellsU32 gid.value.1 k count.value.1) (sym words.0) (u32_forth gid.value.1 count.value.1 count.value.0 count.first)) tail)))),
      ),
    )

-- the cursor behind a front
abbrev after : Cursor → List ℕ → List ℕ → Cursor
after c front rest = record { place = c.place + length front; left = rest }

u32_there : (c : Cursor) (n : ℕ) (front rest : List ℕ) → c.left ≡ front ++ rest → SpellsU32 front n → u32_at c ≡ Ok (n, after c front rest)
u32_there c n front rest e s = u32_back c (after c front rest) n (then_takes SpellsU32 n c front rest e s)

groups_back : (ws : List ℕ) (c : Cursor) (Follows : List ℕ → Type 0) → length ws ≤ 16 → Then SpellsU32 (length ws) (SpellsWords ws Follows) c.left → Read (λ a b. groups_at a ≡ Ok (ws, b)) c Follows
unfolding groups_at
groups_back ws c Follows few t =
    let c1 = after c t.0 t.1 in
    let rest = words_back ws c1 Follows t.4 in
    let read : cond (nat_lt 16 (length ws)) (Err (xdr.TooLong c.place)) (words_at (length ws) c1) ≡ Ok (ws, rest.to) = rw (le-ltb 16 (length ws) few) rest.read in
    record { to = rest.to; read = chain (u32_at c) _ (length ws, c1) (ws, rest.to) (u32_there c (length ws) t.0 t.1 t.2 t.3) read; follows = rest.follows }

pub system_back : (body : List ℕ) (s : SenderText) → ChainSystem body s → system_sender body ≡ Ok s
unfolding system_sender
system_back body s h =
    let c0 = start body in
    let t1 = h.2.1 in
    let c1 = after c0 t1.0 t1.1 in
    let t2 = t1.4 in
    let c2 = after c1 t2.0 t2.1 in
    let t3 = t2.4 in
    let c3 = after c2 t3.0 t3.1 in
    let t4 = t3.4 in
    let c4 = after c3 t4.0 t4.1 in
    let g = groups_back s.gids c4 AtEnd h.1 t4.4 in
    chain (u32_at c0) _ (h.2.0, c1) s (u32_there c0 h.2.0 t1.0 t1.1 t1.2 t1.3)
    (chain (opaque_at 255 c1) _ (s.host, c2) s (opaque_back 255 c1 c2 s.host (h.0, then_takes SpellsOpaque s.host c1 t2.0 t2.1 t2.2 t2.3))
    (chain (u32_at c2) _ (s.uid, c3) s (u32_there c2 s.uid t3.0 t3.1 t3.2 t3.3)
    (chain (u32_at c3) _ (s.gid, c4) s (u32_there c3 s.gid t4.0 t4.1 t4.2 t4.3)
    (chain (groups_at c4) _ (s.gids, g.to) s g.read
    (chain (finish_at g.to) _ tt s (finish_back g.to g.follows) refl)))))

done_call : {A : Type 0} (x y : A) (fault : CallFault) → cond false (Err fault) (Ok x) ≡ Ok y → x ≡ y
done_call x y fault e = cc

bad_forth : (id : ℕ) (r : Result SenderText XdrFault) (s : SenderText) → or_bad_cred id r ≡ Ok s → r ≡ Ok s
bad_forth id (Ok x) s e = let same = done_call x s Short e in ap (λ (k : SenderText). Ok k) same
bad_forth id (Err fault) s e = cc

is_number : (m n : ℕ) → (m == n) ≡ true → m ≡ n
is_number m n e = grind (arith, nat_tests)

number_is : (m n : ℕ) → m ≡ n → (m == n) ≡ true
number_is m n e = grind (arith, nat_tests)

sender_forth : (id flavor : ℕ) (body : List ℕ) (s : SenderText) → sender_of id flavor body ≡ Ok s → ChainSender flavor body s
unfolding sender_of
sender_forth id flavor body s e = go (flavor == 0) refl (flavor == 1) refl e where
  go : (a : Bool) → (flavor == 0) ≡ a → (b : Bool) → (flavor == 1) ≡ b → cond a (Ok nobody) (cond b (or_bad_cred id (system_sender body)) (Err (RejectedCred id))) ≡ Ok s → ChainSender flavor body s
  go true p b q h = inl (is_number flavor 0 p, sym (done_call nobody s Short h))
  go false p true q h = inr (is_number flavor 1 q, system_forth body s (bad_forth id (system_sender body) s h))
  go false p false q h = cc

sender_back : (id flavor : ℕ) (body : List ℕ) (s : SenderText) → ChainSender flavor body s → sender_of id flavor body ≡ Ok s
unfolding sender_of
sender_back id flavor body s (inl h) = rw (number_is flavor 0 h.0) (ap (λ (k : SenderText). Ok k) (sym h.1))
sender_back id flavor body s (inr h) = rw (h.0, system_back body s h.1) refl

-- what stands behind the version of the protocol
record Parted (id : ℕ) (c : Cursor) (call : CallText) : Type 0 where
  xid : id ≡ call.xid
  flavor : ℕ
  cred : List ℕ
  kind : ℕ
  verf : List ℕ
  short_cred : length cred ≤ 400
  short_verf : length verf ≤ 400
  sender_is : ChainSender flavor cred call.sender
  text : ChainParts call flavor cred kind verf c.left

abbrev made : ℕ → ℕ → ℕ → ℕ → SenderText → List ℕ → CallText
made id prog vers proc_no s args = record { xid = id; prog = prog; vers = vers; proc_no = proc_no; sender = s; args = args }

made_parts : (id prog vers proc_no flavor kind : ℕ) (cred verf : List ℕ) (s : SenderText) (c c1 c2 c3 c4 c5 c6 c7 : Cursor)
    → call_word_at c ≡ Ok (prog, c1) → call_word_at c1 ≡ Ok (vers, c2) → call_word_at c2 ≡ Ok (proc_no, c3) → call_word_at c3 ≡ Ok (flavor, c4) → call_opaque_at id c4 ≡ Ok (cred, c5) → call_word_at c5 ≡ Ok (kind, c6) → call_opaque_at id c6 ≡ Ok (verf, c7) → sender_of id flavor cred ≡ Ok s
    → Parted id c (made id prog vers proc_no s c7.left)
made_parts id prog vers proc_no flavor kind cred verf s c c1 c2 c3 c4 c5 c6 c7 e1 e2 e3 e4 e5 e6 e7 e8 =
    let a = auth_forth id c4 (cred, c5) e5 in
    let b = auth_forth id c6 (verf, c7) e7 in
    record {
      xid = refl;
      flavor = flavor;
      cred = cred;
      kind = kind;
      verf = verf;
      short_cred = a.0;
      short_verf = b.0;
      sender_is = sender_forth id flavor cred s e8;
      text = then_forth SpellsU32 prog _ c c1 (part_forth c (prog, c1) e1) (then_forth SpellsU32 vers _ c1 c2 (part_forth c1 (vers, c2) e2) (then_forth SpellsU32 proc_no _ c2 c3 (part_forth c2 (proc_no, c3) e3) (then_forth SpellsU32 flavor _ c3 c4 (part_forth c3 (flavor, c4) e4) (then_forth SpellsOpaque cred _ c4 c5 a.1 (then_forth SpellsU32 kind _ c5 c6 (part_forth c5 (kind, c6) e6) (then_forth SpellsOpaque verf _ c6 c7 b.1 refl))))));
    }

body_forth : (id : ℕ) (c : Cursor) (call : CallText) → call_body_at id c ≡ Ok call → Parted id c call
unfolding call_body_at
body_forth id c call e =
    let prog = step (call_word_at c) _ _ e in
    let vers = step (call_word_at prog.value.1) _ _ prog.then_on in
    let proc_no = step (call_word_at vers.value.1) _ _ vers.then_on in
    let flavor = step (call_word_at proc_no.value.1) _ _ proc_no.then_on in
    let cred = step (call_opaque_at id flavor.value.1) _ _ flavor.then_on in
    let kind = step (call_word_at cred.value.1) _ _ cred.then_on in
    let verf = step (call_opaque_at id kind.value.1) _ _ kind.then_on in
    let s = step (sender_of id flavor.value.0 cred.value.0) _ _ verf.then_on in
    let same = done_call (made id prog.value.0 vers.value.0 proc_no.value.0 s.value verf.value.1.left) call Short s.then_on in
    subst (λ (k : CallText). Parted id c k) same
    (made_parts id prog.value.0 vers.value.0 proc_no.value.0 flavor.value.0 kind.value.0 cred.value.0 verf.value.0 s.value c prog.value.1 vers.value.1 proc_no.value.1 flavor.value.1 cred.value.1 kind.value.1 verf.value.1 prog.first vers.first proc_no.first flavor.first cred.first kind.first verf.first s.first)

part_there : (c : Cursor) (n : ℕ) (front rest : List ℕ) → c.left ≡ front ++ rest → SpellsU32 front n → call_word_at c ≡ Ok (n, after c front rest)
part_there c n front rest e s = part_back c (after c front rest) n (then_takes SpellsU32 n c front rest e s)

auth_there : (id : ℕ) (c : Cursor) (v front rest : List ℕ) → length v ≤ 400 → c.left ≡ front ++ rest → SpellsOpaque front v → call_opaque_at id c ≡ Ok (v, after c front rest)
auth_there id c v front rest few e s = auth_back id c (after c front rest) v few (then_takes SpellsOpaque v c front rest e s)

body_back : (id : ℕ) (c : Cursor) (call : CallText) → Parted id c call → call_body_at id c ≡ Ok call
unfolding call_body_at
body_back id c call p =
    let t1 = p.text in
    let c1 = after c t1.0 t1.1 in
    let t2 = t1.4 in
    let c2 = after c1 t2.0 t2.1 in
    let t3 = t2.4 in
    let c3 = after c2 t3.0 t3.1 in
    let t4 = t3.4 in
    let c4 = after c3 t4.0 t4.1 in
    let t5 = t4.4 in
    let c5 = after c4 t5.0 t5.1 in
    let t6 = t5.4 in
    let c6 = after c5 t6.0 t6.1 in
    let t7 = t6.4 in
    let c7 = after c6 t7.0 t7.1 in
    let same : made id call.prog call.vers call.proc_no call.sender t7.1 ≡ call = ap (λ (k : ℕ). made k call.prog call.vers call.proc_no call.sender t7.1) p.xid ∙ ap (λ (k : List ℕ). made call.xid call.prog call.vers call.proc_no call.sender k) t7.4 in
    chain (call_word_at c) _ (call.prog, c1) call (part_there c call.prog t1.0 t1.1 t1.2 t1.3)
    (chain (call_word_at c1) _ (call.vers, c2) call (part_there c1 call.vers t2.0 t2.1 t2.2 t2.3)
    (chain (call_word_at c2) _ (call.proc_no, c3) call (part_there c2 call.proc_no t3.0 t3.1 t3.2 t3.3)
    (chain (call_word_at c3) _ (p.flavor, c4) call (part_there c3 p.flavor t4.0 t4.1 t4.2 t4.3)
    (chain (call_opaque_at id c4) _ (p.cred, c5) call (auth_there id c4 p.cred t5.0 t5.1 p.short_cred t5.2 t5.3)
    (chain (call_word_at c5) _ (p.kind, c6) call (part_there c5 p.kind t6.0 t6.1 t6.2 t6.3)
    (chain (call_opaque_at id c6) _ (p.verf, c7) call (auth_there id c6 p.verf t7.0 t7.1 p.short_verf t7.2 t7.3)
    (chain (sender_of id p.flavor p.cred) _ call.sender call (sender_back id p.flavor p.cred call.sender p.sender_is) (ap (λ (k : CallText). Ok k) same))))))))

kind_forth : (n : ℕ) (c d : Cursor) → cond (n == 0) (Ok c) (Err NotCall) ≡ Ok d → (n ≡ 0) × (c ≡ d)
kind_forth n c d e = go (n == 0) refl e where
  go : (b : Bool) → (n == 0) ≡ b → cond b (Ok c) (Err NotCall) ≡ Ok d → (n ≡ 0) × (c ≡ d)
  go true p h = (is_number n 0 p, done_call c d Short h)
  go false p h = cc

version_forth : (id n : ℕ) (c d : Cursor) → cond (n == 2) (Ok c) (Err (RpcMismatch id)) ≡ Ok d → (n ≡ 2) × (c ≡ d)
version_forth id n c d e = go (n == 2) refl e where
  go : (b : Bool) → (n == 2) ≡ b → cond b (Ok c) (Err (RpcMismatch id)) ≡ Ok d → (n ≡ 2) × (c ≡ d)
  go true p h = (is_number n 2 p, done_call c d Short h)
  go false p h = cc

called_parts : (bytes : List ℕ) (id kind vers : ℕ) (c1 c2 c3 : Cursor) (call : CallText) → call_word_at (start bytes) ≡ Ok (id, c1) → call_word_at c1 ≡ Ok (kind, c2) → kind ≡ 0 → call_word_at c2 ≡ Ok (vers, c3) → vers ≡ 2 → Parted id c3 call → ChainCall bytes call
called_parts bytes id kind vers c1 c2 c3 call e1 e2 k e3 v p =
    record {
      flavor = p.flavor;
      cred = p.cred;
      kind = p.kind;
      verf = p.verf;
      short_cred = p.short_cred;
      short_verf = p.short_verf;
      sender = p.sender_is;
      text = then_forth SpellsU32 call.xid _ (start bytes) c1 (subst (λ (n : ℕ). Takes SpellsU32 (start bytes) n c1) p.xid (part_forth (start bytes) (id, c1) e1)) (then_forth SpellsU32 0 _ c1 c2 (subst (λ (n : ℕ). Takes SpellsU32 c1 n c2) k (part_forth c1 (kind, c2) e2)) (then_forth SpellsU32 2 _ c2 c3 (subst (λ (n : ℕ). Takes SpellsU32 c2 n c3) v (part_forth c2 (vers, c3) e3)) p.text));
    }

pub chain_forth : (bytes : List ℕ) (call : CallText) → call_of bytes ≡ Ok call → ChainCall bytes call
unfolding call_of
chain_forth bytes call e =
    let id = step (call_word_at (start bytes)) _ _ e in
    let kind = step (call_word_at id.value.1) _ _ id.then_on in
    let called = step (cond (kind.value.0 == 0) (Ok kind.value.1) (Err NotCall)) _ _ kind.then_on in
    let vers = step (call_word_at called.value) _ _ called.then_on in
    let behind = step (cond (vers.value.0 == 2) (Ok vers.value.1) (Err (RpcMismatch id.value.0))) _ _ vers.then_on in
    let k = kind_forth kind.value.0 kind.value.1 called.value called.first in
    let v = version_forth id.value.0 vers.value.0 vers.value.1 behind.value behind.first in
    let e3 : call_word_at kind.value.1 ≡ Ok (vers.value.0, behind.value) = ap call_word_at k.1 ∙ vers.first ∙ ap (λ (c : Cursor). Ok (vers.value.0, c)) v.1 in
    called_parts bytes id.value.0 kind.value.0 vers.value.0 id.value.1 kind.value.1 behind.value call id.first kind.first k.0 e3 v.0 (body_forth id.value.0 behind.value call behind.then_on)

pub chain_back : (bytes : List ℕ) (call : CallText) → ChainCall bytes call → call_of bytes ≡ Ok call
unfolding call_of
chain_back bytes call s =
    let c0 = start bytes in
    let t1 = s.text in
    let c1 = after c0 t1.0 t1.1 in
    let t2 = t1.4 in
    let c2 = after c1 t2.0 t2.1 in
    let t3 = t2.4 in
    let c3 = after c2 t3.0 t3.1 in
    let p : Parted call.xid c3 call = record { xid = refl; flavor = s.flavor; cred = s.cred; kind = s.kind; verf = s.verf; short_cred = s.short_cred; short_verf = s.short_verf; sender_is = s.sender; text = t3.4 } in
    chain (call_word_at c0) _ (call.xid, c1) call (part_there c0 call.xid t1.0 t1.1 t1.2 t1.3)
    (chain (call_word_at c1) _ (0, c2) call (part_there c1 0 t2.0 t2.1 t2.2 t2.3)
    (chain (call_word_at c2) _ (2, c3) call (part_there c2 2 t3.0 t3.1 t3.2 t3.3) (body_back call.xid c3 call p)))
