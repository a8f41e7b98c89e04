-- A message is read as a call exactly where it spells its row.
use Rattle.std.proofs.Common.{inl, inr, ◌≡◌, ℕ, List, [], ◌∷◌, ◌++◌, refl, sym, ap, ◌∙◌, subst, append_assoc, append-nil, Ok}
use Rattle.xdr.specs.Rows.{Item, SpellsItem, Spells, text}
use Rattle.xdr.specs.Lists.{words_row}
use Rattle.xdr.proofs.Texts.{spells_text}
use Rattle.rpc_msg.specs.Calls.{SenderText, CallText, call_of}
use Rattle.rpc_msg.specs.Spellings.{system_row, SpellsSystem, SpellsSender, call_row, SpellsCall, system_text, sent_row, call_text, CanBeWritten}
use Rattle.rpc_msg.proofs.Chains.{SpellsWords, AtEnd, ChainSystem, ChainSender, ChainCall}
use Rattle.rpc_msg.proofs.Spelled.{chain_forth, chain_back}

-- a row, and what follows it
abbrev ChainRow : List Item → (List ℕ → Type 0) → List ℕ → Type 0
ChainRow [] Follows bytes = Follows bytes
ChainRow (item ∷ row) Follows bytes = (front : List ℕ) × (rest : List ℕ) × (bytes ≡ front ++ rest) × SpellsItem front item × ChainRow row Follows rest

row_forth : (row : List Item) (Follows : List ℕ → Type 0) (bytes : List ℕ) → ChainRow row Follows bytes → (head : List ℕ) × (tail : List ℕ) × (bytes ≡ head ++ tail) × Spells head row × Follows tail
row_forth [] Follows bytes f = ([], bytes, refl, refl, f)
row_forth (item ∷ row) Follows bytes t =
    let r = row_forth row Follows t.1 t.4 in
    (t.0 ++ r.0, r.1, t.2 ∙ ap (λ (k : List ℕ). t.0 ++ k) r.2 ∙ sym (append_assoc t.0 r.0 r.1), (t.0, r.0, refl, t.3, r.3), r.4)

row_back : (row : List Item) (Follows : List ℕ → Type 0) (head tail : List ℕ) → Spells head row → Follows tail → ChainRow row Follows (head ++ tail)
row_back [] Follows head tail s f = subst (λ (k : List ℕ). Follows k) (sym (ap (λ (h : List ℕ). h ++ tail) s)) f
row_back (item ∷ row) Follows head tail s f = (s.0, s.1 ++ tail, ap (λ (k : List ℕ). k ++ tail) s.2 ∙ append_assoc s.0 s.1 tail, s.3, row_back row Follows s.1 tail s.4 f)

words_chain : (ws : List ℕ) (Follows : List ℕ → Type 0) (bytes : List ℕ) → SpellsWords ws Follows bytes → ChainRow (words_row ws) Follows bytes
words_chain [] Follows bytes f = f
words_chain (w ∷ ws) Follows bytes t = (t.0, t.1, t.2, t.3, words_chain ws Follows t.1 t.4)

chain_words : (ws : List ℕ) (Follows : List ℕ → Type 0) (bytes : List ℕ) → ChainRow (words_row ws) Follows bytes → SpellsWords ws Follows bytes
chain_words [] Follows bytes f = f
chain_words (w ∷ ws) Follows bytes t = (t.0, t.1, t.2, t.3, chain_words ws Follows t.1 t.4)

-- the body of AUTH_SYS
system_row_of : (body : List ℕ) (s : SenderText) → ChainSystem body s → SpellsSystem body s
system_row_of body s h =
    let stamp = h.2.0 in
    let t = h.2.1 in
    let host = t.4 in
    let uid = host.4 in
    let gid = uid.4 in
    let count = gid.4 in
    let words = words_chain s.gids AtEnd count.1 count.4 in
    let chain : ChainRow (system_row stamp s) AtEnd body =
    (t.0, t.1, t.2, t.3, (host.0, host.1, host.2, (h.0, host.3), (uid.0, uid.1, uid.2, uid.3, (gid.0, gid.1, gid.2, gid.3, (count.0, count.1, count.2, count.3, words))))) in
    let r = row_forth (system_row stamp s) AtEnd body chain in
    let whole : body ≡ r.0 = r.2 ∙ ap (λ (k : List ℕ). r.0 ++ k) r.4 ∙ append-nil r.0 in
    (h.1, (stamp, subst (λ (k : List ℕ). Spells k (system_row stamp s)) (sym whole) r.3))

system_chain_of : (body : List ℕ) (s : SenderText) → SpellsSystem body s → ChainSystem body s
system_chain_of body s h =
    let stamp = h.1.0 in
    let row = system_row stamp s in
    let t : ChainRow (system_row stamp s) AtEnd body = subst (λ (k : List ℕ). ChainRow row AtEnd k) (append-nil body) (row_back row AtEnd body [] h.1.1 refl) in
    let host = t.4 in
    let uid = host.4 in
    let gid = uid.4 in
    let count = gid.4 in
    let words = chain_words s.gids AtEnd count.1 count.4 in
    (host.3.0, h.0, (stamp, (t.0, t.1, t.2, t.3, (host.0, host.1, host.2, host.3.1, (uid.0, uid.1, uid.2, uid.3, (gid.0, gid.1, gid.2, gid.3, (count.0, count.1, count.2, count.3, words)))))))

sender_row_of : (flavor : ℕ) (body : List ℕ) (s : SenderText) → ChainSender flavor body s → SpellsSender flavor body s
sender_row_of flavor body s (inl h) = inl h
sender_row_of flavor body s (inr h) = inr (h.0, system_row_of body s h.1)

sender_chain_of : (flavor : ℕ) (body : List ℕ) (s : SenderText) → SpellsSender flavor body s → ChainSender flavor body s
sender_chain_of flavor body s (inl h) = inl h
sender_chain_of flavor body s (inr h) = inr (h.0, system_chain_of body s h.1)

-- the whole call
abbrev IsArguments : CallText → List ℕ → Type 0
IsArguments call rest = rest ≡ call.args

call_row_of : (bytes : List ℕ) (call : CallText) → ChainCall bytes call → SpellsCall bytes call
call_row_of bytes call s =
    let row = call_row call s.flavor s.cred s.kind s.verf in
    let a = s.text in
    let b = a.4 in
    let c = b.4 in
    let d = c.4 in
    let e = d.4 in
    let f = e.4 in
    let g = f.4 in
    let cred = g.4 in
    let i = cred.4 in
    let verf = i.4 in
    let behind : ChainRow (call_row call s.flavor s.cred s.kind s.verf) (IsArguments call) bytes =
    (a.0, a.1, a.2, a.3, (b.0, b.1, b.2, b.3, (c.0, c.1, c.2, c.3, (d.0, d.1, d.2, d.3, (e.0, e.1, e.2, e.3, (f.0, f.1, f.2, f.3, (g.0, g.1, g.2, g.3, (cred.0, cred.1, cred.2, (s.short_cred, cred.3), (i.0, i.1, i.2, i.3, (verf.0, verf.1, verf.2, (s.short_verf, verf.3), verf.4)))))))))) in
    let r = row_forth row (IsArguments call) bytes behind in
    record { flavor = s.flavor; cred = s.cred; kind = s.kind; verf = s.verf; sender = sender_row_of s.flavor s.cred call.sender s.sender; head = r.0; spelled = r.3; text = r.2 ∙ ap (λ (k : List ℕ). r.0 ++ k) r.4 }

call_chain_of : (bytes : List ℕ) (call : CallText) → SpellsCall bytes call → ChainCall bytes call
call_chain_of bytes call s =
    let row = call_row call s.flavor s.cred s.kind s.verf in
    let a : ChainRow (call_row call s.flavor s.cred s.kind s.verf) (IsArguments call) bytes = subst (λ (k : List ℕ). ChainRow row (IsArguments call) k) (sym s.text) (row_back row (IsArguments call) s.head call.args s.spelled refl) in
    let b = a.4 in
    let c = b.4 in
    let d = c.4 in
    let e = d.4 in
    let f = e.4 in
    let g = f.4 in
    let cred = g.4 in
    let i = cred.4 in
    let verf = i.4 in
    record {
      flavor = s.flavor;
      cred = s.cred;
      kind = s.kind;
      verf = s.verf;
      short_cred = cred.3.0;
      short_verf = verf.3.0;
      sender = sender_chain_of s.flavor s.cred call.sender s.sender;
      text = (a.0, a.1, a.2, a.3, (b.0, b.1, b.2, b.3, (c.0, c.1, c.2, c.3, (d.0, d.1, d.2, d.3, (e.0, e.1, e.2, e.3, (f.0, f.1, f.2, f.3, (g.0, g.1, g.2, g.3, (cred.0, cred.1, cred.2, cred.3.1, (i.0, i.1, i.2, i.3, (verf.0, verf.1, verf.2, verf.3.1, verf.4))))))))));
    }

pub call_forth : (bytes : List ℕ) (call : CallText) → call_of bytes ≡ Ok call → SpellsCall bytes call
call_forth bytes call e = call_row_of bytes call (chain_forth bytes call e)

pub call_back : (bytes : List ℕ) (call : CallText) → SpellsCall bytes call → call_of bytes ≡ Ok call
call_back bytes call s = chain_back bytes call (call_chain_of bytes call s)

-- what was written is read again
pub call_again : (call : CallText) → CanBeWritten call → call_of (call_text call) ≡ Ok call
call_again call w =
    call_back (call_text call) call
    (record { flavor = 1; cred = system_text call.sender; kind = 0; verf = []; sender = inr (refl, (w.few, (0, spells_text (system_row 0 call.sender) w.sender))); head = text (sent_row call); spelled = spells_text (sent_row call) w.head; text = refl })
