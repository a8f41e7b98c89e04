-- The laws of opaques and of the end.
use Rattle.std.proofs.Common.{◌≡◌, ℕ, ◌+◌, ◌≤◌, ◌<◌, ◌^◌, Bool, true, false, cond, nat_lt, List, [], ◌∷◌, ◌++◌, length, take, drop, replicate, refl, sym, ap, ◌∙◌, subst, arith, length-append, length-drop, append_assoc, Ok, Err}
use Rattle.std.proofs.lemmas.Bool.{le-ltb}
use Rattle.std.proofs.lemmas.List.{length-take-le, length-replicate}
use Rattle.std.proofs.Math.Seq.{take-add}
use Rattle.xdr.specs.declared.fault.XdrFault.TheVariants.{Short, TooLong}
use Rattle.xdr.specs.Items.{word, pad_len, fixed_text, opaque_text, SpellsFixed, SpellsOpaque}
use Rattle.xdr.specs.Reading.{Cursor, Reading, advance, next_word, Takes, padded_at, opaque_at, fixed_at, finish_at, end_at}
use Rattle.xdr.proofs.Fronts.{take_front, drop_front, advanced, fits, takes}
use Rattle.xdr.proofs.Numbers.{done, enough, word_front, word_spells}

record Padded (skip len : ℕ) (from : Cursor) (v : List ℕ) (to : Cursor) : Type 0 where
  enough_left : skip + len + pad_len len ≤ length from.left
  value : take len (drop skip from.left) ≡ v
  behind : advance (skip + len + pad_len len) from ≡ to

padded_forth : (skip len : ℕ) (from : Cursor) (v : List ℕ) (to : Cursor) → padded_at skip len from ≡ Ok (v, to) → Padded skip len from v to
padded_forth skip len from v to h =
    let whole = skip + len + pad_len len in
    let d = done (nat_lt (length from.left) whole) (Short from.place) (take len (drop skip from.left), advance whole from) (v, to) h in
    record { enough_left = enough (length from.left) whole d.0; value = ap (λ (p : List ℕ × Cursor). p.0) d.1; behind = ap (λ (p : List ℕ × Cursor). p.1) d.1 }

padded_back : (skip len : ℕ) (from : Cursor) (v : List ℕ) (to : Cursor) → Padded skip len from v to → padded_at skip len from ≡ Ok (v, to)
padded_back skip len from v to p = rw (le-ltb (length from.left) (skip + len + pad_len len) p.enough_left, p.value, p.behind) refl

-- the length of what was taken
taken_length : (skip len : ℕ) (from : Cursor) (v : List ℕ) (to : Cursor) → Padded skip len from v to → length v ≡ len
taken_length skip len from v to p =
    let few : len ≤ length (drop skip from.left) = omega (arith, length-drop skip from.left, p.enough_left) in
    ap length (sym p.value) ∙ length-take-le len (drop skip from.left) few

-- the bytes that were passed, in their parts
parts : (skip len pad : ℕ) (l : List ℕ) → take (skip + len + pad) l ≡ take skip l ++ (take len (drop skip l) ++ take pad (drop (skip + len) l))
parts skip len pad l =
    take-add (skip + len) pad l ∙ ap (λ (k : List ℕ). k ++ take pad (drop (skip + len) l)) (take-add skip len l) ∙ append_assoc (take skip l) (take len (drop skip l)) (take pad (drop (skip + len) l))

pad_length : (skip len : ℕ) (from : Cursor) (v : List ℕ) (to : Cursor) → Padded skip len from v to → length (take (pad_len len) (drop (skip + len) from.left)) ≡ pad_len len
pad_length skip len from v to p = length-take-le (pad_len len) (drop (skip + len) from.left) (omega (arith, length-drop (skip + len) from.left, p.enough_left))

-- from a spelling in its parts
padded_of : (skip : ℕ) (from to : Cursor) (head v padding : List ℕ) → length head ≡ skip → length padding ≡ pad_len (length v) → from.left ≡ (head ++ (v ++ padding)) ++ to.left
    → to.place ≡ from.place + length (head ++ (v ++ padding)) → Padded skip (length v) from v to
padded_of skip from to head v padding h p l at =
    let front = head ++ (v ++ padding) in
    let n : length front ≡ skip + length v + pad_len (length v) = omega (arith, length-append head (v ++ padding), length-append v padding) in
    let value : take (length v) (drop skip from.left) ≡ v =
    ap (λ (k : List ℕ). take (length v) (drop skip k)) (l ∙ append_assoc head (v ++ padding) to.left) ∙ ap (λ (k : List ℕ). take (length v) k) (drop_front skip head ((v ++ padding) ++ to.left) h ∙ append_assoc v padding to.left) ∙ take_front (length v) v (padding ++ to.left) refl in
    record { enough_left = fits (skip + length v + pad_len (length v)) front from to n l; value = value; behind = advanced (skip + length v + pad_len (length v)) front from to n l at }

pub fixed_forth : (len : ℕ) (from to : Cursor) (v : List ℕ) → fixed_at len from ≡ Ok (v, to) → (length v ≡ len) × Takes SpellsFixed from v to
unfolding fixed_at
fixed_forth len from to v h =
    let p = padded_forth 0 len from v to h in
    let n = taken_length 0 len from v to p in
    let pad = take (pad_len len) (drop (0 + len) from.left) in
    let text : take (0 + len + pad_len len) from.left ≡ v ++ pad = parts 0 len (pad_len len) from.left ∙ ap (λ (k : List ℕ). k ++ pad) p.value in
    (n, takes SpellsFixed from to v (0 + len + pad_len len) p.enough_left p.behind (record { padding = pad; padded = pad_length 0 len from v to p ∙ ap pad_len (sym n); text = text }))

pub fixed_back : (len : ℕ) (from to : Cursor) (v : List ℕ) → (length v ≡ len) × Takes SpellsFixed from v to → fixed_at len from ≡ Ok (v, to)
unfolding fixed_at
fixed_back len from to v s =
    let t = s.1 in
    let l : from.left ≡ ([] ++ (v ++ t.spelled.padding)) ++ to.left = t.left ∙ ap (λ (k : List ℕ). k ++ to.left) t.spelled.text in
    let at : to.place ≡ from.place + length (v ++ t.spelled.padding) = t.place ∙ ap (λ (k : List ℕ). from.place + length k) t.spelled.text in
    let p = padded_of 0 from to [] v t.spelled.padding refl t.spelled.padded l at in
    subst (λ (k : ℕ). padded_at 0 k from ≡ Ok (v, to)) s.0 (padded_back 0 (length v) from v to p)

pub fixed_spells : (v : List ℕ) → SpellsFixed (fixed_text v) v
unfolding fixed_text
fixed_spells v = record { padding = replicate (pad_len (length v)) 0; padded = length-replicate (pad_len (length v)) 0; text = refl }

pub fixed_length : (v : List ℕ) → length (fixed_text v) ≡ length v + pad_len (length v)
unfolding fixed_text
fixed_length v = length-append v (replicate (pad_len (length v)) 0) ∙ ap (λ (k : ℕ). length v + k) (length-replicate (pad_len (length v)) 0)

pub fixed_again : (place : ℕ) (v rest : List ℕ)
    → fixed_at (length v) (record { place = place; left = fixed_text v ++ rest }) ≡ Ok (v, record { place = place + (length v + pad_len (length v)); left = rest })
fixed_again place v rest =
    fixed_back (length v) (record { place = place; left = fixed_text v ++ rest }) (record { place = place + (length v + pad_len (length v)); left = rest }) v (refl, record { front = fixed_text v; spelled = fixed_spells v; left = refl; place = ap (λ (k : ℕ). place + k) (sym (fixed_length v)) })

-- an opaque that was read had its length, and no more than max
judged : (max : ℕ) (from : Cursor) (r : Reading (List ℕ)) (x : List ℕ × Cursor) → cond (nat_lt (length from.left) 4) (Err (Short from.place)) (cond (nat_lt max (next_word from)) (Err (TooLong from.place)) r) ≡ Ok x
    → (4 ≤ length from.left) × (next_word from ≤ max) × (r ≡ Ok x)
judged max from r x h = go (nat_lt (length from.left) 4) refl (nat_lt max (next_word from)) refl h where
  go : (s : Bool) → nat_lt (length from.left) 4 ≡ s → (l : Bool) → nat_lt max (next_word from) ≡ l → cond s (Err (Short from.place)) (cond l (Err (TooLong from.place)) r) ≡ Ok x → (4 ≤ length from.left) × (next_word from ≤ max) × (r ≡ Ok x)
  go true p l q f = cc
  go false p true q f = cc
  go false p false q f = (enough (length from.left) 4 p, enough max (next_word from) q, f)

pub opaque_forth : (max : ℕ) (from to : Cursor) (v : List ℕ) → opaque_at max from ≡ Ok (v, to) → (length v ≤ max) × Takes SpellsOpaque from v to
unfolding opaque_at
opaque_forth max from to v h =
    let len = next_word from in
    let j = judged max from (padded_at 4 len from) (v, to) h in
    let p = padded_forth 4 len from v to j.2 in
    let n = taken_length 4 len from v to p in
    let pad = take (pad_len len) (drop (4 + len) from.left) in
    let text : take (4 + len + pad_len len) from.left ≡ take 4 from.left ++ (v ++ pad) = parts 4 len (pad_len len) from.left ∙ ap (λ (k : List ℕ). take 4 from.left ++ (k ++ pad)) p.value in
    (subst (λ (k : ℕ). k ≤ max) (sym n) j.1, takes SpellsOpaque from to v (4 + len + pad_len len) p.enough_left p.behind (record { count = take 4 from.left; counted = record { four = length-take-le 4 from.left j.0; worth = sym n }; padding = pad; padded = pad_length 4 len from v to p ∙ ap pad_len (sym n); text = text }))

pub opaque_back : (max : ℕ) (from to : Cursor) (v : List ℕ) → (length v ≤ max) × Takes SpellsOpaque from v to → opaque_at max from ≡ Ok (v, to)
unfolding opaque_at
opaque_back max from to v s =
    let t = s.1 in
    let sp = t.spelled in
    let l : from.left ≡ (sp.count ++ (v ++ sp.padding)) ++ to.left = t.left ∙ ap (λ (k : List ℕ). k ++ to.left) sp.text in
    let at : to.place ≡ from.place + length (sp.count ++ (v ++ sp.padding)) = t.place ∙ ap (λ (k : List ℕ). from.place + length k) sp.text in
    let p = padded_of 4 from to sp.count v sp.padding sp.counted.four sp.padded l at in
    let w : next_word from ≡ length v = word_front from (record { place = 0; left = (v ++ sp.padding) ++ to.left }) (length v) sp.count sp.counted (l ∙ append_assoc sp.count (v ++ sp.padding) to.left) in
    let four : 4 ≤ length from.left = omega (arith, p.enough_left) in
    rw (le-ltb (length from.left) 4 four, w, le-ltb max (length v) s.0) (padded_back 4 (length v) from v to p)

pub opaque_spells : (v : List ℕ) → length v < 2 ^ 32 → SpellsOpaque (opaque_text v) v
unfolding opaque_text
opaque_spells v h =
    record { count = word (length v); counted = word_spells (length v) h; padding = replicate (pad_len (length v)) 0; padded = length-replicate (pad_len (length v)) 0; text = append_assoc (word (length v)) v (replicate (pad_len (length v)) 0) }

pub opaque_length : (v : List ℕ) → length (opaque_text v) ≡ 4 + length v + pad_len (length v)
unfolding opaque_text word
opaque_length v = omega (arith, length-append (word (length v) ++ v) (replicate (pad_len (length v)) 0), length-append (word (length v)) v, length-replicate {A = ℕ} (pad_len (length v)) 0)

pub opaque_again : (max place : ℕ) (v rest : List ℕ) → length v ≤ max → length v < 2 ^ 32
    → opaque_at max (record { place = place; left = opaque_text v ++ rest }) ≡ Ok (v, record { place = place + (4 + length v + pad_len (length v)); left = rest })
opaque_again max place v rest few h =
    opaque_back max (record { place = place; left = opaque_text v ++ rest }) (record { place = place + (4 + length v + pad_len (length v)); left = rest }) v (few, record { front = opaque_text v; spelled = opaque_spells v h; left = refl; place = ap (λ (k : ℕ). place + k) (sym (opaque_length v)) })

pub finish_forth : (c : Cursor) → finish_at c ≡ Ok tt → c.left ≡ []
unfolding finish_at
finish_forth c h = go c.left h where
  go : (l : List ℕ) → end_at c l ≡ Ok tt → l ≡ []
  go [] e = refl
  go (b ∷ l) e = cc

pub finish_back : (c : Cursor) → c.left ≡ [] → finish_at c ≡ Ok tt
unfolding finish_at
finish_back c e = ap (λ (l : List ℕ). end_at c l) e
