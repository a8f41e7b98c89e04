-- What is written for an edit is read again.
use Rattle.std.proofs.Common.{◌≡◌, ℕ, zero, suc, ◌+◌, ◌-◌, ◌<◌, ◌≤◌, ◌^◌, Bool, true, false, cond, List, [], ◌++◌, length, take, drop, Ok, Err, None, refl, ◌∙◌, ap, arith, append_assoc, length-append}
use Rattle.std.specs.Prelude.{nat_lt, not, replicate, ◌||◌, ◌==◌}
use Rattle.std.proofs.lemmas.Bool.Decides.{nat_tests}
use Rattle.xdr.specs.Items.{word, long, opaque_text, pad_len}
use Rattle.xdr.specs.Rows.{text}
use Rattle.xdr.proofs.Numbers.{word_spells, long_spells}
use Rattle.xdr.proofs.Fronts.{take_front, drop_front}
use Rattle.xdr.proofs.Texts.{text-cons, length-text}
use Rattle.name_tree.specs.declared.edit.Edit.{Edit}
use Rattle.name_tree.specs.declared.edit.Edit.TheVariants.{Make, Remove, Rename, Set}
use Rattle.edit_log.specs.declared.gauge.Cut.TheVariants.{Torn, Bad}
use Rattle.edit_log.specs.Edits.{Gauge, bytes_at, word_at, long_at, count_at, padded_at, padding_ahead, name_bytes_at, name_at, path_at, kind_at, is_kind, has_bad_byte, all_zero, make_at, path_max, remove_at, rename_at, set_at, edit_of, edit_row, InRange, written_edit}

-- where so many bytes are there, and the edit has them
taken : (b c : Bool) (x : List ℕ × Gauge) → b ≡ false → c ≡ false → cond b (Err Bad) (cond c (Err Torn) (Ok x)) ≡ Ok x
taken b c x hb hc = rw (hb, hc) refl

pub bytes_again : (n k : ℕ) (v rest : List ℕ) → length v ≡ n → bytes_at n (record { room = n + k; left = v ++ rest }) ≡ Ok (v, record { room = k; left = rest })
unfolding bytes_at
bytes_again n k v rest len =
    let fits : nat_lt (n + k) n ≡ false = grind (arith, nat_tests) in
    let there : nat_lt (length (v ++ rest)) n ≡ false = grind (arith, nat_tests, length-append v rest) in
    let room : n + k - n ≡ k = omega arith in
    taken _ _ _ fits there
    ∙ (ap (λ (r : ℕ). Ok (take n (v ++ rest), record { room = r; left = drop n (v ++ rest) })) room
    ∙ (ap (λ (x : List ℕ). Ok (x, record { room = k; left = drop n (v ++ rest) })) (take_front n v rest len)
    ∙ ap (λ (x : List ℕ). Ok (v, record { room = k; left = x })) (drop_front n v rest len)))

pub word_again : (n k : ℕ) (rest : List ℕ) → n < 2 ^ 32 → word_at (record { room = 4 + k; left = word n ++ rest }) ≡ Ok (n, record { room = k; left = rest })
unfolding word_at
word_again n k rest small =
    let s = word_spells n small in
    rw (bytes_again 4 k (word n) rest s.four) (ap (λ (m : ℕ). Ok (m, record { room = k; left = rest })) s.worth)

pub long_again : (n k : ℕ) (rest : List ℕ) → n < 2 ^ 64 → long_at (record { room = 8 + k; left = long n ++ rest }) ≡ Ok (n, record { room = k; left = rest })
unfolding long_at
long_again n k rest small =
    let s = long_spells n small in
    rw (bytes_again 8 k (long n) rest s.eight) (ap (λ (m : ℕ). Ok (m, record { room = k; left = rest })) s.worth)

zeros : (n : ℕ) → all_zero (replicate n 0) ≡ true
zeros zero = refl
zeros (suc n) = zeros n

length_zeros : (n : ℕ) → length {A = ℕ} (replicate n 0) ≡ n
length_zeros zero = refl
length_zeros (suc n) = let rest = length_zeros n in omega arith

abbrev pub opaque_size : List ℕ → ℕ
opaque_size v = 4 + (length v + pad_len (length v))

abbrev padding : List ℕ → List ℕ
padding v = replicate (pad_len (length v)) 0

abbrev gauge : ℕ → List ℕ → Gauge
gauge room left = record { room = room; left = left }

-- bytes and their padding
padded_again : (k : ℕ) (v rest : List ℕ) → padded_at (length v) (gauge ((length v + pad_len (length v)) + k) ((v ++ padding v) ++ rest)) ≡ Ok (v, gauge k rest)
unfolding padded_at
padded_again k v rest =
    let n : ℕ = length v in
    let pad : List ℕ = padding v in
    let zero_pad : padding_ahead n ((v ++ pad) ++ rest) ≡ pad =
    ap (λ (l : List ℕ). take (pad_len n) (drop n l)) (append_assoc v pad rest)
    ∙ (ap (λ (l : List ℕ). take (pad_len n) l) (drop_front n v (pad ++ rest) refl) ∙ take_front (pad_len n) pad rest (length_zeros (pad_len n))) in
    let none : not (all_zero (padding_ahead n ((v ++ pad) ++ rest))) ≡ false = ap (λ (l : List ℕ). not (all_zero l)) zero_pad ∙ ap not (zeros (pad_len n)) in
    let whole : length (v ++ pad) ≡ n + pad_len n = length-append v pad ∙ ap (λ m. n + m) (length_zeros (pad_len n)) in
    rw (none) (rw (bytes_again (n + pad_len n) k (v ++ pad) rest whole) (ap (λ (x : List ℕ). Ok (x, gauge k rest)) (take_front n v pad refl)))

name_bytes_again : (k : ℕ) (v rest : List ℕ) → has_bad_byte v ≡ false → name_bytes_at (length v) (gauge ((length v + pad_len (length v)) + k) ((v ++ padding v) ++ rest)) ≡ Ok (v, gauge k rest)
unfolding name_bytes_at
name_bytes_again k v rest clean =
    let there : take (length v) ((v ++ padding v) ++ rest) ≡ v = ap (λ (l : List ℕ). take (length v) l) (append_assoc v (padding v) rest) ∙ take_front (length v) v (padding v ++ rest) refl in
    let none : has_bad_byte (take (length v) ((v ++ padding v) ++ rest)) ≡ false = ap has_bad_byte there ∙ clean in
    rw (none) (padded_again k v rest)

count_again : (low high n k : ℕ) (rest : List ℕ) → low ≤ n → n ≤ high → n < 2 ^ 32 → count_at low high (gauge (4 + k) (word n ++ rest)) ≡ Ok (n, gauge k rest)
unfolding count_at
count_again low high n k rest least most small =
    let in_range : (nat_lt n low || nat_lt high n) ≡ false = grind (arith, nat_tests) in
    rw (word_again n k rest small) (rw (in_range) refl)

-- the length of an opaque stands in front of its bytes
regrouped : (v rest : List ℕ) → opaque_text v ++ rest ≡ word (length v) ++ ((v ++ padding v) ++ rest)
unfolding opaque_text word
regrouped v rest = append_assoc (word (length v)) (v ++ padding v) rest

pub name_again : (k : ℕ) (v rest : List ℕ) → 1 ≤ length v → length v ≤ 255 → has_bad_byte v ≡ false
    → name_at (gauge (opaque_size v + k) (opaque_text v ++ rest)) ≡ Ok (v, gauge k rest)
unfolding name_at
name_again k v rest some most clean =
    let n : ℕ = length v in
    let room : opaque_size v + k ≡ 4 + ((n + pad_len n) + k) = omega arith in
    ap (λ (r : ℕ). name_at (gauge r (opaque_text v ++ rest))) room
    ∙ (ap (λ (l : List ℕ). name_at (gauge (4 + ((n + pad_len n) + k)) l)) (regrouped v rest)
    ∙ rw (count_again 1 255 n ((n + pad_len n) + k) ((v ++ padding v) ++ rest) some most (omega arith)) (name_bytes_again k v rest clean))

pub path_again : (most k : ℕ) (v rest : List ℕ) → length v ≤ most → length v < 2 ^ 32
    → path_at most (gauge (opaque_size v + k) (opaque_text v ++ rest)) ≡ Ok (v, gauge k rest)
unfolding path_at
path_again most k v rest few small =
    let n : ℕ = length v in
    let room : opaque_size v + k ≡ 4 + ((n + pad_len n) + k) = omega arith in
    ap (λ (r : ℕ). path_at most (gauge r (opaque_text v ++ rest))) room
    ∙ (ap (λ (l : List ℕ). path_at most (gauge (4 + ((n + pad_len n) + k)) l)) (regrouped v rest)
    ∙ rw (count_again 0 most n ((n + pad_len n) + k) ((v ++ padding v) ++ rest) (omega arith) few small) (padded_again k v rest))

pub kind_again : (n k : ℕ) (rest : List ℕ) → is_kind n ≡ true → n < 2 ^ 32 → kind_at (record { room = 4 + k; left = word n ++ rest }) ≡ Ok (n, record { room = k; left = rest })
unfolding kind_at
kind_again n k rest is small = rw (word_again n k rest small, is) refl

-- the items of each edit

pub set_again : (id mode uid gid k : ℕ) (rest : List ℕ) → id < 2 ^ 64 → mode < 2 ^ 32 → uid < 2 ^ 32 → gid < 2 ^ 32
    → set_at (record { room = 8 + (4 + (4 + (4 + k))); left = long id ++ (word mode ++ (word uid ++ (word gid ++ rest))) }) ≡ Ok (Set id mode uid gid None None, record { room = k; left = rest })
unfolding set_at
set_again id mode uid gid k rest a b c d = rw (long_again id _ _ a, word_again mode _ _ b, word_again uid _ _ c, word_again gid _ _ d) refl

pub remove_again : (parent k : ℕ) (name rest : List ℕ) → parent < 2 ^ 64 → 1 ≤ length name → length name ≤ 255 → has_bad_byte name ≡ false
    → remove_at (record { room = 8 + (opaque_size name + k); left = long parent ++ (opaque_text name ++ rest) }) ≡ Ok (Remove parent name, record { room = k; left = rest })
unfolding remove_at
remove_again parent k name rest a some most done_calls = rw (long_again parent _ _ a, name_again k name rest some most done_calls) refl

pub rename_again : (parent to k : ℕ) (name to_name rest : List ℕ) → parent < 2 ^ 64 → 1 ≤ length name → length name ≤ 255 → has_bad_byte name ≡ false → to < 2 ^ 64 → 1 ≤ length to_name → length to_name ≤ 255 → has_bad_byte to_name ≡ false
    → rename_at (record { room = 8 + (opaque_size name + (8 + (opaque_size to_name + k))); left = long parent ++ (opaque_text name ++ (long to ++ (opaque_text to_name ++ rest))) }) ≡ Ok (Rename parent name to to_name, record { room = k; left = rest })
unfolding rename_at
rename_again parent to k name to_name rest a s m g b s' m' g' =
    rw (long_again parent _ _ a, name_again _ name _ s m g, long_again to _ _ b, name_again k to_name rest s' m' g') refl

pub make_again : (parent id kind mode uid gid k : ℕ) (name path rest : List ℕ) → parent < 2 ^ 64 → id < 2 ^ 64 → is_kind kind ≡ true → kind < 2 ^ 32 → mode < 2 ^ 32 → uid < 2 ^ 32 → gid < 2 ^ 32
    → 1 ≤ length name → length name ≤ 255 → has_bad_byte name ≡ false → length path ≤ path_max kind → length path < 2 ^ 32
    → make_at (record { room = 8 + (8 + (4 + (4 + (4 + (4 + (opaque_size name + (opaque_size path + k))))))); left = long parent ++ (long id ++ (word kind ++ (word mode ++ (word uid ++ (word gid ++ (opaque_text name ++ (opaque_text path ++ rest))))))) })
    ≡ Ok (Make parent id kind mode uid gid name path None None None, record { room = k; left = rest })
unfolding make_at
make_again parent id kind mode uid gid k name path rest a b is c d e f some most done_calls path_most path_small =
    rw (long_again parent _ _ a, long_again id _ _ b, kind_again kind _ _ is c, word_again mode _ _ d, word_again uid _ _ e, word_again gid _ _ f, name_again _ name _ some most done_calls, path_again (path_max kind) k path rest path_most path_small) refl

-- the items one behind the other
abbrev body : Edit → List ℕ
body (Make parent id kind mode uid gid name path atime mtime verifier) = word 1 ++ (long parent ++ (long id ++ (word kind ++ (word mode ++ (word uid ++ (word gid ++ (opaque_text name ++ (opaque_text path ++ []))))))))
body (Remove parent name) = word 2 ++ (long parent ++ (opaque_text name ++ []))
body (Rename parent name to to_name) = word 3 ++ (long parent ++ (opaque_text name ++ (long to ++ (opaque_text to_name ++ []))))
body (Set id mode uid gid atime mtime) = word 4 ++ (long id ++ (word mode ++ (word uid ++ (word gid ++ []))))

unrolled : (e : Edit) → text (edit_row e) ≡ body e
unrolled (Make parent id kind mode uid gid name path atime mtime verifier) = simp text-cons
unrolled (Remove parent name) = simp text-cons
unrolled (Rename parent name to to_name) = simp text-cons
unrolled (Set id mode uid gid atime mtime) = simp text-cons

-- items whose length is known
sized : (e : Edit) (room : ℕ) → length (text (edit_row e)) ≡ room → edit_of room (body e) ≡ Ok (written_edit e) → edit_of (length (text (edit_row e))) (text (edit_row e)) ≡ Ok (written_edit e)
sized e room len h = ap (λ (t : List ℕ). edit_of (length (text (edit_row e))) t) (unrolled e) ∙ (ap (λ n. edit_of n (body e)) len ∙ h)

path_most : (kind n : ℕ) → n ≤ path_max kind → n ≤ 1024
path_most kind n h = go (kind == 5) h
  where
    go : (b : Bool) → n ≤ cond b 1024 0 → n ≤ 1024
    go true h = omega arith
    go false h = omega arith

pub edit_again : (e : Edit) → InRange e → edit_of (length (text (edit_row e))) (text (edit_row e)) ≡ Ok (written_edit e)
unfolding edit_of
edit_again (Remove parent name) r =
    sized (Remove parent name) (4 + (8 + (opaque_size name + 0))) (length-text (edit_row (Remove parent name)))
    (rw (word_again 2 (8 + (opaque_size name + 0)) (long parent ++ (opaque_text name ++ [])) (omega arith), remove_again parent 0 name [] r.0 r.1.some r.1.most r.1.clean) refl)
edit_again (Rename parent name to to_name) r =
    sized (Rename parent name to to_name) (4 + (8 + (opaque_size name + (8 + (opaque_size to_name + 0))))) (length-text (edit_row (Rename parent name to to_name)))
    (rw (word_again 3 (8 + (opaque_size name + (8 + (opaque_size to_name + 0)))) (long parent ++ (opaque_text name ++ (long to ++ (opaque_text to_name ++ [])))) (omega arith), rename_again parent to 0 name to_name [] r.0.0 r.1.some r.1.most r.1.clean r.0.1 r.2.some r.2.most r.2.clean) refl)
edit_again (Set id mode uid gid atime mtime) r =
    sized (Set id mode uid gid atime mtime) (4 + (8 + (4 + (4 + (4 + 0))))) (length-text (edit_row (Set id mode uid gid atime mtime)))
    (rw (word_again 4 (8 + (4 + (4 + (4 + 0)))) (long id ++ (word mode ++ (word uid ++ (word gid ++ [])))) (omega arith), set_again id mode uid gid 0 [] r.0 r.1 r.2 r.3) refl)
edit_again (Make parent id kind mode uid gid name path atime mtime verifier) r =
    let most = path_most kind (length path) r.3 in
    sized (Make parent id kind mode uid gid name path atime mtime verifier) (4 + (8 + (8 + (4 + (4 + (4 + (4 + (opaque_size name + (opaque_size path + 0)))))))))
    (length-text (edit_row (Make parent id kind mode uid gid name path atime mtime verifier)))
    (rw (word_again 1 (8 + (8 + (4 + (4 + (4 + (4 + (opaque_size name + (opaque_size path + 0)))))))) (long parent ++ (long id ++ (word kind ++ (word mode ++ (word uid ++ (word gid ++ (opaque_text name ++ (opaque_text path ++ [])))))))) (omega arith), make_again parent id kind mode uid gid 0 name path [] r.0.0 r.0.1 r.1 r.0.2 r.0.3 r.0.4 r.0.5 r.2.some r.2.most r.2.clean r.3 (omega (arith, most))) refl)

few_pad : (n : ℕ) → pad_len n ≤ 3
few_pad n = omega arith

-- an edit's items have 4 to 4,096 bytes
pub text_fits : (e : Edit) → InRange e → (4 ≤ length (text (edit_row e))) × (length (text (edit_row e)) ≤ 4096)
text_fits (Remove parent name) r =
    let size = length-text (edit_row (Remove parent name)) in
    (omega (arith, size), omega (arith, size, r.1.most, few_pad (length name)))
text_fits (Rename parent name to to_name) r =
    let size = length-text (edit_row (Rename parent name to to_name)) in
    (omega (arith, size), omega (arith, size, r.1.most, r.2.most, few_pad (length name), few_pad (length to_name)))
text_fits (Set id mode uid gid atime mtime) r =
    let size = length-text (edit_row (Set id mode uid gid atime mtime)) in
    (omega (arith, size), omega (arith, size))
text_fits (Make parent id kind mode uid gid name path atime mtime verifier) r =
    let size = length-text (edit_row (Make parent id kind mode uid gid name path atime mtime verifier)) in
    (omega (arith, size), omega (arith, size, r.2.most, path_most kind (length path) r.3, few_pad (length name), few_pad (length path)))
