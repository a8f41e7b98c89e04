-- A proper front of an edit's items is torn.
use Rattle.std.proofs.Common.{◌≡◌, ◌⊎◌, inl, inr, ℕ, zero, suc, ◌∷◌, ◌+◌, ◌-◌, ◌<◌, ◌≤◌, Bool, true, false, List, [], ◌++◌, length, take, drop, Ok, Err, Result, None, refl, sym, ◌∙◌, ap, subst, arith, length-append, length-drop, append-nil}
use Rattle.std.specs.Prelude.{if◌then◌else◌, nat_lt, not, ◌&&◌, ◌||◌, ◌==◌}
use Rattle.std.specs.List.{list_any}
use Rattle.std.specs.Int.{w32, w64, from_be_bytes}
use Rattle.std.proofs.lemmas.Bool.Decides.{nat_tests}
use Rattle.std.proofs.lemmas.Bool.{eqb-true}
use Rattle.std.proofs.lemmas.List.{take-append-le, drop-append-le}
use Rattle.xdr.specs.Items.{pad_len}
use Rattle.xdr.specs.Forms.{◌>>=◌}
use Rattle.edit_log.specs.declared.gauge.Cut.{Cut}
use Rattle.edit_log.specs.declared.gauge.Cut.TheVariants.{Torn, Bad}
use Rattle.name_tree.specs.declared.edit.Edit.{Edit}
use Rattle.name_tree.specs.declared.edit.Edit.TheVariants.{Make, Remove, Rename, Set}
use Rattle.edit_log.specs.Edits.{Gauge, Taking, bytes_at, word_at, long_at, count_at, padded_at, padding_ahead, name_bytes_at, name_at, path_at, kind_at, is_kind, has_bad_byte, all_zero, make_at, path_max, remove_at, rename_at, set_at, edit_of, items_at}

-- a gauge over these bytes
abbrev over : ℕ → List ℕ → Gauge
over room b = record { room = room; left = b }

-- what a reading of the front b does, where that of b ++ c gives x and leaves g
abbrev Steps : {A : Type 0} → (Gauge → Taking A) → ℕ → List ℕ → List ℕ → A → Gauge → Type 0
Steps {A = A} r room b c x g = (r (over room b) ≡ Err Torn) ⊎ ((d : List ℕ) × (r (over room b) ≡ Ok (x, over g.room d)) × (g.left ≡ d ++ c))

-- Where all bytes of an edit are there, they are after the reading; and of a front of them the reading gives the same, or it is torn.
abbrev pub IsGradual : {A : Type 0} → (Gauge → Taking A) → Type 0
IsGradual {A = A} r = (room : ℕ) (b c : List ℕ) (x : A) (g : Gauge) → length (b ++ c) ≡ room → r (over room (b ++ c)) ≡ Ok (x, g) → (length g.left ≡ g.room) × Steps r room b c x g

abbrev done : {A : Type 0} → A → Result A Cut
done x = Ok x

same_ok : {A : Type 0} (x y : A) → done x ≡ done y → x ≡ y
same_ok x y h = cc

abbrev failed : {A : Type 0} → Cut → Result A Cut
failed e = Err e

no_err : {A : Type 0} (e : Cut) (y : A) → failed e ≡ done y → ⊥
no_err e y h = cc

bind_ok : {A B : Type 0} (r : Result A Cut) (f : A → Result B Cut) (y : B) → (r >>= f) ≡ Ok y → (x : A) × (r ≡ Ok x) × (f x ≡ Ok y)
bind_ok (Ok x) f y e = (x, refl, e)
bind_ok (Err fault) f y e = absurd (no_err fault y e)

-- nothing is read
gradual_ok : {A : Type 0} (x : A) → IsGradual {A = A} (λ g. Ok (x, g))
gradual_ok {A = A} x room b c y g full h =
    let same = same_ok (x, over room (b ++ c)) (y, g) h in
    let gauge : over room (b ++ c) ≡ g = ap (λ (p : A × Gauge). p.1) same in
    let value : x ≡ y = ap (λ (p : A × Gauge). p.0) same in (
      subst (λ (k : Gauge). length k.left ≡ k.room) gauge full,
      inr (b, (λ i. Ok (value i, over (gauge i).room b)), ap (λ (k : Gauge). k.left) (sym gauge)),
    )

gradual_err : {A : Type 0} (e : Cut) → IsGradual {A = A} (λ g. Err e)
gradual_err {A = A} e room b c y g full h = absurd (no_err {A = A × Gauge} e (y, g) h)

-- one reading behind another
gradual_then : {A B : Type 0} (r : Gauge → Taking A) (s : A → Gauge → Taking B) → IsGradual r → ((x : A) → IsGradual (s x)) → IsGradual (λ g. r g >>= (λ p. s p.0 p.1))
gradual_then {A = A} {B = B} r s hr hs room b c y g full h =
    let first = bind_ok (r (over room (b ++ c))) (λ p. s p.0 p.1) (y, g) h in
    let x : A = first.0.0 in
    let m : Gauge = first.0.1 in
    let one = hr room b c x m full first.1 in
    go x m first.2 one.0 one.1
  where
    go : (x : A) (m : Gauge) → s x m ≡ Ok (y, g) → length m.left ≡ m.room → Steps r room b c x m → (length g.left ≡ g.room) × Steps (λ g. r g >>= (λ p. s p.0 p.1)) room b c y g
    go x m second still (inl torn) =
        let whole = hs x m.room m.left [] y g (ap (λ (l : List ℕ). length l) (append-nil m.left) ∙ still) (ap (λ (l : List ℕ). s x (over m.room l)) (append-nil m.left) ∙ second) in
        (whole.0, inl (ap (λ k. k >>= (λ p. s p.0 p.1)) torn))
    go x m second still (inr step) =
        let whole = hs x m.room step.0 c y g (ap (λ (l : List ℕ). length l) (sym step.2) ∙ still) (ap (λ (l : List ℕ). s x (over m.room l)) (sym step.2) ∙ second) in
        (whole.0, lift step.0 (ap (λ k. k >>= (λ p. s p.0 p.1)) step.1) whole.1)
      where
        lift : (d : List ℕ) → (r (over room b) >>= (λ p. s p.0 p.1)) ≡ s x (over m.room d) → Steps (s x) m.room d c y g → Steps (λ g. r g >>= (λ p. s p.0 p.1)) room b c y g
        lift d first (inl torn) = inl (first ∙ torn)
        lift d first (inr rest) = inr (rest.0, first ∙ rest.1, rest.2)

-- a test of what was read
gradual_if : {A : Type 0} (t : Bool) (r s : Gauge → Taking A) → IsGradual r → IsGradual s → IsGradual (λ g. if t then r g else s g)
gradual_if true r s hr hs = hr
gradual_if false r s hr hs = hs

-- so many bytes

abbrev gave : Bool → Bool → List ℕ × Gauge → Taking (List ℕ)
gave p q v = if p then Err Bad else if q then Err Torn else Ok v

opened : (p q : Bool) (v y : List ℕ × Gauge) → gave p q v ≡ done y → (p ≡ false) × (q ≡ false) × (v ≡ y)
opened true q v y h = absurd (no_err Bad y h)
opened false true v y h = absurd (no_err Torn y h)
opened false false v y h = (refl, refl, same_ok v y h)

enough : (a n : ℕ) → nat_lt a n ≡ false → n ≤ a
enough a n h = grind (arith, nat_tests)

gradual_bytes : (n : ℕ) → IsGradual (bytes_at n)
unfolding bytes_at
gradual_bytes n room b c x g full h =
    let o = opened (nat_lt room n) (nat_lt (length (b ++ c)) n) (take n (b ++ c), over (room - n) (drop n (b ++ c))) (x, g) h in
    let value : take n (b ++ c) ≡ x = ap (λ (p : List ℕ × Gauge). p.0) o.2 in
    let gauge : over (room - n) (drop n (b ++ c)) ≡ g = ap (λ (p : List ℕ × Gauge). p.1) o.2 in
    let len : length (drop n (b ++ c)) ≡ room - n = length-drop n (b ++ c) ∙ ap (λ m. m - n) full in
    (subst (λ (k : Gauge). length k.left ≡ k.room) gauge len, go (nat_lt (length b) n) refl o.0 value gauge)
  where
    go : (t : Bool) → nat_lt (length b) n ≡ t → nat_lt room n ≡ false → take n (b ++ c) ≡ x → over (room - n) (drop n (b ++ c)) ≡ g → Steps (bytes_at n) room b c x g
    go true short fits value gauge = inl (ap (λ p. gave p (nat_lt (length b) n) (take n b, over (room - n) (drop n b))) fits ∙ ap (λ q. gave false q (take n b, over (room - n) (drop n b))) short)
    go false there fits value gauge =
        let some = enough (length b) n there in
        let bytes : take n b ≡ x = sym (take-append-le n b c some) ∙ value in
        let room_is : room - n ≡ g.room = ap (λ (k : Gauge). k.room) gauge in
        inr (
          drop n b,
          ap (λ p. gave p (nat_lt (length b) n) (take n b, over (room - n) (drop n b))) fits ∙ (ap (λ q. gave false q (take n b, over (room - n) (drop n b))) there ∙ (λ i. Ok (bytes i, over (room_is i) (drop n b)))),
          sym (ap (λ (k : Gauge). k.left) gauge) ∙ drop-append-le n b c some,
        )

gradual_word : IsGradual word_at
unfolding word_at
gradual_word = gradual_then (bytes_at 4) (λ x g. Ok (from_be_bytes w32 x, g)) (gradual_bytes 4) (λ x. gradual_ok (from_be_bytes w32 x))

gradual_long : IsGradual long_at
unfolding long_at
gradual_long = gradual_then (bytes_at 8) (λ x g. Ok (from_be_bytes w64 x, g)) (gradual_bytes 8) (λ x. gradual_ok (from_be_bytes w64 x))

-- A test of the bytes that are there, which a front of them passes where they do.
gradual_unless : {A : Type 0} (t : List ℕ → Bool) (r : Gauge → Taking A) → ((b c : List ℕ) → t (b ++ c) ≡ false → t b ≡ false) → IsGradual r → IsGradual (λ g. if t g.left then Err Bad else r g)
gradual_unless {A = A} t r front hr room b c x g full h = go (t (b ++ c)) refl h
  where
    go : (q : Bool) → t (b ++ c) ≡ q → (if q then Err Bad else r (over room (b ++ c))) ≡ Ok (x, g) → (length g.left ≡ g.room) × Steps (λ k. if t k.left then Err Bad else r k) room b c x g
    go true is e = absurd (no_err {A = A × Gauge} Bad (x, g) e)
    go false is e = let rest = hr room b c x g full e in (rest.0, pass (ap (λ (q : Bool). if q then Err Bad else r (over room b)) (front b c is)) rest.1)
      where
        pass : (if t b then Err Bad else r (over room b)) ≡ r (over room b) → Steps r room b c x g → Steps (λ k. if t k.left then Err Bad else r k) room b c x g
        pass same (inl torn) = inl (same ∙ torn)
        pass same (inr step) = inr (step.0, same ∙ step.1, step.2)

-- zeros

zeros_taken : (p : ℕ) (b c : List ℕ) → all_zero (take p (b ++ c)) ≡ true → all_zero (take p b) ≡ true
zeros_taken zero b c h = refl
zeros_taken (suc p) [] c h = refl
zeros_taken (suc p) (x ∷ b) c h = go (x == 0) (zeros_taken p b c) h
  where
    go : (q : Bool) → (all_zero (take p (b ++ c)) ≡ true → all_zero (take p b) ≡ true) → (q && all_zero (take p (b ++ c))) ≡ true → (q && all_zero (take p b)) ≡ true
    go true rest h = rest h
    go false rest h = h

no_zeros : (p : ℕ) → all_zero (take p []) ≡ true
no_zeros zero = refl
no_zeros (suc p) = refl

zeros_behind : (n p : ℕ) (b c : List ℕ) → all_zero (take p (drop n (b ++ c))) ≡ true → all_zero (take p (drop n b)) ≡ true
zeros_behind zero p b c h = zeros_taken p b c h
zeros_behind (suc n) p [] c h = no_zeros p
zeros_behind (suc n) p (x ∷ b) c h = zeros_behind n p b c h

not_false : (q : Bool) → not q ≡ false → q ≡ true
not_false true h = refl
not_false false h = sym h

padding_front : (n : ℕ) (b c : List ℕ) → not (all_zero (padding_ahead n (b ++ c))) ≡ false → not (all_zero (padding_ahead n b)) ≡ false
padding_front n b c h = ap not (zeros_behind n (pad_len n) b c (not_false (all_zero (padding_ahead n (b ++ c))) h))

-- bytes of a name

any_taken : (t : ℕ → Bool) (n : ℕ) (b c : List ℕ) → list_any t (take n (b ++ c)) ≡ false → list_any t (take n b) ≡ false
any_taken t zero b c h = refl
any_taken t (suc n) [] c h = refl
any_taken t (suc n) (x ∷ b) c h = go (t x) (any_taken t n b c) h
  where
    go : (q : Bool) → (list_any t (take n (b ++ c)) ≡ false → list_any t (take n b) ≡ false) → (q || list_any t (take n (b ++ c))) ≡ false → (q || list_any t (take n b)) ≡ false
    go true rest h = h
    go false rest h = rest h

neither : (p q : Bool) → (p || q) ≡ false → (p ≡ false) × (q ≡ false)
neither true q h = absurd (let e : true ≡ false = h in cc)
neither false q h = (refl, h)

both_false : (p q : Bool) → p ≡ false → q ≡ false → (p || q) ≡ false
both_false p q hp hq = rw (hp, hq) refl

name_front : (n : ℕ) (b c : List ℕ) → has_bad_byte (take n (b ++ c)) ≡ false → has_bad_byte (take n b) ≡ false
name_front n b c h =
    let none = neither (list_any (λ x. x == 47) (take n (b ++ c))) (list_any (λ x. x == 0) (take n (b ++ c))) h in
    both_false (list_any (λ x. x == 47) (take n b)) (list_any (λ x. x == 0) (take n b)) (any_taken (λ x. x == 47) n b c none.0) (any_taken (λ x. x == 0) n b c none.1)

gradual_padded : (n : ℕ) → IsGradual (padded_at n)
unfolding padded_at
gradual_padded n =
    gradual_unless (λ l. not (all_zero (padding_ahead n l))) (λ g. bytes_at (n + pad_len n) g >>= (λ x. Ok (take n x.0, x.1))) (padding_front n)
    (gradual_then (bytes_at (n + pad_len n)) (λ x g. Ok (take n x, g)) (gradual_bytes (n + pad_len n)) (λ x. gradual_ok (take n x)))

gradual_name_bytes : (n : ℕ) → IsGradual (name_bytes_at n)
unfolding name_bytes_at
gradual_name_bytes n = gradual_unless (λ l. has_bad_byte (take n l)) (padded_at n) (name_front n) (gradual_padded n)

gradual_count : (low high : ℕ) → IsGradual (count_at low high)
unfolding count_at
gradual_count low high =
    gradual_then word_at (λ n g. if nat_lt n low || nat_lt high n then Err Bad else Ok (n, g)) gradual_word
    (λ n. gradual_if (nat_lt n low || nat_lt high n) (λ g. Err Bad) (λ g. Ok (n, g)) (gradual_err Bad) (gradual_ok n))

gradual_name : IsGradual name_at
unfolding name_at
gradual_name = gradual_then (count_at 1 255) name_bytes_at (gradual_count 1 255) gradual_name_bytes

gradual_path : (most : ℕ) → IsGradual (path_at most)
unfolding path_at
gradual_path most = gradual_then (count_at 0 most) padded_at (gradual_count 0 most) gradual_padded

gradual_kind : IsGradual kind_at
unfolding kind_at
gradual_kind = gradual_then word_at (λ x g. if is_kind x then Ok (x, g) else Err Bad) gradual_word (λ x. gradual_if (is_kind x) (λ g. Ok (x, g)) (λ g. Err Bad) (gradual_ok x) (gradual_err Bad))

-- the four kinds

gradual_remove : IsGradual remove_at
unfolding remove_at
gradual_remove = gradual_then long_at _ gradual_long (λ parent. gradual_then name_at (λ name g. Ok (Remove parent name, g)) gradual_name (λ name. gradual_ok (Remove parent name)))

gradual_rename : IsGradual rename_at
unfolding rename_at
gradual_rename = gradual_then long_at _ gradual_long (λ parent. gradual_then name_at _ gradual_name (λ name. gradual_then long_at _ gradual_long (λ to. gradual_then name_at (λ to_name g. Ok (Rename parent name to to_name, g)) gradual_name (λ to_name. gradual_ok (Rename parent name to to_name)))))

gradual_set : IsGradual set_at
unfolding set_at
gradual_set = gradual_then long_at _ gradual_long (λ id. gradual_then word_at _ gradual_word (λ mode. gradual_then word_at _ gradual_word (λ uid. gradual_then word_at (λ gid g. Ok (Set id mode uid gid None None, g)) gradual_word (λ gid. gradual_ok (Set id mode uid gid None None)))))

gradual_make : IsGradual make_at
unfolding make_at
gradual_make = gradual_then long_at _ gradual_long (λ parent. gradual_then long_at _ gradual_long (λ id. gradual_then kind_at _ gradual_kind (λ kind. gradual_then word_at _ gradual_word (λ mode. gradual_then word_at _ gradual_word (λ uid. gradual_then word_at _ gradual_word (λ gid.
    gradual_then name_at _ gradual_name (λ name. gradual_then (path_at (path_max kind)) (λ path g. Ok (Make parent id kind mode uid gid name path None None None, g)) (gradual_path (path_max kind)) (λ path. gradual_ok (Make parent id kind mode uid gid name path None None None)))))))))

gradual_items : (kind : ℕ) → IsGradual (items_at kind)
gradual_items kind =
    gradual_if (kind == 1) make_at (λ g. if kind == 2 then remove_at g else (if kind == 3 then rename_at g else (if kind == 4 then set_at g else Err Bad))) gradual_make
    (gradual_if (kind == 2) remove_at (λ g. if kind == 3 then rename_at g else (if kind == 4 then set_at g else Err Bad)) gradual_remove
    (gradual_if (kind == 3) rename_at (λ g. if kind == 4 then set_at g else Err Bad) gradual_rename
    (gradual_if (kind == 4) set_at (λ g. Err Bad) gradual_set (gradual_err Bad))))

-- the kind and its items
abbrev whole : Gauge → Taking Edit
whole g = word_at g >>= (λ k. items_at k.0 k.1)

abbrev ending : Edit × Gauge → Result Edit Cut
ending e = if e.1.room == 0 then Ok e.0 else Err Bad

gradual_whole : IsGradual whole
gradual_whole = gradual_then word_at items_at gradual_word gradual_items

regrouped : {A B C : Type 0} (r : Result A Cut) (f : A → Result B Cut) (h : B → Result C Cut) → (r >>= (λ x. f x >>= h)) ≡ ((r >>= f) >>= h)
regrouped (Ok x) f h = refl
regrouped (Err e) f h = refl

as_whole : (room : ℕ) (bytes : List ℕ) → edit_of room bytes ≡ (whole (over room bytes) >>= ending)
unfolding edit_of
as_whole room bytes = regrouped (word_at (over room bytes)) (λ k. items_at k.0 k.1) ending

is_zero : (e : Edit × Gauge) (x : Edit) → ending e ≡ done x → e.1.room ≡ 0
is_zero e x h = go (e.1.room == 0) refl h
  where
    go : (t : Bool) → (e.1.room == 0) ≡ t → (if t then Ok e.0 else Err Bad) ≡ done x → e.1.room ≡ 0
    go true t h = eqb-true e.1.room 0 t
    go false t h = absurd (no_err Bad x h)

none_left : (d c left : List ℕ) → length left ≡ 0 → left ≡ d ++ c → length c ≡ 0
none_left d c left none is = omega (arith, ap (λ (l : List ℕ). length l) is, length-append d c)

-- What lacks bytes of an edit's text, at its end, is torn.
pub torn : (room : ℕ) (b c : List ℕ) (e : Edit) → length (b ++ c) ≡ room → edit_of room (b ++ c) ≡ Ok e → 0 < length c → edit_of room b ≡ Err Torn
torn room b c e full h some =
    let first = bind_ok (whole (over room (b ++ c))) ending e (sym (as_whole room (b ++ c)) ∙ h) in
    let steps = gradual_whole room b c first.0.0 first.0.1 full first.1 in
    as_whole room b ∙ go first.0.0 first.0.1 (steps.0 ∙ is_zero first.0 e first.2) steps.1
  where
    go : (x : Edit) (g : Gauge) → length g.left ≡ 0 → Steps whole room b c x g → (whole (over room b) >>= ending) ≡ Err Torn
    go x g none (inl torn) = ap (λ k. k >>= ending) torn
    go x g none (inr step) = absurd (let empty = none_left step.0 c g.left none step.2 in omega arith)
