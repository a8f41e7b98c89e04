-- A walk over a piece: what a byte of a header, bytes of a fragment and a fragment's end come to.
use Rattle.std.proofs.Common.{◌⊎◌, inl, inr, ◌≡◌, ◌≢◌, ℕ, ◌+◌, ◌-◌, ◌<◌, ◌≤◌, Bool, true, false, List, [], ◌∷◌, ◌++◌, length, take, drop, refl, sym, ap, ◌∙◌, subst, arith, append_assoc, append-nil, length-append}
use Rattle.std.proofs.lemmas.List.{take_more_set, take_all, take-append-drop, length-take-le, drop_at, length-set}
use Rattle.std.proofs.lemmas.Bool.{cases_lt}
use Rattle.rpc_record.specs.declared.fault.FrameFault.{FrameFault}
use Rattle.rpc_record.specs.declared.fault.FrameFault.TheVariants.{TooLong, TooMany, Memory}
use Rattle.rpc_record.specs.declared.place.Place.{Place}
use Rattle.rpc_record.specs.declared.present.Present.{Present}
use Rattle.rpc_record.specs.Records.{record_max, fragment_len, is_last, fragment_body, bytes_behind, Open, Fault, Whole, front, front_from}
use Rattle.rpc_record.specs.Places.{header_part, with_byte, in_body, HasRoom, IsFaultAt}
use Rattle.rpc_record.specs.Presents.{bytes_under, received, whole_headers, held_of, IsPlace, IsWalk, IsPresent}
use Rattle.rpc_record.proofs.Steps.{open_short, too_many, too_long, open_cut, whole_last, front_more}
use Rattle.rpc_record.proofs.Fronts.{len_front, last_front, body_of, behind_of}
use Rattle.rpc_record.proofs.Received.{received_header, received_bytes, received_finish, bytes_under_more}

header_more : (p : Place) (byte : ℕ) → length p.header ≡ 4 → p.filled < 4 → header_part (with_byte p byte) ≡ header_part p ++ byte ∷ []
header_more p byte size h = take_more_set p.header p.filled byte (omega arith)

header_all : (p : Place) → length p.header ≡ 4 → p.filled ≡ 4 → header_part p ≡ p.header
header_all p size h = take_all p.filled p.header (omega arith)

-- at more of the stream than was looked at before
pub walk_on : (words : List (List ℕ)) (p : Place) (joined rest all piece : List ℕ) → IsWalk words p joined false rest all → IsWalk words p joined false (rest ++ piece) (all ++ piece)
walk_on words p joined rest all piece w = record {
  have = w.have;
  body = w.body;
  place = w.place;
  so_far = λ more. ap front (append_assoc all piece more) ∙ w.so_far (piece ++ more) ∙ ap (λ (k : List ℕ). front_from (64 - p.done) w.have k) (simp append_assoc);
  kept = λ e. let k = w.kept e in (k.0, k.1, sym (append_assoc (received words (header_part p) joined) rest piece) ∙ ap (λ (x : List ℕ). x ++ piece) k.2);
}

module _ (words : List (List ℕ)) (p : Place) (joined : List ℕ) (refused : Bool) (byte : ℕ) (rest all : List ℕ) (w : IsWalk words p joined refused (byte ∷ rest) all) where
  -- the stream behind one byte of a header
  behind : p.filled < 4 → (more : List ℕ) → front (all ++ more) ≡ front_from (64 - p.done) w.have (header_part (with_byte p byte) ++ [] ++ rest ++ more)
  behind h more =
      let none = (w.place.in_header h).0 in
      let next = header_more p byte w.place.size h in
      let same : header_part p ++ w.body ++ (byte ∷ rest) ++ more ≡ header_part (with_byte p byte) ++ [] ++ rest ++ more = rw (next, none) (simp (append_assoc, append-nil)) in
      w.so_far more ∙ ap (λ (k : List ℕ). front_from (64 - p.done) w.have k) same

  kept_byte : p.filled < 4 → refused ≡ false → (joined ≡ w.have ++ []) × (bytes_under words ≡ length w.have) × (received words (header_part (with_byte p byte)) joined ++ rest ≡ all)
  kept_byte h e =
      let k = w.kept e in
      let none = (w.place.in_header h).0 in
      let is : joined ≡ w.have ++ [] = k.0 ∙ ap (λ (x : List ℕ). w.have ++ x) none in
      let size : bytes_under words ≡ length joined = k.1 ∙ sym (ap length (is ∙ append-nil w.have)) in
      let next = header_more p byte w.place.size h in
      let more = ap (λ (x : List ℕ). received words x joined) next ∙ received_header words (header_part p) (byte ∷ []) joined size in
      (is, k.1, ap (λ (x : List ℕ). x ++ rest) more ∙ append_assoc (received words (header_part p) joined) (byte ∷ []) rest ∙ k.2)

  pub walk_byte : p.filled + 1 < 4 → IsWalk words (with_byte p byte) joined refused rest all
  walk_byte h =
      let early : p.filled < 4 = omega arith in
      let place : IsPlace (with_byte p byte) w.have [] = record { size = length-set p.header p.filled byte ∙ w.place.size; most = w.place.most; few = w.place.few; filled = omega arith; in_header = λ _. (refl, (w.place.in_header early).1); in_body = λ e. absurd (omega arith) } in
      record { have = w.have; body = []; place = place; so_far = behind early; kept = kept_byte early }

  pub walk_header : p.filled ≡ 3 → HasRoom (with_byte p byte) → IsWalk words (in_body (with_byte p byte)) joined refused rest all
  walk_header h room =
      let early : p.filled < 4 = omega arith in
      let q = with_byte p byte in
      let total = (w.place.in_header early).1 in
      let place : IsPlace (in_body q) w.have [] = record { size = length-set p.header p.filled byte ∙ w.place.size; most = w.place.most; few = room.1; filled = omega arith; in_header = λ e. absurd (omega arith); in_body = λ _. (room.0, omega arith, omega arith) } in
      record { have = w.have; body = []; place = place; so_far = behind early; kept = kept_byte early }

  pub walk_fault : (fault : FrameFault) → p.filled ≡ 3 → IsFaultAt (with_byte p byte) fault → (front all ≡ Fault fault) × (fault ≢ Memory)
  walk_fault fault h at = go fault at where
    q : Place
    q = with_byte p byte

    early : p.filled < 4
    early = omega arith

    bytes : List ℕ
    bytes = header_part q ++ [] ++ rest ++ []

    is : front all ≡ front_from (64 - p.done) w.have bytes
    is = ap front (sym (append-nil all)) ∙ behind early []

    size : length q.header ≡ 4
    size = length-set p.header p.filled byte ∙ w.place.size

    same : header_part q ≡ q.header
    same = header_all q size (omega arith)

    four : 4 ≤ length (header_part q)
    four = rw same (omega (arith, size))

    long : 4 ≤ length bytes
    long = omega (arith, four, length-append (header_part q ++ []) rest, length-append (header_part q) [], length-append (header_part q ++ [] ++ rest) [])

    len : fragment_len bytes ≡ fragment_len q.header
    len =
        let regroup : bytes ≡ header_part q ++ ([] ++ (rest ++ [])) = simp append_assoc in
        ap fragment_len regroup ∙ len_front (header_part q) ([] ++ (rest ++ [])) four ∙ ap fragment_len same

    total : length w.have ≡ p.total
    total = (w.place.in_header early).1

    go : (f : FrameFault) → IsFaultAt q f → (front all ≡ Fault f) × (f ≢ Memory)
    go TooMany many = (is ∙ ap (λ (k : ℕ). front_from k w.have bytes) (omega arith) ∙ too_many w.have bytes long, λ e. cc)
    go (TooLong have) far =
        let sum : length w.have + fragment_len bytes ≡ have = omega (arith, len, total, far.2) in
        (is ∙ too_long (64 - p.done) (64 - p.done - 1) w.have bytes (omega (arith, far.0)) long (rw sum far.1) ∙ ap (λ (k : ℕ). Fault (TooLong k)) sum, λ e. cc)
    go Memory none = absurd none

module _ (words : List (List ℕ)) (p : Place) (joined : List ℕ) (refused : Bool) (rest all : List ℕ) (w : IsWalk words p joined refused rest all) (whole : p.filled ≡ 4) where
  -- n bytes of the present fragment
  pub walk_body : (kept : List ℕ) (cut : Bool) (n : ℕ) → n ≤ p.lacks → n ≤ length rest → (cut ≡ false → (refused ≡ false) × (kept ≡ joined ++ take n rest)) → IsWalk words (record p { lacks = p.lacks - n }) kept cut (drop n rest) all
  walk_body kept cut n few within keeps =
      let i = w.place.in_body whole in
      let part = take n rest in
      let behind = drop n rest in
      let cuts : part ++ behind ≡ rest = take-append-drop n rest in
      let size : length part ≡ n = length-take-le n rest within in
      let place : IsPlace (record p { lacks = p.lacks - n }) w.have (w.body ++ part) = record { size = w.place.size; most = w.place.most; few = w.place.few; filled = w.place.filled; in_header = λ e. absurd (omega arith); in_body = λ _. (i.0, omega (arith, i.1, size, length-append w.body part), i.2) } in
      record {
        have = w.have;
        body = w.body ++ part;
        place = place;
        so_far = λ more. w.so_far more ∙ ap (λ (k : List ℕ). front_from (64 - p.done) w.have (header_part p ++ w.body ++ k ++ more)) (sym cuts) ∙ ap (λ (k : List ℕ). front_from (64 - p.done) w.have k) (simp append_assoc);
        kept = λ e.
            let was = keeps e in
            let k = w.kept was.0 in
            let is : kept ≡ w.have ++ (w.body ++ part) = was.1 ∙ ap (λ (x : List ℕ). x ++ part) k.0 ∙ append_assoc w.have w.body part in
            let fits : bytes_under words ≤ length joined = omega (arith, k.1, ap length k.0, length-append w.have w.body) in
            let text : received words (header_part p) kept ≡ received words (header_part p) joined ++ part = ap (λ (x : List ℕ). received words (header_part p) x) was.1 ∙ received_bytes words (header_part p) joined part fits in
            (is, k.1, ap (λ (x : List ℕ). x ++ behind) text ∙ append_assoc (received words (header_part p) joined) part behind ∙ ap (λ (x : List ℕ). received words (header_part p) joined ++ x) cuts ∙ k.2);
      }

  module _ (end : p.lacks ≡ 0) where
    i : (p.done < 64) × (length w.body + p.lacks ≡ fragment_len p.header) × (length w.have + fragment_len p.header ≡ p.total)
    i = w.place.in_body whole

    abbrev fragment : List ℕ
    fragment = p.header ++ w.body

    four : 4 ≤ length p.header
    four = omega (arith, w.place.size)

    len : fragment_len fragment ≡ fragment_len p.header
    len = len_front p.header w.body four

    size : length fragment ≡ 4 + fragment_len fragment
    size = omega (arith, len, i.1, end, w.place.size, length-append p.header w.body)

    same : header_part p ≡ p.header
    same = header_all p w.place.size whole

    body_is : drop 4 fragment ≡ w.body
    body_is = drop_at p.header w.body 4 w.place.size

    is : (more : List ℕ) → front (all ++ more) ≡ front_from (64 - p.done) w.have (fragment ++ (rest ++ more))
    is more = w.so_far more ∙ ap (λ (k : List ℕ). front_from (64 - p.done) w.have (k ++ w.body ++ rest ++ more)) same ∙ ap (λ (k : List ℕ). front_from (64 - p.done) w.have k) (simp append_assoc)

    all_len : (more : List ℕ) → fragment_len (fragment ++ more) ≡ fragment_len p.header
    all_len more = len_front fragment more (omega (arith, size)) ∙ len

    fits : (more : List ℕ) → 4 + fragment_len (fragment ++ more) ≤ length (fragment ++ more)
    fits more = omega (arith, all_len more, len, size, length-append fragment more)

    room : (more : List ℕ) → length w.have + fragment_len (fragment ++ more) ≤ record_max
    room more = omega (arith, all_len more, i.2, w.place.few)

    last : (more : List ℕ) → is_last (fragment ++ more) ≡ is_last p.header
    last more = last_front fragment more (omega (arith, size)) ∙ last_front p.header w.body four

    left : 64 - p.done ≡ (64 - (p.done + 1)) + 1
    left = omega (arith, i.0)

    takes : (more : List ℕ) → fragment_body (fragment ++ more) ≡ w.body
    takes more = body_of fragment more size ∙ body_is

    -- a fragment that isn't the last
    pub walk_finish : is_last p.header ≡ false → IsWalk (words ++ p.header ∷ []) (record p { done = p.done + 1; filled = 0 }) joined refused rest all
    walk_finish t =
        let place : IsPlace (record p { done = p.done + 1; filled = 0 }) (w.have ++ w.body) [] = record { size = w.place.size; most = omega (arith, i.0); few = w.place.few; filled = omega arith; in_header = λ _. (refl, omega (arith, i.1, i.2, end, length-append w.have w.body)); in_body = λ e. absurd (omega arith) } in
        let next : (more : List ℕ) → front (all ++ more) ≡ front_from (64 - (p.done + 1)) (w.have ++ w.body) ([] ++ [] ++ rest ++ more) = λ more.
        let bytes = rest ++ more in
        is more ∙ front_more (64 - p.done) (64 - (p.done + 1)) w.have (fragment ++ bytes) left (fits bytes) (room bytes) (last bytes ∙ t)
        ∙ ap (λ (k : List ℕ). front_from (64 - (p.done + 1)) (w.have ++ k) (bytes_behind (fragment ++ bytes))) (takes bytes)
        ∙ ap (λ (k : List ℕ). front_from (64 - (p.done + 1)) (w.have ++ w.body) k) (behind_of fragment bytes size) in
        record {
          have = w.have ++ w.body;
          body = [];
          place = place;
          so_far = next;
          kept = λ e.
              let k = w.kept e in
              let text : received (words ++ p.header ∷ []) [] joined ≡ received words (header_part p) joined = received_finish words p.header joined ∙ ap (λ (x : List ℕ). received words x joined) (sym same) in
              (k.0 ∙ sym (append-nil (w.have ++ w.body)), bytes_under_more words p.header ∙ omega (arith, k.1, i.1, end, length-append w.have w.body), ap (λ (x : List ℕ). x ++ rest) text ∙ k.2);
        }

    -- the last fragment
    pub walk_whole : is_last p.header ≡ true → front all ≡ Whole (w.have ++ w.body) rest
    walk_whole t =
        let bytes = rest ++ [] in
        ap front (sym (append-nil all)) ∙ is [] ∙ whole_last (64 - p.done) (64 - (p.done + 1)) w.have (fragment ++ bytes) left (fits bytes) (room bytes) (last bytes ∙ t)
        ∙ ap (λ (k : List ℕ). Whole (w.have ++ k) (bytes_behind (fragment ++ bytes))) (takes bytes)
        ∙ ap (λ (k : List ℕ). Whole (w.have ++ w.body) k) (behind_of fragment bytes size ∙ append-nil rest)

    pub walk_whole_kept : is_last p.header ≡ true → refused ≡ false → front all ≡ Whole joined rest
    walk_whole_kept t e = walk_whole t ∙ ap (λ (k : List ℕ). Whole k rest) (sym (w.kept e).0)

    pub walk_whole_sound : is_last p.header ≡ true → (fault : FrameFault) → front all ≢ Fault fault
    walk_whole_sound t fault e = let is = walk_whole t in cc

-- at the start of a record
pub walk_start : (words : List (List ℕ)) (p : Place) (joined : List ℕ) → words ≡ [] → length p.header ≡ 4 → p.done ≡ 0 → p.filled ≡ 0 → p.total ≡ 0 → joined ≡ [] → IsWalk words p joined false [] []
unfolding front
walk_start words p joined w size d f t j =
    let none : header_part p ≡ [] = ap (λ (k : ℕ). take k p.header) f in
    let place : IsPlace p [] [] = record { size = size; most = omega arith; few = omega arith; filled = omega arith; in_header = λ _. (refl, sym t); in_body = λ e. absurd (omega arith) } in
    record {
      have = [];
      body = [];
      place = place;
      so_far = λ more. rw (none, d) refl;
      kept = λ _. (j, ap bytes_under w, rw (w, none, j) refl);
    }

pub starts : (s : Present) → s.place.done ≡ 0 → s.place.filled ≡ 0 → s.place.lacks ≡ 0 → s.place.total ≡ 0 → length s.place.header ≡ 4 → s.joined.items ≡ [] → IsPresent s × (held_of s ≡ [])
starts s d f l t size j =
    let words : whole_headers s ≡ [] = ap (λ (k : ℕ). take k s.finished) d in
    let none : header_part s.place ≡ [] = ap (λ (k : ℕ). take k s.place.header) f in
    let held : held_of s ≡ [] = rw (words, none, j) refl in
    let walk = walk_start (whole_headers s) s.place s.joined.items words size d f t j in
    ((subst (λ (k : List ℕ). IsWalk (whole_headers s) s.place s.joined.items false [] k) (sym held) walk, λ e. absurd (omega arith)), held)

-- at the end of a piece
pub walk_open : (words : List (List ℕ)) (p : Place) (joined : List ℕ) (refused : Bool) (all : List ℕ) → IsWalk words p joined refused [] all → (p.filled ≡ 4 → 0 < p.lacks) → front all ≡ Open
walk_open words p joined refused all w lacks = go (cases_lt p.filled 4) where
  bytes : List ℕ
  bytes = header_part p ++ w.body ++ [] ++ []

  is : front all ≡ front_from (64 - p.done) w.have bytes
  is = ap front (sym (append-nil all)) ∙ w.so_far []

  count : length bytes ≡ p.filled + length w.body
  count = ap length (append-nil (header_part p ++ w.body ++ []) ∙ append-nil (header_part p ++ w.body)) ∙ length-append (header_part p) w.body ∙ ap (λ (k : ℕ). k + length w.body) (length-take-le p.filled p.header (omega (arith, w.place.size, w.place.filled)))

  go : (p.filled < 4) ⊎ (4 ≤ p.filled) → front all ≡ Open
  go (inl h) = is ∙ open_short (64 - p.done) w.have bytes (omega (arith, count, ap length (w.place.in_header h).0))
  go (inr h) =
      let whole : p.filled ≡ 4 = omega (arith, w.place.filled) in
      let i = w.place.in_body whole in
      let some = lacks whole in
      let same = header_all p w.place.size whole in
      let four : 4 ≤ length (header_part p) = rw same (omega (arith, w.place.size)) in
      let regroup : bytes ≡ header_part p ++ (w.body ++ ([] ++ [])) = simp append_assoc in
      let len : fragment_len bytes ≡ fragment_len p.header = ap fragment_len regroup ∙ len_front (header_part p) (w.body ++ ([] ++ [])) four ∙ ap fragment_len same in
      is ∙ open_cut (64 - p.done) (64 - p.done - 1) w.have bytes (omega (arith, i.0)) (omega (arith, count)) (omega (arith, len, i.2, w.place.few)) (omega (arith, len, count, i.1))
