-- How a script begins, by what its bytes begin with.
use Rattle.std.proofs.Common.{◌≡◌, ℕ, ◌+◌, ◌<◌, ◌≤◌, true, false, List, [], ◌∷◌, ◌++◌, length, refl, ◌∙◌, ap, append_assoc, length-append, arith}
use Rattle.std.specs.List.{onto_first}
use Rattle.std.proofs.lemmas.List.Splits.{slice_split_at, slice_split_none, slice_split-cons_no, length-slice_split}
use Rattle.std.proofs.lemmas.List.Elements.{All-head, All-tail}
use Rattle.std.proofs.lemmas.Bool.Decides.{nat_tests}
use Rattle.transcript.specs.Script.{LineReading, parts, is_feed, script_of, script_from, may_be_line, max_line, max_lines, line_then, empty_script, AtBad, AtOpen, HasNoFeed, BeginsTooLong, IsPart, TakesLine}

cons_of : (xs : List (List ℕ)) → 0 < length xs → (p : List ℕ) × (ps : List (List ℕ)) × (xs ≡ p ∷ ps)
cons_of [] h = absurd (omega arith)
cons_of (p ∷ ps) h = (p, ps, refl)

parts_some : (bytes : List ℕ) → 0 < length (parts bytes)
unfolding parts
parts_some bytes = omega (arith, length-slice_split is_feed bytes)

parts_line : (line rest : List ℕ) → HasNoFeed line → parts (line ++ 10 ∷ rest) ≡ line ∷ parts rest
unfolding parts
parts_line line rest h = slice_split_at is_feed line 10 rest h refl

parts_only : (bytes : List ℕ) → HasNoFeed bytes → parts bytes ≡ bytes ∷ []
unfolding parts
parts_only bytes h = slice_split_none is_feed bytes h

-- bytes without a line feed stand at the front of the first part
parts_front : (line rest : List ℕ) → HasNoFeed line → (p : List ℕ) × (ps : List (List ℕ)) × (parts (line ++ rest) ≡ (line ++ p) ∷ ps)
unfolding parts
parts_front [] rest h = cons_of (parts rest) (parts_some rest)
parts_front (c ∷ cs) rest h =
    let t = parts_front cs rest (All-tail (λ b. is_feed b ≡ false) c cs h) in
    (t.0, t.1, slice_split-cons_no is_feed c (cs ++ rest) (All-head (λ b. is_feed b ≡ false) c cs h) ∙ ap (onto_first c) t.2)

may_be : (before : ℕ) (line : List ℕ) → before < max_lines → length line ≤ max_line → may_be_line before line ≡ true
may_be before line h l = grind (arith, nat_tests)

may_not_long : (before : ℕ) (line : List ℕ) → max_line < length line → may_be_line before line ≡ false
may_not_long before line l = grind (arith, nat_tests)

may_not_late : (before : ℕ) (line : List ℕ) → max_lines ≤ before → may_be_line before line ≡ false
may_not_late before line l = grind (arith, nat_tests)

first_line : {G E : Type 0} (read : G → List ℕ → LineReading G E) (grammar : G) (before : ℕ) (line : List ℕ) (later : List (List ℕ)) → 0 < length later → may_be_line before line ≡ true
    → script_of read grammar before (line ∷ later) ≡ line_then (read grammar line) (λ after. script_of read after (before + 1) later)
unfolding script_of
first_line read grammar before line [] h m = absurd (omega arith)
first_line read grammar before line (p ∷ ps) h m = rw m refl

bad_line : {G E : Type 0} (read : G → List ℕ → LineReading G E) (grammar : G) (before : ℕ) (line : List ℕ) (later : List (List ℕ)) → may_be_line before line ≡ false
    → script_of read grammar before (line ∷ later) ≡ empty_script AtBad
unfolding script_of
bad_line read grammar before line [] m = rw m refl
bad_line read grammar before line (p ∷ ps) m = rw m refl

open_part : {G E : Type 0} (read : G → List ℕ → LineReading G E) (grammar : G) (before : ℕ) (line : List ℕ) → may_be_line before line ≡ true
    → script_of read grammar before (line ∷ []) ≡ empty_script AtOpen
unfolding script_of
open_part read grammar before line m = rw m refl

-- a script begins with its first line
pub script_line : {G E : Type 0} (read : G → List ℕ → LineReading G E) (grammar : G) (before : ℕ) (line rest : List ℕ) → before < max_lines → IsPart line
    → script_from read grammar before (line ++ 10 ∷ rest) ≡ line_then (read grammar line) (λ later. script_from read later (before + 1) rest)
script_line read grammar before line rest h part =
    ap (script_of read grammar before) (parts_line line rest part.no_feed)
    ∙ first_line read grammar before line (parts rest) (parts_some rest) (may_be before line h part.short)

-- the same of a line that was taken off the bytes, whatever comes after them
pub script_takes : {G E : Type 0} (read : G → List ℕ → LineReading G E) (grammar : G) (before : ℕ) (line old new more : List ℕ) → before < max_lines → TakesLine line old new
    → script_from read grammar before (old ++ more) ≡ line_then (read grammar line) (λ later. script_from read later (before + 1) (new ++ more))
script_takes read grammar before line old new more h taken =
    let whole : old ++ more ≡ line ++ 10 ∷ (new ++ more) = ap (λ x. x ++ more) taken.whole ∙ append_assoc line (10 ∷ new) more in
    ap (script_from read grammar before) whole ∙ script_line read grammar before line (new ++ more) h taken.part

-- bytes that begin too long are bad, whatever comes after them
pub script_long : {G E : Type 0} (read : G → List ℕ → LineReading G E) (grammar : G) (before : ℕ) (bytes more : List ℕ) → BeginsTooLong bytes
    → script_from read grammar before (bytes ++ more) ≡ empty_script AtBad
script_long read grammar before bytes more b =
    let line = b.0 in
    let f = parts_front line (b.1 ++ more) b.3 in
    let whole : bytes ++ more ≡ line ++ (b.1 ++ more) = ap (λ x. x ++ more) b.2 ∙ append_assoc line b.1 more in
    ap (script_from read grammar before) whole ∙ ap (script_of read grammar before) f.2
    ∙ bad_line read grammar before (line ++ f.0) f.1 (may_not_long before (line ++ f.0) (omega (arith, length-append line f.0, b.4)))

-- what comes after as many lines as there may be is bad, whatever it is
pub script_late : {G E : Type 0} (read : G → List ℕ → LineReading G E) (grammar : G) (before : ℕ) (bytes : List ℕ) → max_lines ≤ before
    → script_from read grammar before bytes ≡ empty_script AtBad
script_late read grammar before bytes h =
    let f = cons_of (parts bytes) (parts_some bytes) in
    ap (script_of read grammar before) f.2 ∙ bad_line read grammar before f.0 f.1 (may_not_late before f.0 h)

-- the bytes end before a line does
pub script_open : {G E : Type 0} (read : G → List ℕ → LineReading G E) (grammar : G) (before : ℕ) (bytes : List ℕ) → before < max_lines → IsPart bytes
    → script_from read grammar before bytes ≡ empty_script AtOpen
script_open read grammar before bytes h part =
    ap (script_of read grammar before) (parts_only bytes part.no_feed) ∙ open_part read grammar before bytes (may_be before bytes h part.short)
