-- `grammar_line` gives just the lines of the grammar.
use Rattle.std.proofs.Common.{◌≡◌, ℕ, ◌+◌, ◌==◌, ◌<◌, ◌^◌, ◌&&◌, eqb, nat_lt, nat_eq, not, Bool, true, false, cond, List, [], ◌∷◌, ◌++◌, length, take, drop, get_or, Option, Some, None, Result, Ok, Err, codes, position, decimal, bytes_eq, refl, sym, ◌∙◌, ap, subst, append_assoc, length-append, arith}
use Rattle.std.specs.List.{starts_with, position_or_len, prefix_len}
use Rattle.std.specs.Char.{digit_value}
use Rattle.std.specs.Str.Parse.{AllDigits}
use Rattle.std.proofs.lemmas.Fmt.{decimal_is_IsNumeral}
use Rattle.std.proofs.lemmas.List.{take-append-drop}
use Rattle.std.proofs.lemmas.List.Folds.{prefix_len-append}
use Rattle.std.proofs.lemmas.List.Quantifiers.{position-Some}
use Rattle.std.proofs.lemmas.Str.Parse.{digit_from_value}
use Rattle.std.proofs.Math.Seq.{take-append_seam, drop-append-add}
use Rattle.std.proofs.lemmas.Slice.Eq.{bytes_eq-Decides}
use Rattle.std.proofs.lemmas.Bool.Decides.{nat_tests}
use Rattle.std.proofs.lemmas.Grind.{common_steps}
use Rattle.hex.specs.Hex.{decode_of}
use Rattle.hex.specs.declared.error.FromHexError.{FromHexError}
use Rattle.transcript.specs.Fields.{number_of, some_bytes}
use Rattle.transcript.proofs.Numbers.{number_of-some, number_of-decimal}
use Rattle.replay.specs.Grammar.{LinesBefore, IsLine, IsName, is_name, is_hung_up, file_line, bytes_line, piece_line, turn_line, pump_line, sync_line, tick_line, hangup_line, grammar_line}
use Rattle.gateway.specs.declared.event.Event.TheVariants.{MakeFile, Bytes, Turn, Pump, Sync, Tick, HangUp}
use Rattle.replay.specs.declared.grammar.Line.{Line}
use Rattle.replay.specs.declared.grammar.Line.TheVariants.{Go, End}
use Rattle.replay.proofs.GrammarNames.{name_of_test, test_of_name}

-- from the grammar to the function

file_again : (before : LinesBefore) (name : List ℕ) → before.only_files ≡ true → IsName name → grammar_line before (codes "file " ++ name) ≡ Some (Go (MakeFile name))
unfolding grammar_line
file_again before name f n = rw (f, test_of_name name n) refl

digit_is_not_space : (c : ℕ) → digit_value c < 10 → (c == 32) ≡ false
digit_is_not_space c h = let r = digit_from_value c h in grind (arith, nat_tests)

digits_have_no_space : (digits : List ℕ) → AllDigits 10 digits → prefix_len (λ b. not (b == 32)) digits ≡ length digits
digits_have_no_space [] h = refl
digits_have_no_space (c ∷ cs) h =
    let e = digit_is_not_space c h.0 in
    let i = digits_have_no_space cs h.1 in
    rw e (omega (arith, i))

space_after : (digits hex : List ℕ) → AllDigits 10 digits → position (λ b. b == 32) (digits ++ 32 ∷ hex) ≡ Some (length digits)
space_after digits hex h =
    let n = digits_have_no_space digits h in
    let same : eqb (length digits) (length digits) ≡ true = grind (arith, nat_tests) in
    let at : position_or_len (λ b. b == 32) (digits ++ 32 ∷ hex) ≡ length digits = prefix_len-append (λ b. not (b == 32)) digits (32 ∷ hex) ∙ rw (n, same) (omega arith) in
    let inside : nat_lt (length digits) (length (digits ++ 32 ∷ hex)) ≡ true = rw (length-append digits (32 ∷ hex)) (grind (arith, nat_tests)) in
    rw (at, inside) refl

piece_again : (before : LinesBefore) (conn : ℕ) (bytes : List ℕ) (d : Result (List ℕ) FromHexError) → is_hung_up conn before ≡ false → d ≡ Ok bytes → 0 < length bytes
    → piece_line before (Some conn) (some_bytes d) ≡ Some (Go (Bytes conn bytes))
piece_again before conn [] d u e h = absurd (omega arith)
piece_again before conn (b ∷ bytes) d u e h = ap (λ x. piece_line before (Some conn) (some_bytes x)) e ∙ rw u refl

after_digits : (digits hex : List ℕ) → drop (length digits + 1) (digits ++ 32 ∷ hex) ≡ hex
after_digits digits hex = drop-append-add digits (32 ∷ hex) 1

bytes_again : (before : LinesBefore) (conn : ℕ) (hex bytes : List ℕ) → conn < 2 ^ 32 → is_hung_up conn before ≡ false → decode_of hex ≡ Ok bytes → 0 < length bytes
    → bytes_line before (decimal conn ++ 32 ∷ hex) (position (λ b. b == 32) (decimal conn ++ 32 ∷ hex)) ≡ Some (Go (Bytes conn bytes))
bytes_again before conn hex bytes c u d h =
    let wide : conn < 2 ^ 64 = omega arith in
    let digits = decimal conn in
    let at = space_after digits hex (decimal_is_IsNumeral conn wide).0.1 in
    let front : take (length digits) (digits ++ 32 ∷ hex) ≡ digits = take-append_seam digits (32 ∷ hex) in
    rw (at, front, after_digits digits hex, number_of-decimal 32 conn wide c) (piece_again before conn bytes (decode_of hex) u d h)

bytes_word : (before : LinesBefore) (rest : List ℕ) → grammar_line before (codes "bytes " ++ rest) ≡ bytes_line before rest (position (λ b. b == 32) rest)
unfolding grammar_line
bytes_word before rest = refl

turn_word : (before : LinesBefore) (rest : List ℕ) → grammar_line before (codes "turn " ++ rest) ≡ turn_line (number_of 64 rest)
unfolding grammar_line
turn_word before rest = refl

pump_word : (before : LinesBefore) (rest : List ℕ) → grammar_line before (codes "pump " ++ rest) ≡ pump_line (number_of 64 rest)
unfolding grammar_line
pump_word before rest = refl

sync_word : (before : LinesBefore) (rest : List ℕ) → grammar_line before (codes "sync " ++ rest) ≡ sync_line (number_of 64 rest)
unfolding grammar_line
sync_word before rest = refl

tick_word : (before : LinesBefore) (rest : List ℕ) → grammar_line before (codes "tick " ++ rest) ≡ tick_line (number_of 32 rest)
unfolding grammar_line
tick_word before rest = refl

hangup_word : (before : LinesBefore) (rest : List ℕ) → grammar_line before (codes "hangup " ++ rest) ≡ hangup_line before (number_of 32 rest)
unfolding grammar_line
hangup_word before rest = refl

tick_again : (milliseconds : ℕ) → milliseconds < 2 ^ 32 → tick_line (number_of 32 (decimal milliseconds)) ≡ Some (Go (Tick milliseconds))
tick_again milliseconds c =
    let wide : milliseconds < 2 ^ 64 = omega arith in
    rw (number_of-decimal 32 milliseconds wide c) refl

hangup_again : (before : LinesBefore) (conn : ℕ) → conn < 2 ^ 32 → is_hung_up conn before ≡ false → hangup_line before (number_of 32 (decimal conn)) ≡ Some (Go (HangUp conn))
hangup_again before conn c u =
    let wide : conn < 2 ^ 64 = omega arith in
    rw (number_of-decimal 32 conn wide c, u) refl

end_again : (before : LinesBefore) → grammar_line before (codes "end") ≡ Some End
unfolding grammar_line
end_again before = refl

pub spelled : (before : LinesBefore) (text : List ℕ) (line : Line) → IsLine before text line → grammar_line before text ≡ Some line
spelled before text (Go (MakeFile name)) s = ap (grammar_line before) s.1 ∙ file_again before name s.0 s.2
spelled before text (Go (Bytes conn bytes)) s =
    let whole : text ≡ codes "bytes " ++ (decimal conn ++ 32 ∷ s.0) = s.1 ∙ append_assoc (codes "bytes ") (decimal conn) (32 ∷ s.0) in
    ap (grammar_line before) whole ∙ (bytes_word before (decimal conn ++ 32 ∷ s.0) ∙ bytes_again before conn s.0 bytes s.2 s.3 s.4 s.5)
spelled before text (Go (Turn file)) s = ap (grammar_line before) s.0 ∙ turn_word before (decimal file) ∙ ap turn_line (number_of-decimal 64 file s.1 s.1)
spelled before text (Go (Pump file)) s = ap (grammar_line before) s.0 ∙ pump_word before (decimal file) ∙ ap pump_line (number_of-decimal 64 file s.1 s.1)
spelled before text (Go (Sync file)) s = ap (grammar_line before) s.0 ∙ sync_word before (decimal file) ∙ ap sync_line (number_of-decimal 64 file s.1 s.1)
spelled before text (Go (Tick milliseconds)) s = ap (grammar_line before) s.0 ∙ tick_word before (decimal milliseconds) ∙ tick_again milliseconds s.1
spelled before text (Go (HangUp conn)) s = ap (grammar_line before) s.0 ∙ hangup_word before (decimal conn) ∙ hangup_again before conn s.1 s.2
spelled before text End s = ap (grammar_line before) s ∙ end_again before

-- and back

word_front : (word text : List ℕ) → starts_with nat_eq text word ≡ true → text ≡ word ++ drop (length word) text
word_front word text h =
    let e = (bytes_eq-Decides word (take (length word) text)).0 h in
    sym (take-append-drop (length word) text) ∙ ap (λ x. x ++ drop (length word) text) (sym e)

both_true : (a b : Bool) (is line : Line) → cond (a && b) (Some is) None ≡ Some line → (a ≡ true) × (b ≡ true) × (line ≡ is)
both_true true true is line e = (refl, refl, cc)
both_true true false is line e = cc
both_true false b is line e = cc

unless_true : (b : Bool) (is line : Line) → cond b None (Some is) ≡ Some line → (b ≡ false) × (line ≡ is)
unless_true true is line e = cc
unless_true false is line e = (refl, cc)

file_back : (before : LinesBefore) (text : List ℕ) (line : Line) → text ≡ codes "file " ++ drop 5 text → file_line before (drop 5 text) ≡ Some line → IsLine before text line
file_back before text line w e =
    let name = drop 5 text in
    let g = both_true before.only_files (is_name name) (Go (MakeFile name)) line e in
    subst (IsLine before text) (sym g.2) (g.0, w, name_of_test name g.1)

hangup_back : (before : LinesBefore) (text rest : List ℕ) (n : Option ℕ) (line : Line) → text ≡ codes "hangup " ++ rest → number_of 32 rest ≡ n → hangup_line before n ≡ Some line → IsLine before text line
hangup_back before text rest None line w e h = cc
hangup_back before text rest (Some conn) line w e h =
    let p = number_of-some 32 rest conn e in
    let g = unless_true (is_hung_up conn before) (Go (HangUp conn)) line h in
    subst (IsLine before text) (sym g.1) (w ∙ ap (λ x. codes "hangup " ++ x) p.0, p.1, g.0)

turn_back : (before : LinesBefore) (text rest : List ℕ) (n : Option ℕ) (line : Line) → text ≡ codes "turn " ++ rest → number_of 64 rest ≡ n → turn_line n ≡ Some line → IsLine before text line
turn_back before text rest None line w e h = cc
turn_back before text rest (Some file) line w e h =
    let p = number_of-some 64 rest file e in
    let is : line ≡ Go (Turn file) = cc in
    subst (IsLine before text) (sym is) (w ∙ ap (λ x. codes "turn " ++ x) p.0, p.1)

pump_back : (before : LinesBefore) (text rest : List ℕ) (n : Option ℕ) (line : Line) → text ≡ codes "pump " ++ rest → number_of 64 rest ≡ n → pump_line n ≡ Some line → IsLine before text line
pump_back before text rest None line w e h = cc
pump_back before text rest (Some file) line w e h =
    let p = number_of-some 64 rest file e in
    let is : line ≡ Go (Pump file) = cc in
    subst (IsLine before text) (sym is) (w ∙ ap (λ x. codes "pump " ++ x) p.0, p.1)

sync_back : (before : LinesBefore) (text rest : List ℕ) (n : Option ℕ) (line : Line) → text ≡ codes "sync " ++ rest → number_of 64 rest ≡ n → sync_line n ≡ Some line → IsLine before text line
sync_back before text rest None line w e h = cc
sync_back before text rest (Some file) line w e h =
    let p = number_of-some 64 rest file e in
    let is : line ≡ Go (Sync file) = cc in
    subst (IsLine before text) (sym is) (w ∙ ap (λ x. codes "sync " ++ x) p.0, p.1)

tick_back : (before : LinesBefore) (text rest : List ℕ) (n : Option ℕ) (line : Line) → text ≡ codes "tick " ++ rest → number_of 32 rest ≡ n → tick_line n ≡ Some line → IsLine before text line
tick_back before text rest None line w e h = cc
tick_back before text rest (Some milliseconds) line w e h =
    let p = number_of-some 32 rest milliseconds e in
    let is : line ≡ Go (Tick milliseconds) = cc in
    subst (IsLine before text) (sym is) (w ∙ ap (λ x. codes "tick " ++ x) p.0, p.1)

abbrev IsPiece : LinesBefore → List ℕ → Line → Type 0
IsPiece before rest (Go (Bytes conn bytes)) =
    (hex : List ℕ) × (rest ≡ decimal conn ++ 32 ∷ hex) × (conn < 2 ^ 32) × (is_hung_up conn before ≡ false) × (decode_of hex ≡ Ok bytes) × (0 < length bytes)
IsPiece before rest _ = ⊥

fields_back : (before : LinesBefore) (rest front hex : List ℕ) (n : Option ℕ) (d : Result (List ℕ) FromHexError) (line : Line) → rest ≡ front ++ 32 ∷ hex → number_of 32 front ≡ n → decode_of hex ≡ d
    → piece_line before n (some_bytes d) ≡ Some line → IsPiece before rest line
fields_back before rest front hex None d line r e f h = cc
fields_back before rest front hex (Some conn) (Err x) line r e f h = cc
fields_back before rest front hex (Some conn) (Ok []) line r e f h = cc
fields_back before rest front hex (Some conn) (Ok (b ∷ bytes)) line r e f h =
    let p = number_of-some 32 front conn e in
    let g = unless_true (is_hung_up conn before) (Go (Bytes conn (b ∷ bytes))) line h in
    subst (IsPiece before rest) (sym g.1) (hex, r ∙ ap (λ x. x ++ 32 ∷ hex) p.0, p.1, g.0, f, omega arith)

bytes_back : (before : LinesBefore) (rest : List ℕ) (at : Option ℕ) (line : Line) → position (λ b. b == 32) rest ≡ at → bytes_line before rest at ≡ Some line → IsPiece before rest line
bytes_back before rest None line e h = cc
bytes_back before rest (Some i) line e h =
    let p = position-Some (λ b. b == 32) rest i 0 e in
    let space : get_or rest i 0 ≡ 32 = grind (arith, nat_tests, p.1) in
    let cut : rest ≡ take i rest ++ 32 ∷ drop (i + 1) rest = grind (arith, common_steps) in
    fields_back before rest (take i rest) (drop (i + 1) rest) (number_of 32 (take i rest)) (decode_of (drop (i + 1) rest)) line cut refl refl h

bytes_whole : (before : LinesBefore) (text : List ℕ) (line : Line) → text ≡ codes "bytes " ++ drop 6 text → IsPiece before (drop 6 text) line → IsLine before text line
bytes_whole before text (Go (Bytes conn bytes)) w p = (p.0, w ∙ (ap (λ x. codes "bytes " ++ x) p.1 ∙ sym (append_assoc (codes "bytes ") (decimal conn) (32 ∷ p.0))), p.2, p.3, p.4, p.5)
bytes_whole before text (Go (MakeFile name)) w p = absurd p
bytes_whole before text (Go (Turn file)) w p = absurd p
bytes_whole before text (Go (Pump file)) w p = absurd p
bytes_whole before text (Go (Sync file)) w p = absurd p
bytes_whole before text (Go (Tick milliseconds)) w p = absurd p
bytes_whole before text (Go (HangUp conn)) w p = absurd p
bytes_whole before text End w p = absurd p

-- what stands in each branch, from the last test to the first

abbrev from_end : LinesBefore → List ℕ → Option Line
from_end before text = cond (bytes_eq text (codes "end")) (Some End) None

abbrev from_hangup : LinesBefore → List ℕ → Option Line
from_hangup before text = cond (starts_with nat_eq text (codes "hangup ")) (hangup_line before (number_of 32 (drop 7 text))) (from_end before text)

abbrev from_file : LinesBefore → List ℕ → Option Line
from_file before text = cond (starts_with nat_eq text (codes "file ")) (file_line before (drop 5 text)) (from_hangup before text)

abbrev from_tick : LinesBefore → List ℕ → Option Line
from_tick before text = cond (starts_with nat_eq text (codes "tick ")) (tick_line (number_of 32 (drop 5 text))) (from_file before text)

abbrev from_sync : LinesBefore → List ℕ → Option Line
from_sync before text = cond (starts_with nat_eq text (codes "sync ")) (sync_line (number_of 64 (drop 5 text))) (from_tick before text)

abbrev from_pump : LinesBefore → List ℕ → Option Line
from_pump before text = cond (starts_with nat_eq text (codes "pump ")) (pump_line (number_of 64 (drop 5 text))) (from_sync before text)

abbrev from_turn : LinesBefore → List ℕ → Option Line
from_turn before text = cond (starts_with nat_eq text (codes "turn ")) (turn_line (number_of 64 (drop 5 text))) (from_pump before text)

on_end : (before : LinesBefore) (text : List ℕ) (line : Line) (b : Bool) → bytes_eq text (codes "end") ≡ b → cond b (Some End) None ≡ Some line → IsLine before text line
on_end before text line true t f = let is : line ≡ End = cc in subst (IsLine before text) (sym is) ((bytes_eq-Decides text (codes "end")).0 t)
on_end before text line false t f = cc

on_hangup : (before : LinesBefore) (text : List ℕ) (line : Line) (b : Bool) → starts_with nat_eq text (codes "hangup ") ≡ b
    → cond b (hangup_line before (number_of 32 (drop 7 text))) (from_end before text) ≡ Some line → IsLine before text line
on_hangup before text line true t f = hangup_back before text (drop 7 text) (number_of 32 (drop 7 text)) line (word_front (codes "hangup ") text t) refl f
on_hangup before text line false t f = on_end before text line (bytes_eq text (codes "end")) refl f

on_file : (before : LinesBefore) (text : List ℕ) (line : Line) (b : Bool) → starts_with nat_eq text (codes "file ") ≡ b
    → cond b (file_line before (drop 5 text)) (from_hangup before text) ≡ Some line → IsLine before text line
on_file before text line true t f = file_back before text line (word_front (codes "file ") text t) f
on_file before text line false t f = on_hangup before text line (starts_with nat_eq text (codes "hangup ")) refl f

on_tick : (before : LinesBefore) (text : List ℕ) (line : Line) (b : Bool) → starts_with nat_eq text (codes "tick ") ≡ b
    → cond b (tick_line (number_of 32 (drop 5 text))) (from_file before text) ≡ Some line → IsLine before text line
on_tick before text line true t f = tick_back before text (drop 5 text) (number_of 32 (drop 5 text)) line (word_front (codes "tick ") text t) refl f
on_tick before text line false t f = on_file before text line (starts_with nat_eq text (codes "file ")) refl f

on_sync : (before : LinesBefore) (text : List ℕ) (line : Line) (b : Bool) → starts_with nat_eq text (codes "sync ") ≡ b
    → cond b (sync_line (number_of 64 (drop 5 text))) (from_tick before text) ≡ Some line → IsLine before text line
on_sync before text line true t f = sync_back before text (drop 5 text) (number_of 64 (drop 5 text)) line (word_front (codes "sync ") text t) refl f
on_sync before text line false t f = on_tick before text line (starts_with nat_eq text (codes "tick ")) refl f

on_pump : (before : LinesBefore) (text : List ℕ) (line : Line) (b : Bool) → starts_with nat_eq text (codes "pump ") ≡ b
    → cond b (pump_line (number_of 64 (drop 5 text))) (from_sync before text) ≡ Some line → IsLine before text line
on_pump before text line true t f = pump_back before text (drop 5 text) (number_of 64 (drop 5 text)) line (word_front (codes "pump ") text t) refl f
on_pump before text line false t f = on_sync before text line (starts_with nat_eq text (codes "sync ")) refl f

on_turn : (before : LinesBefore) (text : List ℕ) (line : Line) (b : Bool) → starts_with nat_eq text (codes "turn ") ≡ b
    → cond b (turn_line (number_of 64 (drop 5 text))) (from_pump before text) ≡ Some line → IsLine before text line
on_turn before text line true t f = turn_back before text (drop 5 text) (number_of 64 (drop 5 text)) line (word_front (codes "turn ") text t) refl f
on_turn before text line false t f = on_pump before text line (starts_with nat_eq text (codes "pump ")) refl f

on_bytes : (before : LinesBefore) (text : List ℕ) (line : Line) (b : Bool) → starts_with nat_eq text (codes "bytes ") ≡ b
    → cond b (bytes_line before (drop 6 text) (position (λ b. b == 32) (drop 6 text))) (from_turn before text) ≡ Some line → IsLine before text line
on_bytes before text line true t f =
    bytes_whole before text line (word_front (codes "bytes ") text t) (bytes_back before (drop 6 text) (position (λ b. b == 32) (drop 6 text)) line refl f)
on_bytes before text line false t f = on_turn before text line (starts_with nat_eq text (codes "turn ")) refl f

pub read_as : (before : LinesBefore) (text : List ℕ) (line : Line) → grammar_line before text ≡ Some line → IsLine before text line
unfolding grammar_line
read_as before text line e = on_bytes before text line (starts_with nat_eq text (codes "bytes ")) refl e
