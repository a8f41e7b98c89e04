-- A head and the data behind it are the text of the results.
use Rattle.std.proofs.Common.{◌≡◌, ℕ, ◌%◌, ◌^◌, ◌<◌, Bool, true, false, cond, ◌==◌, List, [], ◌∷◌, ◌++◌, length, replicate, refl, sym, ap, ◌∙◌, arith, append_assoc, append-nil}
use Rattle.xdr.specs.Items.{word, pad_len, fixed_text, opaque_text}
use Rattle.tickets.specs.declared.answer.Body.{Body}
use Rattle.tickets.specs.declared.answer.Body.TheVariants as body
use Rattle.xdr.specs.Rows.{Word, text}
use Rattle.nfs_wire.specs.Results.{Read, Refused, flag_item, results_row}
use Rattle.nfs_wire.specs.Heads.{body_results, body_data, head_row}

no_data : fixed_text [] ≡ []
unfolding fixed_text
no_data = refl

same_head : (x : List ℕ) → x ≡ x ++ fixed_text []
same_head x = sym (ap (λ (k : List ℕ). x ++ k) no_data ∙ append-nil x)

rest_small : (n : ℕ) → n < 2 ^ 32 → n % 2 ^ 32 ≡ n
rest_small n h = omega arith

opaque_parts : (x v : List ℕ) → x ++ opaque_text v ≡ (x ++ word (length v)) ++ fixed_text v
unfolding opaque_text fixed_text
opaque_parts x v =
    let z = replicate (pad_len (length v)) 0 in
    ap (λ (k : List ℕ). x ++ k) (append_assoc (word (length v)) v z) ∙ sym (append_assoc x (word (length v)) (v ++ z))

abbrev read_front : ℕ → Bool → List ℕ
read_front count eof = text (Word 0 ∷ Word 0 ∷ Word count ∷ flag_item eof ∷ [])

read_whole : (v : List ℕ) (eof : Bool) → length v < 2 ^ 32 → text (results_row (Read (length v) eof v)) ≡ text (Word 0 ∷ Word 0 ∷ Word (length v % 2 ^ 32) ∷ flag_item eof ∷ Word (length v % 2 ^ 32) ∷ []) ++ fixed_text v
read_whole v eof h = opaque_parts (read_front (length v) eof) v ∙ ap (λ (n : ℕ). (read_front n eof ++ word n) ++ fixed_text v) (sym (rest_small (length v) h))

pub head_whole : (b : Body) (verifier : ℕ) → length (body_data b) < 2 ^ 32 → text (results_row (body_results b verifier)) ≡ text (head_row b verifier) ++ fixed_text (body_data b)
head_whole (body.Write status count committed) verifier h = same_head (text (results_row (body_results (body.Write status count committed) verifier)))
head_whole (body.Commit status) verifier h = same_head (text (results_row (body_results (body.Commit status) verifier)))
head_whole (body.Read status eof bytes) verifier h = go (status == 0) h where
  go : (t : Bool) → length (cond t bytes.items []) < 2 ^ 32 → text (results_row (cond t (Read (length bytes.items) eof bytes.items) (Refused status 1))) ≡ text (cond t (Word 0 ∷ Word 0 ∷ Word (length bytes.items % 2 ^ 32) ∷ flag_item eof ∷ Word (length bytes.items % 2 ^ 32) ∷ []) (results_row (Refused status 1))) ++ fixed_text (cond t bytes.items [])
  go true k = read_whole bytes.items eof k
  go false k = same_head (text (results_row (Refused status 1)))
head_whole (body.Text t) verifier h = same_head []
head_whole body.SystemErr verifier h = same_head []
