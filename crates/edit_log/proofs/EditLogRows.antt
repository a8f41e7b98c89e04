-- Worked rows: the text of an edit, what logs hold, and starts over a store that lists these objects, computed by the definitions.
use Rattle.std.proofs.Common.{◌≡◌, ℕ, ◌-◌, ◌^◌, List, [], ◌∷◌, ◌++◌, Err, None, refl}
use Rattle.xdr.specs.Items.{word, long, opaque_text}
use Rattle.gw_model.specs.declared.object.KeptObject.{KeptObject}
use Rattle.gw_model.specs.declared.object.ObjectId.{ObjectId}
use Rattle.gw_model.specs.declared.object.ObjectId.TheVariants.{Log, Body}
use Rattle.append_store.specs.State.{ObjectState, Kept}
use Rattle.name_tree.specs.declared.edit.Edit.{Edit}
use Rattle.name_tree.specs.declared.edit.Edit.TheVariants.{Make}
use Rattle.name_tree.specs.Tree.{tree_after}
use Rattle.edit_log.specs.Edits.{Logged, Edits, DamagedAt, bytes_at, word_at, long_at, count_at, padded_at, name_bytes_at, name_at, path_at, kind_at, make_at, remove_at, rename_at, set_at, edit_of, edit_text, edits_from, edits_of, header, size_ahead}
use Rattle.edit_log.specs.Start.{Damaged, LastGeneration, MissingBody, start_result}

abbrev words : List ℕ → List ℕ
words [] = []
words (w ∷ ws) = word w ++ words ws

-- a file `n` in the root, of mode 0644
abbrev make_n : Edit
make_n = Make 3 4 1 420 0 0 (110 ∷ []) [] None None None

-- 48 bytes: 1, the parent, the id, the type, mode, uid, gid, the name with its length, no path
abbrev make_n_text : List ℕ
make_n_text = words (48 ∷ 1 ∷ 0 ∷ 3 ∷ 0 ∷ 4 ∷ 1 ∷ 420 ∷ 0 ∷ 0 ∷ 1 ∷ 1845493760 ∷ 0 ∷ [])

make_edit_text : edit_text make_n ≡ make_n_text
unfolding word long opaque_text edit_text
make_edit_text = refl

-- a log with these bytes behind its header holds this
abbrev Holds : List ℕ → Logged → Type 0
unfolding word bytes_at word_at long_at count_at padded_at name_bytes_at name_at path_at kind_at make_at remove_at rename_at set_at edit_of edits_from edits_of size_ahead
Holds bytes held = edits_of (header ++ bytes) ≡ held

reads_make : Holds make_n_text (Edits (make_n ∷ []))
unfolding Holds
reads_make = refl

-- the end of a log: three bytes of a length, and a length that no edit has
cut_length : Holds (255 ∷ 255 ∷ 255 ∷ []) (Edits [])
unfolding Holds
cut_length = refl

length_of_three : Holds (words (3 ∷ [])) (DamagedAt 8)
unfolding Holds
length_of_three = refl

length_of_4097 : Holds (words (4097 ∷ [])) (DamagedAt 8)
unfolding Holds
length_of_4097 = refl

-- a type that is cut isn't judged, and a whole one is
cut_type : Holds (words (48 ∷ 1 ∷ 0 ∷ 3 ∷ 0 ∷ 4 ∷ []) ++ 9 ∷ []) (Edits [])
unfolding Holds
cut_type = refl

type_of_nine : Holds (words (48 ∷ 1 ∷ 0 ∷ 3 ∷ 0 ∷ 4 ∷ 9 ∷ [])) (DamagedAt 8)
unfolding Holds
type_of_nine = refl

-- a name of two bytes that is cut behind the first one, an `n` or a `/`
cut_name : Holds (words (48 ∷ 1 ∷ 0 ∷ 3 ∷ 0 ∷ 4 ∷ 1 ∷ 420 ∷ 0 ∷ 0 ∷ 2 ∷ []) ++ 110 ∷ []) (Edits [])
unfolding Holds
cut_name = refl

cut_name_with_slash : Holds (words (48 ∷ 1 ∷ 0 ∷ 3 ∷ 0 ∷ 4 ∷ 1 ∷ 420 ∷ 0 ∷ 0 ∷ 2 ∷ []) ++ 47 ∷ []) (DamagedAt 8)
unfolding Holds
cut_name_with_slash = refl

-- padding of three bytes that is cut behind the first one, 0 or 1
cut_padding : Holds (words (48 ∷ 1 ∷ 0 ∷ 3 ∷ 0 ∷ 4 ∷ 1 ∷ 420 ∷ 0 ∷ 0 ∷ 1 ∷ []) ++ 110 ∷ 0 ∷ []) (Edits [])
unfolding Holds
cut_padding = refl

cut_padding_of_one : Holds (words (48 ∷ 1 ∷ 0 ∷ 3 ∷ 0 ∷ 4 ∷ 1 ∷ 420 ∷ 0 ∷ 0 ∷ 1 ∷ []) ++ 110 ∷ 1 ∷ []) (DamagedAt 8)
unfolding Holds
cut_padding_of_one = refl

-- damage behind an edit stands where the next one begins
second_damaged : Holds (make_n_text ++ words (1 ∷ [])) (DamagedAt 60)
unfolding Holds
second_damaged = refl

-- starts

abbrev kept_log : ℕ → KeptObject
kept_log generation = record { object = Log generation; length = 60 }

abbrev kept_body : ℕ → KeptObject
kept_body file = record { object = Body file 1; length = 2 }

-- all logs have these bytes behind their header
abbrev logs_with : List ℕ → ObjectId → ObjectState
logs_with bytes (Log generation) = Kept (header ++ bytes) 60
logs_with bytes (Body file version) = Kept (97 ∷ 98 ∷ []) 2

damaged_log_at_eight : start_result (logs_with (words (1 ∷ []))) (kept_log 1 ∷ []) ≡ Err (Damaged 1 8)
unfolding Holds start_result tree_after
damaged_log_at_eight = refl

missing_body : start_result (logs_with make_n_text) (kept_log 1 ∷ []) ≡ Err (MissingBody 4)
unfolding Holds start_result tree_after
missing_body = refl

-- the order of the refusals, at the last generation
damaged_before_missing : start_result (logs_with (make_n_text ++ words (1 ∷ []))) (kept_log (2 ^ 64 - 1) ∷ []) ≡ Err (Damaged (2 ^ 64 - 1) 60)
unfolding Holds start_result tree_after
damaged_before_missing = refl

missing_before_last : start_result (logs_with make_n_text) (kept_log (2 ^ 64 - 1) ∷ []) ≡ Err (MissingBody 4)
unfolding Holds start_result tree_after
missing_before_last = refl

last_generation : start_result (logs_with make_n_text) (kept_log (2 ^ 64 - 1) ∷ kept_body 4 ∷ []) ≡ Err LastGeneration
unfolding Holds start_result tree_after
last_generation = refl
