-- The text of edits, version 1, and what the bytes of a log hold. A log is a header and then edits; an edit is its length, a
-- word, and 4 to 4,096 bytes of items (RFC 4506).
use Rattle.std.specs.Prelude.{◌≡◌, ◌⊎◌, ◌≤◌, ◌<◌, ◌^◌, ℕ, zero, suc, ◌+◌, ◌-◌, Bool, true, false, ◌&&◌, ◌||◌, not, List, [], ◌∷◌, ◌++◌, length, take, drop, None, Result, Ok, Err, nat_lt, ◌==◌, if◌then◌else◌, codes}
use Rattle.std.specs.Str.{bytes_eq}
use Rattle.std.specs.List.{list_any}
use Rattle.std.specs.Int.{w32, w64, from_be_bytes}
use Rattle.xdr.specs.Items.{word, pad_len}
use Rattle.xdr.specs.Rows.{Item, Word, Long, Opaque, text}
use Rattle.xdr.specs.Forms.{◌>>=◌}
use Rattle.name_tree.specs.declared.edit.Edit.{Edit}
use Rattle.name_tree.specs.declared.edit.Edit.TheVariants.{Make, Remove, Rename, Set}
use Rattle.edit_log.specs.declared.gauge.Cut.{Cut}
use Rattle.edit_log.specs.declared.gauge.Cut.TheVariants.{Torn, Bad}

-- writing

abbrev pub edit_row : Edit → List Item
edit_row (Make parent id kind mode uid gid name path atime mtime verifier) =
    Word 1 ∷ Long parent ∷ Long id ∷ Word kind ∷ Word mode ∷ Word uid ∷ Word gid ∷ Opaque 255 name ∷ Opaque 1024 path ∷ []
edit_row (Remove parent name) = Word 2 ∷ Long parent ∷ Opaque 255 name ∷ []
edit_row (Rename parent name to_parent to_name) = Word 3 ∷ Long parent ∷ Opaque 255 name ∷ Long to_parent ∷ Opaque 255 to_name ∷ []
edit_row (Set id mode uid gid atime mtime) = Word 4 ∷ Long id ∷ Word mode ∷ Word uid ∷ Word gid ∷ []

-- the length of the items, and the items
unfoldable pub edit_text : Edit → List ℕ
edit_text e = word (length (text (edit_row e))) ++ text (edit_row e)

-- the texts of edits, one behind the other
abbrev pub edit_texts : List Edit → List ℕ
edit_texts [] = []
edit_texts (e ∷ es) = edit_text e ++ edit_texts es

-- the header of a log of version 1
abbrev pub header : List ℕ
header = codes "NFSEDIT1"

-- An edit whose items may be cut: how many bytes of it are still to come, and those of them that are there. An item that the
-- edit has no bytes for is bad. A number that is cut is torn. Of a name, a path or padding that is cut, the bytes that are
-- there are judged before it is torn.
pub record Gauge : Type 0 where
  pub room : ℕ
  pub left : List ℕ

abbrev pub Taking : Type 0 → Type 0
Taking A = Result (A × Gauge) Cut

unfoldable pub bytes_at : ℕ → Gauge → Taking (List ℕ)
bytes_at n g =
    if nat_lt g.room n then Err Bad
    else if nat_lt (length g.left) n then Err Torn
    else Ok (take n g.left, record { room = g.room - n; left = drop n g.left })

unfoldable pub word_at : Gauge → Taking ℕ
word_at g = do
  x ← bytes_at 4 g
  Ok (from_be_bytes w32 x.0, x.1)

unfoldable pub long_at : Gauge → Taking ℕ
long_at g = do
  x ← bytes_at 8 g
  Ok (from_be_bytes w64 x.0, x.1)

abbrev pub all_zero : List ℕ → Bool
all_zero [] = true
all_zero (b ∷ bytes) = (b == 0) && all_zero bytes

-- what is there of the padding behind n bytes
abbrev pub padding_ahead : ℕ → List ℕ → List ℕ
padding_ahead n bytes = take (pad_len n) (drop n bytes)

-- n bytes, and padding of zeros
unfoldable pub padded_at : ℕ → Gauge → Taking (List ℕ)
padded_at n g =
    if not (all_zero (padding_ahead n g.left)) then Err Bad
    else do
      x ← bytes_at (n + pad_len n) g
      Ok (take n x.0, x.1)

-- the length of an opaque of low to high bytes
unfoldable pub count_at : ℕ → ℕ → Gauge → Taking ℕ
count_at low high g = do
  n ← word_at g
  if nat_lt n.0 low || nat_lt high n.0 then Err Bad else Ok n

-- a `/` or a zero byte
abbrev pub has_bad_byte : List ℕ → Bool
has_bad_byte name = list_any (λ b. b == 47) name || list_any (λ b. b == 0) name

-- n bytes of a name
unfoldable pub name_bytes_at : ℕ → Gauge → Taking (List ℕ)
name_bytes_at n g = if has_bad_byte (take n g.left) then Err Bad else padded_at n g

unfoldable pub name_at : Gauge → Taking (List ℕ)
name_at g = do
  n ← count_at 1 255 g
  name_bytes_at n.0 n.1

unfoldable pub path_at : ℕ → Gauge → Taking (List ℕ)
path_at most g = do
  n ← count_at 0 most g
  padded_at n.0 n.1

-- a file, a directory or a link
abbrev pub is_kind : ℕ → Bool
is_kind kind = (kind == 1) || (kind == 2) || (kind == 5)

unfoldable pub kind_at : Gauge → Taking ℕ
kind_at g = do
  x ← word_at g
  if is_kind x.0 then Ok x else Err Bad

-- the path is empty unless it is a link's
abbrev pub path_max : ℕ → ℕ
path_max kind = if kind == 5 then 1024 else 0

unfoldable pub make_at : Gauge → Taking Edit
make_at g = do
  parent ← long_at g
  id ← long_at parent.1
  kind ← kind_at id.1
  mode ← word_at kind.1
  uid ← word_at mode.1
  gid ← word_at uid.1
  name ← name_at gid.1
  path ← path_at (path_max kind.0) name.1
  Ok (Make parent.0 id.0 kind.0 mode.0 uid.0 gid.0 name.0 path.0 None None None, path.1)

unfoldable pub remove_at : Gauge → Taking Edit
remove_at g = do
  parent ← long_at g
  name ← name_at parent.1
  Ok (Remove parent.0 name.0, name.1)

unfoldable pub rename_at : Gauge → Taking Edit
rename_at g = do
  parent ← long_at g
  name ← name_at parent.1
  to_parent ← long_at name.1
  to_name ← name_at to_parent.1
  Ok (Rename parent.0 name.0 to_parent.0 to_name.0, to_name.1)

unfoldable pub set_at : Gauge → Taking Edit
set_at g = do
  id ← long_at g
  mode ← word_at id.1
  uid ← word_at mode.1
  gid ← word_at uid.1
  Ok (Set id.0 mode.0 uid.0 gid.0 None None, gid.1)

abbrev pub items_at : ℕ → Gauge → Taking Edit
items_at kind g =
    if kind == 1 then make_at g
    else if kind == 2 then remove_at g
    else if kind == 3 then rename_at g
    else if kind == 4 then set_at g
    else Err Bad

-- the edit of so many bytes, of which these are there
unfoldable pub edit_of : ℕ → List ℕ → Result Edit Cut
edit_of room bytes = do
  kind ← word_at (record { room = room; left = bytes })
  e ← items_at kind.0 kind.1
  if e.1.room == 0 then Ok e.0 else Err Bad

-- What a log holds: edits up to a torn end, or damage where an edit should begin.
pub data Logged : Type 0 where
  Edits : (edits : List Edit) → Logged
  DamagedAt : (place : ℕ) → Logged

abbrev pub with_edit : Edit → Logged → Logged
with_edit e (Edits es) = Edits (e ∷ es)
with_edit e (DamagedAt place) = DamagedAt place

abbrev pub with_edits : List Edit → Logged → Logged
with_edits es (Edits fs) = Edits (es ++ fs)
with_edits es (DamagedAt place) = DamagedAt place

-- the length of the edit in front, as its word says
unfoldable pub size_ahead : List ℕ → ℕ
size_ahead bytes = from_be_bytes w32 (take 4 bytes)

-- the edit in front
abbrev pub edit_ahead : List ℕ → Result Edit Cut
edit_ahead bytes =
    if nat_lt (length bytes) 4 then Err Torn
    else if nat_lt (size_ahead bytes) 4 || nat_lt 4096 (size_ahead bytes) then Err Bad
    else edit_of (size_ahead bytes) (take (size_ahead bytes) (drop 4 bytes))

abbrev pub bytes_behind : List ℕ → List ℕ
bytes_behind bytes = drop (size_ahead bytes) (drop 4 bytes)

-- an edit in front of what follows it, or the end
abbrev pub edits_with : Result Edit Cut → ℕ → Logged → Logged
edits_with (Err Torn) place rest = Edits []
edits_with (Err Bad) place rest = DamagedAt place
edits_with (Ok e) place rest = with_edit e rest

-- The edits from a place on; fuel bounds their number.
unfoldable pub edits_from : ℕ → ℕ → List ℕ → Logged
edits_from zero place bytes = Edits []
edits_from (suc fuel) place bytes =
    edits_with (edit_ahead bytes) place (edits_from fuel (place + 4 + size_ahead bytes) (bytes_behind bytes))

-- What a log's bytes hold. A header that is cut has no edits.
unfoldable pub edits_of : List ℕ → Logged
edits_of bytes =
    if bytes_eq (take 8 bytes) header then edits_from (length bytes) 8 (drop 8 bytes)
    else if bytes_eq (take (length bytes) header) bytes then Edits []
    else DamagedAt 0

-- what the text has room for

pub record IsName (name : List ℕ) : Type 0 where
  pub some : 1 ≤ length name
  pub most : length name ≤ 255
  pub clean : has_bad_byte name ≡ false

-- the numbers are a u64's and a u32's
abbrev pub HasNumbers : Edit → Type 0
HasNumbers (Make parent id kind mode uid gid name path atime mtime verifier) =
    (parent < 2 ^ 64) × (id < 2 ^ 64) × (kind < 2 ^ 32) × (mode < 2 ^ 32) × (uid < 2 ^ 32) × (gid < 2 ^ 32)
HasNumbers (Remove parent name) = parent < 2 ^ 64
HasNumbers (Rename parent name to_parent to_name) = (parent < 2 ^ 64) × (to_parent < 2 ^ 64)
HasNumbers (Set id mode uid gid atime mtime) = (id < 2 ^ 64) × (mode < 2 ^ 32) × (uid < 2 ^ 32) × (gid < 2 ^ 32)

abbrev pub InRange : Edit → Type 0
InRange (Make parent id kind mode uid gid name path atime mtime verifier) =
    HasNumbers (Make parent id kind mode uid gid name path atime mtime verifier)
    × (is_kind kind ≡ true) × IsName name × (length path ≤ path_max kind)
InRange (Remove parent name) = HasNumbers (Remove parent name) × IsName name
InRange (Rename parent name to_parent to_name) = HasNumbers (Rename parent name to_parent to_name) × IsName name × IsName to_name
InRange (Set id mode uid gid atime mtime) = HasNumbers (Set id mode uid gid atime mtime)

-- An edit as it is read again: the text of version 1 has neither its times nor its verifier.
abbrev pub written_edit : Edit → Edit
written_edit (Make parent id kind mode uid gid name path atime mtime verifier) = Make parent id kind mode uid gid name path None None None
written_edit (Remove parent name) = Remove parent name
written_edit (Rename parent name to_parent to_name) = Rename parent name to_parent to_name
written_edit (Set id mode uid gid atime mtime) = Set id mode uid gid None None

abbrev pub written_edits : List Edit → List Edit
written_edits [] = []
written_edits (e ∷ es) = written_edit e ∷ written_edits es

-- these edits are read, or these and one more
abbrev pub ReadsUpTo : Logged → List Edit → Edit → Type 0
ReadsUpTo l es e = (l ≡ Edits (written_edits es)) ⊎ (l ≡ Edits (written_edits (es ++ e ∷ [])))
