-- The results of WRITE, COMMIT and READ as they are sent: a head, and behind it the data of a READ with its padding.
use Rattle.std.specs.Prelude.{ℕ, ◌%◌, ◌^◌, ◌==◌, if◌then◌else◌, List, [], ◌∷◌, length}
use Rattle.tickets.specs.declared.answer.Body.{Body}
use Rattle.tickets.specs.declared.answer.Body.TheVariants as body
use Rattle.xdr.specs.Rows.{Item, Word}
use Rattle.nfs_wire.specs.Results.{Results, Null, Read, Write, Commit, Refused, flag_item, results_row}

-- The results of an answer. A whole text, and the answer SYSTEM_ERR, have none of their own.
abbrev pub body_results : Body → ℕ → Results
body_results (body.Write status count committed) verifier = if status == 0 then Write count committed verifier else Refused status 2
body_results (body.Commit status) verifier = if status == 0 then Commit verifier else Refused status 2
body_results (body.Read status eof bytes) verifier = if status == 0 then Read (length bytes.items) eof bytes.items else Refused status 1
body_results (body.Text text) verifier = Null
body_results body.SystemErr verifier = Null

-- what is sent behind the head
abbrev pub body_data : Body → List ℕ
body_data (body.Read status eof bytes) = if status == 0 then bytes.items else []
body_data _ = []

-- The head: the row of the results, but of a READ that was done the words in front of its data alone. A number of bytes that
-- isn't below 2^32 leaves its rest there.
abbrev pub head_row : Body → ℕ → List Item
head_row (body.Read status eof bytes) verifier =
    let count = length bytes.items % 2 ^ 32 in
    if status == 0 then Word 0 ∷ Word 0 ∷ Word count ∷ flag_item eof ∷ Word count ∷ [] else results_row (Refused status 1)
head_row b verifier = results_row (body_results b verifier)
