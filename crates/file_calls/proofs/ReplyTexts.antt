-- The texts of replies, and what is sent of an answer.
use Rattle.std.proofs.Common.{◌≡◌, ℕ, ◌==◌, Bool, true, false, cond, List, [], ◌∷◌, ◌++◌, refl, append_assoc}
use Rattle.xdr.specs.Items.{word, long, fixed_text}
use Rattle.rpc_msg.specs.Replies.{accepted_text}
use Rattle.tickets.specs.declared.answer.Body.{Body}
use Rattle.tickets.specs.declared.answer.Body.TheVariants as body
use Rattle.xdr.specs.Rows.{Word, text}
use Rattle.nfs_wire.specs.Results.{Write, Commit, Refused, flag_item, results_row}
use Rattle.nfs_wire.specs.Heads.{head_row}

-- it needs no padding
abbrev pub IsEven : List ℕ → Type 0
IsEven v = fixed_text v ≡ v

pub fixed_head : (xid stat : ℕ) → IsEven (accepted_text xid stat)
unfolding fixed_text accepted_text word
fixed_head xid stat = refl

-- the head of results is whole words
pub head_even : (b : Body) (verifier : ℕ) → IsEven (text (head_row b verifier))
unfolding fixed_text word long
head_even (body.Write status count committed) verifier = go (status == 0) where
  go : (t : Bool) → IsEven (text (results_row (cond t (Write count committed verifier) (Refused status 2))))
  go true = refl
  go false = refl
head_even (body.Commit status) verifier = go (status == 0) where
  go : (t : Bool) → IsEven (text (results_row (cond t (Commit verifier) (Refused status 2))))
  go true = refl
  go false = refl
head_even (body.Read status eof bytes) verifier = go (status == 0) _ where
  go : (t : Bool) (count : ℕ) → IsEven (text (cond t (Word 0 ∷ Word 0 ∷ Word count ∷ flag_item eof ∷ Word count ∷ []) (results_row (Refused status 1))))
  go true count = refl
  go false count = refl
head_even (body.Text bytes) verifier = refl
head_even body.SystemErr verifier = refl

-- a front, a head and the data behind it
pub put_all : (old one two front head sent whole : List ℕ) → one ≡ old ++ fixed_text front → two ≡ one ++ fixed_text head → IsEven front → IsEven head → whole ≡ head ++ fixed_text sent
    → two ++ fixed_text sent ≡ old ++ front ++ whole
put_all old one two front head sent whole first second f h all = rw (second, first, f, h, all) (append_assoc (old ++ front) head (fixed_text sent))
