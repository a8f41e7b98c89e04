-- Worked uploads: what is to be done next, computed by the definitions.
use Rattle.std.proofs.Common.{◌≡◌, ℕ, true, false, List, [], ◌∷◌, refl}
use Rattle.put_core.specs.declared.call.Next.{Next}
use Rattle.put_core.specs.declared.call.Next.TheVariants.{Write, Commit, Wait, Done, Refused}
use Rattle.put_core.specs.declared.call.PutAnswer.{PutAnswer}
use Rattle.put_core.specs.declared.call.PutAnswer.TheVariants.{Written, Committed, Failed}
use Rattle.put_core.specs.Steps.{PutState, new_put, next_of, after_next, after_reply, after_broken}

-- a call of an upload
data PutCall : Type 0 where
  Ask : PutCall
  Hear : (xid : ℕ) (answer : PutAnswer) → PutCall
  Break : PutCall

-- what each `next_call` answers
abbrev answers : List PutCall → PutState → List Next
answers [] s = []
answers (Ask ∷ calls) s = next_of s ∷ answers calls (after_next s)
answers (Hear xid answer ∷ calls) s = answers calls (after_reply xid answer s)
answers (Break ∷ calls) s = answers calls (after_broken s)

-- Three bytes in chunks of two, backward. The COMMIT is answered under another verifier, so all is sent again.
backward : answers (Ask ∷ Ask ∷ Ask ∷ Hear 1 (Written 1 1) ∷ Hear 2 (Written 2 1) ∷ Ask ∷ Ask ∷ Hear 3 (Committed 2) ∷ Ask ∷ Ask
    ∷ Hear 4 (Written 1 2) ∷ Hear 5 (Written 2 2) ∷ Ask ∷ Hear 6 (Committed 2) ∷ Ask ∷ Ask ∷ []) (new_put 3 2 2 true)
    ≡ Write 1 2 1 ∷ Write 2 0 2 ∷ Wait ∷ Commit 3 ∷ Wait ∷ Write 4 2 1 ∷ Write 5 0 2 ∷ Commit 6 ∷ Done 2 ∷ Done 2 ∷ []
backward = refl

-- An empty source: COMMIT comes first, and any verifier will do.
empty : answers (Ask ∷ Hear 1 (Committed 7) ∷ Ask ∷ []) (new_put 0 2 2 false) ≡ Commit 1 ∷ Done 7 ∷ []
empty = refl

-- Status 22 to a WRITE.
refused : answers (Ask ∷ Hear 1 (Failed 22) ∷ Ask ∷ Hear 1 (Written 2 1) ∷ Ask ∷ []) (new_put 3 2 2 false) ≡ Write 1 0 2 ∷ Refused 22 ∷ Refused 22 ∷ []
refused = refl

-- A reply under another verifier: the chunk of that reply is held, and the other one is sent again.
other_verifier : answers (Ask ∷ Ask ∷ Hear 1 (Written 2 1) ∷ Hear 2 (Written 1 2) ∷ Ask ∷ Ask ∷ Hear 3 (Written 2 2) ∷ Ask ∷ []) (new_put 3 2 2 false)
    ≡ Write 1 0 2 ∷ Write 2 2 1 ∷ Write 3 0 2 ∷ Wait ∷ Commit 4 ∷ []
other_verifier = refl

-- A count that isn't whole, JUKEBOX, an xid that isn't outstanding and an answer of the other kind.
again : answers (Ask ∷ Hear 1 (Written 1 1) ∷ Ask ∷ Hear 1 (Written 2 1) ∷ Ask ∷ Hear 2 (Committed 1) ∷ Hear 3 (Failed 10008) ∷ Ask ∷ []) (new_put 3 2 2 false)
    ≡ Write 1 0 2 ∷ Write 2 0 2 ∷ Write 3 2 1 ∷ Write 4 2 1 ∷ []
again = refl

-- The link breaks: new xids, and the old replies count no more.
broken : answers (Ask ∷ Ask ∷ Hear 2 (Written 1 1) ∷ Break ∷ Ask ∷ Hear 1 (Written 2 1) ∷ Ask ∷ Hear 3 (Written 2 1) ∷ Ask ∷ Break ∷ Hear 4 (Committed 1) ∷ Ask ∷ []) (new_put 3 2 2 false)
    ≡ Write 1 0 2 ∷ Write 2 2 1 ∷ Write 3 0 2 ∷ Wait ∷ Commit 4 ∷ Commit 5 ∷ []
broken = refl

-- The next window begins when the present one is held, and each is sent from its last chunk on.
windows : answers (Ask ∷ Ask ∷ Ask ∷ Hear 1 (Written 1 9) ∷ Ask ∷ Hear 2 (Written 1 9) ∷ Ask ∷ Ask ∷ []) (new_put 3 1 2 true)
    ≡ Write 1 1 1 ∷ Write 2 0 1 ∷ Wait ∷ Wait ∷ Write 3 2 1 ∷ Wait ∷ []
windows = refl

-- STALE at a WRITE and IO at the COMMIT are new beginnings.
losses : answers (Ask ∷ Ask ∷ Hear 1 (Written 2 1) ∷ Hear 2 (Failed 70) ∷ Ask ∷ Ask ∷ Hear 3 (Written 2 2) ∷ Hear 4 (Written 1 2) ∷ Ask ∷ Hear 5 (Failed 5) ∷ Ask ∷ []) (new_put 3 2 2 false)
    ≡ Write 1 0 2 ∷ Write 2 2 1 ∷ Write 3 0 2 ∷ Write 4 2 1 ∷ Commit 5 ∷ Write 6 0 2 ∷ []
losses = refl

-- JUKEBOX at the COMMIT sends it again.
later : answers (Ask ∷ Hear 1 (Failed 10008) ∷ Ask ∷ Hear 1 (Committed 1) ∷ Hear 2 (Committed 1) ∷ Ask ∷ []) (new_put 0 2 2 false) ≡ Commit 1 ∷ Commit 2 ∷ Done 1 ∷ []
later = refl

-- A WRITE that was outstanding at a new beginning stays so, also where it lies in a later window.
left_behind : answers (Ask ∷ Hear 1 (Written 1 1) ∷ Ask ∷ Hear 2 (Written 1 1) ∷ Ask ∷ Ask ∷ Hear 3 (Written 1 2) ∷ Ask ∷ Ask ∷ Hear 4 (Written 1 2) ∷ Hear 5 (Written 1 2) ∷ Hear 6 (Written 1 2) ∷ Ask ∷ []) (new_put 4 1 2 false)
    ≡ Write 1 0 1 ∷ Write 2 1 1 ∷ Write 3 2 1 ∷ Write 4 3 1 ∷ Write 5 0 1 ∷ Write 6 1 1 ∷ Commit 7 ∷ []
left_behind = refl
