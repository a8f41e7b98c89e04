-- Worked rows: what a file over several tells, computed by the definitions.
use Rattle.std.proofs.Common.{◌≡◌, ℕ, Bool, true, false, List, [], ◌∷◌, Some, None, refl}
use Rattle.gw_model.specs.declared.object.ObjectId.TheVariants.{Log, Body}
use Rattle.gw_outside.specs.Tally.{no_calls}
use Rattle.replica_store.specs.Marks.{joined}
use Rattle.replica_store.specs.Parts.{PartView, FilesState, bytes_in, count_in, durable_in, live_of}

-- three members' files of one object, after an append of five bytes of which the second kept two
abbrev part : List ℕ → ℕ → ℕ → Bool → PartView
part content durable count live = record { mark = Some (Body 4 1 ∷ []); content = content; durable = durable; count = count; tally = no_calls; live = live; kept = 0 }

abbrev file : ℕ → ℕ → FilesState
file synced refusals = record {
  parts = part (97 ∷ 98 ∷ 99 ∷ 100 ∷ 101 ∷ []) 5 0 true ∷ part (97 ∷ 98 ∷ []) 0 1 false ∷ part (97 ∷ 98 ∷ 99 ∷ 100 ∷ 101 ∷ []) 3 0 true ∷ [];
  chief = 0;
  quorum = 2;
  synced = synced;
  answered = record { refusals = refusals; tally = no_calls };
}

two_are_left : live_of (file 3 0).parts ≡ 2
two_are_left = refl

the_chief_tells : bytes_in (file 3 0) ≡ 97 ∷ 98 ∷ 99 ∷ 100 ∷ 101 ∷ []
the_chief_tells = refl

-- what the least of those that are left has durable
durable_is_what_was_synced : durable_in (file 3 0) ≡ 3
durable_is_what_was_synced = refl

-- the second member's fault and one that was answered
faults_of_members_and_answers : count_in (file 3 1) ≡ 2
faults_of_members_and_answers = refl

faults_stand_at_the_greatest : count_in (file 3 18446744073709551615) ≡ 18446744073709551615
faults_stand_at_the_greatest = refl

-- one that gave a file, one that gave none, and one that is itself made of two
a_mark_has_each_with_its_length : joined (Some (Body 4 1 ∷ []) ∷ None ∷ Some (Log 0 ∷ Log 0 ∷ []) ∷ []) ≡ Log 1 ∷ Log 1 ∷ Body 4 1 ∷ Log 0 ∷ Log 1 ∷ Log 2 ∷ Log 0 ∷ Log 0 ∷ []
a_mark_has_each_with_its_length = refl
