-- What the definitions mean for one another.
use Rattle.std.specs.Prelude.{true, ◌≡◌, ◌≢◌, ◌⊎◌, ℕ, ◌<◌, ◌≤◌, ◌+◌, List, ◌++◌, ◌∷◌, [], length, take, Option, Ok, Err}
use Rattle.std.specs.List.{AllByRecursion}
use Rattle.xdr.specs.Rows.{text}
use Rattle.append_store.specs.State.{ObjectState, Missing, Kept, Lent, IsCrashImage, IsThere, bytes_of}
use Rattle.append_store.specs.Calls.{IsRising, Lists}
use Rattle.gw_model.specs.declared.object.KeptObject.{KeptObject}
use Rattle.gw_model.specs.declared.object.ObjectId.{ObjectId}
use Rattle.gw_model.specs.declared.object.ObjectId.TheVariants.{Log}
use Rattle.name_tree.specs.Tree.{Tree, is_fitting, root_tree}
use Rattle.name_tree.specs.declared.edit.Edit.{Edit}
use Rattle.edit_log.specs.declared.gauge.Cut.TheVariants.{Torn}
use Rattle.edit_log.specs.Edits.{Edits, HasNumbers, InRange, ReadsUpTo, edit_of, edit_row, edit_text, edit_texts, edits_of, header, written_edit, written_edits}
use Rattle.edit_log.specs.Log.{Holds}
use Rattle.edit_log.specs.Run.{AreFitting, AreJudged, Does, HasRoomForPath, HasSizeOf, IsJudgeable, IsJudgedEdit, IsRecoverable, IsRecovered, TreeStep, edits_of_steps, lasting_nodes, tree_after_steps}
use Rattle.edit_log.specs.Start.{RecoversUpTo, last_generation, logs_of, start_result, tree_after_logs, tree_with_bodies, tree_with_edits}

-- the items that are written for an edit are read again
abbrev pub IsReadAgain : Type 0
IsReadAgain = (e : Edit) → InRange e → edit_of (length (text (edit_row e))) (text (edit_row e)) ≡ Ok (written_edit e)

-- items that lack some bytes at their end are torn
abbrev pub FrontsAreTorn : Type 0
FrontsAreTorn =
    (front rest : List ℕ) (e : Edit) → 0 < length rest → edit_of (length (front ++ rest)) (front ++ rest) ≡ Ok e
    → edit_of (length (front ++ rest)) front ≡ Err Torn

-- a log with these edits lists them
abbrev pub ListsWholeEdits : Type 0
ListsWholeEdits = (es : List Edit) → AllByRecursion InRange es → edits_of (header ++ edit_texts es) ≡ Edits (written_edits es)

-- so does one that ends within one more
abbrev pub PassesOverTornEnds : Type 0
PassesOverTornEnds =
    (es : List Edit) (e : Edit) (n : ℕ) → AllByRecursion InRange es → InRange e → n < length (edit_text e)
    → edits_of (header ++ edit_texts es ++ take n (edit_text e)) ≡ Edits (written_edits es)

-- of one more, whole or not, all of it is listed or nothing
abbrev pub ListsAllOrNothing : Type 0
ListsAllOrNothing =
    (es : List Edit) (e : Edit) (n : ℕ) → AllByRecursion InRange es → InRange e
    → ReadsUpTo (edits_of (header ++ edit_texts es ++ take n (edit_text e))) es e

-- a header that is cut has no edits
abbrev pub PassesOverTornHeaders : Type 0
PassesOverTornHeaders = (n : ℕ) → edits_of (take n header) ≡ Edits []

-- The log of these edits, with one more that was answered, is the log of all of them.
abbrev pub HoldsOneMore : Type 0
HoldsOneMore =
    (content : List ℕ) (durable : ℕ) (failed : Option ℕ) (es : List Edit) (e : Edit)
    → Holds content durable failed ((header ++ edit_texts es) ++ edit_text e) []
    → Holds content durable failed (header ++ edit_texts (es ++ e ∷ [])) []

-- A crash leaves all that was answered, and a front of what an add that failed left behind it.
abbrev pub KeepsAnswered : Type 0
KeepsAnswered =
    (content answered rest : List ℕ) (durable : ℕ) (failed : Option ℕ) (state : ObjectState)
    → Holds content durable failed answered rest → IsCrashImage (Kept content durable) state
    → (n : ℕ) × (n ≤ length rest) × (state ≡ Kept (answered ++ take n rest) (length answered + n))

-- After a crash a log lists the edits that were answered, and perhaps the one of the add that failed.
abbrev pub ListsAnswered : Type 0
ListsAnswered =
    (content : List ℕ) (durable m : ℕ) (failed : Option ℕ) (es : List Edit) (e : Edit) (state : ObjectState)
    → AllByRecursion InRange es → InRange e → Holds content durable failed (header ++ edit_texts es) (take m (edit_text e))
    → IsCrashImage (Kept content durable) state → ReadsUpTo (edits_of (bytes_of state)) es e

-- Where no add failed, it lists just these.
abbrev pub ListsJustAnswered : Type 0
ListsJustAnswered =
    (content : List ℕ) (durable : ℕ) (failed : Option ℕ) (es : List Edit) (state : ObjectState)
    → AllByRecursion InRange es → Holds content durable failed (header ++ edit_texts es) []
    → IsCrashImage (Kept content durable) state → edits_of (bytes_of state) ≡ Edits (written_edits es)

-- So the recovered tree is that of a front of the edits that were added, with each one that was answered, on the tree that the
-- logs before give.
abbrev pub RecoversAnswered : Type 0
RecoversAnswered =
    (before : List (ℕ × List ℕ)) (generation m durable : ℕ) (content : List ℕ) (failed : Option ℕ) (t u : Tree) (es : List Edit) (e : Edit)
    (state : ObjectState) → AllByRecursion InRange es → InRange e → tree_after_logs before t ≡ Ok u
    → Holds content durable failed (header ++ edit_texts es) (take m (edit_text e)) → IsCrashImage (Kept content durable) state
    → RecoversUpTo (tree_after_logs (before ++ (generation, bytes_of state) ∷ []) t) es e u

-- no crash changes it
abbrev pub IsWhollyDurable : ObjectState → Type 0
IsWhollyDurable Missing = Unit {0}
IsWhollyDurable (Kept bytes durable) = length bytes ≤ durable
IsWhollyDurable (Lent mark) = ⊥

-- The same of a whole store: `at` is the store that a start found, whose logs were wholly durable, and `at'` what a crash left
-- after edits were added to the log of the generation g, which is greater than each that was there. The next start, by its own
-- list, recovers the tree that the first one did, with a front of these edits that has all that were answered.
abbrev pub RecoversStore : Type 0
RecoversStore =
    (at at' : ObjectId → ObjectState) (all all' : List KeptObject) (g m durable : ℕ) (content : List ℕ) (failed : Option ℕ) (u : Tree)
    (es : List Edit) (e : Edit) → AllByRecursion InRange es → InRange e
    → Lists at all → IsRising all → ((h : ℕ) → IsThere (at (Log h)) → h < g) → tree_after_logs (logs_of at all) root_tree ≡ Ok u
    → ((h : ℕ) → h ≢ g → IsWhollyDurable (at (Log h)) × IsCrashImage (at (Log h)) (at' (Log h)))
    → Holds content durable failed (header ++ edit_texts es) (take m (edit_text e)) → IsCrashImage (Kept content durable) (at' (Log g))
    → Lists at' all' → IsRising all' → RecoversUpTo (tree_after_logs (logs_of at' all') root_tree) es e u

-- A start that succeeds has the tree of all logs, with the sizes of the bodies, and the next generation.
abbrev pub StartsFromLogs : Type 0
StartsFromLogs =
    (at : ObjectId → ObjectState) (all : List KeptObject) (g : ℕ) (t : Tree) → start_result at all ≡ Ok (g, t)
    → (u : Tree) × (tree_after_logs (logs_of at all) root_tree ≡ Ok u) × (t ≡ tree_with_bodies all u) × (g ≡ last_generation 0 all + 1)

-- a tree that a start gives can be recovered
abbrev pub StartsRecoverable : Type 0
StartsRecoverable =
    (at : ObjectId → ObjectState) (all : List KeptObject) (g : ℕ) (t : Tree) → start_result at all ≡ Ok (g, t) → IsRecoverable t

-- its files have the sizes that their bodies were listed with
abbrev pub HasListedSizes : Type 0
HasListedSizes =
    (at : ObjectId → ObjectState) (all : List KeptObject) (g : ℕ) (t : Tree) → IsRising all → start_result at all ≡ Ok (g, t)
    → AllByRecursion (λ k. HasSizeOf t k.object k.length) all

-- Where a tree was recovered of another one, and a run does steps on this, the tree with the edits that the log then has is
-- recovered of what the run leaves.
abbrev pub RecoversSteps : Type 0
RecoversSteps =
    (steps : List TreeStep) (t u : Tree) → IsRecoverable t → IsRecovered t u → AreFitting t steps
    → IsRecovered (tree_after_steps steps t) (tree_with_edits (written_edits (edits_of_steps steps)) u)

-- The same from start to start. The first one gives the tree t, and u is that of the logs alone; on t a run does these steps. Where
-- the logs then give u with the edits of the run, the nodes of the next start's tree are those that the run left, as they last.
abbrev pub RecoversRun : Type 0
RecoversRun =
    (at at' : ObjectId → ObjectState) (all all' : List KeptObject) (g g' : ℕ) (t t' u : Tree) (steps : List TreeStep)
    → start_result at all ≡ Ok (g, t) → tree_after_logs (logs_of at all) root_tree ≡ Ok u → AreFitting t steps
    → tree_after_logs (logs_of at' all') root_tree ≡ Ok (tree_with_edits (written_edits (edits_of_steps steps)) u)
    → start_result at' all' ≡ Ok (g', t') → lasting_nodes t' ≡ lasting_nodes (tree_after_steps steps t)

-- The same after any crash of the store, whose earlier logs were wholly durable: all edits of the run were answered.
abbrev pub RecoversCrashedRun : Type 0
RecoversCrashedRun =
    (at at' : ObjectId → ObjectState) (all all' : List KeptObject) (g g' durable : ℕ) (content : List ℕ) (failed : Option ℕ)
    (t t' : Tree) (steps : List TreeStep) → AllByRecursion InRange (edits_of_steps steps)
    → Lists at all → IsRising all → start_result at all ≡ Ok (g, t) → AreFitting t steps
    → ((h : ℕ) → h ≢ g → IsWhollyDurable (at (Log h)) × IsCrashImage (at (Log h)) (at' (Log h)))
    → Holds content durable failed (header ++ edit_texts (edits_of_steps steps)) []
    → IsCrashImage (Kept content durable) (at' (Log g)) → Lists at' all' → IsRising all' → start_result at' all' ≡ Ok (g', t')
    → lasting_nodes t' ≡ lasting_nodes (tree_after_steps steps t)

-- The same where the add of one edit more failed, which may be recovered too.
abbrev pub RecoversFailedRun : Type 0
RecoversFailedRun =
    (at at' : ObjectId → ObjectState) (all all' : List KeptObject) (g g' m durable : ℕ) (content : List ℕ) (failed : Option ℕ)
    (t t' : Tree) (steps : List TreeStep) (e : Edit) (moment : ℕ) → AllByRecursion InRange (edits_of_steps steps) → InRange e
    → Lists at all → IsRising all → start_result at all ≡ Ok (g, t) → AreFitting t (steps ++ Does e moment ∷ [])
    → ((h : ℕ) → h ≢ g → IsWhollyDurable (at (Log h)) × IsCrashImage (at (Log h)) (at' (Log h)))
    → Holds content durable failed (header ++ edit_texts (edits_of_steps steps)) (take m (edit_text e))
    → IsCrashImage (Kept content durable) (at' (Log g)) → Lists at' all' → IsRising all' → start_result at' all' ≡ Ok (g', t')
    → (lasting_nodes t' ≡ lasting_nodes (tree_after_steps steps t))
    ⊎ (lasting_nodes t' ≡ lasting_nodes (tree_after_steps (steps ++ Does e moment ∷ []) t))

-- An edit that is judged over such a tree fits it.
abbrev pub FitsWhereJudged : Type 0
FitsWhereJudged = (t : Tree) (e : Edit) → IsJudgeable t → IsJudgedEdit t e → is_fitting t e ≡ true

-- a start gives such a tree
abbrev pub StartsJudgeable : Type 0
StartsJudgeable =
    (at : ObjectId → ObjectState) (all : List KeptObject) (g : ℕ) (t : Tree) → start_result at all ≡ Ok (g, t) → IsJudgeable t

-- and any steps leave one
abbrev pub StaysJudgeable : Type 0
StaysJudgeable = (steps : List TreeStep) (t : Tree) → IsJudgeable t → IsJudgeable (tree_after_steps steps t)

-- So each edit of a run fits where each was judged.
abbrev pub RunsWhereJudged : Type 0
RunsWhereJudged = (steps : List TreeStep) (t : Tree) → IsJudgeable t → AreJudged t steps → AreFitting t steps

-- and is in its ranges, where its numbers are those of their types: the names are judged.
abbrev pub IsInRangeWhereJudged : Type 0
IsInRangeWhereJudged =
    (t : Tree) (e : Edit) (judged : IsJudgedEdit t e) → IsJudgeable t → HasRoomForPath judged.request → HasNumbers e → InRange e
