-- Where both sides meet, the body is a front of the fold of what was accepted.
use Rattle.std.proofs.Common.{◌≡◌, ℕ, ◌+◌, Option, Some, None, List, [], ◌∷◌, ◌++◌, length, take, drop, refl, sym, ◌∙◌, ap, subst, append_assoc, append-nil, length-append}
use Rattle.std.proofs.lemmas.List.{take-append-drop}
use Rattle.std.proofs.lemmas.Grind.{flat_map-append}
use mathlib.Core.List.{IsPrefix}
use Rattle.gw_model.specs.File.{Failure, Side, is_stale}
use Rattle.gw_model.specs.Order.{fold, joined_bytes, pieces}
use Rattle.gw_model.specs.Sound.{pieces_of}
use Rattle.gw_model.proofs.Putting.{pieces_of-append}
use Rattle.gw_model.proofs.Storing.{joined_plain}
use Rattle.job_line.specs.Items.{base_of, puts_size}
use Rattle.job_line.specs.Ends.{base_sent, base_taken, jobs_known, jobs_sent, jobs_taken}
use Rattle.job_line.specs.Views.{jobs_of}
use Rattle.job_line.specs.declared.items.Job.{Job}
use Rattle.job_line.specs.declared.items.Job.TheVariants.{Put, Compare, Fetch, Settle}
use Rattle.admit.specs.Line.{next_jobs, sent_jobs}
use Rattle.writeback.specs.Steps.{put_data}
use Rattle.file_cell.specs.Issued.{SendsFold}
use Rattle.file_cell.specs.Sides.{HoldsFront}
use Rattle.file_cell.specs.State.{AdmitSideState, IsMarked, WriterSideState}
use Rattle.file_cell.specs.Stored.{HaveAdded, IsWritten, puts_data}

-- the bytes of the pieces of jobs are those of their Puts
joined_jobs : (n : ℕ) (js : List Job) → joined_bytes (pieces_of (jobs_of n js)) ≡ puts_data js
joined_jobs n [] = refl
joined_jobs n (Put number bytes level count ticket ∷ js) = ap (λ bs. bytes ++ bs) (joined_jobs (n + length bytes) js)
joined_jobs n (Compare offset bytes level ticket ∷ js) = joined_jobs (n + 0) js
joined_jobs n (Fetch offset count ticket ∷ js) = joined_jobs (n + 0) js
joined_jobs n (Settle ticket ∷ js) = joined_jobs (n + 0) js

puts_data-append : (xs ys : List Job) → puts_data (xs ++ ys) ≡ puts_data xs ++ puts_data ys
puts_data-append [] ys = refl
puts_data-append (x ∷ xs) ys = ap (λ bs. put_data x ++ bs) (puts_data-append xs ys) ∙ sym (append_assoc (put_data x) (puts_data xs) (puts_data ys))

-- what was added is a front of the bytes of all Puts
added_front : (failed : Option Failure) (base : ℕ) (js : List Job) (added : List ℕ) → HaveAdded failed base js added → IsPrefix added (puts_data js)
added_front None base js added have = ([], append-nil added ∙ have)
added_front (Some e) base js added stop =
    let own = put_data stop.job in
    let rest = drop e.kept own ++ puts_data stop.behind in (
      rest,
      ap (λ bs. bs ++ rest) stop.is
          ∙ append_assoc (puts_data stop.before) (take e.kept own) rest
          ∙ ap (λ bs. puts_data stop.before ++ bs) (sym (append_assoc (take e.kept own) (drop e.kept own) (puts_data stop.behind)) ∙ ap (λ bs. bs ++ puts_data stop.behind) (take-append-drop e.kept own))
          ∙ sym (puts_data-append stop.before (stop.job ∷ stop.behind))
          ∙ ap puts_data (sym stop.are),
    )

front_before : (first added all more : List ℕ) → IsPrefix added all → IsPrefix (first ++ added) (first ++ (all ++ more))
front_before first added all more (rest, is) =
    (rest ++ more, append_assoc first added (rest ++ more) ∙ ap (λ bs. first ++ bs) (sym (append_assoc added rest more) ∙ ap (λ bs. bs ++ more) is))

-- what the fold adds is the bytes of the Puts that were taken, and then those of the rest
fold_is : (a : AdmitSideState) (first : List ℕ) (s : SendsFold a first) (taken known : List Job) → taken ++ known ≡ jobs_sent a.admit.line
    → fold first s.file.accepted ≡ first ++ (puts_data taken ++ (puts_data known ++ joined_bytes (pieces_of (a.admit.side.held.ready ++ s.file.struck))))
fold_is a first s taken known all =
    let sent = sent_jobs a.admit.line in
    let rest = a.admit.side.held.ready ++ s.file.struck in
    let more = joined_bytes (pieces_of rest) in
    ap (λ bs. first ++ bs)
    (sym (joined_plain (pieces first s.file.accepted))
    ∙ ap joined_bytes (sym s.order ∙ pieces_of-append sent rest)
    ∙ flat_map-append (λ p. p.bytes) (pieces_of sent) (pieces_of rest)
    ∙ ap (λ bs. bs ++ more) (joined_jobs (base_sent a.admit.line) (jobs_sent a.admit.line) ∙ ap puts_data (sym all) ∙ puts_data-append taken known)
    ∙ append_assoc (puts_data taken) (puts_data known) more)

no_known : (n : ℕ) (js : List Job) → jobs_of n js ≡ [] → js ≡ []
no_known n [] is = refl
no_known n (j ∷ js) is = absurd (cc)

pub fronts : (tells : Type 0) (a : AdmitSideState) (w : WriterSideState) → tells → IsMarked a → ((base : List ℕ) → a.base ≡ length base → SendsFold a base) → IsWritten tells w.writer w.file.content w.output
    → base_taken w.output ≡ base_sent a.admit.line → jobs_taken w.output ++ jobs_known w.output ≡ jobs_sent a.admit.line → a.admit.side.held.line ≡ next_jobs w.output → HoldsFront a w
fronts tells a w told mark sends is same all held =
    let b = is.behind told in
    let base : a.base ≡ base_taken w.output = sym (ap base_of mark) ∙ sym same in
    let s = sends b.first (base ∙ sym b.long) in
    let taken = jobs_taken w.output in
    let known = jobs_known w.output in
    let rest = joined_bytes (pieces_of (a.admit.side.held.ready ++ s.file.struck)) in
    let folded = fold_is a b.first s taken known all in
    record {
      first = b.first;
      file = s.file;
      opened = b.long ∙ sym base;
      side = s.side;
      many = ap length b.is ∙ length-append b.first is.added ∙ ap (λ n. n + length is.added) b.long ∙ sym is.stored;
      front = subst (λ bs. IsPrefix bs (fold b.first s.file.accepted)) (sym b.is) (subst (IsPrefix (b.first ++ is.added)) (sym folded)
          (front_before b.first is.added (puts_data taken) (puts_data known ++ rest) (added_front w.writer.failed (base_taken w.output) taken is.added is.have)));
      whole = λ works live empty ready.
          let none : known ≡ [] = no_known (base_taken w.output + puts_size taken) known (sym held ∙ empty) in
          let struck : s.file.struck ≡ [] = s.side.live (ap (λ (x : Side). is_stale x.held.phase) (sym s.side.is) ∙ live) in
          let no_more : puts_data known ++ rest ≡ [] = ap (λ js. puts_data js ++ rest) none ∙ ap (λ js. joined_bytes (pieces_of (js ++ s.file.struck))) ready ∙ ap (λ js. joined_bytes (pieces_of js)) struck in
          let added : is.added ≡ puts_data taken = subst (λ e. HaveAdded e (base_taken w.output) taken is.added) works is.have in
          b.is ∙ ap (λ bs. b.first ++ bs) (added ∙ sym (append-nil (puts_data taken)) ∙ ap (λ bs. puts_data taken ++ bs) (sym no_more)) ∙ sym folded;
    }
