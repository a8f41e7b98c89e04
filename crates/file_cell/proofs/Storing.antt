-- What a writer side stored since the mark of its line, after each of its steps.
use Rattle.std.proofs.Common.{◌≡◌, ℕ, ◌+◌, Some, List, [], ◌∷◌, ◌++◌, length, refl, sym, ◌∙◌, ap, subst, append-nil, append_assoc, arith, inl, inr, length-append}
use Rattle.gw_model.specs.File.{Writer}
use Rattle.gw_model.specs.Ahead.{CallResult}
use Rattle.job_line.specs.Items.{base_of}
use Rattle.job_line.specs.Ends.{base_taken, jobs_taken, mark_taken}
use Rattle.job_line.specs.declared.items.Job.{Job}
use Rattle.job_line.specs.declared.ends.LineOut.{LineOut}
use Rattle.job_line.specs.declared.items.Mark.{Mark}
use Rattle.writeback.specs.State.{FileSeen, WriterSeen, fresh_seen}
use Rattle.writeback.specs.Steps.{FailsBy, Leaves, put_bytes, put_data}
use Rattle.writeback.specs.declared.writer.Appended.{Appended}
use Rattle.writeback.specs.declared.writer.Appended.TheVariants as appended
use Rattle.file_cell.specs.Stored.{HaveAdded, IsWritten, StandsBehind, StopsAt, puts_data}

-- the bytes of one job more
puts_data-snoc : (js : List Job) (j : Job) → puts_data (js ++ j ∷ []) ≡ puts_data js ++ put_data j
puts_data-snoc [] j = append-nil (put_data j)
puts_data-snoc (k ∷ js) j = ap (λ bs. put_data k ++ bs) (puts_data-snoc js j) ∙ sym (append_assoc (put_data k) (puts_data js) (put_data j))

-- one more job was taken, and what it added stands behind the rest
adds : (ended : Appended) (base : ℕ) (js : List Job) (j : Job) (added put : List ℕ) (calls : List CallResult) (w v : Writer)
    → HaveAdded w.failed base js added → w.stored ≡ base + length added → v.stored ≡ w.stored + length put → FailsBy ended (put_data j) put calls w v
    → HaveAdded v.failed base (js ++ j ∷ []) (added ++ put)
adds appended.Whole base js j added put calls w v have stored more on =
    let all : added ≡ puts_data js = subst (λ e. HaveAdded e base js added) on.before have in
    subst (λ e. HaveAdded e base (js ++ j ∷ []) (added ++ put)) (sym on.now)
    (ap (λ bs. bs ++ put) all ∙ ap (λ bs. puts_data js ++ bs) on.whole ∙ sym (puts_data-snoc js j))
adds appended.Failed base js j added put calls w v have stored more (inl now) =
    let all : added ≡ puts_data js = subst (λ e. HaveAdded e base js added) now.before have in
    subst (λ e. HaveAdded e base (js ++ j ∷ []) (added ++ put)) (sym now.now) (record {
      before = js;
      job = j;
      behind = [];
      are = refl;
      few = now.few;
      is = ap (λ bs. bs ++ put) all ∙ ap (λ bs. puts_data js ++ bs) now.front;
      stored = let e = length-append added put in omega (arith, more, stored, e);
    })
adds appended.Failed base js j added put calls w v have stored more (inr on) =
    let stop : StopsAt on.failure base js added = subst (λ e. HaveAdded e base js added) on.before have in
    let same : added ≡ added ++ put = sym (ap (λ bs. added ++ bs) on.none ∙ append-nil added) in
    subst (λ e. HaveAdded e base (js ++ j ∷ []) (added ++ put)) (sym on.now) (subst (λ bs. StopsAt on.failure base (js ++ j ∷ []) bs) same (record {
      before = stop.before;
      job = stop.job;
      behind = stop.behind ++ j ∷ [];
      are = ap (λ ks. ks ++ j ∷ []) stop.are ∙ append_assoc stop.before (stop.job ∷ stop.behind) (j ∷ []);
      few = stop.few;
      is = stop.is;
      stored = stop.stored;
    }))

more_behind : (base : ℕ) (content content' added put : List ℕ) → content' ≡ content ++ put → StandsBehind base content added → StandsBehind base content' (added ++ put)
more_behind base content content' added put grew b = record {
  first = b.first;
  long = b.long;
  is = grew ∙ ap (λ bs. bs ++ put) b.is ∙ append_assoc b.first added put;
}

pub turn_written : (tells : Type 0) (ended : Appended) (o p : LineOut) (j : Job) (calls : List CallResult) (w v : Writer) (file file' : FileSeen)
    → IsWritten tells w file.content o → mark_taken p ≡ mark_taken o → jobs_taken p ≡ jobs_taken o ++ j ∷ []
    → v.stored ≡ w.stored + length (put_bytes calls j) → FailsBy ended (put_data j) (put_bytes calls j) calls w v → Leaves tells (put_bytes calls j) calls file file'
    → IsWritten tells v file'.content p
turn_written tells ended o p j calls w v file file' is mark taken more on leaves =
    let put = put_bytes calls j in
    let base : base_taken p ≡ base_taken o = ap base_of mark in
    let have = adds ended (base_taken o) (jobs_taken o) j is.added put calls w v is.have is.stored more on in
    record {
      added = is.added ++ put;
      have = subst (λ n. HaveAdded v.failed n (jobs_taken p) (is.added ++ put)) (sym base) (subst (λ ks. HaveAdded v.failed (base_taken o) ks (is.added ++ put)) (sym taken) have);
      stored = let e = length-append is.added put in omega (arith, more, is.stored, e, base);
      behind = λ told. subst (λ n. StandsBehind n file'.content (is.added ++ put)) (sym base) (more_behind (base_taken o) file.content file'.content is.added put (leaves.content told) (is.behind told));
    }

-- nothing was taken, and the writer stored nothing more
pub still_written : (tells : Type 0) (o p : LineOut) (w v : Writer) (content content' : List ℕ) → mark_taken p ≡ mark_taken o → jobs_taken p ≡ jobs_taken o
    → v.failed ≡ w.failed → v.stored ≡ w.stored → (tells → content' ≡ content) → IsWritten tells w content o → IsWritten tells v content' p
still_written tells o p w v content content' mark taken failed stored same is =
    let base : base_taken p ≡ base_taken o = ap base_of mark in
    let have = subst (λ e. HaveAdded e (base_taken o) (jobs_taken o) is.added) (sym failed) is.have in
    record {
      added = is.added;
      have = subst (λ n. HaveAdded v.failed n (jobs_taken p) is.added) (sym base) (subst (λ ks. HaveAdded v.failed (base_taken o) ks is.added) (sym taken) have);
      stored = stored ∙ is.stored ∙ ap (λ n. n + length is.added) (sym base);
      behind = λ told. subst (λ n. StandsBehind n content' is.added) (sym base) (subst (λ bs. StandsBehind (base_taken o) bs is.added) (sym (same told)) (is.behind told));
    }

-- a writer of a file that was just opened, at the mark with its length
pub fresh_written : (tells : Type 0) (w : WriterSeen) (file : FileSeen) (o : LineOut) (m : Mark) → w ≡ fresh_seen file → mark_taken o ≡ Some m → m.base ≡ w.writer.stored → jobs_taken o ≡ [] → IsWritten tells w.writer w.file.content o
fresh_written tells w file o m is mark base none =
    let at : base_taken o ≡ w.writer.stored = ap base_of mark ∙ base in
    let all : [] ≡ puts_data (jobs_taken o) = sym (ap puts_data none) in
    record {
      added = [];
      have = subst (λ e. HaveAdded e (base_taken o) (jobs_taken o) []) (sym (ap (λ (x : WriterSeen). x.writer.failed) is)) all;
      stored = omega (arith, at);
      behind = λ told. record {
        first = w.file.content;
        long = ap (λ (x : WriterSeen). length x.file.content) is ∙ sym (ap (λ (x : WriterSeen). x.writer.stored) is) ∙ sym at;
        is = sym (append-nil w.file.content);
      };
    }
