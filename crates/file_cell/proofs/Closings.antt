-- The closing of an idle file: what hearing of the writer comes to there, and the closing of the files that a cell stands for.
use Rattle.std.proofs.Common.{◌≡◌, ℕ, Bool, true, false, nat_lt, nat_le, Option, Some, None, List, [], ◌∷◌, ◌++◌, length, map, refl, sym, ◌∙◌, ap, subst, append-nil}
use Rattle.std.specs.Prelude.{if◌then◌else◌, not, ◌&&◌, ◌||◌}
use Rattle.std.specs.List.{filter}
use Rattle.std.proofs.Math.Bool.{or-false}
use Rattle.gw_model.specs.declared.limits.Limits.{Limits}
use Rattle.gw_model.specs.Ahead.{Outcomes}
use Rattle.gw_model.specs.Order.{Accepted, standing_writes, with_let_go, with_let_go_above, with_write, with_writes}
use Rattle.gw_model.specs.File as model
use Rattle.gw_model.specs.File.{Answer, Entry, Failure, File, Phase, Live, Stale, Side, Waiting, Writer, content, entry_of, is_empty, is_stale, pending_writes, reach_of}
use Rattle.gw_model.specs.Statuses.{io}
use Rattle.gw_model.specs.Admission.{entry_refusals, job_refusals, joined_hull, struck_jobs, waiting_refusals}
use Rattle.gw_model.specs.Ending.{Closing, closing_by, closing_of, heard_phase, last_hearing}
use Rattle.gw_model.specs.Sides.{entries_lost_above, entries_lost_with, IsSideOf, side_hearing_step, side_hearing_step_in, side_last_hearing, side_pump_step, side_stale_step}
use Rattle.gw_model.specs.Admission.{with_ready_sent}
use Rattle.gw_model.specs.Sound.{IsSoundFile, pieces_of}
use Rattle.gw_model.proofs.Givings.{entries_lost}
use Rattle.gw_model.proofs.Turning.{close_leads}
use Rattle.job_line.specs.declared.ends.LineIn.{LineIn}
use Rattle.writeback.specs.State.{FileSeen, fate_answers}
use Rattle.writeback.specs.Steps.{Leaves, fate_after, sync_call, with_calls_ahead, writer_after_sync}
use Rattle.writeback.specs.declared.owed.Synced.{Synced}
use Rattle.writeback.specs.declared.owed.Synced.TheVariants.{Done, Failed}
use Rattle.file_cell.specs.State.{CellState, KnowsFailure}
use Rattle.file_cell.specs.Steps.{closing_cell, is_cell_idle, is_quiet}
use Rattle.file_cell.specs.Files.{ClosesFor, is_done}

-- Where nothing hangs, nothing is let go.

none_first : (p : Accepted → Bool) (x : Accepted) (xs : List Accepted) → filter p (x ∷ xs) ≡ [] → (p x ≡ false) × (filter p xs ≡ [])
none_first p x xs none = go (p x) none
  where
    go : (b : Bool) → (if b then x ∷ filter p xs else filter p xs) ≡ [] → (b ≡ false) × (filter p xs ≡ [])
    go true e = absurd (cc e)
    go false e = (refl, e)

none_with : (p : Accepted → Bool) (x : Accepted) (xs : List Accepted) → p x ≡ false → filter p xs ≡ [] → filter p (x ∷ xs) ≡ []
none_with p x xs first rest = ap (λ (b : Bool). if b then x ∷ filter p xs else filter p xs) first ∙ rest

none_put : (p : Accepted → Bool) (w : Accepted) (xs : List Accepted) → filter p (with_write w xs) ≡ [] → (p w ≡ false) × (filter p xs ≡ [])
none_put p w [] none = none_first p w [] none
none_put p w (x ∷ xs) none = go (nat_le x.offset w.offset) none (none_put p w xs)
  where
    go : (b : Bool) → filter p (if b then x ∷ with_write w xs else w ∷ x ∷ xs) ≡ [] → (filter p (with_write w xs) ≡ [] → (p w ≡ false) × (filter p xs ≡ [])) → (p w ≡ false) × (filter p (x ∷ xs) ≡ [])
    go true e on = let first = none_first p x (with_write w xs) e in let rest = on first.1 in (rest.0, none_with p x xs first.0 rest.1)
    go false e on = none_first p w (x ∷ xs) e

none_among : (p : Accepted → Bool) (sorted ws : List Accepted) → filter p (with_writes sorted ws) ≡ [] → (filter p sorted ≡ []) × (filter p ws ≡ [])
none_among p sorted [] none = (none, refl)
none_among p sorted (w ∷ ws) none =
    let rest = none_among p (with_write w sorted) ws none in
    let first = none_put p w sorted rest.0 in
    (first.1, none_with p w ws first.0 rest.1)

same_let_go : (n : ℕ) (ws : List Accepted) → filter (λ w. nat_lt n w.offset) (standing_writes ws) ≡ [] → with_let_go_above n ws ≡ ws
same_let_go n [] none = refl
same_let_go n (w ∷ ws) none = go w.let_go refl none (same_let_go n ws)
  where
    joined : with_let_go n w ≡ w → with_let_go_above n ws ≡ ws → with_let_go_above n (w ∷ ws) ≡ w ∷ ws
    joined first rest = ap (λ x. x ∷ with_let_go_above n ws) first ∙ ap (λ xs. w ∷ xs) rest

    marked : (b : Bool) → w.let_go ≡ b → (b || nat_lt n w.offset) ≡ b → with_let_go n w ≡ w
    marked b is same = ap (λ (x : Bool). record w { let_go = x }) (ap (λ (x : Bool). x || nat_lt n w.offset) is ∙ same ∙ sym is)

    go : (b : Bool) → w.let_go ≡ b → filter (λ w. nat_lt n w.offset) (if not b then w ∷ standing_writes ws else standing_writes ws) ≡ [] → (filter (λ w. nat_lt n w.offset) (standing_writes ws) ≡ [] → with_let_go_above n ws ≡ ws) → with_let_go_above n (w ∷ ws) ≡ w ∷ ws
    go true is e on = joined (marked true is refl) (on e)
    go false is e on = let first = none_first (λ w. nat_lt n w.offset) w (standing_writes ws) e in joined (marked false is first.0) (on first.1)

none_lost : (f : File) → pending_writes f ≡ [] → entries_lost_above (reach_of f) (map (entry_of f.struck) f.accepted) ≡ map (entry_of f.struck) f.accepted
none_lost f none =
    let r = reach_of f in
    sym (entries_lost f.struck r f.accepted) ∙ ap (map (entry_of f.struck)) (same_let_go r f.accepted (none_among (λ w. nat_lt r w.offset) [] (standing_writes f.accepted) none).1)

-- Hearing of the writer, on an idle side.

lost_with_none : (es : List Entry) → entries_lost_with [] es ≡ es
lost_with_none [] = refl
lost_with_none (e ∷ es) = ap (λ (b : Bool). record e { lost = b } ∷ entries_lost_with [] es) (or-false e.lost) ∙ ap (λ rest. e ∷ rest) (lost_with_none es)

-- what is heard again is in the hull
abbrev IsHeard : Side → Option Failure → Type 0
IsHeard s failed = (e : Failure) → failed ≡ Some e → is_stale s.held.phase ≡ true → joined_hull s.held.hull e.stored s.seen.top ≡ s.held.hull

abbrev with_lists : List Accepted → List model.Job → List model.Job → List Waiting → Side → Side
with_lists pending ready line waiting s = record { seen = record s.seen { pending = pending }; held = record s.held { ready = ready; line = line; waiting = waiting } }

hears_by : (limits : Limits) (failed : Option Failure) (p : Phase) (s : Side) → s.held.phase ≡ p → IsHeard s failed → entries_lost_above s.seen.reach s.seen.entries ≡ s.seen.entries
    → (let x = with_lists [] [] [] [] s in (side_pump_step limits failed (record x { held = record x.held { phase = p } })).side ≡ side_last_hearing failed (record x { held = record x.held { phase = p } }))
unfolding side_pump_step side_hearing_step side_stale_step with_ready_sent
hears_by limits None p s is heard lost = refl
hears_by limits (Some e) (Stale cause) s is heard lost =
    let x = with_lists [] [] [] [] s in
    ap (λ h. let y : Side = record x { held = record x.held { hull = h; phase = Stale cause } } in y) (sym (heard e refl (ap is_stale is)))
hears_by limits (Some e) Live s is heard lost =
    let x = with_lists [] [] [] [] s in
    let shown : List Entry → Side = λ es. record { seen = record x.seen { entries = es }; held = record x.held { hull = joined_hull s.held.hull e.stored s.seen.top; phase = heard_phase Live e } } in
    ap shown (lost_with_none (entries_lost_above s.seen.reach s.seen.entries) ∙ lost)

hears : (limits : Limits) (failed : Option Failure) (s : Side) → IsHeard s failed → entries_lost_above s.seen.reach s.seen.entries ≡ s.seen.entries → s.seen.pending ≡ [] → s.held.ready ≡ [] → s.held.line ≡ [] → s.held.waiting ≡ []
    → (side_pump_step limits failed s).side ≡ side_last_hearing failed s
hears limits failed s heard lost pending ready line waiting =
    let is : s ≡ with_lists [] [] [] [] s =
    ap (λ ps. with_lists ps s.held.ready s.held.line s.held.waiting s) pending
    ∙ ap (λ js. with_lists [] js s.held.line s.held.waiting s) ready
    ∙ ap (λ js. with_lists [] [] js s.held.waiting s) line
    ∙ ap (λ cs. with_lists [] [] [] cs s) waiting in
    subst (λ (x : Side). (side_pump_step limits failed x).side ≡ side_last_hearing failed x) (sym is) (hears_by limits failed s.held.phase s refl heard lost)

-- An idle cell.

pub record IsIdle (c : CellState) : Type 0 where
  pub pending : c.side.seen.pending ≡ []
  pub ready : c.side.held.ready ≡ []
  pub waiting : c.side.held.waiting ≡ []
  pub line : c.side.held.line ≡ []
  pub owed : c.writer.owed ≡ []

all_none : {P R W L O : Type 0} (ps : List P) (rs : List R) (ws : List W) (ls : List L) (os : List O) → (is_empty ps && is_empty rs && is_empty ws && is_empty ls) && is_empty os ≡ true
    → (ps ≡ []) × (rs ≡ []) × (ws ≡ []) × (ls ≡ []) × (os ≡ [])
all_none [] [] [] [] [] e = (refl, refl, refl, refl, refl)
all_none (p ∷ ps) rs ws ls os e = absurd (cc e)
all_none [] (r ∷ rs) ws ls os e = absurd (cc e)
all_none [] [] (w ∷ ws) ls os e = absurd (cc e)
all_none [] [] [] (l ∷ ls) os e = absurd (cc e)
all_none [] [] [] [] (o ∷ os) e = absurd (cc e)

pub idle_is : (c : CellState) → is_cell_idle c ≡ true → IsIdle c
idle_is c idle = let x = all_none c.side.seen.pending c.side.held.ready c.side.held.waiting c.side.held.line c.writer.owed idle in record { pending = x.0; ready = x.1; waiting = x.2; line = x.3; owed = x.4 }

-- The file.

closing_is : (how : Synced) (f : File) (t : Outcomes) → closing_of f (with_calls_ahead (sync_call how ∷ []) t) ≡ closing_by (sync_call how) (last_hearing f.writer.failed f) t
unfolding closing_of
closing_is Done f t = refl
closing_is Failed f t = refl

-- what a closing leaves of a file
record IsClosing (how : Synced) (f : File) (c : Closing) (t : Outcomes) : Type 0 where
  writer : f.writer.owed ≡ [] → record (writer_after_sync how f.writer) { owed = [] } ≡ c.file.writer
  base : c.file.base ≡ f.base
  sound : f.held.ready ≡ [] → IsSoundFile f → IsSoundFile c.file
  content : content c.file ≡ content f
  closed : c.closed ≡ is_done how
  ahead : c.ahead ≡ t

synced_file : Synced → File → File
synced_file how f = record f { writer = writer_after_sync how f.writer }

still_sound : (how : Synced) (f : File) → IsSoundFile f → IsSoundFile (synced_file how f)
unfolding synced_file
still_sound Done f s = record {
  issued = record { order = s.issued.order; fresh = s.issued.fresh; none_left = s.issued.none_left };
  stored = s.stored;
  below = record { compared = s.below.compared; stored = s.below.stored };
}
still_sound Failed f s = s

heard_stale : (p : Phase) (e : Failure) → is_stale (heard_phase p e) ≡ true
heard_stale Live e = refl
heard_stale (Stale cause) e = refl

heard_sound : (news : Option Failure) (f : File) → f.held.ready ≡ [] → IsSoundFile f → IsSoundFile (last_hearing news f)
heard_sound None f ready s = s
heard_sound (Some e) f ready s = record {
  issued = record { order = s.issued.order; fresh = λ live. let x = sym (heard_stale f.held.phase e) ∙ live in absurd (cc x); none_left = λ stale. ap pieces_of ready };
  stored = s.stored;
  below = record { compared = s.below.compared; stored = s.below.stored };
}

heard_same : (news : Option Failure) (f : File) → ((last_hearing news f).writer ≡ f.writer) × ((last_hearing news f).base ≡ f.base) × (content (last_hearing news f) ≡ content f)
heard_same None f = (refl, refl, refl)
heard_same (Some e) f = (refl, refl, refl)

by_sync : (how : Synced) (g : File) (t : Outcomes) → closing_by (sync_call how) g t ≡ record { file = synced_file how g; closed = is_done how; ahead = t }
unfolding synced_file
by_sync Done g t = refl
by_sync Failed g t = refl

content_synced : (how : Synced) (g : File) → content (synced_file how g) ≡ content g
unfolding synced_file
content_synced Done g = refl
content_synced Failed g = refl

owed_same : (how : Synced) (w : Writer) → w.owed ≡ [] → record (writer_after_sync how w) { owed = [] } ≡ writer_after_sync how w
owed_same Done w none = ap (λ xs. record (writer_after_sync Done w) { owed = xs }) (sym none)
owed_same Failed w none = ap (λ xs. record w { owed = xs }) (sym none)

is_closing : (how : Synced) (f : File) (t : Outcomes) → IsClosing how f (closing_of f (with_calls_ahead (sync_call how ∷ []) t)) t
unfolding synced_file
is_closing how f t =
    let g = last_hearing f.writer.failed f in
    let same = heard_same f.writer.failed f in
    subst (λ c. IsClosing how f c t) (sym (closing_is how f t ∙ by_sync how g t)) (record {
      writer = λ none. owed_same how f.writer none ∙ ap (writer_after_sync how) (sym same.0);
      base = same.1;
      sound = λ ready s. still_sound how g (heard_sound f.writer.failed f ready s);
      content = content_synced how g ∙ same.2;
      closed = refl;
      ahead = refl;
    })

pub closes_for : (tells : Type 0) (how : Synced) (file : FileSeen) (input : LineIn) (old : CellState) → is_cell_idle old ≡ true → KnowsFailure old.side old.writer.failed
    → Leaves tells [] (sync_call how ∷ []) old.file file → ClosesFor tells how old (closing_cell how file input old)
closes_for tells how file input old idle knows leaves told_by f t h =
    let u = with_calls_ahead (sync_call how ∷ []) t in
    let x = idle_is old idle in
    let c = is_closing how f t in
    let heard : IsHeard old.side old.writer.failed = λ e is stale. let k = knows stale in subst (λ (d : Failure). joined_hull old.side.held.hull d.stored old.side.seen.top ≡ old.side.held.hull) (same_failure k.failure e (sym k.is ∙ is)) k.joined in
    let pending : pending_writes f ≡ [] = ap (λ (s : Side). s.seen.pending) (sym h.side.is) ∙ x.pending in
    let lost : entries_lost_above old.side.seen.reach old.side.seen.entries ≡ old.side.seen.entries = subst (λ (s : Side). entries_lost_above s.seen.reach s.seen.entries ≡ s.seen.entries) (sym h.side.is) (none_lost f pending) in
    let side : (side_pump_step old.limits old.writer.failed old.side).side ≡ side_last_hearing f.writer.failed old.side =
    hears old.limits old.writer.failed old.side heard lost x.pending x.ready x.line x.waiting ∙ ap (λ (w : Writer). side_last_hearing w.failed old.side) h.writer in
    let owed : f.writer.owed ≡ [] = ap (λ (w : Writer). w.owed) (sym h.writer) ∙ x.owed in
    let ready : f.held.ready ≡ [] = ap (λ (s : Side). s.held.ready) (sym h.side.is) ∙ x.ready in
    record {
      stands = record {
        side = subst (λ (s : Side). IsSideOf s (closing_of f u).file) (sym side) (close_leads old.side f u h.side);
        writer = ap (λ (w : Writer). record (writer_after_sync how w) { owed = [] }) h.writer ∙ c.writer owed;
        base = h.base ∙ sym (ap length c.base);
        sound = c.sound ready h.sound;
        content = leaves.content told_by ∙ append-nil old.file.content ∙ h.content ∙ sym c.content;
      };
      closed = c.closed;
      ahead = c.ahead;
    }
  where
    same_failure : (d e : Failure) → Some d ≡ Some e → d ≡ e
    same_failure d e is = ap (λ (o : Option Failure). elim o [ None ↦ d | Some x ↦ x ]) is

-- The cell.

-- hearing of the writer, an idle side answers nobody and stays idle
idle_answers : (limits : Limits) (failed : Option Failure) (s : Side) → s.seen.pending ≡ [] → s.held.ready ≡ [] → s.held.waiting ≡ [] → (side_pump_step limits failed s).answers ≡ []
unfolding side_pump_step side_hearing_step side_stale_step
idle_answers limits None s pending ready waiting = refl
idle_answers limits (Some e) s pending ready waiting = go s.held.phase
  where
    go : (p : Phase) → (side_hearing_step_in (Some e) p s).answers ≡ []
    go (Stale cause) = refl
    go Live =
        ap (λ ps. (entry_refusals io ps ++ waiting_refusals io s.held.waiting) ++ job_refusals io (struck_jobs s.held.ready)) pending
        ∙ ap (λ cs. waiting_refusals io cs ++ job_refusals io (struck_jobs s.held.ready)) waiting
        ∙ ap (λ js. job_refusals io (struck_jobs js)) ready

quiet_by : (limits : Limits) (failed : Option Failure) (p : Phase) (s : Side) → (let x = with_lists [] [] [] [] s in is_quiet (side_pump_step limits failed (record x { held = record x.held { phase = p } })).side ≡ true)
unfolding side_pump_step side_hearing_step side_stale_step with_ready_sent
quiet_by limits None p s = refl
quiet_by limits (Some e) Live s = refl
quiet_by limits (Some e) (Stale cause) s = refl

-- what is empty stays so
still_idle : (limits : Limits) (failed : Option Failure) (s : Side) → s.seen.pending ≡ [] → s.held.ready ≡ [] → s.held.line ≡ [] → s.held.waiting ≡ [] → is_quiet (side_pump_step limits failed s).side ≡ true
still_idle limits failed s pending ready line waiting =
    let is : s ≡ with_lists [] [] [] [] s =
    ap (λ ps. with_lists ps s.held.ready s.held.line s.held.waiting s) pending
    ∙ ap (λ js. with_lists [] js s.held.line s.held.waiting s) ready
    ∙ ap (λ js. with_lists [] [] js s.held.waiting s) line
    ∙ ap (λ cs. with_lists [] [] [] cs s) waiting in
    subst (λ (x : Side). is_quiet (side_pump_step limits failed x).side ≡ true) (sym is) (quiet_by limits failed s.held.phase s)

none_fated : (how : Synced) → fate_answers (fate_after how) [] ≡ []
none_fated Done = refl
none_fated Failed = refl

pub none_answered : (how : Synced) (file : FileSeen) (input : LineIn) (old : CellState) → is_cell_idle old ≡ true → (closing_cell how file input old).left ≡ []
none_answered how file input old idle = ap (fate_answers (fate_after how)) (idle_is old idle).owed ∙ none_fated how

pub idle_after : (how : Synced) (file : FileSeen) (input : LineIn) (old : CellState) → is_cell_idle old ≡ true → is_cell_idle (closing_cell how file input old) ≡ true
idle_after how file input old idle =
    let x = idle_is old idle in
    ap (λ (q : Bool). q && true) (still_idle old.limits old.writer.failed old.side x.pending x.ready x.line x.waiting)

pub none_heard : (old : CellState) → is_cell_idle old ≡ true → (side_pump_step old.limits old.writer.failed old.side).answers ≡ []
none_heard old idle = let x = idle_is old idle in idle_answers old.limits old.writer.failed old.side x.pending x.ready x.waiting
