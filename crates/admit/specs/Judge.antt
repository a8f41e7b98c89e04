-- What a request meets, as the definitions have it.
use Rattle.std.specs.Prelude.{◌≡◌, length, Option, None, Some}
use Rattle.gw_model.specs.Order.{Accepted}
use Rattle.gw_model.specs.File.{Seen}
use Rattle.gw_model.specs.Admission as model
use Rattle.gw_model.specs.Admission.{WriteRequest, repeat_of, same_range, write_judgement, new_write_judgement}
use Rattle.admit.specs.Calls.{write_request}
use Rattle.admit.specs.State.{AdmitState}
use Rattle.admit.specs.declared.request.WriteReq.{WriteReq}
use Rattle.admit.specs.declared.judge.Repeat.{Repeat}
use Rattle.admit.specs.declared.judge.Repeat.TheVariants.{Differs, Unanswered, Answered, Takes}
use Rattle.admit.specs.declared.judge.Found.{Found}
use Rattle.admit.specs.declared.judge.Found.TheVariants.{Nothing, Pending}
use Rattle.admit.specs.declared.judge.CommitJudgement.{CommitJudgement}
use Rattle.admit.specs.declared.judge.CommitJudgement.TheVariants as meets
use Rattle.admit.specs.declared.judge.WriteJudgement.{WriteJudgement}
use Rattle.admit.specs.declared.judge.WriteJudgement.TheVariants.{Barred, Busy, Compared, Again, Taken}

abbrev pub repeat_value : Repeat → model.Repeat
repeat_value Differs = model.Differs
repeat_value Unanswered = model.Unanswered
repeat_value Answered = model.Answered
repeat_value Takes = model.Takes

-- the entry in the range of a request
abbrev pub MatchesPending : Found → WriteRequest → Option Accepted → Type 0
MatchesPending Nothing q found = found ≡ None
MatchesPending (Pending number r) q found = (entry : Accepted) × (found ≡ Some entry) × (entry.number ≡ number)
    × (repeat_of q entry ≡ repeat_value r) × (entry.place ≡ None)

-- the verdict on a WRITE
abbrev pub MatchesJudgement : WriteJudgement → WriteRequest → Option Accepted → model.WriteJudgement → Type 0
MatchesJudgement Barred q found v = v ≡ model.Barred
MatchesJudgement Busy q found v = v ≡ model.Busy
MatchesJudgement Compared q found v = v ≡ model.Compared
MatchesJudgement (Again number r) q found v = (entry : Accepted) × (v ≡ model.Again entry) × (entry.number ≡ number)
    × (repeat_of q entry ≡ repeat_value r) × (entry.place ≡ None) × (found ≡ Some entry)
MatchesJudgement Taken q found v = v ≡ model.Taken

abbrev pub commit_judgement_of : CommitJudgement → model.CommitJudgement
commit_judgement_of meets.Barred = model.CommitBarred
commit_judgement_of meets.Busy = model.CommitBusy
commit_judgement_of meets.Settles = model.Settles
commit_judgement_of (meets.Waits goal) = model.Waits goal

-- what is found in the range of a request, and what it meets
abbrev pub pending_in_range : WriteReq → Seen → Option Accepted
pending_in_range r s = same_range r.offset (length r.bytes) s.pending

abbrev pub Finds : Found → WriteReq → Seen → Type 0
Finds found r s = MatchesPending found (write_request r) (pending_in_range r s)

abbrev pub JudgesNew : WriteJudgement → WriteReq → AdmitState → Type 0
JudgesNew j r s = MatchesJudgement j (write_request r) None (new_write_judgement s.limits s.side (write_request r) None)

abbrev pub Judges : WriteJudgement → WriteReq → AdmitState → Type 0
Judges j r s = MatchesJudgement j (write_request r) (pending_in_range r s.side.seen) (write_judgement s.limits s.side (write_request r))
