use Rattle.std.proofs.Common.{◌≡◌, ap, subst, sym, ◌∙◌, Result, Ok, Err, IfErr, ℕ}
use Rattle.std.specs.Result.{IsErrAnd}
use Rattle.gw_config.specs.Seen.{settings_in}
use Rattle.file_requests.specs.Messages.{asked_of}
use Rattle.file_calls.proofs.Results.{always_err, with_ok}
use Rattle.file_requests.specs.Targets.{message_target, target_by, is_close, IsRequestOf}
use Rattle.file_requests.specs.declared.message.Asked.{Asked}
use Rattle.file_requests.specs.declared.message.Asked.TheVariants as asked
use Rattle.file_requests.specs.declared.message.Refused.{Refused}
use Rattle.file_requests.proofs.MessageAsked.{goes_on, request_of}
use Rattle.file_requests.proofs.request.read_request.Goals as goal

-- the fault of a `?` is the one that was met
passed_on : {A : Type 0} (r : Result A Refused) (met : Refused) (P : Refused → Type 0) → IsErrAnd r (λ e. e ≡ met) → P met → IfErr r P
passed_on (Ok a) met P same p = tt
passed_on (Err e) met P same p = subst P (sym same) p

pub returns-in_err-read_message-clause-refused : goal.returns-in_err-read_message-clause-refused
returns-in_err-read_message-clause-refused c =
    let asks = λ (conn : ℕ). request_of (settings_in c.args.config.now) c.args.files conn (asked_of c.args.message) c.in_err-read_message.field-0.0.xid c.in_err-read_message.ensures.asked_by in
    passed_on c.from_residual.result c.in_err-read_message.field-0.0 (λ e. (conn : ℕ) → IsRequestOf (message_target (settings_in c.args.config.now) c.args.files conn c.args.message) conn e.xid) c.from_residual.ensures.1 asks

pub returns-in-Read-clause-refused : goal.returns-in-Read-clause-refused
returns-in-Read-clause-refused c =
    let is : asked.Read c.in-Read.xid c.in-Read.args ≡ asked_of c.args.message = sym c.in-Read.is ∙ c.in_ok-read_message.ensures.asked in
    subst (λ (a : Asked). IfErr c.judged_read_request.result (λ (e : Refused). (conn : ℕ) → IsRequestOf (target_by (settings_in c.args.config.now) c.args.files conn a) conn e.xid)) is c.judged_read_request.ensures.refused

pub returns-in-Write-clause-refused : goal.returns-in-Write-clause-refused
returns-in-Write-clause-refused c =
    let is : asked.Write c.in-Write.xid c.in-Write.args ≡ asked_of c.args.message = sym c.in-Write.is ∙ c.in_ok-read_message.ensures.asked in
    subst (λ (a : Asked). IfErr c.judged_write_request.result (λ (e : Refused). (conn : ℕ) → IsRequestOf (target_by (settings_in c.args.config.now) c.args.files conn a) conn e.xid)) is c.judged_write_request.ensures.refused

-- whether its connection ends

pub returns-in_err-read_message-clause-goes_on : goal.returns-in_err-read_message-clause-goes_on
returns-in_err-read_message-clause-goes_on c = always_err c.from_residual.result (goes_on (asked_of c.args.message) c.in_err-read_message.field-0.0.xid c.in_err-read_message.ensures.asked_by)

pub returns-in-Read-clause-ending : goal.returns-in-Read-clause-ending
returns-in-Read-clause-ending c =
    let is : asked.Read c.in-Read.xid c.in-Read.args ≡ asked_of c.args.message = sym c.in-Read.is ∙ c.in_ok-read_message.ensures.asked in
    with_ok c.judged_read_request.result (λ r on. on ∙ ap is_close is) c.judged_read_request.ensures.goes_on

pub returns-in-Read-clause-goes_on : goal.returns-in-Read-clause-goes_on
returns-in-Read-clause-goes_on c =
    let is : asked.Read c.in-Read.xid c.in-Read.args ≡ asked_of c.args.message = sym c.in-Read.is ∙ c.in_ok-read_message.ensures.asked in
    always_err c.judged_read_request.result (ap is_close (sym is))

pub returns-in-Write-clause-ending : goal.returns-in-Write-clause-ending
returns-in-Write-clause-ending c =
    let is : asked.Write c.in-Write.xid c.in-Write.args ≡ asked_of c.args.message = sym c.in-Write.is ∙ c.in_ok-read_message.ensures.asked in
    with_ok c.judged_write_request.result (λ r on. on ∙ ap is_close is) c.judged_write_request.ensures.goes_on

pub returns-in-Write-clause-goes_on : goal.returns-in-Write-clause-goes_on
returns-in-Write-clause-goes_on c =
    let is : asked.Write c.in-Write.xid c.in-Write.args ≡ asked_of c.args.message = sym c.in-Write.is ∙ c.in_ok-read_message.ensures.asked in
    always_err c.judged_write_request.result (ap is_close (sym is))

pub returns-in-Commit-clause-refused : goal.returns-in-Commit-clause-refused
returns-in-Commit-clause-refused c =
    let is : asked.Commit c.in-Commit.xid c.in-Commit.args ≡ asked_of c.args.message = sym c.in-Commit.is ∙ c.in_ok-read_message.ensures.asked in
    subst (λ (a : Asked). IfErr c.judged_commit_request.result (λ (e : Refused). (conn : ℕ) → IsRequestOf (target_by (settings_in c.args.config.now) c.args.files conn a) conn e.xid)) is c.judged_commit_request.ensures.refused

pub returns-in-Commit-clause-ending : goal.returns-in-Commit-clause-ending
returns-in-Commit-clause-ending c =
    let is : asked.Commit c.in-Commit.xid c.in-Commit.args ≡ asked_of c.args.message = sym c.in-Commit.is ∙ c.in_ok-read_message.ensures.asked in
    with_ok c.judged_commit_request.result (λ r on. on ∙ ap is_close is) c.judged_commit_request.ensures.goes_on

pub returns-in-Commit-clause-goes_on : goal.returns-in-Commit-clause-goes_on
returns-in-Commit-clause-goes_on c =
    let is : asked.Commit c.in-Commit.xid c.in-Commit.args ≡ asked_of c.args.message = sym c.in-Commit.is ∙ c.in_ok-read_message.ensures.asked in
    always_err c.judged_commit_request.result (ap is_close (sym is))
