use Rattle.std.proofs.Common.{◌≡◌, ℕ, length, rules, sym, ◌∙◌, ap, subst}
use Rattle.std.proofs.lemmas.Result.{IfErr-weaker}
use Rattle.gw_config.specs.Seen.{settings_in}
use Rattle.gw_config.specs.Settings.{Settings}
use Rattle.file_calls.proofs.Results.{with_err, with_ok}
use Rattle.file_requests.specs.Targets.{IsRequestOf, message_target, request_target}
use Rattle.nfs_procs.specs.World.{opening_target}
use Rattle.nfs_procs.proofs.ContextTargets.{opening_request}
use Rattle.nfs_procs.proofs.world.World.request_of.Goals as goal

pub returns-in-Ok-clause-ending : goal.returns-in-Ok-clause-ending
returns-in-Ok-clause-ending g c = with_ok c.admit_request.result (λ r same. same ∙ c.in-Ok.ensures.ending) c.admit_request.ensures.ending

pub returns-in-Ok-clause-goes_on : goal.returns-in-Ok-clause-goes_on
returns-in-Ok-clause-goes_on g c = with_err c.admit_request.result (λ on. sym c.in-Ok.ensures.ending ∙ on) c.admit_request.ensures.goes_on

pub returns-in-Ok-clause-refused : goal.returns-in-Ok-clause-refused
returns-in-Ok-clause-refused g c =
    let now = c.args.self.now in
    let same : settings_in c.config.result.now ≡ now.tracker.settings = search rules in
    let files : c.file_count.result ≡ length now.names = search rules in
    let target : (conn : ℕ) → request_target conn c.in-Ok.request ≡ message_target now.tracker.settings (length now.names) conn c.args.message
    = λ conn. c.in-Ok.ensures.target conn ∙ ap (λ (x : Settings). message_target x c.file_count.result conn c.args.message) same
    ∙ ap (λ n. message_target now.tracker.settings n conn c.args.message) files in
    IfErr-weaker c.admit_request.result _ _ (λ e h conn. subst (λ t. IsRequestOf (opening_target now.tracker.settings.contexts now.cells t) conn e.xid) (target conn) (h conn))
    c.admit_request.ensures.refused

pub returns-in-Err-clause-refused : goal.returns-in-Err-clause-refused
returns-in-Err-clause-refused g c = λ conn.
    let now = c.args.self.now in
    let same : settings_in c.config.result.now ≡ now.tracker.settings = search rules in
    let files : c.file_count.result ≡ length now.names = search rules in
    let asked = subst (λ (x : Settings). IsRequestOf (message_target x c.file_count.result conn c.args.message) conn c.in-Err.refused.xid) same (c.in-Err.ensures.refused conn) in
    opening_request now.tracker.settings.contexts now.cells (message_target now.tracker.settings (length now.names) conn c.args.message) conn c.in-Err.refused.xid
    (subst (λ n. IsRequestOf (message_target now.tracker.settings n conn c.args.message) conn c.in-Err.refused.xid) files asked)
