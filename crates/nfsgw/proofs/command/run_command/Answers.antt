use Rattle.std.proofs.Common.{◌∙◌, sym}
use Rattle.replay.specs.declared.status.Status.TheVariants as status
use Rattle.replay.proofs.RunEnd.{runs_usage, completes}
use Rattle.nfsgw.proofs.CommandRefusals.{runs_refusal, judged_refusal, ends_otherwise, completes_refusal}
use Rattle.nfsgw.proofs.command.run_command.Goals as goal

pub returns-then-not-is_replay-clause-run : goal.returns-then-not-is_replay-clause-run
returns-then-not-is_replay-clause-run g c = runs_usage g.C.File.AppendFile.tells _ _

pub returns-in-Ok-clause-run : goal.returns-in-Ok-clause-run
returns-in-Ok-clause-run g c = rw (rw c.deref-2.ensures.value at c.in-Ok.ensures.accepted) c.replay.ensures.run

pub returns-in-Ok-clause-complete : goal.returns-in-Ok-clause-complete
returns-in-Ok-clause-complete g c = λ words settings read write store.
    let e = c.replay.ensures in
    completes g.C.File.AppendFile.tells _ c.replay.result _ _ e.run e.not_usage e.not_config (λ q. read (e.read_cause q)) (λ q. write (e.write_cause q)) (λ q. store (e.store_cause q))

pub returns-in-Err-clause-run : goal.returns-in-Err-clause-run
returns-in-Err-clause-run g c = rw c.refusal.ensures (runs_refusal g.C.File.AppendFile.tells _ c.in-Err.fault _)

pub returns-in-Err-clause-settings : goal.returns-in-Err-clause-settings
returns-in-Err-clause-settings g c = rw c.refusal.ensures (judged_refusal c.in-Err.fault _ (rw c.deref-2.ensures.value at c.in-Err.ensures.refused))

pub returns-in-Err-clause-read_cause : goal.returns-in-Err-clause-read_cause
returns-in-Err-clause-read_cause g c = λ q. absurd (ends_otherwise c.in-Err.fault status.ReadFault (sym c.refusal.ensures ∙ q) (λ e. cc) (λ f e. cc))

pub returns-in-Err-clause-write_cause : goal.returns-in-Err-clause-write_cause
returns-in-Err-clause-write_cause g c = λ q. absurd (ends_otherwise c.in-Err.fault status.WriteFault (sym c.refusal.ensures ∙ q) (λ e. cc) (λ f e. cc))

pub returns-in-Err-clause-store_cause : goal.returns-in-Err-clause-store_cause
returns-in-Err-clause-store_cause g c = λ q. absurd (ends_otherwise c.in-Err.fault status.StoreFault (sym c.refusal.ensures ∙ q) (λ e. cc) (λ f e. cc))

pub returns-in-Err-clause-complete : goal.returns-in-Err-clause-complete
returns-in-Err-clause-complete g c = λ words settings read write store.
    rw c.refusal.ensures (completes_refusal c.in-Err.fault _ _ (rw c.deref-2.ensures.value at c.in-Err.ensures.refused) settings)

pub returns-in-Err-clause-usage : goal.returns-in-Err-clause-usage
returns-in-Err-clause-usage g c =
    let is = rw c.deref.ensures.value at c.is_replay.ensures in
    let true_is = c.if-not-is_replay.false in
    (λ q. absurd (ends_otherwise c.in-Err.fault status.Usage (sym c.refusal.ensures ∙ q) (λ e. cc) (λ f e. cc)), λ q. absurd (cc (is, q, true_is)))
