-- What holds of a run whose settings are refused.
use Rattle.std.proofs.Common.{◌≡◌, ◌≢◌, ℕ, List, Option, Some, None, Result, Ok, Err, sym}
use Rattle.gw_config.specs.Faults.{IsFaultOf}
use Rattle.gw_config.specs.Refusals.{ConfigRefusal}
use Rattle.gw_config.specs.Settings.{Settings}
use Rattle.gw_config.specs.declared.fault.ConfigFault.{ConfigFault}
use Rattle.gw_config.specs.declared.fault.ConfigFault.TheVariants as fault
use Rattle.nfsgw.specs.Command.{refusal_of, IsAccepted, IsJudged}
use Rattle.replay.specs.Headline.{Outside, Runs, IsComplete}
use Rattle.replay.specs.declared.status.Status.{Status}
use Rattle.replay.specs.declared.status.Status.TheVariants as status
use Rattle.replay.proofs.RunEnd.{runs_refused, runs_starved}

pub runs_refusal : (tells : Type 0) (settings : Settings) (f : ConfigFault) (o : Outside) → Runs tells settings (refusal_of f) o o
runs_refusal tells settings fault.Syntax o = runs_refused tells settings fault.Syntax o
runs_refusal tells settings (fault.Unknown key) o = runs_refused tells settings (fault.Unknown key) o
runs_refusal tells settings (fault.WrongType key) o = runs_refused tells settings (fault.WrongType key) o
runs_refusal tells settings (fault.OutOfRange key value) o = runs_refused tells settings (fault.OutOfRange key value) o
runs_refusal tells settings fault.BadExport o = runs_refused tells settings fault.BadExport o
runs_refusal tells settings fault.Memory o = runs_starved tells settings o

pub judged_refusal : (f : ConfigFault) (c : Result Settings ConfigRefusal) → IsFaultOf c f → IsJudged (refusal_of f) c
judged_refusal fault.Syntax c h = (h, λ e. cc)
judged_refusal (fault.Unknown key) c h = (h, λ e. cc)
judged_refusal (fault.WrongType key) c h = (h, λ e. cc)
judged_refusal (fault.OutOfRange key value) c h = (h, λ e. cc)
judged_refusal fault.BadExport c h = (h, λ e. cc)
judged_refusal fault.Memory c h = tt

-- it ends in no other way
pub ends_otherwise : (f : ConfigFault) (x : Status) → refusal_of f ≡ x → x ≢ status.NoMemory → ((g : ConfigFault) → x ≢ status.BadConfig g) → ⊥
ends_otherwise fault.Syntax x e memory config = config fault.Syntax (sym e)
ends_otherwise (fault.Unknown key) x e memory config = config (fault.Unknown key) (sym e)
ends_otherwise (fault.WrongType key) x e memory config = config (fault.WrongType key) (sym e)
ends_otherwise (fault.OutOfRange key value) x e memory config = config (fault.OutOfRange key value) (sym e)
ends_otherwise fault.BadExport x e memory config = config fault.BadExport (sym e)
ends_otherwise fault.Memory x e memory config = memory (sym e)

-- settings that are accepted are refused only for want of memory
abbrev IsRefusal : ConfigRefusal → Result Settings ConfigRefusal → Type 0
IsRefusal r c = c ≡ Err r

none_accepted : (r : ConfigRefusal) (c : Result Settings ConfigRefusal) → IsRefusal r c → IsAccepted c → ⊥
none_accepted r (Ok settings) e a = cc
none_accepted r (Err x) e a = a

pub completes_refusal : (f : ConfigFault) (c : Result Settings ConfigRefusal) (left : Option (List ℕ)) → IsFaultOf c f → IsAccepted c → IsComplete left (refusal_of f)
completes_refusal fault.Syntax c left h a = absurd (none_accepted _ c h a)
completes_refusal (fault.Unknown key) c left h a = absurd (none_accepted _ c h a)
completes_refusal (fault.WrongType key) c left h a = absurd (none_accepted _ c h a)
completes_refusal (fault.OutOfRange key value) c left h a = absurd (none_accepted _ c h a)
completes_refusal fault.BadExport c left h a = absurd (none_accepted _ c h a)
completes_refusal fault.Memory c None h a = tt
completes_refusal fault.Memory c (Some xs) h a = tt
