-- Where no call is made, nothing is noted, and the file stays as it is.
use Rattle.std.proofs.Common.{◌≡◌, ℕ, ◌-◌, inr, true, false, Option, None, Some, is_some, List, [], ◌++◌, refl, sym, ◌∙◌, ap, append-nil, arith}
use Rattle.gw_model.specs.Views.{TraceState}
use Rattle.gw_model.specs.File as model
use Rattle.gw_model.specs.File.{Writer}
use Rattle.gw_model.specs.Ahead.{CallResult}
use Rattle.std.specs.Option.{option_map}
use Rattle.writeback.specs.declared.owed.Failed.{Failed}
use Rattle.writeback.specs.declared.owed.Owed.{Owed}
use Rattle.writeback.specs.declared.owed.Fate.{Fate}
use Rattle.writeback.specs.State.{FileSeen, WriterSeen, writer_seen, append_failure}
use Rattle.writeback.specs.declared.writer.Appended.{Appended}
use Rattle.writeback.specs.declared.writer.Appended.TheVariants as appended
use Rattle.writeback.specs.Steps.{with_calls, Leaves, FailsBy}
use Rattle.gw_outside.proofs.Sums.{calls_tally-none}

pub none_noted : (n : TraceState) → n ≡ with_calls [] n
none_noted n = let room : n.room ≡ n.room - 0 = omega arith in
    ap (λ os. let x : TraceState = record n { outcomes = os } in x) (sym (append-nil n.outcomes)) ∙ ap (λ r. let x : TraceState = record n { outcomes = n.outcomes ++ []; room = r } in x) room

pub unchanged : (tells : Type 0) (file : FileSeen) → Leaves tells [] [] file file
unchanged tells file = record { mark = refl; tally = sym (calls_tally-none file.tally); content = λ told. sym (append-nil file.content); durable = λ told. omega arith; later = omega arith; fails = omega arith }

-- by what the program's writer keeps

module _ (stored synced : ℕ) (failed : Option Failed) (fate : Option Fate) (owed : List Owed) (file : FileSeen) (w : WriterSeen) (is : writer_seen stored synced failed fate owed file ≡ w) where
  pub not_failed : is_some failed ≡ false → w.writer.failed ≡ None
  not_failed e = sym (ap (λ (x : WriterSeen). x.writer.failed) is) ∙ go failed e
    where
      go : (f : Option Failed) → is_some f ≡ false → option_map append_failure f ≡ None
      go None e = refl
      go (Some x) e = cc

  pub has_failed : is_some failed ≡ true → (e : model.Failure) × (w.writer.failed ≡ Some e)
  has_failed e = let f = go failed e in (f.0, sym (ap (λ (x : WriterSeen). x.writer.failed) is) ∙ f.1)
    where
      go : (f : Option Failed) → is_some f ≡ true → (x : model.Failure) × (option_map append_failure f ≡ Some x)
      go None e = cc
      go (Some x) e = (append_failure x, refl)

-- a job that appends nothing leaves the writer as it was, failed or not
pub keeps_failure : (calls : List CallResult) (old new : Writer) → new.failed ≡ old.failed
    → (ended : Appended) × FailsBy ended [] [] calls old new
keeps_failure calls old new same = go old.failed refl
  where
    go : (f : Option model.Failure) → old.failed ≡ f → (ended : Appended) × FailsBy ended [] [] calls old new
    go None is = (appended.Whole, record { before = is; now = same ∙ is; whole = refl })
    go (Some e) is = (appended.Failed, inr (record { failure = e; before = is; now = same ∙ is; none = refl }))
