use Rattle.std.proofs.Common.{arith, ◌-◌, ◌*◌, ◌++◌, sym, ap, append-nil, ◌∙◌}
use Rattle.load_gen.specs.Load.{Excerpt, load_windows}
use Rattle.load_gen.proofs.Excerpts.{windows_more, windows_done}
use Rattle.load_gen.proofs.load.put_windows.Goals as goal

pub loop-window-preserved : goal.loop-window-preserved
loop-window-preserved c =
    let l = c.args.load.now in
    let more =
    windows_more l (load_windows l - c.loop-window.window) _ (8 * c.loop-window.window) _ c.loop-window.numbers _ c.loop-window.text.items _
    (omega arith) (omega arith) (omega arith) c.in_ok-put_window.ensures.text c.in_ok-put_window.ensures.number in
    record { text = more.text ∙ c.loop-window.invariant.text; number = more.number ∙ c.loop-window.invariant.number }

pub returns-clause-text : goal.returns-clause-text
returns-clause-text c =
    let t = c.loop-window.text.items in
    let l = c.args.load.now in
    let done = windows_done l (load_windows l - c.loop-window.window) (8 * c.loop-window.window) c.loop-window.numbers (omega arith) in
    sym (ap (λ (e : Excerpt). t ++ e.text) done ∙ append-nil t) ∙ c.loop-window.invariant.text

pub returns-clause-number : goal.returns-clause-number
returns-clause-number c =
    let l = c.args.load.now in
    let done = windows_done l (load_windows l - c.loop-window.window) (8 * c.loop-window.window) c.loop-window.numbers (omega arith) in
    sym (ap (λ (e : Excerpt). e.number) done) ∙ c.loop-window.invariant.number
