use Rattle.std.proofs.Common.{◌≡◌, ◌-◌, ◌*◌, ◌++◌}
use Rattle.load_gen.specs.Load.{load_windows, windows_excerpt}
use Rattle.load_gen.proofs.load.put_windows.Given as goal

abbrev pub invariant-loop-window : goal.invariant-loop-window
invariant-loop-window l = record {
  text : l.text.items ++ (windows_excerpt l.load (load_windows l.load - l.window) (8 * l.window) l.numbers).text
      ≡ l.initial.text.items ++ (windows_excerpt l.load (load_windows l.load) 0 l.initial.numbers).text;
  number : (windows_excerpt l.load (load_windows l.load - l.window) (8 * l.window) l.numbers).number
      ≡ (windows_excerpt l.load (load_windows l.load) 0 l.initial.numbers).number;
}
