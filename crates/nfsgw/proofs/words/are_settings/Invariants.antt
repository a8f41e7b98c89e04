use Rattle.std.proofs.Common.{◌≡◌, map, drop, string_bytes}
use Rattle.std.specs.List.{list_all}
use Rattle.nfsgw.specs.Command.{is_setting}
use Rattle.nfsgw.proofs.words.are_settings.Given as goal

abbrev pub invariant-loop-word : goal.invariant-loop-word
invariant-loop-word l = list_all is_setting (map string_bytes (drop l.word-index l.words)) ≡ list_all is_setting (map string_bytes l.fn.words)
