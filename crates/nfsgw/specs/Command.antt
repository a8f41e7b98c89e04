-- The words of the program's command, and the settings in them.
use Rattle.std.specs.Prelude.{◌≢◌, ℕ, List, [], ◌∷◌, ◌++◌, map, codes, bytes_eq, Bool, true, false, not, ◌&&◌, ◌==◌, Result, Ok, Err, String, string_bytes}
use Rattle.std.specs.Global.{Global}
use Rattle.std.specs.List.{list_all, flat_map}
use Rattle.toml.specs.Parse.{parse_document}
use Rattle.gw_config.specs.Faults.{IsFaultOf}
use Rattle.gw_config.specs.Refusals.{ConfigRefusal, configuration}
use Rattle.gw_config.specs.Settings.{Settings, default_settings}
use Rattle.gw_config.specs.declared.fault.ConfigFault.{ConfigFault}
use Rattle.gw_config.specs.declared.fault.ConfigFault.TheVariants as fault
use Rattle.replay.specs.declared.status.Status.{Status}
use Rattle.replay.specs.declared.status.Status.TheVariants as status

-- words as their bytes
abbrev pub texts : List (String Global) → List (List ℕ)
texts words = map string_bytes words

-- a word that begins with a hyphen is no setting
abbrev pub is_setting : List ℕ → Bool
is_setting [] = true
is_setting (byte ∷ bytes) = not (byte == 45)

-- `replay`, and any number of settings
abbrev pub is_replay : List (List ℕ) → Bool
is_replay [] = false
is_replay (word ∷ settings) = bytes_eq word (codes "replay") && list_all is_setting settings

-- lines, with a line feed between each two
abbrev pub joined_lines : List (List ℕ) → List ℕ
joined_lines [] = []
joined_lines (line ∷ lines) = line ++ flat_map (λ l. 10 ∷ l) lines

-- the words behind the first, as the lines of a text
abbrev pub settings_text : List (List ℕ) → List ℕ
settings_text [] = []
settings_text (word ∷ settings) = joined_lines settings

-- what that text is as a configuration
unfoldable pub words_configuration : List (List ℕ) → Result Settings ConfigRefusal
words_configuration words = configuration (parse_document (settings_text words))

-- its settings, and the defaults where it is refused
abbrev pub settings_or_defaults : Result Settings ConfigRefusal → Settings
settings_or_defaults (Ok settings) = settings
settings_or_defaults (Err refusal) = default_settings

abbrev pub words_settings : List (List ℕ) → Settings
words_settings words = settings_or_defaults (words_configuration words)

-- how a run ends whose settings are refused for this reason
abbrev pub refusal_of : ConfigFault → Status
refusal_of fault.Memory = status.NoMemory
refusal_of f = status.BadConfig f

-- it is accepted
abbrev pub IsAccepted : Result Settings ConfigRefusal → Type 0
IsAccepted (Ok settings) = Unit {0}
IsAccepted (Err refusal) = ⊥

-- A refusal is named just where it is one; under settings that are refused nothing is run.
abbrev pub IsJudged : Status → Result Settings ConfigRefusal → Type 0
IsJudged (status.BadConfig f) c = IsFaultOf c f × (f ≢ fault.Memory)
IsJudged status.Usage c = Unit {0}
IsJudged status.NoMemory c = Unit {0}
IsJudged _ c = IsAccepted c
