-- How a fault stands for a refusal.
use Rattle.std.specs.Prelude.{◌≡◌, Result, Err, string_bytes}
use Rattle.gw_config.specs.Settings.{Settings}
use Rattle.gw_config.specs.Refusals.{ConfigRefusal, not_toml, unknown, wrong_type, out_of_range, bad_export}
use Rattle.gw_config.specs.declared.fault.ConfigFault.{ConfigFault}
use Rattle.gw_config.specs.declared.fault.ConfigFault.TheVariants as fault

-- want of memory, or a refusal of which this holds
abbrev pub IsMemoryOr : ConfigFault → (ConfigRefusal → Type 0) → Type 0
IsMemoryOr fault.Syntax Holds = Holds not_toml
IsMemoryOr (fault.Unknown key) Holds = Holds (unknown (string_bytes key))
IsMemoryOr (fault.WrongType key) Holds = Holds (wrong_type (string_bytes key))
IsMemoryOr (fault.OutOfRange key value) Holds = Holds (out_of_range (string_bytes key) value)
IsMemoryOr fault.BadExport Holds = Holds bad_export
IsMemoryOr fault.Memory Holds = Unit {0}

-- want of memory, or the refusal of this configuration
abbrev pub IsFaultOf : Result Settings ConfigRefusal → ConfigFault → Type 0
IsFaultOf result e = IsMemoryOr e (λ refusal. result ≡ Err refusal)
