-- What a document of TOML is as a configuration: settings, or a refusal.
use Rattle.std.specs.Prelude.{ℕ, ℤ, pos, List, length, codes, slice_index, Bool, false, ◌&&◌, ◌==◌, nat_le, Option, Some, None, Result, Ok, Err, if◌then◌else◌}
use Rattle.gw_model.specs.declared.limits.Limits.{Limits}
use Rattle.toml.specs.Data.{Data, Members, no_members, member, as_bool, as_integer, as_str}
use Rattle.gw_config.specs.Keys.{kind_of}
use Rattle.gw_config.specs.Settings.{Settings, limits_of, settings_of}
use Rattle.gw_config.specs.declared.kind.ValueKind.{ValueKind}
use Rattle.gw_config.specs.declared.kind.ValueKind.TheVariants.{Number, Switch, ExportPath}

-- a refusal, with the key as its bytes
pub data ConfigRefusal : Type 0 where
  not_toml : ConfigRefusal
  unknown : List ℕ → ConfigRefusal
  wrong_type : List ℕ → ConfigRefusal
  out_of_range : List ℕ → ℤ → ConfigRefusal
  bad_export : ConfigRefusal

-- an integer is a whole number from the first to the second
abbrev pub is_between : ℕ → ℕ → ℤ → Bool
is_between low high (pos n) = nat_le low n && nat_le n high
is_between low high _ = false

-- a path to export begins with a slash and has at most 1,024 bytes
abbrev pub is_export : List ℕ → Bool
is_export path = (slice_index path 0 == 47) && nat_le (length path) 1024

-- what is wrong with a value of a kind, if it is of that type
abbrev pub number_refusal : List ℕ → ℕ → ℕ → Option ℤ → Option ConfigRefusal
number_refusal key low high None = Some (wrong_type key)
number_refusal key low high (Some z) = if is_between low high z then None else Some (out_of_range key z)

abbrev pub switch_refusal : List ℕ → Option Bool → Option ConfigRefusal
switch_refusal key None = Some (wrong_type key)
switch_refusal key (Some b) = None

abbrev pub export_refusal : List ℕ → Option (List ℕ) → Option ConfigRefusal
export_refusal key None = Some (wrong_type key)
export_refusal key (Some path) = if is_export path then None else Some bad_export

abbrev pub value_refusal : List ℕ → Option ValueKind → Data → Option ConfigRefusal
value_refusal key None value = Some (unknown key)
value_refusal key (Some (Number low high)) value = number_refusal key low high (as_integer value)
value_refusal key (Some Switch) value = switch_refusal key (as_bool value)
value_refusal key (Some ExportPath) value = export_refusal key (as_str value)

-- what is wrong with a key and its value
abbrev pub key_refusal : List ℕ → Data → Option ConfigRefusal
key_refusal key value = value_refusal key (kind_of key) value

abbrev pub first_of : Option ConfigRefusal → Option ConfigRefusal → Option ConfigRefusal
first_of None later = later
first_of (Some refusal) later = Some refusal

-- what is wrong with the first key, in the order of the bytes, that is refused. The members of a table are in that order.
abbrev pub first_refusal : Members → Option ConfigRefusal
first_refusal no_members = None
first_refusal (member key value rest) = first_of (key_refusal key value) (first_refusal rest)

-- a mark above the cap. One that isn't given never is.
abbrev pub mark_refusal : Limits → Option ConfigRefusal
mark_refusal limits =
    if nat_le limits.memory_mark limits.memory_cap then None
    else Some (out_of_range (codes "memory_mark") (pos limits.memory_mark))

abbrev pub refused_or : Option ConfigRefusal → Settings → Result Settings ConfigRefusal
refused_or None settings = Ok settings
refused_or (Some refusal) settings = Err refusal

-- what a text is as a configuration, by the table that it is read as, if it is a document
abbrev pub configuration : Option Members → Result Settings ConfigRefusal
configuration None = Err not_toml
configuration (Some table) = refused_or (first_of (first_refusal table) (mark_refusal (limits_of table))) (settings_of table)
