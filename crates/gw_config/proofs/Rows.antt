-- Worked configurations: a text, and what it is.
use Rattle.std.proofs.Common.{◌≡◌, pos, negsuc, List, ℕ, Result, Ok, Err, refl}
use Rattle.std.specs.Prelude.{codes}
use Rattle.toml.specs.Parse.{parse_document}
use Rattle.toml.proofs.OnLiterals.{toml_on_literals}
use Rattle.gw_config.specs.Keys.{kind_of}
use Rattle.gw_config.specs.Settings.{Settings, default_limits, default_settings}
use Rattle.gw_config.specs.Refusals.{ConfigRefusal, not_toml, unknown, wrong_type, out_of_range, bad_export, configuration}

abbrev Reads : List ℕ → Result Settings ConfigRefusal → Type 0
unfolding kind_of toml_on_literals
Reads text result = configuration (parse_document text) ≡ result

nothing_set : Reads (codes "") (Ok default_settings)
unfolding Reads kind_of toml_on_literals
nothing_set = refl

limits_by_default : default_limits ≡ record { commits = 1024; history = 131072; line_slots = 8; memory_cap = 8388608; memory_mark = 1048576; pending_max = 65536; ready_cap = 8388608; spill_size = 67108864; timeout_ms = 600000 }
limits_by_default = refl

unknown_setting : Reads (codes "colour=1") (Err (unknown (codes "colour")))
unfolding Reads kind_of toml_on_literals
unknown_setting = refl

setting_out_of_range : Reads (codes "contexts=0") (Err (out_of_range (codes "contexts") (pos 0)))
unfolding Reads kind_of toml_on_literals
setting_out_of_range = refl

setting_without_value : Reads (codes "contexts=") (Err not_toml)
unfolding Reads kind_of toml_on_literals
setting_without_value = refl

one_context : Reads (codes "contexts=1") (Ok (record default_settings { contexts = 1 }))
unfolding Reads kind_of toml_on_literals
one_context = refl

-- a mark that isn't given is lowered to the cap, and one that is given isn't
mark_lowered : Reads (codes "memory_cap=5159") (Ok (record default_settings { limits = record default_limits { memory_cap = 5159; memory_mark = 5159 } }))
unfolding Reads kind_of toml_on_literals
mark_lowered = refl

mark_above_the_cap : Reads (codes "memory_cap=9\nmemory_mark=10") (Err (out_of_range (codes "memory_mark") (pos 10)))
unfolding Reads kind_of toml_on_literals
mark_above_the_cap = refl

-- the first key in the order of the bytes decides, and the mark last
first_key_decides : Reads (codes "workers=0\ncontexts=true") (Err (wrong_type (codes "contexts")))
unfolding Reads kind_of toml_on_literals
first_key_decides = refl

mark_decides_last : Reads (codes "memory_cap=9\nmemory_mark=10\nworkers=-1") (Err (out_of_range (codes "workers") (negsuc 0)))
unfolding Reads kind_of toml_on_literals
mark_decides_last = refl

no_path_to_export : Reads (codes "export='data'") (Err bad_export)
unfolding Reads kind_of toml_on_literals
no_path_to_export = refl
