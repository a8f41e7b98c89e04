-- The settings of a gateway, as a table of TOML has them, each with its default.
use Rattle.std.specs.Prelude.{ℕ, ℤ, pos, min, Bool, false, List, codes, Option, Some, option_and_then, unwrap_or}
use Rattle.gw_model.specs.declared.limits.Limits.{Limits}
use Rattle.toml.specs.Data.{Members, no_members, get_member, as_bool, as_integer, as_str}

pub record Settings : Type 0 where
  -- the changing calls that are kept with their replies
  pub calls : ℕ
  -- the files that may be open at once
  pub contexts : ℕ
  -- the path that can be mounted
  pub export : List ℕ
  -- the number of the file system in each handle
  pub fsid : ℕ
  -- what each open file is held to
  pub limits : Limits
  -- nothing may be changed
  pub read_only : Bool
  -- the threads that serve
  pub workers : ℕ

-- a whole number, or the default
abbrev pub whole_or : ℕ → Option ℤ → ℕ
whole_or usual (Some (pos n)) = n
whole_or usual _ = usual

-- what a table has at a key, or the default
abbrev pub number_at : List ℕ → ℕ → Members → ℕ
number_at key usual table = whole_or usual (option_and_then as_integer (get_member key table))

abbrev pub switch_at : List ℕ → Members → Bool
switch_at key table = unwrap_or (option_and_then as_bool (get_member key table)) false

abbrev pub text_at : List ℕ → List ℕ → Members → List ℕ
text_at key usual table = unwrap_or (option_and_then as_str (get_member key table)) usual

-- the limits of a file. A mark that isn't given is lowered to the cap.
abbrev pub limits_of : Members → Limits
limits_of table = record {
  commits = number_at (codes "commits") 1024 table;
  history = number_at (codes "history") 131072 table;
  line_slots = number_at (codes "line_slots") 8 table;
  memory_cap = number_at (codes "memory_cap") 8388608 table;
  memory_mark = number_at (codes "memory_mark") (min (number_at (codes "memory_cap") 8388608 table) 1048576) table;
  pending_max = number_at (codes "pending_max") 65536 table;
  ready_cap = number_at (codes "ready_cap") 8388608 table;
  spill_size = number_at (codes "spill_size") 67108864 table;
  timeout_ms = number_at (codes "timeout_ms") 600000 table;
}

abbrev pub settings_of : Members → Settings
settings_of table = record {
  calls = number_at (codes "calls") 256 table;
  contexts = number_at (codes "contexts") 128 table;
  export = text_at (codes "export") (codes "/") table;
  fsid = number_at (codes "fsid") 1 table;
  limits = limits_of table;
  read_only = switch_at (codes "read_only") table;
  workers = number_at (codes "workers") 4 table;
}

-- the settings where nothing is set
abbrev pub default_limits : Limits
default_limits = limits_of no_members

abbrev pub default_settings : Settings
default_settings = settings_of no_members
