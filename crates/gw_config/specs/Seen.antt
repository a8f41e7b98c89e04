-- The settings that a configuration of the program has.
use Rattle.std.specs.Prelude.{string_bytes}
use Rattle.gw_config.specs.Settings.{Settings}
use Rattle.gw_config.specs.declared.config.Config.{Config}

abbrev pub settings_in : Config → Settings
settings_in config = record {
  calls = config.calls;
  contexts = config.contexts;
  export = string_bytes config.export;
  fsid = config.fsid;
  limits = config.limits;
  read_only = config.read_only;
  workers = config.workers;
}
