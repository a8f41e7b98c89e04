-- The keys of a configuration, and what the value of each is.
use Rattle.std.specs.Prelude.{ℕ, ◌-◌, ◌^◌, List, codes, bytes_eq, Option, Some, None, if◌then◌else◌}
use Rattle.gw_config.specs.declared.kind.ValueKind.{ValueKind}
use Rattle.gw_config.specs.declared.kind.ValueKind.TheVariants.{Number, Switch, ExportPath}

-- what the value of a key is, if there is such a key
unfoldable pub kind_of : List ℕ → Option ValueKind
kind_of key =
    if bytes_eq key (codes "calls") then Some (Number 1 256)
    else if bytes_eq key (codes "commits") then Some (Number 1 1024)
    else if bytes_eq key (codes "contexts") then Some (Number 1 128)
    else if bytes_eq key (codes "export") then Some ExportPath
    else if bytes_eq key (codes "fsid") then Some (Number 0 (2 ^ 63 - 1))
    else if bytes_eq key (codes "history") then Some (Number 1 131072)
    else if bytes_eq key (codes "line_slots") then Some (Number 1 8)
    else if bytes_eq key (codes "memory_cap") then Some (Number 1 8388608)
    else if bytes_eq key (codes "memory_mark") then Some (Number 0 8388608)
    else if bytes_eq key (codes "pending_max") then Some (Number 1 65536)
    else if bytes_eq key (codes "read_only") then Some Switch
    else if bytes_eq key (codes "ready_cap") then Some (Number 1 8388608)
    else if bytes_eq key (codes "spill_size") then Some (Number 0 (2 ^ 40))
    else if bytes_eq key (codes "timeout_ms") then Some (Number 1 (2 ^ 53))
    else if bytes_eq key (codes "workers") then Some (Number 1 16)
    else None
