use Rattle.std.proofs.Common.{◌≡◌, None, Some, false, ◌∷◌, [], rules}
use Rattle.std.specs.Str.{bytes_eq}
use Rattle.mount_proc.specs.ExportPaths.{behind_front, slash}
use Rattle.mount_proc.proofs.ExportNames.{behind_root, behind_slash}
use Rattle.mount_proc.proofs.path.names_behind.Goals as goal

pub returns-in_default : goal.returns-in_default
returns-in_default c =
    let none : behind_front c.args.export.now c.args.path.now ≡ None = search rules in
    behind_root c.args.export.now c.args.path.now none

pub returns : goal.returns
returns c =
    let other : bytes_eq c.args.export.now (slash ∷ []) ≡ false = search rules in
    let some : behind_front c.args.export.now c.args.path.now ≡ Some c.in-Some.rest.now = search rules in
    let is = behind_slash c.args.export.now c.args.path.now c.in-Some.rest.now other some in
    search rules
