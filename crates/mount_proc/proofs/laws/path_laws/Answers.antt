use Rattle.mount_proc.proofs.PathLaws.{export_names_root, paths_name_directories}
use Rattle.mount_proc.proofs.laws.path_laws.Goals as goal

pub returns : goal.returns
returns c = record { root = export_names_root; directories = paths_name_directories }
