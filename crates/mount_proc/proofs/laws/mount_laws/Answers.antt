use Rattle.mount_proc.proofs.MountLaws.{host_is_taken_out, mount_is_listed, mount_keeps_others, other_hosts_stay}
use Rattle.mount_proc.proofs.MountLaws.{unmount_keeps_others, unmount_takes_out, unmount_undoes_mount}
use Rattle.mount_proc.proofs.laws.mount_laws.Goals as goal

pub returns : goal.returns
returns c = record {
  listed = mount_is_listed;
  undone = unmount_undoes_mount;
  out = unmount_takes_out;
  host_out = host_is_taken_out;
  kept = mount_keeps_others;
  left = unmount_keeps_others;
  hosts = other_hosts_stay;
}
