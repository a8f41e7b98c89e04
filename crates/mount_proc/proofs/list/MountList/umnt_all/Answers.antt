use Rattle.mount_proc.proofs.MountLists.{filtered_is_list}
use Rattle.mount_proc.proofs.list.MountList.umnt_all.Goals as goal

pub invariant_of-self : goal.invariant_of-self
invariant_of-self c = rw c.remove_host.ensures (filtered_is_list _ _ c.self.invariant)
