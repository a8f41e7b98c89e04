use Rattle.std.proofs.Common.{◌≡◌, ◌<◌, Ok, false, length, rules}
use Rattle.mount_proc.specs.Mounts.{is_mounted, mnt_judgement, most_mounts}
use Rattle.mount_proc.proofs.MountLists.{judged_has_place, tried_is_list}
use Rattle.mount_proc.proofs.list.MountList.mnt.Goals as goal

pub invariant_of-self : goal.invariant_of-self
invariant_of-self c =
    let unlisted : is_mounted c.args.host.now c.args.path.now c.self.inside.mounts.items ≡ false = search rules in
    let judged : mnt_judgement c.args.tree.now.tree c.args.export.now c.self.inside.mounts.items c.args.host.now c.args.path.now ≡ Ok c.in-Ok.dir =
    search rules in
    let room : length c.self.inside.mounts.items < most_mounts = judged_has_place _ _ _ _ _ _ judged unlisted in
    tried_is_list _ c.args.host.now c.args.path.now c.self.inside.mounts.items _
    c.list_mount.ensures.ok c.list_mount.ensures.err unlisted room c.self.invariant
