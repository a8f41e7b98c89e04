use Rattle.std.proofs.Common.{sym}
use Rattle.xdr.proofs.Opaques.{fixed_forth}
use Rattle.nfs_wire.proofs.items.Items.verifier.Goals as goal

pub copy_from_slice-requires : goal.copy_from_slice-requires
copy_from_slice-requires c = sym (fixed_forth 8 _ _ _ c.in_ok-bytes.ensures.ok).0
