use Rattle.std.proofs.Common.{refl}
use Rattle.nfs_wire.proofs.RowLengths.{listing_length, listing_plus_length, new_object_length}
use Rattle.nfs_wire.proofs.lengths.lengths_law.Goals as goal

pub returns : goal.returns
returns c =
    record {
      listing = listing_length;
      listing_plus = listing_plus_length;
      create = new_object_length;
      mkdir = new_object_length;
      symlink = new_object_length;
      setattr = refl;
      remove = refl;
      rmdir = refl;
      rename = refl;
    }
