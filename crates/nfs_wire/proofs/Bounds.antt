-- Arguments that were read are within their bounds.
use Rattle.std.proofs.Common.{◌≡◌, ℕ, List, Result, Ok, Err, IfOk}
use Rattle.xdr.specs.declared.fault.XdrFault.{XdrFault}
use Rattle.xdr.specs.Rows.{AllBounded}
use Rattle.xdr.proofs.Texts.{spells_bounded, bounded_rest}
use Rattle.nfs_types.specs.Types.{set_row}
use Rattle.nfs_wire.specs.declared.args.Args.{Args}
use Rattle.nfs_wire.specs.declared.args.Args.TheVariants as args
use Rattle.nfs_wire.specs.declared.fault.ArgsFault.{ArgsFault}
use Rattle.nfs_wire.specs.Faults.{Gives}
use Rattle.nfs_wire.specs.Bounds.{IsWithin}
use Rattle.nfs_wire.specs.Arguments.{path_row, args_row, args_of}
use Rattle.nfs_wire.proofs.Procedures.{args_forth}

row_within : (a : Args) → AllBounded (args_row a) → IsWithin a
row_within args.Null b = tt
row_within (args.Getattr handle) b = b.0
row_within (args.Setattr handle set guard) b = b.0
row_within (args.Lookup place) b = (b.0, b.1.0)
row_within (args.Access handle mask) b = b.0
row_within (args.Readlink handle) b = b.0
row_within (args.Read handle offset count) b = b.0
row_within (args.Write handle offset count level bytes) b = (b.0, b.1.1.1.1.0)
row_within (args.Create place how) b = (b.0, b.1.0)
row_within (args.Mkdir place set) b = (b.0, b.1.0)
row_within (args.Symlink place set path) b = ((b.0, b.1.0), (bounded_rest (set_row set) (path_row path) b.1.1).0)
row_within (args.Mknod place kind) b = (b.0, b.1.0)
row_within (args.Remove place) b = (b.0, b.1.0)
row_within (args.Rmdir place) b = (b.0, b.1.0)
row_within (args.Rename «from» to) b = ((b.0, b.1.0), (b.1.1.0, b.1.1.1.0))
row_within (args.Link handle place) b = (b.0, (b.1.0, b.1.1.0))
row_within (args.Readdir handle cookie verifier count) b = b.0
row_within (args.Readdirplus handle cookie verifier dircount maxcount) b = b.0
row_within (args.Fsstat handle) b = b.0
row_within (args.Fsinfo handle) b = b.0
row_within (args.Pathconf handle) b = b.0
row_within (args.Commit handle offset count) b = b.0
row_within args.MountNull b = tt
row_within (args.Mnt path) b = b.0
row_within args.Dump b = tt
row_within (args.Umnt path) b = b.0
row_within args.Umntall b = tt
row_within args.Export b = tt

pub read_within : (prog proc : ℕ) (bytes : List ℕ) (r : Result Args ArgsFault) → Gives (λ (a : Args). a) r (args_of prog proc bytes) → IfOk r IsWithin
read_within prog proc bytes (Ok a) e = row_within a (spells_bounded bytes (args_row a) (args_forth prog proc bytes a e).1)
read_within prog proc bytes (Err fault) e = tt
