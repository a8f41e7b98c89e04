-- What the procedures that only read names and attributes come to (RFC 1813 section 3.3): results, or a status.
use Rattle.std.specs.Prelude.{ℕ, List, Option, Some, None, Result, Ok, Err}
use Rattle.std.specs.Option.{option_map}
use Rattle.gw_model.specs.Statuses as status
use Rattle.xdr.specs.Forms.{◌>>=◌}
use Rattle.nfs_types.specs.declared.attr.Attr.{Attr}
use Rattle.rpc_msg.specs.declared.call.Caller.{Caller}
use Rattle.handles.specs.Handle.{handle_text}
use Rattle.nfs_wire.specs.declared.args.Args.{Args}
use Rattle.nfs_wire.specs.declared.args.Args.TheVariants as args
use Rattle.nfs_wire.specs.declared.args.DirOp.{DirOp}
use Rattle.nfs_wire.specs.Results.{Results, Getattr, Lookup, Access, Readlink, Fsstat, Fsinfo, Pathconf, Refused, zeros_of}
use Rattle.name_tree.specs.Access.{access_at}
use Rattle.name_tree.specs.Listing.{link_path}
use Rattle.name_tree.specs.Table.{NameJudgement, Refuse, Same, Change, judge_lookup}
use Rattle.name_tree.specs.Tree.{Tree, node}
use Rattle.name_queries.specs.Found.{file_attr, found_file}
use Rattle.name_queries.specs.System.{system_sizes, system_preferences, name_rules}
use Rattle.name_queries.specs.Listings.{listed_dir, readdir_listing, readdirplus_listing}

abbrev pub getattr_outcome : Tree → ℕ → List ℕ → Result Results ℕ
getattr_outcome t fsid handle = do
  f ← found_file t fsid handle
  Ok (Getattr f.attr)

-- a file with its handle
abbrev pub handle_outcome : List ℕ → Option Attr → Result Results ℕ
handle_outcome handle None = Err status.stale
handle_outcome handle (Some attr) = Ok (Lookup handle attr)

abbrev pub named_outcome : Tree → ℕ → NameJudgement → Result Results ℕ
named_outcome t fsid (Refuse refusal) = Err refusal
named_outcome t fsid (Same file) = handle_outcome (handle_text file fsid) (file_attr t fsid file)
-- no LOOKUP comes to a change
named_outcome t fsid (Change edit) = Err status.serverfault

abbrev pub lookup_outcome : Tree → ℕ → Caller → DirOp → Result Results ℕ
lookup_outcome t fsid c place = do
  d ← found_file t fsid place.dir
  named_outcome t fsid (judge_lookup t c d.file place.name)

abbrev pub access_outcome : Tree → ℕ → Caller → List ℕ → ℕ → Result Results ℕ
access_outcome t fsid c handle mask = do
  f ← found_file t fsid handle
  Ok (Access f.attr (access_at c (node t f.file) mask))

abbrev pub path_outcome : Option (List ℕ) → Result Results ℕ
path_outcome None = Err status.inval
path_outcome (Some path) = Ok (Readlink path)

abbrev pub readlink_outcome : Tree → ℕ → List ℕ → Result Results ℕ
readlink_outcome t fsid handle = do
  f ← found_file t fsid handle
  path_outcome (link_path (node t f.file))

abbrev pub readdir_outcome : Tree → ℕ → Caller → List ℕ → ℕ → List ℕ → ℕ → Result Results ℕ
readdir_outcome t fsid c handle cookie verifier count = do
  d ← listed_dir t fsid c handle cookie verifier
  readdir_listing t d.file cookie count

abbrev pub readdirplus_outcome : Tree → ℕ → Caller → List ℕ → ℕ → List ℕ → ℕ → ℕ → Result Results ℕ
readdirplus_outcome t fsid c handle cookie verifier dircount maxcount = do
  d ← listed_dir t fsid c handle cookie verifier
  readdirplus_listing t fsid d cookie dircount maxcount

-- what is the same for each file of the tree
abbrev pub system_outcome : Tree → ℕ → List ℕ → Results → Result Results ℕ
system_outcome t fsid handle results = do
  f ← found_file t fsid handle
  Ok results

-- what is told of one file, or of the file system whole
abbrev pub object_outcome : Tree → ℕ → Caller → Args → Option (Result Results ℕ)
object_outcome t fsid c (args.Getattr handle) = Some (getattr_outcome t fsid handle)
object_outcome t fsid c (args.Lookup place) = Some (lookup_outcome t fsid c place)
object_outcome t fsid c (args.Access handle mask) = Some (access_outcome t fsid c handle mask)
object_outcome t fsid c (args.Readlink handle) = Some (readlink_outcome t fsid handle)
object_outcome t fsid c (args.Fsstat handle) = Some (system_outcome t fsid handle (Fsstat system_sizes))
object_outcome t fsid c (args.Fsinfo handle) = Some (system_outcome t fsid handle (Fsinfo system_preferences))
object_outcome t fsid c (args.Pathconf handle) = Some (system_outcome t fsid handle (Pathconf name_rules))
object_outcome t fsid c _ = None

-- None for the arguments of another procedure
unfoldable pub query_outcome : Tree → ℕ → Caller → Args → Option (Result Results ℕ)
query_outcome t fsid c (args.Readdir handle cookie verifier count) = Some (readdir_outcome t fsid c handle cookie verifier count)
query_outcome t fsid c (args.Readdirplus handle cookie verifier dircount maxcount) =
    Some (readdirplus_outcome t fsid c handle cookie verifier dircount maxcount)
query_outcome t fsid c a = object_outcome t fsid c a

-- results as they are sent: a refusal has the optional parts of its procedure, which are absent
abbrev pub sent_results : Args → Option (Result Results ℕ) → Option Results
sent_results a None = None
sent_results a (Some (Ok results)) = Some results
sent_results a (Some (Err refusal)) = option_map (Refused refusal) (zeros_of a)

abbrev pub query_results : Tree → ℕ → Caller → Args → Option Results
query_results t fsid c a = sent_results a (query_outcome t fsid c a)
