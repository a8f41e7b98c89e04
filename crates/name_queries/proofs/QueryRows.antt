-- Worked queries: what each is answered over a small tree, word by word (RFC 1813 section 3.3). The digests were made by md5sum.
use Rattle.std.proofs.Common.{◌≡◌, ℕ, List, [], ◌∷◌, ◌++◌, Some, None, refl}
use Rattle.std.specs.Prelude.{replicate}
use Rattle.md5.specs.Md5.{md5, digest_bytes, hash_after, compress, rounds, block_words}
use Rattle.xdr.specs.Items.{word, long, opaque_text, fixed_text}
use Rattle.handles.specs.Handle.{handle_text, ids_text}
use Rattle.rpc_msg.specs.declared.call.Caller.{Caller}
use Rattle.nfs_wire.specs.declared.args.Args.{Args}
use Rattle.nfs_wire.specs.declared.args.Args.TheVariants as args
use Rattle.nfs_wire.specs.Results.{nfs_forms, mount_forms}
use Rattle.name_tree.specs.Access.{given_access}
use Rattle.name_tree.specs.Table.{◌⊳◌, lookup_refusal, judge_lookup}
use Rattle.name_tree.specs.Tree.{Node, Tree, new_node, root_node}
use Rattle.name_queries.specs.Found.{found_file}
use Rattle.name_queries.specs.Listings.{listed_dir, readdir_listing, readdirplus_listing}
use Rattle.name_queries.specs.Outcomes.{results_text}
use Rattle.name_queries.specs.Queries.{query_outcome, query_results}

abbrev words : List ℕ → List ℕ
words [] = []
words (w ∷ ws) = word w ++ words ws

-- the root with a directory `d` that its owner alone may read, a link `l` to `d`, and a file `f`
abbrev d_node : Node
d_node = new_node 3 5 2 448 7 7 [] None None None (record { seconds = 0; nanos = 0 })

abbrev l_node : Node
l_node = new_node 3 6 5 511 7 7 (100 ∷ []) None None None (record { seconds = 0; nanos = 0 })

abbrev f_node : Node
f_node = new_node 3 7 1 420 7 7 [] None None None (record { seconds = 0; nanos = 0 })

abbrev root : Node
root =
    record {
      attr = root_node.attr;
      parent = 3;
      path = [];
      verifier = None;
      names = (5, 100 ∷ []) ∷ (6, 108 ∷ []) ∷ (7, 102 ∷ []) ∷ [];
    }

abbrev tree : Tree
tree = record { nodes = (3, root) ∷ (5, d_node) ∷ (6, l_node) ∷ (7, f_node) ∷ []; next_id = 8 }

abbrev nobody : Caller
nobody = record { uid = 65534; gid = 65534; gids = replicate 16 0; gid_count = 0 }

-- what is answered over this tree, as file system 1
abbrev Answers : Args → List ℕ → Type 0
unfolding md5 digest_bytes hash_after compress rounds block_words word long opaque_text fixed_text handle_text ids_text nfs_forms mount_forms given_access ◌⊳◌ lookup_refusal judge_lookup found_file listed_dir readdir_listing readdirplus_listing query_outcome
Answers asked ws = results_text (query_results tree 1 nobody asked) ≡ Some (words ws)

-- handles, and the attributes of the root and of the link

abbrev root_handle : List ℕ
unfolding word
root_handle = words (0 ∷ 3 ∷ 0 ∷ 1 ∷ 0xb0d568a0 ∷ 0x67b6395c ∷ 0xee93094d ∷ 0xf5417cec ∷ [])

abbrev d_handle : List ℕ
unfolding word
d_handle = words (0 ∷ 5 ∷ 0 ∷ 1 ∷ 0x28837355 ∷ 0xa8ccf13b ∷ 0xb157234f ∷ 0x031c76e1 ∷ [])

abbrev l_handle : List ℕ
unfolding word
l_handle = words (0 ∷ 6 ∷ 0 ∷ 1 ∷ 0x6a7cf463 ∷ 0x64148f3d ∷ 0x4094288d ∷ 0x742026ba ∷ [])

-- of a file that isn't there, and of the root of another file system
abbrev gone_handle : List ℕ
unfolding word
gone_handle = words (0 ∷ 9 ∷ 0 ∷ 1 ∷ 0x1151121b ∷ 0x00e62e6f ∷ 0x82b08c3d ∷ 0x4ea39bd7 ∷ [])

abbrev other_handle : List ℕ
unfolding word
other_handle = words (0 ∷ 3 ∷ 0 ∷ 2 ∷ 0x651b214f ∷ 0xd22966ec ∷ 0xf76be146 ∷ 0x7b7f315b ∷ [])

abbrev root_attr : List ℕ → List ℕ
root_attr rest =
    2 ∷ 0x1ed ∷ 2 ∷ 0 ∷ 0 ∷ 0 ∷ 4096 ∷ 0 ∷ 4096 ∷ 0 ∷ 0 ∷ 0 ∷ 1 ∷ 0 ∷ 3 ∷ 0 ∷ 0 ∷ 0 ∷ 0 ∷ 0 ∷ 0 ∷ rest

abbrev l_attr : List ℕ → List ℕ
l_attr rest = 5 ∷ 0x1ff ∷ 1 ∷ 7 ∷ 7 ∷ 0 ∷ 1 ∷ 0 ∷ 1 ∷ 0 ∷ 0 ∷ 0 ∷ 1 ∷ 0 ∷ 6 ∷ 0 ∷ 0 ∷ 0 ∷ 0 ∷ 0 ∷ 0 ∷ rest

-- GETATTR, and the refusals of a handle

getattr_root : Answers (args.Getattr root_handle) (0 ∷ root_attr [])
unfolding Answers root_handle
getattr_root = refl

getattr_no_handle : Answers (args.Getattr (97 ∷ [])) (10001 ∷ [])
unfolding Answers
getattr_no_handle = refl

getattr_gone : Answers (args.Getattr gone_handle) (70 ∷ [])
unfolding Answers gone_handle
getattr_gone = refl

getattr_other_system : Answers (args.Getattr other_handle) (70 ∷ [])
unfolding Answers other_handle
getattr_other_system = refl

-- LOOKUP

lookup_l : Answers (args.Lookup (record { dir = root_handle; name = 108 ∷ [] }))
    (0 ∷ 32 ∷ 0 ∷ 6 ∷ 0 ∷ 1 ∷ 0x6a7cf463 ∷ 0x64148f3d ∷ 0x4094288d ∷ 0x742026ba ∷ 1 ∷ l_attr (0 ∷ []))
unfolding Answers root_handle
lookup_l = refl

lookup_no_name : Answers (args.Lookup (record { dir = root_handle; name = 120 ∷ [] })) (2 ∷ 0 ∷ [])
unfolding Answers root_handle
lookup_no_name = refl

lookup_in_link : Answers (args.Lookup (record { dir = l_handle; name = 120 ∷ [] })) (20 ∷ 0 ∷ [])
unfolding Answers l_handle
lookup_in_link = refl

lookup_may_not : Answers (args.Lookup (record { dir = d_handle; name = 120 ∷ [] })) (13 ∷ 0 ∷ [])
unfolding Answers d_handle
lookup_may_not = refl

-- ACCESS: of all bits, reading and looking up

access_root : Answers (args.Access root_handle 63) (0 ∷ 1 ∷ root_attr (3 ∷ []))
unfolding Answers root_handle
access_root = refl

-- READLINK

readlink_l : Answers (args.Readlink l_handle) (0 ∷ 0 ∷ 1 ∷ 0x64000000 ∷ [])
unfolding Answers l_handle
readlink_l = refl

readlink_root : Answers (args.Readlink root_handle) (22 ∷ 0 ∷ [])
unfolding Answers root_handle
readlink_root = refl

-- READDIR

abbrev zeros : List ℕ
zeros = replicate 8 0

readdir_one : Answers (args.Readdir root_handle 0 zeros 52) (0 ∷ 0 ∷ 0 ∷ 0 ∷ 1 ∷ 0 ∷ 3 ∷ 1 ∷ 0x2e000000 ∷ 0 ∷ 1 ∷ 0 ∷ 0 ∷ [])
unfolding Answers root_handle
readdir_one = refl

readdir_too_small : Answers (args.Readdir root_handle 0 zeros 51) (10005 ∷ 0 ∷ [])
unfolding Answers root_handle
readdir_too_small = refl

readdir_last : Answers (args.Readdir root_handle 6 zeros 4096) (0 ∷ 0 ∷ 0 ∷ 0 ∷ 1 ∷ 0 ∷ 7 ∷ 1 ∷ 0x66000000 ∷ 0 ∷ 7 ∷ 0 ∷ 1 ∷ [])
unfolding Answers root_handle
readdir_last = refl

-- with nothing left the listing is done, whatever the count
readdir_nothing : Answers (args.Readdir root_handle 7 zeros 0) (0 ∷ 0 ∷ 0 ∷ 0 ∷ 0 ∷ 1 ∷ [])
unfolding Answers root_handle
readdir_nothing = refl

readdir_bad_cookie : Answers (args.Readdir root_handle 5 (replicate 8 1) 4096) (10003 ∷ 0 ∷ [])
unfolding Answers root_handle
readdir_bad_cookie = refl

readdir_may_not : Answers (args.Readdir d_handle 5 (replicate 8 1) 4096) (13 ∷ 0 ∷ [])
unfolding Answers d_handle
readdir_may_not = refl

readdir_link : Answers (args.Readdir l_handle 5 (replicate 8 1) 4096) (20 ∷ 0 ∷ [])
unfolding Answers l_handle
readdir_link = refl

-- READDIRPLUS: the parts of `.` are 24 bytes, and with it the results are 180

abbrev only_root : List ℕ
only_root =
    0 ∷ 0 ∷ 0 ∷ 0 ∷ 1 ∷ 0 ∷ 3 ∷ 1 ∷ 0x2e000000 ∷ 0 ∷ 1 ∷ 1 ∷ root_attr (
    1 ∷ 32 ∷ 0 ∷ 3 ∷ 0 ∷ 1 ∷ 0xb0d568a0 ∷ 0x67b6395c ∷ 0xee93094d ∷ 0xf5417cec ∷ 0 ∷ 0 ∷ [])

plus_by_parts : Answers (args.Readdirplus root_handle 0 zeros 24 4096) only_root
unfolding Answers root_handle
plus_by_parts = refl

plus_by_bytes : Answers (args.Readdirplus root_handle 0 zeros 4096 180) only_root
unfolding Answers root_handle
plus_by_bytes = refl

plus_few_parts : Answers (args.Readdirplus root_handle 0 zeros 23 4096) (10005 ∷ 0 ∷ [])
unfolding Answers root_handle
plus_few_parts = refl

plus_few_bytes : Answers (args.Readdirplus root_handle 0 zeros 4096 179) (10005 ∷ 0 ∷ [])
unfolding Answers root_handle
plus_few_bytes = refl

-- FSSTAT, FSINFO and PATHCONF

fsstat : Answers (args.Fsstat l_handle)
    (0 ∷ 0 ∷ 0x40000000 ∷ 0 ∷ 0x40000000 ∷ 0 ∷ 0x40000000 ∷ 0 ∷ 1 ∷ 0 ∷ 1 ∷ 0 ∷ 1 ∷ 0 ∷ 0 ∷ [])
unfolding Answers l_handle
fsstat = refl

fsinfo : Answers (args.Fsinfo l_handle)
    (0 ∷ 0 ∷ 0x100000 ∷ 0x100000 ∷ 0x1000 ∷ 0x100000 ∷ 0x100000 ∷ 0x1000 ∷ 0x10000 ∷ 0x7fffffff ∷ 0xffffffff ∷ 0 ∷ 1000000 ∷ 26 ∷ [])
unfolding Answers l_handle
fsinfo = refl

pathconf : Answers (args.Pathconf l_handle) (0 ∷ 0 ∷ 1 ∷ 255 ∷ 1 ∷ 1 ∷ 0 ∷ 1 ∷ [])
unfolding Answers l_handle
pathconf = refl

pathconf_gone : Answers (args.Pathconf gone_handle) (70 ∷ 0 ∷ [])
unfolding Answers gone_handle
pathconf_gone = refl
