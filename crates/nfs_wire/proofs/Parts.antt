-- The parts of arguments are read from exactly their spellings.
use Rattle.std.proofs.Common.{ℕ, List, [], ◌∷◌, ◌++◌, refl}
use Rattle.gw_model.specs.declared.Stable.{Stable}
use Rattle.gw_model.specs.declared.Stable.TheVariants.{Unstable, DataSync, FileSync}
use Rattle.xdr.specs.Reading.{Cursor, Reading, fixed_at}
use Rattle.xdr.specs.Rows.{Item, Fixed}
use Rattle.xdr.specs.Forms.{◌&◌, map_at, constant_at}
use Rattle.xdr.specs.Exact.{IsExact}
use Rattle.nfs_types.specs.Types.{set_row, set_at, device_row, device_at}
use Rattle.nfs_types.specs.declared.set.SetAttr.{SetAttr}
use Rattle.nfs_types.specs.declared.attr.Device.{Device}
use Rattle.xdr.proofs.Exact.{exact_fixed, exact_opaque, both, remade, given_arm, made_arm, has_given, has_made, HasArm, union}
use Rattle.nfs_types.proofs.Types.{exact_set, exact_device}
use Rattle.nfs_wire.specs.declared.args.CreateHow.{CreateHow}
use Rattle.nfs_wire.specs.declared.args.CreateHow.TheVariants.{Unchecked, Guarded, Exclusive}
use Rattle.nfs_wire.specs.declared.args.NodeKind.{NodeKind}
use Rattle.nfs_wire.specs.declared.args.NodeKind.TheVariants.{Regular, Directory, Block, Character, Link, Socket, Fifo}
use Rattle.nfs_wire.specs.Arguments.{handle_row, handle_at, name_row, name_at, path_row, path_at, dir_op_row, dir_op_of, dir_op_at, stable_row, stable_at, how_row, how_at, node_row, block_of, character_of, node_at}

pub exact_handle : IsExact handle_at handle_row
exact_handle = exact_opaque 64

pub exact_path : IsExact path_at path_row
exact_path = exact_opaque 1024

abbrev pub verifier_row : List ℕ → List Item
verifier_row v = Fixed 8 v ∷ []

pub exact_verifier : IsExact (fixed_at 8) verifier_row
exact_verifier = exact_fixed 8

pub exact_place : IsExact dir_op_at dir_op_row
unfolding dir_op_at
exact_place =
    remade dir_op_of (λ p. (p.dir, p.name)) (handle_at & name_at) (λ t. handle_row t.0 ++ name_row t.1) dir_op_row (both handle_at name_at handle_row name_row exact_handle (exact_opaque 4096)) (λ p. refl) (λ t. refl)

abbrev stables : List (ℕ × (Cursor → Reading Stable))
stables = (0, constant_at Unstable) ∷ (1, constant_at DataSync) ∷ (2, constant_at FileSync) ∷ []

stable_arm : (s : Stable) → HasArm stable_row stables s
stable_arm Unstable = has_given stable_row stables 0 Unstable refl (λ place c. refl)
stable_arm DataSync = has_given stable_row stables 1 DataSync refl (λ place c. refl)
stable_arm FileSync = has_given stable_row stables 2 FileSync refl (λ place c. refl)

pub exact_stable : IsExact stable_at stable_row
unfolding stable_at
exact_stable = union stable_row stables (given_arm stable_row 0 Unstable refl, (given_arm stable_row 1 DataSync refl, (given_arm stable_row 2 FileSync refl, tt))) stable_arm

abbrev hows : List (ℕ × (Cursor → Reading CreateHow))
hows = (0, map_at Unchecked set_at) ∷ (1, map_at Guarded set_at) ∷ (2, map_at Exclusive (fixed_at 8)) ∷ []

how_arm : (h : CreateHow) → HasArm how_row hows h
how_arm (Unchecked s) = has_made how_row hows 0 Unchecked set_at set_row exact_set s refl (λ place c. refl)
how_arm (Guarded s) = has_made how_row hows 1 Guarded set_at set_row exact_set s refl (λ place c. refl)
how_arm (Exclusive v) = has_made how_row hows 2 Exclusive (fixed_at 8) verifier_row exact_verifier v refl (λ place c. refl)

pub exact_how : IsExact how_at how_row
unfolding how_at
exact_how =
    union how_row hows
    (made_arm how_row 0 Unchecked set_at set_row exact_set (λ s. refl), (made_arm how_row 1 Guarded set_at set_row exact_set (λ s. refl), (made_arm how_row 2 Exclusive (fixed_at 8) verifier_row exact_verifier (λ v. refl), tt)))
    how_arm

abbrev device_node_row : SetAttr × Device → List Item
device_node_row t = set_row t.0 ++ device_row t.1

exact_device_node : IsExact (set_at & device_at) device_node_row
exact_device_node = both set_at device_at set_row device_row exact_set exact_device

abbrev nodes : List (ℕ × (Cursor → Reading NodeKind))
nodes =
    (1, constant_at Regular)
    ∷ (2, constant_at Directory)
    ∷ (3, map_at block_of (set_at & device_at))
    ∷ (4, map_at character_of (set_at & device_at))
    ∷ (5, constant_at Link)
    ∷ (6, map_at Socket set_at)
    ∷ (7, map_at Fifo set_at)
    ∷ []

node_arm : (n : NodeKind) → HasArm node_row nodes n
node_arm Regular = has_given node_row nodes 1 Regular refl (λ place c. refl)
node_arm Directory = has_given node_row nodes 2 Directory refl (λ place c. refl)
node_arm (Block s d) = has_made node_row nodes 3 block_of (set_at & device_at) device_node_row exact_device_node (s, d) refl (λ place c. refl)
node_arm (Character s d) = has_made node_row nodes 4 character_of (set_at & device_at) device_node_row exact_device_node (s, d) refl (λ place c. refl)
node_arm Link = has_given node_row nodes 5 Link refl (λ place c. refl)
node_arm (Socket s) = has_made node_row nodes 6 Socket set_at set_row exact_set s refl (λ place c. refl)
node_arm (Fifo s) = has_made node_row nodes 7 Fifo set_at set_row exact_set s refl (λ place c. refl)

pub exact_node : IsExact node_at node_row
unfolding node_at
exact_node =
    union node_row nodes
    (given_arm node_row 1 Regular refl, (given_arm node_row 2 Directory refl, (made_arm node_row 3 block_of (set_at & device_at) device_node_row exact_device_node (λ t. refl), (made_arm node_row 4 character_of (set_at & device_at) device_node_row exact_device_node (λ t. refl), (given_arm node_row 5 Link refl, (made_arm node_row 6 Socket set_at set_row exact_set (λ s. refl), (made_arm node_row 7 Fifo set_at set_row exact_set (λ s. refl), tt)))))))
    node_arm
