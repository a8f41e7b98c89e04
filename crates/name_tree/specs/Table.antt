-- The table of the name procedures: the order of refusals, and what a change asks for (RFC 1813 section 3.3).
use Rattle.std.specs.Prelude.{ℕ, zero, suc, ◌%◌, Bool, true, false, not, ◌&&◌, ◌||◌, List, [], ◌∷◌, length, Option, Some, None, is_none, is_some, nat_lt, ◌==◌, if◌then◌else◌}
use Rattle.std.specs.Option.{option_map}
use Rattle.std.specs.List.{list_any}
use Rattle.std.specs.Str.{bytes_eq}
use Rattle.gw_model.specs.Statuses as status
use Rattle.nfs_types.specs.Types.{moment_time}
use Rattle.nfs_types.specs.declared.time.Time.{Time}
use Rattle.nfs_types.specs.declared.time.SetTime.{SetTime}
use Rattle.nfs_types.specs.declared.time.SetTime.TheVariants.{Leave, Server, At}
use Rattle.nfs_types.specs.declared.set.SetAttr.{SetAttr}
use Rattle.nfs_types.specs.declared.attr.Attr.{Attr}
use Rattle.rpc_msg.specs.declared.call.Caller.{Caller}
use Rattle.name_tree.specs.declared.edit.Edit.{Edit}
use Rattle.name_tree.specs.declared.edit.Edit.TheVariants.{Make, Remove, Rename, Set}
use Rattle.name_tree.specs.declared.request.How.{How}
use Rattle.name_tree.specs.declared.request.How.TheVariants.{Unchecked, Guarded, Exclusive}
use Rattle.name_tree.specs.declared.request.NameRequest.{NameRequest}
use Rattle.name_tree.specs.declared.request.NameRequest.TheVariants as request
use Rattle.name_tree.specs.Refusals.{when, ◌>>◌}
use Rattle.name_tree.specs.Access.{may_at, is_owner}
use Rattle.name_tree.specs.Tree.{Node, Tree, node, is_dir, is_regular, child, parent_of, is_bare, would_loop, is_dots, last_id}

-- What a procedure looks at.
pub record NameScene : Type 0 where
  pub tree : Tree
  pub caller : Caller
  pub read_only : Bool

abbrev pub node_attr : Tree → ℕ → Option Attr
node_attr t id = option_map (λ n. n.attr) (node t id)

abbrev pub may_change : NameScene → ℕ → Bool
may_change s dir = may_at 2 s.caller (node s.tree dir)

-- the name check: at most 255 bytes, at least one, and none of them a `/` or a zero
abbrev pub name_refusal : List ℕ → ℕ
name_refusal name =
    when (nat_lt 255 (length name)) status.nametoolong
    >> when ((length name == 0) || (list_any (λ b. b == 47) name || list_any (λ b. b == 0) name)) status.inval

-- what a procedure comes to
pub data NameJudgement : Type 0 where
  Refuse : (status : ℕ) → NameJudgement
  -- this file is it, and nothing changes
  Same : (file : ℕ) → NameJudgement
  Change : (edit : Edit) → NameJudgement

-- a refusal, or else the rest
infixr 5 ◌⊳◌
unfoldable pub ◌⊳◌ : ℕ → NameJudgement → NameJudgement
zero ⊳ rest = rest
(suc n) ⊳ rest = Refuse (suc n)

-- a change at a name of a directory
unfoldable pub change_refusal : NameScene → ℕ → List ℕ → ℕ
change_refusal s dir name =
    when (is_none (node s.tree dir)) status.stale
    >> when (not (is_dir s.tree dir)) status.notdir
    >> name_refusal name
    >> when s.read_only status.rofs
    >> when (not (may_change s dir)) status.acces

-- REMOVE and RMDIR

abbrev pub file_removal : NameScene → ℕ → List ℕ → Option ℕ → NameJudgement
file_removal s dir name None = Refuse status.noent
file_removal s dir name (Some id) = when (is_dir s.tree id) status.isdir ⊳ Change (Remove dir name)

unfoldable pub judge_remove : NameScene → ℕ → List ℕ → NameJudgement
judge_remove s dir name =
    change_refusal s dir name ⊳ when (is_dots name) status.inval ⊳ file_removal s dir name (child s.tree dir name)

abbrev pub dir_removal : NameScene → ℕ → List ℕ → Option ℕ → NameJudgement
dir_removal s dir name None = Refuse status.noent
dir_removal s dir name (Some id) =
    when (not (is_dir s.tree id)) status.notdir ⊳ when (not (is_bare s.tree id)) status.notempty ⊳ Change (Remove dir name)

unfoldable pub judge_rmdir : NameScene → ℕ → List ℕ → NameJudgement
judge_rmdir s dir name =
    change_refusal s dir name ⊳ when (is_dots name) status.inval ⊳ dir_removal s dir name (child s.tree dir name)

-- RENAME

unfoldable pub both_refusal : NameScene → ℕ → List ℕ → ℕ → List ℕ → ℕ
both_refusal s dir name to to_name =
    when (is_none (node s.tree dir)) status.stale
    >> when (is_none (node s.tree to)) status.stale
    >> when (not (is_dir s.tree dir)) status.notdir
    >> when (not (is_dir s.tree to)) status.notdir
    >> name_refusal name
    >> name_refusal to_name
    >> when s.read_only status.rofs
    >> when (not (may_change s dir)) status.acces
    >> when (not (may_change s to)) status.acces
    >> when (is_dots name || is_dots to_name) status.inval

-- what stands in the way of a move, by what the new name names
unfoldable pub target_refusal : Tree → ℕ → Option ℕ → ℕ
target_refusal t id None = 0
target_refusal t id (Some there) =
    when (if is_dir t there then not (is_dir t id) else is_dir t id) status.exist >> when (not (is_bare t there)) status.notempty

abbrev pub is_same_file : ℕ → Option ℕ → Bool
is_same_file id None = false
is_same_file id (Some there) = id == there

abbrev pub move : NameScene → ℕ → List ℕ → ℕ → List ℕ → Option ℕ → NameJudgement
move s dir name to to_name None = Refuse status.noent
move s dir name to to_name (Some id) =
    if is_same_file id (child s.tree to to_name) then Same id
    else (
    when (would_loop s.tree id to) status.inval
    ⊳ target_refusal s.tree id (child s.tree to to_name)
    ⊳ Change (Rename dir name to to_name))

unfoldable pub judge_rename : NameScene → ℕ → List ℕ → ℕ → List ℕ → NameJudgement
judge_rename s dir name to to_name = both_refusal s dir name to to_name ⊳ move s dir name to to_name (child s.tree dir name)

-- what a set of attributes gives

-- mode bits 0 to 11
abbrev pub mode_or : Option ℕ → ℕ → ℕ
mode_or None mode = mode
mode_or (Some set) mode = set % 4096

abbrev pub number_or : Option ℕ → ℕ → ℕ
number_or None n = n
number_or (Some m) n = m

abbrev pub time_or_none : SetTime → ℕ → Option Time
time_or_none Leave moment = None
time_or_none Server moment = Some (moment_time moment)
time_or_none (At time) moment = Some time

abbrev pub sets_time : SetTime → Bool
sets_time Leave = false
sets_time _ = true

-- whether anything but the size is set
abbrev pub sets_more : SetAttr → Bool
sets_more a = is_some a.mode || is_some a.uid || is_some a.gid || sets_time a.atime || sets_time a.mtime

-- a number is set, and to another one
abbrev pub is_other : Option ℕ → ℕ → Bool
is_other None n = false
is_other (Some m) n = not (m == n)

abbrev pub guard_differs : Option Time → Time → Bool
guard_differs None time = false
guard_differs (Some guard) time = not ((guard.seconds == time.seconds) && (guard.nanos == time.nanos))

-- SETATTR

unfoldable pub setattr_refusal : NameScene → Attr → SetAttr → Option Time → ℕ
setattr_refusal s n a guard =
    when s.read_only status.rofs
    >> when (guard_differs guard n.ctime) status.not_sync
    >> when (sets_more a && not (is_owner s.caller n)) status.perm
    >> when (is_other a.uid n.uid && not (s.caller.uid == 0)) status.perm
    >> when (is_some a.size && not (is_regular n.kind)) status.inval
    >> when (is_other a.size n.size) status.notsupp

abbrev pub attr_change : Bool → ℕ → ℕ → Attr → SetAttr → NameJudgement
attr_change false moment id n a = Same id
attr_change true moment id n a =
    Change (
    Set id (mode_or a.mode n.mode) (number_or a.uid n.uid) (number_or a.gid n.gid)
    (time_or_none a.atime moment) (time_or_none a.mtime moment))

abbrev pub judge_set : NameScene → ℕ → ℕ → Option Attr → SetAttr → Option Time → NameJudgement
judge_set s moment id None a guard = Refuse status.stale
judge_set s moment id (Some n) a guard = setattr_refusal s n a guard ⊳ attr_change (sets_more a) moment id n a

unfoldable pub judge_setattr : NameScene → ℕ → ℕ → SetAttr → Option Time → NameJudgement
judge_setattr s moment id a guard = judge_set s moment id (node_attr s.tree id) a guard

-- CREATE

abbrev pub no_set : SetAttr
no_set = record { mode = None; uid = None; gid = None; size = None; atime = Leave; mtime = Leave }

-- a new node with the caller's uid and gid where none is set
abbrev pub new_edit : Tree → Caller → (moment dir : ℕ) → List ℕ → (kind mode : ℕ) → SetAttr → List ℕ → Option (List ℕ) → Edit
new_edit t c moment dir name kind mode a path verifier =
    Make dir t.next_id kind (mode_or a.mode mode) (number_or a.uid c.uid) (number_or a.gid c.gid) name path
    (time_or_none a.atime moment) (time_or_none a.mtime moment) verifier

abbrev pub id_refusal : Tree → ℕ
id_refusal t = when (t.next_id == last_id) status.serverfault

abbrev pub new_file : NameScene → ℕ → ℕ → List ℕ → SetAttr → Option (List ℕ) → NameJudgement
new_file s moment dir name a verifier =
    when (is_other a.size 0) status.notsupp ⊳ id_refusal s.tree ⊳ Change (new_edit s.tree s.caller moment dir name 1 420 a [] verifier)

abbrev pub create_absent : NameScene → ℕ → ℕ → List ℕ → How → NameJudgement
create_absent s moment dir name (Unchecked a) = new_file s moment dir name a None
create_absent s moment dir name (Guarded a) = new_file s moment dir name a None
create_absent s moment dir name (Exclusive verifier) = new_file s moment dir name no_set (Some verifier)

abbrev pub is_same_verifier : List ℕ → Option (List ℕ) → Bool
is_same_verifier verifier None = false
is_same_verifier verifier (Some had) = bytes_eq verifier had

abbrev pub verifier_in : Option Node → Option (List ℕ)
verifier_in None = None
verifier_in (Some n) = n.verifier

abbrev pub unchecked_there : ℕ → SetAttr → Option Attr → NameJudgement
unchecked_there id a None = Refuse status.exist
unchecked_there id a (Some n) =
    when (not (is_regular n.kind)) status.exist ⊳ when (is_other a.size n.size) status.notsupp ⊳ Same id

abbrev pub create_there : NameScene → ℕ → How → NameJudgement
create_there s id (Guarded a) = Refuse status.exist
create_there s id (Exclusive verifier) =
    if is_same_verifier verifier (verifier_in (node s.tree id)) then Same id else Refuse status.exist
create_there s id (Unchecked a) = unchecked_there id a (node_attr s.tree id)

abbrev pub create_by : NameScene → ℕ → ℕ → List ℕ → How → Option ℕ → NameJudgement
create_by s moment dir name how None = create_absent s moment dir name how
create_by s moment dir name how (Some id) = create_there s id how

unfoldable pub judge_create : NameScene → ℕ → ℕ → List ℕ → How → NameJudgement
judge_create s moment dir name how =
    change_refusal s dir name ⊳ when (is_dots name) status.exist ⊳ create_by s moment dir name how (child s.tree dir name)

-- MKDIR and SYMLINK

unfoldable pub make_refusal : NameScene → ℕ → List ℕ → ℕ
make_refusal s dir name =
    change_refusal s dir name >> when (is_dots name || is_some (child s.tree dir name)) status.exist >> id_refusal s.tree

unfoldable pub judge_mkdir : NameScene → ℕ → ℕ → List ℕ → SetAttr → NameJudgement
judge_mkdir s moment dir name a = make_refusal s dir name ⊳ Change (new_edit s.tree s.caller moment dir name 2 493 a [] None)

unfoldable pub judge_symlink : NameScene → ℕ → ℕ → List ℕ → SetAttr → List ℕ → NameJudgement
judge_symlink s moment dir name a path = make_refusal s dir name ⊳ Change (new_edit s.tree s.caller moment dir name 5 511 a path None)

-- each changing procedure
abbrev pub name_judgement : NameScene → NameRequest → NameJudgement
name_judgement s (request.SetAttr moment file set guard) = judge_setattr s moment file.0 set guard
name_judgement s (request.Create moment dir name how) = judge_create s moment dir.0 name.now how
name_judgement s (request.Mkdir moment dir name set) = judge_mkdir s moment dir.0 name.now set
name_judgement s (request.Symlink moment dir name set path) = judge_symlink s moment dir.0 name.now set path.now
name_judgement s (request.Remove dir name) = judge_remove s dir.0 name.now
name_judgement s (request.Rmdir dir name) = judge_rmdir s dir.0 name.now
name_judgement s (request.Rename dir name to_dir to_name) = judge_rename s dir.0 name.now to_dir.0 to_name.now

-- LOOKUP: `.` is the directory, and `..` its parent

abbrev pub named_file : Tree → ℕ → List ℕ → Option ℕ
named_file t dir name =
    if bytes_eq name (46 ∷ []) then Some dir else if bytes_eq name (46 ∷ 46 ∷ []) then Some (parent_of t dir) else child t dir name

abbrev pub file_or : ℕ → Option ℕ → NameJudgement
file_or status None = Refuse status
file_or status (Some id) = Same id

unfoldable pub lookup_refusal : Tree → Caller → ℕ → List ℕ → ℕ
lookup_refusal t c dir name =
    when (is_none (node t dir)) status.stale
    >> when (not (is_dir t dir)) status.notdir
    >> when (not (may_at 1 c (node t dir))) status.acces
    >> name_refusal name

unfoldable pub judge_lookup : Tree → Caller → ℕ → List ℕ → NameJudgement
judge_lookup t c dir name = lookup_refusal t c dir name ⊳ file_or status.noent (named_file t dir name)
