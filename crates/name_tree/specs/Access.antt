-- Who may do what, by the bits of a mode (RFC 1813 section 3.3.4).
use Rattle.std.specs.Prelude.{ℕ, ◌+◌, ◌*◌, ◌/◌, ◌%◌, Bool, true, false, not, ◌&&◌, ◌||◌, take, Option, Some, None, ◌==◌, if◌then◌else◌}
use Rattle.std.specs.List.{list_any}
use Rattle.nfs_types.specs.declared.attr.Attr.{Attr}
use Rattle.rpc_msg.specs.declared.call.Caller.{Caller}
use Rattle.name_tree.specs.Tree.{Node, is_directory}

abbrev pub in_group : Caller → ℕ → Bool
in_group c gid = (c.gid == gid) || list_any (λ g. g == gid) (take c.gid_count c.gids)

-- one of the three bits of a class: 4 read, 2 write, 1 search
abbrev pub has_bit : ℕ → ℕ → ℕ → Bool
has_bit mode class bit = mode / (class * bit) % 2 == 1

-- the first class that fits: the owner's bits, the group's, or the others'
abbrev pub class_of : Caller → Attr → ℕ
class_of c a = if c.uid == a.uid then 64 else if in_group c a.gid then 8 else 1

abbrev pub may : ℕ → Caller → Attr → Bool
may bit c a = if c.uid == 0 then true else has_bit a.mode (class_of c a) bit

abbrev pub is_owner : Caller → Attr → Bool
is_owner c a = (c.uid == 0) || (c.uid == a.uid)

abbrev pub may_at : ℕ → Caller → Option Node → Bool
may_at bit c None = false
may_at bit c (Some n) = may bit c n.attr

-- ACCESS: what of a mask is given. READ 1, LOOKUP 2, MODIFY 4, EXTEND 8, DELETE 16, EXECUTE 32.

-- a bit of a mask that is asked for and allowed
abbrev pub given_bit : Bool → ℕ → ℕ → ℕ
given_bit allowed mask bit = if allowed then (if mask / bit % 2 == 1 then bit else 0) else 0

unfoldable pub given_access : Caller → Attr → ℕ → ℕ
given_access c a mask =
    given_bit (may 4 c a) mask 1
    + given_bit (is_directory a.kind && may 1 c a) mask 2
    + given_bit (may 2 c a) mask 4
    + given_bit (may 2 c a) mask 8
    + given_bit (is_directory a.kind && may 2 c a) mask 16
    + given_bit (not (is_directory a.kind) && may 1 c a) mask 32

abbrev pub access_at : Caller → Option Node → ℕ → ℕ
access_at c None mask = 0
access_at c (Some n) mask = given_access c n.attr mask
