-- The table of a port mapper, and what is asked of it (RFC 1833 section 3).
use Rattle.std.specs.Prelude.{ℕ, ◌/◌, ◌^◌, ◌==◌, ◌&&◌, ◌||◌, not, nat_le, nat_lt, Bool, if◌then◌else◌, List, [], ◌∷◌, ◌++◌, length, find, filter, Option, Some, None}
use Rattle.std.specs.List.{list_any}
use Rattle.portmap.specs.declared.ports.Mapping.{Mapping}

-- the port mapper's own program and its version, and the numbers of the transports TCP and UDP (section 3.1)
abbrev pub mapper_program : ℕ
mapper_program = 100000

abbrev pub mapper_version : ℕ
mapper_version = 2

abbrev pub tcp : ℕ
tcp = 6

abbrev pub udp : ℕ
udp = 17

-- the most entries of a table
abbrev pub most_ports : ℕ
most_ports = 1024

-- the greatest port
abbrev pub last_port : ℕ
last_port = 65535

abbrev pub tcp_mapping : ℕ → ℕ → ℕ → Mapping
tcp_mapping prog vers port = record { prog = prog; vers = vers; prot = tcp; port = port }

-- the mapper itself at one port, NFS and MOUNT of version 3 at another one (RFC 1813 sections 2.1 and 5.1)
abbrev pub first_ports : ℕ → ℕ → List Mapping
first_ports own nfs = tcp_mapping mapper_program mapper_version own ∷ tcp_mapping 100003 3 nfs ∷ tcp_mapping 100005 3 nfs ∷ []

-- the entry is of the same program and version
abbrev pub is_of_program : Mapping → Mapping → Bool
is_of_program m entry = entry.prog == m.prog && entry.vers == m.vers

-- and of the same transport
abbrev pub is_same_service : Mapping → Mapping → Bool
is_same_service m entry = is_of_program m entry && entry.prot == m.prot

-- the client's address, whose first byte is the highest, is one of this machine: 127.x.x.x
abbrev pub is_local : ℕ → Bool
is_local client = client / 2 ^ 24 == 127

abbrev pub has_service : List Mapping → Mapping → Bool
has_service table m = list_any (is_same_service m) table

abbrev pub has_program : List Mapping → Mapping → Bool
has_program table m = list_any (is_of_program m) table

abbrev pub is_transport : ℕ → Bool
is_transport prot = prot == tcp || prot == udp

abbrev pub is_port : ℕ → Bool
is_port port = nat_le 1 port && nat_le port last_port

-- SET, by a client of this machine alone, of a port that nothing else has the service of (section 3.2)
abbrev pub may_set : List Mapping → ℕ → Mapping → Bool
may_set table client m = is_local client && is_transport m.prot && is_port m.port && not (has_service table m) && nat_lt (length table) most_ports

abbrev pub after_set : List Mapping → ℕ → Mapping → List Mapping
after_set table client m = if may_set table client m then table ++ m ∷ [] else table

-- UNSET, by a client of this machine alone: all entries of the program go, whatever their transport and port (section 3.2)
abbrev pub may_unset : List Mapping → ℕ → Mapping → Bool
may_unset table client m = is_local client && has_program table m

abbrev pub after_unset : List Mapping → ℕ → Mapping → List Mapping
after_unset table client m = if may_unset table client m then filter (λ entry. not (is_of_program m entry)) table else table

-- GETPORT: the port of the service, or 0 where there is no such entry (section 3.2)
abbrev pub port_in : Option Mapping → ℕ
port_in None = 0
port_in (Some entry) = entry.port

abbrev pub port_of : List Mapping → Mapping → ℕ
port_of table m = port_in (find (is_same_service m) table)
