-- Where a stream stands in a record that isn't whole yet.
use Rattle.std.specs.Prelude.{◌≡◌, ℕ, ◌+◌, ◌<◌, ◌≤◌, List, take, set}
use Rattle.rpc_record.specs.declared.place.Place.{Place}
use Rattle.rpc_record.specs.declared.fault.FrameFault.{FrameFault}
use Rattle.rpc_record.specs.declared.fault.FrameFault.TheVariants.{TooLong, TooMany, Memory}
use Rattle.rpc_record.specs.Records.{record_max, fragments_max, fragment_len}

-- the bytes of the present header that are there
abbrev pub header_part : Place → List ℕ
header_part p = take p.filled p.header

-- one byte more of the header
abbrev pub with_byte : Place → ℕ → Place
with_byte p byte = record p { header = set p.header p.filled byte; filled = p.filled + 1 }

-- at a header that is whole and not at fault
abbrev pub in_body : Place → Place
in_body p = record p { lacks = fragment_len p.header; total = p.total + fragment_len p.header }

-- a fragment with this header is within the limits of its record
abbrev pub HasRoom : Place → Type 0
HasRoom p = (p.done < fragments_max) × (p.total + fragment_len p.header ≤ record_max)

-- from a header that is whole to its fragment's bytes
abbrev pub IsJudged : Place → Place → Type 0
IsJudged p new = HasRoom p × (new ≡ in_body p)

-- what is at fault with a header that is whole
abbrev pub IsFaultAt : Place → FrameFault → Type 0
IsFaultAt p TooMany = fragments_max ≤ p.done
IsFaultAt p (TooLong have) = (p.done < fragments_max) × (record_max < have) × (have ≡ p.total + fragment_len p.header)
IsFaultAt p Memory = ⊥
