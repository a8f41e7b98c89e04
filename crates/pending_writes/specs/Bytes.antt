-- The bytes of each pending write, wherever they are.
use Rattle.std.specs.Prelude.{ℕ, List, map}
use Rattle.spill.specs.Kept.{KeptExtent}
use Rattle.range_map.specs.declared.entry.Entry.{Entry}
use Rattle.pending_writes.specs.Extents.{place_bytes}
use Rattle.pending_writes.specs.Writes.{PendingState}

pub record PendingBytes : Type 0 where
  pub number : ℕ
  pub offset : ℕ
  pub bytes : List ℕ

abbrev pub entry_bytes : List KeptExtent → Entry → PendingBytes
entry_bytes kept e = record { number = e.number; offset = e.offset; bytes = place_bytes kept e.place }

-- in the entries' order
abbrev pub pending_bytes : PendingState → List PendingBytes
pending_bytes s = map (entry_bytes s.spill.kept) s.entries
