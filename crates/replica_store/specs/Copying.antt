-- What a copy from one file of an object to another one adds.
use Rattle.std.specs.Prelude.{◌≡◌, ◌++◌, ℕ, List, length}
use Rattle.append_store.specs.Calls.{part_at}

-- behind what was there stands some of what the source has from that length on
pub record Extends (source old new : List ℕ) : Type 0 where
  pub added : ℕ
  pub content : new ≡ old ++ part_at source (length old) added
