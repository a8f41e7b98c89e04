-- Entries by their keys.
use Rattle.std.specs.Prelude.{List, map, filter, if◌then◌else◌}
use Rattle.std.specs.BTreeMap.{is_at}
use Rattle.std.specs.BTreeSet.{insert_key}
use Rattle.std.specs.Set.{remove_key}
use Rattle.std.specs.declared.cmp.Ordering.{Ordering}
use Rattle.range_map.specs.declared.entry.Entry.{Entry}
use Rattle.range_map.specs.declared.key.EntryKey.{EntryKey}
use Rattle.range_map.specs.contracts.key.EntryKeyOrd.TheImpl as key_order
use Rattle.range_map.specs.declared.entry.Place.{Place}
use Rattle.range_map.specs.Entries.{is_in_memory, lies_in_memory}

-- by offset, then by number
abbrev pub key_cmp : EntryKey → EntryKey → Ordering
key_cmp = (key_order.ghosts).cmp

abbrev pub entry_key : Entry → EntryKey
entry_key e = record { offset = e.offset; number = e.number }

-- each entry with its key
abbrev pub with_keys : List Entry → List (EntryKey × Entry)
with_keys es = map (λ e. (entry_key e, e)) es

-- the keys of the entries in memory
abbrev pub memory_keys : List Entry → List EntryKey
memory_keys es = map entry_key (filter is_in_memory es)

-- the key of one more entry goes in where that is in memory
abbrev pub with_memory_key : Entry → List EntryKey → List EntryKey
with_memory_key e ks = if is_in_memory e then insert_key key_cmp ks (entry_key e) else ks

-- the key of an entry whose bytes go to a place is taken away unless they stay in memory
abbrev pub moved_keys : EntryKey → Place → List EntryKey → List EntryKey
moved_keys k place ks = if lies_in_memory place then ks else remove_key (is_at (key_cmp k)) ks
