-- How the entries of a cache show as a call list.
use Rattle.std.specs.Prelude.{ℕ, Bool, true, false, List, map, Vec, vec_capacity}
use Rattle.std.specs.Str.{bytes_eq}
use Rattle.std.specs.declared.alloc.Global.{Global}
use Rattle.lru.specs.LruCache.{LruCache}
use Rattle.dup_cache.specs.CallList.{CallList, KeptReply, Empty, Filled}

-- a block of bytes as a reply, by whether it was filled
abbrev pub block_reply : Bool → Vec ℕ Global → KeptReply
block_reply true block = Filled block.items
block_reply false block = Empty (vec_capacity block)

-- the keys are told apart by their bytes
abbrev pub has_bytes : List ℕ → Vec ℕ Global → Bool
has_bytes key k = bytes_eq key k.items

abbrev pub entry_call : Vec ℕ Global × KeptReply → List ℕ × KeptReply
entry_call e = (e.0.items, e.1)

abbrev pub entry_calls : List (Vec ℕ Global × KeptReply) → List (List ℕ × KeptReply)
entry_calls = map entry_call

abbrev pub cache_list : LruCache (Vec ℕ Global) KeptReply → CallList
cache_list c = record { calls = entry_calls c.entries; most = c.cap }
