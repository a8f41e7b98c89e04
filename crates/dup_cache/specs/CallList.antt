-- The call list: the calls that were used last, each with its reply, so that a call that is sent again gets the reply that it
-- had (the duplicate request cache of RFC 1813 section 4.5).
use Rattle.std.specs.Prelude.{◌≡◌, ℕ, ◌≤◌, ◌++◌, List, [], Option, Some, None}
use Rattle.std.specs.Int.{w32, to_be_bytes}
use Rattle.std.specs.Str.{bytes_eq}
use Rattle.std.specs.Option.{option_and_then}
use Rattle.std.specs.Map.{lookup, remove_entry, set_value}
use Rattle.lru.specs.LruCache.{lru_cache, promoted, put_entries}

-- a reply that is kept: room for so many bytes until it is filled, and then its text
pub data KeptReply : Type 0 where
  Empty : ℕ → KeptReply
  Filled : List ℕ → KeptReply

-- the calls by their keys, the last used first, each with its reply, and how many there may be
pub record CallList : Type 0 where
  pub calls : List (List ℕ × KeptReply)
  pub most : ℕ

-- the key of a call: the client's address, big-endian, and then the whole call
unfoldable pub call_key : ℕ → List ℕ → List ℕ
call_key client call = to_be_bytes w32 client ++ call

abbrev pub no_replies : ℕ → CallList
no_replies most = record { calls = []; most = most }

abbrev pub filled_text : KeptReply → Option (List ℕ)
filled_text (Empty room) = None
filled_text (Filled text) = Some text

-- what a call is answered with: its reply, where it is kept and filled
abbrev pub reply_for : List ℕ → CallList → Option (List ℕ)
reply_for key l = option_and_then filled_text (lookup (bytes_eq key) l.calls)

-- a call that is kept becomes the last used
abbrev pub with_used : List ℕ → CallList → CallList
with_used key l = record l { calls = promoted (bytes_eq key) l.calls }

-- A call becomes the last used, with room for its reply: in place of itself where it is kept, and else in place of the one
-- that was used longest ago where as many are kept as may be.
abbrev pub with_begun : List ℕ → ℕ → CallList → CallList
with_begun key room l = record l { calls = put_entries bytes_eq (lru_cache l.calls l.most) key (Empty room) }

-- the reply of a call is this text, and the order stays
abbrev pub with_filled : List ℕ → List ℕ → CallList → CallList
with_filled key text l = record l { calls = set_value (bytes_eq key) l.calls (Filled text) }

abbrev pub without_call : List ℕ → CallList → CallList
without_call key l = record l { calls = remove_entry (bytes_eq key) l.calls }

-- there is room for a text of n bytes
abbrev pub HasRoom : ℕ → KeptReply → Type 0
HasRoom n (Empty room) = n ≤ room
HasRoom n (Filled text) = ⊥

-- the call's reply was begun, with room for a text of n bytes
pub record HasRoomFor (key : List ℕ) (n : ℕ) (l : CallList) : Type 0 where
  pub room : ℕ
  pub begun : lookup (bytes_eq key) l.calls ≡ Some (Empty room)
  pub fits : n ≤ room
