-- What a cache does to its entries is what the call list says, and what it finds is what the list has.
use Rattle.std.proofs.Common.{◌≡◌, ℕ, ◌≤◌, ◌-◌, Bool, true, false, cond, List, [], ◌∷◌, take, Option, Some, None, Vec, Global, refl, sym, ◌∙◌, ap, subst, option_map, option_and_then}
use Rattle.std.specs.Str.{bytes_eq}
use Rattle.std.specs.Map.{lookup, lookup_entry, remove_entry, set_value}
use Rattle.std.specs.Option.{option_map_or}
use Rattle.std.proofs.lemmas.List.{take-map}
use Rattle.std.specs.Cmp.Lexicographic.{nat_list_eq_equiv}
use Rattle.std.proofs.lemmas.Option.{none-some, same_Some}
use Rattle.lru.specs.LruCache.{LruCache, lru_cache, promoted, put_entries}
use Rattle.lru.proofs.CallerLemmas.{lookup-put_entries}
use Rattle.dup_cache.specs.CallList.{CallList, KeptReply, Empty, Filled, filled_text, reply_for, with_used, with_begun, with_filled, without_call, HasRoom, HasRoomFor}
use Rattle.dup_cache.specs.Entries.{has_bytes, entry_call, entry_calls, cache_list}

abbrev Block : Type 0
Block = Vec ℕ Global

abbrev Cache : Type 0
Cache = LruCache Block KeptReply

abbrev same_block : Block → Block → Bool
same_block a b = bytes_eq a.items b.items

-- ---- entries

lookup-calls : (key : List ℕ) (es : List (Block × KeptReply)) → lookup (bytes_eq key) (entry_calls es) ≡ lookup (has_bytes key) es
lookup-calls key [] = refl
lookup-calls key (e ∷ es) = ap (cond (bytes_eq key e.0.items) (Some e.1)) (lookup-calls key es)

lookup_entry-calls : (key : List ℕ) (es : List (Block × KeptReply)) → lookup_entry (bytes_eq key) (entry_calls es) ≡ option_map entry_call (lookup_entry (has_bytes key) es)
lookup_entry-calls key [] = refl
lookup_entry-calls key (e ∷ es) = by (bytes_eq key e.0.items) (lookup_entry-calls key es)
  where
    by : (b : Bool) → lookup_entry (bytes_eq key) (entry_calls es) ≡ option_map entry_call (lookup_entry (has_bytes key) es)
        → cond b (Some (entry_call e)) (lookup_entry (bytes_eq key) (entry_calls es)) ≡ option_map entry_call (cond b (Some e) (lookup_entry (has_bytes key) es))
    by true rest = refl
    by false rest = rest

removed-calls : (key : List ℕ) (es : List (Block × KeptReply)) → remove_entry (bytes_eq key) (entry_calls es) ≡ entry_calls (remove_entry (has_bytes key) es)
removed-calls key [] = refl
removed-calls key (e ∷ es) = by (bytes_eq key e.0.items) (removed-calls key es)
  where
    by : (b : Bool) → remove_entry (bytes_eq key) (entry_calls es) ≡ entry_calls (remove_entry (has_bytes key) es)
        → cond b (entry_calls es) (entry_call e ∷ remove_entry (bytes_eq key) (entry_calls es)) ≡ entry_calls (cond b es (e ∷ remove_entry (has_bytes key) es))
    by true rest = refl
    by false rest = ap (λ (l : List (List ℕ × KeptReply)). entry_call e ∷ l) rest

set-calls : (key : List ℕ) (es : List (Block × KeptReply)) (w : KeptReply) → set_value (bytes_eq key) (entry_calls es) w ≡ entry_calls (set_value (has_bytes key) es w)
set-calls key [] w = refl
set-calls key (e ∷ es) w = by (bytes_eq key e.0.items) (set-calls key es w)
  where
    by : (b : Bool) → set_value (bytes_eq key) (entry_calls es) w ≡ entry_calls (set_value (has_bytes key) es w)
        → cond b ((e.0.items, w) ∷ entry_calls es) (entry_call e ∷ set_value (bytes_eq key) (entry_calls es) w) ≡ entry_calls (cond b ((e.0, w) ∷ es) (e ∷ set_value (has_bytes key) es w))
    by true rest = refl
    by false rest = ap (λ (l : List (List ℕ × KeptReply)). entry_call e ∷ l) rest

promoted-calls : (key : List ℕ) (es : List (Block × KeptReply)) → promoted (bytes_eq key) (entry_calls es) ≡ entry_calls (promoted (has_bytes key) es)
promoted-calls key es =
    ap (λ (o : Option (List ℕ × KeptReply)). option_map_or (λ e. e ∷ remove_entry (bytes_eq key) (entry_calls es)) o (entry_calls es)) (lookup_entry-calls key es)
    ∙ by (lookup_entry (has_bytes key) es)
  where
    by : (o : Option (Block × KeptReply)) → option_map_or (λ e. e ∷ remove_entry (bytes_eq key) (entry_calls es)) (option_map entry_call o) (entry_calls es)
        ≡ entry_calls (option_map_or (λ e. e ∷ remove_entry (has_bytes key) es) o es)
    by None = refl
    by (Some e) = ap (λ (l : List (List ℕ × KeptReply)). entry_call e ∷ l) (removed-calls key es)

put-calls : (c : Cache) (k : Block) (w : KeptReply) → put_entries bytes_eq (lru_cache (entry_calls c.entries) c.cap) k.items w ≡ entry_calls (put_entries same_block c k w)
put-calls c k w =
    ap (λ (o : Option (List ℕ × KeptReply)). option_map_or (λ e. (e.0, w) ∷ remove_entry (bytes_eq k.items) (entry_calls c.entries)) o ((k.items, w) ∷ take (c.cap - 1) (entry_calls c.entries))) (lookup_entry-calls k.items c.entries)
    ∙ by (lookup_entry (has_bytes k.items) c.entries)
  where
    by : (o : Option (Block × KeptReply)) → option_map_or (λ e. (e.0, w) ∷ remove_entry (bytes_eq k.items) (entry_calls c.entries)) (option_map entry_call o) ((k.items, w) ∷ take (c.cap - 1) (entry_calls c.entries))
        ≡ entry_calls (option_map_or (λ e. (e.0, w) ∷ remove_entry (has_bytes k.items) c.entries) o ((k, w) ∷ take (c.cap - 1) c.entries))
    by None = ap (λ (l : List (List ℕ × KeptReply)). (k.items, w) ∷ l) (take-map entry_call (c.cap - 1) c.entries)
    by (Some e) = ap (λ (l : List (List ℕ × KeptReply)). (e.0.items, w) ∷ l) (removed-calls k.items c.entries)

-- ---- a use changes no value

module _ {K V : Type 0} (test : K → Bool) where
  -- the entry that is found has the value that is found
  abbrev pub Agrees : List (K × V) → Option (K × V) → Type 0
  Agrees es None = lookup test es ≡ None
  Agrees es (Some e) = (lookup test es ≡ Some e.1) × (test e.0 ≡ true)

  skip : (x : K × V) (es : List (K × V)) (o : Option (K × V)) → test x.0 ≡ false → Agrees es o → Agrees (x ∷ es) o
  skip x es None t h = rw t h
  skip x es (Some e) t h = (rw t h.0, h.1)

  pub agrees : (es : List (K × V)) → Agrees es (lookup_entry test es)
  agrees [] = refl
  agrees (e ∷ es) = (elim (test e.0) as (λ b. test e.0 ≡ b → Agrees (e ∷ es) (lookup_entry test (e ∷ es))) [
    | true ↦ λ t. rw t (rw t refl, t)
    | false ↦ λ t. rw t (skip e es (lookup_entry test es) t (agrees es))
  ]) refl

  found : (es : List (K × V)) (o : Option (K × V)) → Agrees es o → lookup test (option_map_or (λ e. e ∷ remove_entry test es) o es) ≡ lookup test es
  found es None h = refl
  found es (Some e) h = rw h.1 (sym h.0)

  pub lookup-promoted : (es : List (K × V)) → lookup test (promoted test es) ≡ lookup test es
  lookup-promoted es = found es (lookup_entry test es) (agrees es)

-- ---- calls of a cache

abbrev list_of : List (List ℕ × KeptReply) → ℕ → CallList
list_of calls most = record { calls = calls; most = most }

pub used_step : (key : List ℕ) (old new : Cache) → new ≡ lru_cache (promoted (has_bytes key) old.entries) old.cap → cache_list new ≡ with_used key (cache_list old)
used_step key old new is = ap cache_list is ∙ ap (λ (es : List (List ℕ × KeptReply)). list_of es old.cap) (sym (promoted-calls key old.entries))

pub begun_step : (key : List ℕ) (room : ℕ) (old new : Cache) (k : Block) (w : KeptReply) → k.items ≡ key → w ≡ Empty room
    → new ≡ lru_cache (put_entries same_block old k w) old.cap → cache_list new ≡ with_begun key room (cache_list old)
begun_step key room old new k w named empty is =
    ap cache_list is
    ∙ (ap (λ (es : List (List ℕ × KeptReply)). list_of es old.cap) (sym (put-calls old k w))
    ∙ (ap (λ (l : List ℕ). list_of (put_entries bytes_eq (lru_cache (entry_calls old.entries) old.cap) l w) old.cap) named
    ∙ ap (λ (v : KeptReply). list_of (put_entries bytes_eq (lru_cache (entry_calls old.entries) old.cap) key v) old.cap) empty))

pub filled_step : (key text : List ℕ) (old new : Cache) (w : KeptReply) → w ≡ Filled text → new ≡ lru_cache (set_value (has_bytes key) old.entries w) old.cap
    → cache_list new ≡ with_filled key text (cache_list old)
filled_step key text old new w filled is =
    ap cache_list is
    ∙ (ap (λ (es : List (List ℕ × KeptReply)). list_of es old.cap) (sym (set-calls key old.entries w))
    ∙ ap (λ (v : KeptReply). list_of (set_value (bytes_eq key) (entry_calls old.entries) v) old.cap) filled)

pub forgotten_step : (key : List ℕ) (old new : Cache) → new ≡ lru_cache (remove_entry (has_bytes key) old.entries) old.cap → cache_list new ≡ without_call key (cache_list old)
forgotten_step key old new is = ap cache_list is ∙ ap (λ (es : List (List ℕ × KeptReply)). list_of es old.cap) (sym (removed-calls key old.entries))

-- what is found once the call was used is what the list answers
pub looked_up : (key : List ℕ) (old new : Cache) (o : Option KeptReply) → new ≡ lru_cache (promoted (has_bytes key) old.entries) old.cap
    → o ≡ lookup (has_bytes key) new.entries → option_and_then filled_text o ≡ reply_for key (cache_list old)
looked_up key old new o is there =
    ap (option_and_then filled_text)
    (there ∙ (ap (λ (c : Cache). lookup (has_bytes key) c.entries) is ∙ (lookup-promoted (has_bytes key) old.entries ∙ sym (lookup-calls key old.entries))))

-- a call that was begun has the room that it was begun with
pub room_there : (key : List ℕ) (room : ℕ) (l : CallList) (n : ℕ) → n ≤ room → HasRoomFor key n (with_begun key room l)
room_there key room l n fits = record {
  room = room;
  begun = lookup-put_entries bytes_eq (lru_cache l.calls l.most) key (Empty room) nat_list_eq_equiv;
  fits = fits;
}

begun_there : (key : List ℕ) (n : ℕ) (c : Cache) (l : CallList) (o : Option KeptReply) (h : HasRoomFor key n l) → cache_list c ≡ l
    → o ≡ lookup (has_bytes key) c.entries → o ≡ Some (Empty h.room)
begun_there key n c l o h seen there = there ∙ (sym (lookup-calls key c.entries) ∙ (ap (λ (m : CallList). lookup (bytes_eq key) m.calls) seen ∙ h.begun))

-- the reply that is found has the room that is asked for
pub room_found : (key : List ℕ) (n : ℕ) (c : Cache) (l : CallList) (r : KeptReply) → HasRoomFor key n l → cache_list c ≡ l
    → Some r ≡ lookup (has_bytes key) c.entries → HasRoom n r
room_found key n c l r h seen there = subst (HasRoom n) (sym (same_Some r (Empty h.room) (begun_there key n c l (Some r) h seen there))) h.fits

-- and one is found
pub none_missing : (key : List ℕ) (n : ℕ) (c : Cache) (l : CallList) → HasRoomFor key n l → cache_list c ≡ l → None ≡ lookup (has_bytes key) c.entries → ⊥
none_missing key n c l h seen there = none-some (Empty h.room) (begun_there key n c l None h seen there)
