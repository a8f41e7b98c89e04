-- An upload between its core, a network that may lose, repeat and reorder, and a peer that may restart, and lose what it was
-- sent before a COMMIT. What holds where the core says that the upload is done (RFC 1813 sections 3.3.7, 3.3.21 and 4.12).
use Rattle.std.specs.Prelude.{◌≡◌, ℕ, zero, suc, ◌+◌, ◌*◌, ◌<◌, Bool, true, false, not, ◌&&◌, ◌==◌, if◌then◌else◌, Option, Some, None, List, [], ◌∷◌, ◌++◌, length, take, drop, filter, slice_get}
use Rattle.std.specs.List.{flat_map, list_any, range_with_len}
use Rattle.put_core.specs.declared.call.Next.{Next}
use Rattle.put_core.specs.declared.call.Next.TheVariants.{Write, Commit, Done}
use Rattle.put_core.specs.declared.call.PutAnswer.{PutAnswer}
use Rattle.put_core.specs.declared.call.PutAnswer.TheVariants.{Written, Committed, Failed}
use Rattle.put_core.specs.Steps.{PutState, new_put, next_of, after_next, after_reply, after_broken, chunk_count, offset_of}

-- The verifier of a peer; the chunks that it has taken since it began, those of them that it has lost, and those that are
-- durable, each by the offset where it begins.
pub record Peer : Type 0 where
  pub verifier : ℕ
  pub taken : List ℕ
  pub lost : List ℕ
  pub durable : List ℕ

-- a reply to the call of this xid
pub record PeerReply : Type 0 where
  pub xid : ℕ
  pub answer : PutAnswer

-- The core, each call that was ever sent, each reply that was ever made, and the peer. Calls and replies stand with the
-- newest first.
pub record UploadWorld : Type 0 where
  pub core : PutState
  pub sent : List Next
  pub replies : List PeerReply
  pub peer : Peer

-- What a peer makes of a call. Does: it does what it is asked, if it can. Shortens: it tells a count other than the whole
-- one, and promises nothing. Refuses: it answers a status.
pub data PeerAct : Type 0 where
  Does : PeerAct
  Shortens : (count : ℕ) → PeerAct
  Refuses : (status : ℕ) → PeerAct

-- Asks: `next_call`. Reaches: a call that was ever sent reaches the peer, perhaps again. Loses: the peer loses a chunk.
-- Restarts: the peer begins anew under a greater verifier. Arrives: a reply that was ever made arrives, perhaps again.
-- Breaks: the link breaks. A loss in the network is a call that never reaches, or a reply that never arrives.
pub data UploadEvent : Type 0 where
  Asks : UploadEvent
  Reaches : (which : ℕ) (act : PeerAct) → UploadEvent
  Loses : (offset : ℕ) → UploadEvent
  Restarts : (by : ℕ) (survivors : List ℕ) → UploadEvent
  Arrives : (which : ℕ) → UploadEvent
  Breaks : UploadEvent

abbrev pub is_in : ℕ → List ℕ → Bool
is_in offset offsets = list_any (λ o. o == offset) offsets

abbrev pub is_none_lost : List ℕ → Bool
is_none_lost [] = true
is_none_lost (o ∷ os) = false

-- a chunk is taken, and lost no more
abbrev pub peer_after_write : ℕ → Peer → Peer
peer_after_write offset p = record p { taken = offset ∷ p.taken; lost = filter (λ o. not (o == offset)) p.lost }

-- what is taken and isn't lost is durable: all of it, since a peer that has lost a chunk refuses
abbrev pub peer_after_commit : Peer → Peer
peer_after_commit p = record p { durable = filter (λ o. not (is_in o p.lost)) p.taken }

-- a chunk that is taken and isn't durable is lost
abbrev pub peer_after_loss : ℕ → Peer → Peer
peer_after_loss offset p =
    if is_in offset p.taken && not (is_in offset p.durable) then record p { lost = offset ∷ p.lost } else p

-- What was taken and isn't durable is gone, but for survivors.
abbrev pub peer_after_restart : ℕ → List ℕ → Peer → Peer
peer_after_restart by survivors p = record {
  verifier = p.verifier + 1 + by;
  taken = p.durable ++ filter (λ o. is_in o p.taken) survivors;
  lost = [];
  durable = p.durable;
}

abbrev pub peer_reply : ℕ → PutAnswer → PeerReply
peer_reply xid answer = record { xid = xid; answer = answer }

-- the peer comes to this, and makes this reply
abbrev pub with_reply : PeerReply → Peer → UploadWorld → UploadWorld
with_reply r p w = record w { replies = r ∷ w.replies; peer = p }

-- each reply has the verifier that the peer has then
abbrev pub after_reach : Option Next → PeerAct → UploadWorld → UploadWorld
after_reach (Some (Write xid offset count)) Does w =
    with_reply (peer_reply xid (Written count w.peer.verifier)) (peer_after_write offset w.peer) w
after_reach (Some (Write xid offset count)) (Shortens short) w =
    if short == count then w else with_reply (peer_reply xid (Written short w.peer.verifier)) w.peer w
after_reach (Some (Write xid offset count)) (Refuses status) w = with_reply (peer_reply xid (Failed status)) w.peer w
after_reach (Some (Commit xid)) Does w =
    if is_none_lost w.peer.lost then with_reply (peer_reply xid (Committed w.peer.verifier)) (peer_after_commit w.peer) w else w
after_reach (Some (Commit xid)) (Shortens short) w = w
after_reach (Some (Commit xid)) (Refuses status) w = with_reply (peer_reply xid (Failed status)) w.peer w
after_reach _ act w = w

-- what the core asks to be sent is sent
abbrev pub with_sent : Next → List Next → List Next
with_sent (Write xid offset count) sent = Write xid offset count ∷ sent
with_sent (Commit xid) sent = Commit xid ∷ sent
with_sent _ sent = sent

abbrev pub after_ask : UploadWorld → UploadWorld
after_ask w = record w { core = after_next w.core; sent = with_sent (next_of w.core) w.sent }

abbrev pub after_arrival : Option PeerReply → UploadWorld → UploadWorld
after_arrival (Some r) w = record w { core = after_reply r.xid r.answer w.core }
after_arrival None w = w

abbrev pub after_event : UploadEvent → UploadWorld → UploadWorld
after_event Asks w = after_ask w
after_event (Reaches which act) w = after_reach (slice_get w.sent which) act w
after_event (Loses offset) w = record w { peer = peer_after_loss offset w.peer }
after_event (Restarts by survivors) w = record w { peer = peer_after_restart by survivors w.peer }
after_event (Arrives which) w = after_arrival (slice_get w.replies which) w
after_event Breaks w = record w { core = after_broken w.core }

abbrev pub after_events : List UploadEvent → UploadWorld → UploadWorld
after_events [] w = w
after_events (e ∷ es) w = after_events es (after_event e w)

-- an upload that has sent nothing, to a peer that has nothing of the file
abbrev pub new_upload : ℕ → ℕ → ℕ → Bool → ℕ → UploadWorld
new_upload size chunk window backward verifier = record {
  core = new_put size chunk window backward;
  sent = [];
  replies = [];
  peer = record { verifier = verifier; taken = []; lost = []; durable = [] };
}

-- each chunk of the upload is durable
abbrev pub IsAllDurable : UploadWorld → Type 0
IsAllDurable w = (c : ℕ) → c < length w.core.chunks → is_in (offset_of w.core c) w.peer.durable ≡ true

-- Whatever happens, where the core says `Done` each chunk is durable.
abbrev pub DoneIsDurable : Type 0
DoneIsDurable = (size chunk window verifier : ℕ) (backward : Bool) (events : List UploadEvent) (v : ℕ)
    → let w = after_events events (new_upload size chunk window backward verifier) in
    next_of w.core ≡ Done v → (c : ℕ) → c < chunk_count size chunk → is_in (c * chunk) w.peer.durable ≡ true

-- the bytes of a chunk
abbrev pub chunk_content : List ℕ → ℕ → ℕ → List ℕ
chunk_content source chunk c = take chunk (drop (c * chunk) source)

-- the bytes of a file of which these chunks are durable, each with the source's bytes
abbrev pub durable_content : List ℕ → ℕ → List ℕ → List ℕ
durable_content source chunk durable =
    flat_map (λ c. if is_in (c * chunk) durable then chunk_content source chunk c else [])
    (range_with_len 0 (chunk_count (length source) chunk))

-- So the durable bytes are then the source.
abbrev pub DoneIsSource : Type 0
DoneIsSource = (source : List ℕ) (chunk window verifier : ℕ) (backward : Bool) (events : List UploadEvent) (v : ℕ) → 0 < chunk
    → let w = after_events events (new_upload (length source) chunk window backward verifier) in
    next_of w.core ≡ Done v → durable_content source chunk w.peer.durable ≡ source

-- It does say so: where nothing is lost and each call is answered before the next one is sent, after one round for each
-- chunk and one for the COMMIT.
abbrev pub rounds : ℕ → List UploadEvent
rounds zero = []
rounds (suc n) = Asks ∷ Reaches 0 Does ∷ Arrives 0 ∷ rounds n

abbrev pub UndisturbedEnds : Type 0
UndisturbedEnds = (size chunk window verifier : ℕ) (backward : Bool) → 0 < window
    → let w = after_events (rounds (chunk_count size chunk + 1)) (new_upload size chunk window backward verifier) in
    next_of w.core ≡ Done verifier

-- It does also where it is disturbed, here after a chunk was lost, the peer restarted, and both chunks were sent anew: three
-- bytes in chunks of two, from the last on.
abbrev pub restart_events : List UploadEvent
restart_events =
    Asks ∷ Asks ∷ Reaches 0 Does ∷ Reaches 1 Does ∷ Arrives 1 ∷ Arrives 0 ∷ Asks ∷ Loses 2 ∷ Reaches 0 Does ∷ Restarts 0 [] ∷ Reaches 0 Does
    ∷ Arrives 0 ∷ Asks ∷ Asks ∷ Reaches 0 Does ∷ Reaches 1 Does ∷ Arrives 1 ∷ Arrives 0 ∷ Asks ∷ Reaches 0 Does ∷ Arrives 0 ∷ []

abbrev pub RestartEnds : Type 0
RestartEnds = next_of (after_events restart_events (new_upload 3 2 2 true 1)).core ≡ Done 2
