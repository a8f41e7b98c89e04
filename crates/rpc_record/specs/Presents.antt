-- The record of a stream that isn't whole yet: the headers of its whole fragments, where the present one stands, and the bytes
-- of all, joined.
use Rattle.std.specs.Prelude.{◌≡◌, ◌≢◌, ℕ, ◌+◌, ◌-◌, ◌<◌, ◌≤◌, Bool, false, List, [], ◌∷◌, ◌++◌, length, take, drop}
use Rattle.rpc_record.specs.declared.fault.FrameFault.{FrameFault}
use Rattle.rpc_record.specs.declared.fault.FrameFault.TheVariants.{Memory}
use Rattle.rpc_record.specs.declared.place.Place.{Place}
use Rattle.rpc_record.specs.declared.present.Present.{Present}
use Rattle.rpc_record.specs.declared.present.Walked.{Walked}
use Rattle.rpc_record.specs.declared.present.Walked.TheVariants as walked
use Rattle.rpc_record.specs.declared.present.Taken.{Taken}
use Rattle.rpc_record.specs.declared.present.Taken.TheVariants as taken
use Rattle.rpc_record.specs.Records.{record_max, fragments_max, fragment_len, Open, Fault, Whole, front, front_from}
use Rattle.rpc_record.specs.Places.{header_part}

-- the bytes of fragments with these headers
abbrev pub bytes_under : List (List ℕ) → ℕ
bytes_under [] = 0
bytes_under (word ∷ words) = fragment_len word + bytes_under words

-- the bytes as they were received: each whole fragment behind its header, then the present one behind the part of its header
abbrev pub received : List (List ℕ) → List ℕ → List ℕ → List ℕ
received [] part joined = part ++ joined
received (word ∷ words) part joined = word ++ take (fragment_len word) joined ++ received words part (drop (fragment_len word) joined)

abbrev pub whole_headers : Present → List (List ℕ)
whole_headers s = take s.place.done s.finished

abbrev pub held_of : Present → List ℕ
held_of s = received (whole_headers s) (header_part s.place) s.joined.items

-- `have` is of whole fragments, and `body` of the present one
pub record IsPlace (p : Place) (have body : List ℕ) : Type 0 where
  pub size : length p.header ≡ 4
  pub most : p.done ≤ fragments_max
  pub few : p.total ≤ record_max
  pub filled : p.filled ≤ 4
  pub in_header : p.filled < 4 → (body ≡ []) × (length have ≡ p.total)
  pub in_body : p.filled ≡ 4
      → (p.done < fragments_max) × (length body + p.lacks ≡ fragment_len p.header) × (length have + fragment_len p.header ≡ p.total)

-- The stream `all` was looked at up to `rest`. Unless memory was refused, the bytes before that are kept.
pub record IsWalk (words : List (List ℕ)) (p : Place) (joined : List ℕ) (refused : Bool) (rest all : List ℕ) : Type 0 where
  pub have : List ℕ
  pub body : List ℕ
  pub place : IsPlace p have body
  pub so_far : (more : List ℕ) → front (all ++ more) ≡ front_from (fragments_max - p.done) have (header_part p ++ body ++ rest ++ more)
  pub kept : refused ≡ false
      → (joined ≡ have ++ body) × (bytes_under words ≡ length have) × (received words (header_part p) joined ++ rest ≡ all)

abbrev pub Stands : Present → Bool → List ℕ → List ℕ → Type 0
Stands s refused rest all = IsWalk (whole_headers s) s.place s.joined.items refused rest all

-- what a stage of a walk leaves
abbrev pub GoesOn : Present → Bool → List ℕ → Present → Bool → List ℕ → Type 0
GoesOn old was rest new refused behind = (all : List ℕ) → Stands old was rest all → Stands new refused behind all

abbrev pub IsFaultIn : Present → Bool → List ℕ → FrameFault → Type 0
IsFaultIn s refused rest fault = (all : List ℕ) → Stands s refused rest all → (front all ≡ Fault fault) × (fault ≢ Memory)

-- the present fragment lacks a byte, if its header is whole
abbrev pub IsShort : Place → Type 0
IsShort p = p.filled ≡ 4 → 0 < p.lacks

-- a record that isn't whole
abbrev pub IsPresent : Present → Type 0
IsPresent s = Stands s false [] (held_of s) × IsShort s.place

-- Whatever of a stream was looked at: the record ends there.
abbrev pub IsEnd : Present → Type 0
IsEnd s = (refused : Bool) (rest all : List ℕ) → Stands s refused rest all
    → (refused ≡ false → front all ≡ Whole s.joined.items rest) × ((fault : FrameFault) → front all ≢ Fault fault)

-- what was kept of s before is kept still
pub record Extends (old new : Present) : Type 0 where
  pub words : take old.place.done new.finished ≡ whole_headers old
  pub done : old.place.done ≤ new.place.done
  pub joined : take (length old.joined.items) new.joined.items ≡ old.joined.items

-- what a walk over a piece came to, where `held` was received before
abbrev pub IsWalked : Walked → List ℕ → List ℕ → Present → Type 0
IsWalked walked.Open held piece new = (front (held ++ piece) ≡ Open) × IsPresent new × (held_of new ≡ held ++ piece)
IsWalked (walked.Fault fault) held piece new = (front (held ++ piece) ≡ Fault fault) × (fault ≢ Memory)
IsWalked (walked.Whole taken) held piece new = (front (held ++ piece) ≡ Whole new.joined.items (drop taken piece)) × (taken ≤ length piece)
IsWalked walked.Refused held piece new = (fault : FrameFault) → front (held ++ piece) ≢ Fault fault

-- what a piece came to, where it may be undone
abbrev pub IsTaken : Taken → List ℕ → List ℕ → Present → Type 0
IsTaken taken.All held piece new = (front (held ++ piece) ≡ Open) × (held_of new ≡ held ++ piece)
IsTaken (taken.Record count message) held piece new =
    (front (held ++ piece) ≡ Whole message (drop count piece)) × (count ≤ length piece) × (held_of new ≡ [])

-- why a piece of this stream isn't taken
abbrev pub IsRefusal : FrameFault → List ℕ → Type 0
IsRefusal fault all = (fault ≢ Memory → front all ≡ Fault fault) × (fault ≡ Memory → (other : FrameFault) → front all ≢ Fault other)
