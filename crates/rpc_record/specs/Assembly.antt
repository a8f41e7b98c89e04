-- What an assembler is seen as, and how it goes from state to state.
use Rattle.std.specs.Prelude.{◌≡◌, ℕ, ◌-◌, List, [], ◌∷◌, ◌++◌, length, Option, Some, None, Result, Ok, Err}
use Rattle.rpc_record.specs.declared.fault.FrameFault.{FrameFault}
use Rattle.rpc_record.specs.Records.{Front, Open, Fault, Whole, front, End, Rest, Broken, records}

pub record Assembly : Type 0 where
  -- the bytes since the end of the last record, as they were received
  pub held : List ℕ
  -- a record that wasn't given yet
  pub ready : Option (List ℕ)
  pub fault : Option FrameFault

abbrev pub empty_assembly : Assembly
empty_assembly = record { held = []; ready = None; fault = None }

-- how many bytes of a piece were taken, or the fault, and the state after it
abbrev pub FeedResult : Type 0
FeedResult = Result ℕ FrameFault × Assembly

abbrev pub feed_by_front : Assembly → List ℕ → Front → FeedResult
feed_by_front s piece Open = (Ok (length piece), record s { held = s.held ++ piece })
feed_by_front s piece (Fault fault) = (Err fault, record s { fault = Some fault })
feed_by_front s piece (Whole joined rest) = (Ok (length piece - length rest), record s { held = []; ready = Some joined })

abbrev pub feed_result_after : Option FrameFault → Assembly → List ℕ → FeedResult
feed_result_after (Some fault) s piece = (Err fault, s)
feed_result_after None s piece = feed_by_front s piece (front (s.held ++ piece))

-- a piece, where no record is ready
unfoldable pub feed_result : Assembly → List ℕ → FeedResult
feed_result s piece = feed_result_after s.fault s piece

abbrev pub ready_records : Option (List ℕ) → List (List ℕ)
ready_records None = []
ready_records (Some joined) = joined ∷ []

abbrev pub stream_end_of : Option FrameFault → List ℕ → End
stream_end_of None held = Rest held
stream_end_of (Some fault) held = Broken fault

-- Of a stream of these bytes, `given` were given so far: with what is ready they are its records, and what is held is its
-- end.
pub record MatchesStream (given : List (List ℕ)) (bytes : List ℕ) (s : Assembly) : Type 0 where
  pub whole : (records bytes).whole ≡ given ++ ready_records s.ready
  pub end : (records bytes).end ≡ stream_end_of s.fault s.held
