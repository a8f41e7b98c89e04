-- The bytes of a stream since its last whole record, and what a piece makes of them (RFC 5531 section 11).
use Rattle.std.specs.Prelude.{◌≡◌, ℕ, ◌≤◌, List, [], ◌++◌, length, drop, None}
use Rattle.rpc_record.specs.declared.fault.FrameFault.{FrameFault}
use Rattle.rpc_record.specs.declared.stream.StreamStep.{StreamStep}
use Rattle.rpc_record.specs.declared.stream.StreamStep.TheVariants.{More, Record, Broken}
use Rattle.rpc_record.specs.Records.{Open, Fault, Whole, front}
use Rattle.rpc_record.specs.Assembly.{Assembly}

-- All of the piece was taken, or what completes a record; or a header is at fault, and the stream begins anew.
abbrev pub IsHeard : StreamStep → List ℕ → List ℕ → List ℕ → Type 0
IsHeard More old piece new = (front (old ++ piece) ≡ Open) × (new ≡ old ++ piece)
IsHeard (Record taken message) old piece new =
    (front (old ++ piece) ≡ Whole message (drop taken piece)) × (taken ≤ length piece) × (new ≡ [])
IsHeard Broken old piece new = (fault : FrameFault) × (front (old ++ piece) ≡ Fault fault) × (new ≡ [])

-- no record is ready, no header was at fault, and what is held is no whole record
abbrev pub IsAtRest : Assembly → Type 0
IsAtRest a = (a.ready ≡ None) × (a.fault ≡ None) × (front a.held ≡ Open)
