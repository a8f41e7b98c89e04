-- What a run writes of its connections: replies, and the end of one.
use Rattle.std.specs.Prelude.{ℕ, List, [], ◌++◌, codes, length}
use Rattle.std.specs.Fmt.{decimal}
use Rattle.hex.specs.Hex.{encode_lower}
use Rattle.gw_model.specs.declared.Stable.{Stable}
use Rattle.gw_model.specs.declared.Stable.TheVariants.{Unstable, DataSync, FileSync}
use Rattle.gw_model.specs.File.{Body, Wrote, NotWritten, Committed, NotCommitted, Gave, NotGiven, SystemErr, Silence}
use Rattle.xdr.specs.Rows.{text}
use Rattle.nfs_wire.specs.Results.{Results, Null, Read, Write, Commit, Refused, results_row}
use Rattle.tickets.specs.declared.answer.Body as answer
use Rattle.tickets.specs.declared.answer.Body.TheVariants as body
use Rattle.rpc_msg.specs.Replies.{accepted_text}
use Rattle.rpc_record.specs.Records.{mark_text}

-- the verifier of a WRITE's reply (RFC 1813 section 3.3.7): the generation, which is the first
abbrev pub generation : ℕ
generation = 1

abbrev pub level_word : Stable → ℕ
level_word Unstable = 0
level_word DataSync = 1
level_word FileSync = 2

-- the results of an answer (RFC 1813 sections 3.3.6, 3.3.7 and 3.3.21)
abbrev pub answer_results : Body → Results
answer_results (Wrote count level) = Write count (level_word level) generation
answer_results (NotWritten status) = Refused status 2
answer_results Committed = Commit generation
answer_results (NotCommitted status) = Refused status 2
answer_results (Gave bytes eof) = Read (length bytes) eof bytes
answer_results (NotGiven status) = Refused status 1
answer_results SystemErr = Null
answer_results Silence = Null

-- an accepted reply with these results
abbrev pub success_text : ℕ → Results → List ℕ
success_text xid results = accepted_text xid 0 ++ text (results_row results)

-- the reply that an answer is: want of memory is the accepted reply SYSTEM_ERR (RFC 5531 section 9)
unfoldable pub reply_bytes : ℕ → Body → List ℕ
reply_bytes xid SystemErr = accepted_text xid 5
reply_bytes xid Silence = []
reply_bytes xid body = success_text xid (answer_results body)

-- the reply that an answer holds, where it is a text
abbrev pub text_in : answer.Body → List ℕ
text_in (body.Text bytes) = bytes.items
text_in _ = []

-- a line of the output with bytes in hex digits
unfoldable pub hex_line : ℕ → List ℕ → List ℕ
hex_line conn digits = codes "reply " ++ decimal conn ++ codes " " ++ digits ++ codes "\n"

-- a reply is one fragment (RFC 5531 section 11)
abbrev pub reply_line : ℕ → List ℕ → List ℕ
reply_line conn reply = hex_line conn (encode_lower (mark_text (length reply) ++ reply))

unfoldable pub closed_line : ℕ → List ℕ
closed_line conn = codes "closed " ++ decimal conn ++ codes "\n"
