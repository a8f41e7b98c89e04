use Rattle.std.proofs.Common.{◌≡◌, drop}
use Rattle.xdr.specs.Rows.{joined_text}
use Rattle.xdr.specs.Lists.{list_row}
use Rattle.portmap.specs.Requests.{mapping_row}
use Rattle.portmap.proofs.reply.put_entries.Given as goal

abbrev pub invariant-loop-entry : goal.invariant-loop-entry
invariant-loop-entry l = joined_text l.writer (list_row mapping_row (drop l.entry-index l.entries)) ≡ joined_text l.fn.writer (list_row mapping_row l.entries)
