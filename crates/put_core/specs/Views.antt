-- What contracts see of an upload's fields.
use Rattle.put_core.specs.declared.put.Put.TheInside.{Inside}
use Rattle.put_core.specs.Steps.{PutState}

abbrev pub put_view : Inside → PutState
put_view p = record {
  size = p.size;
  chunk = p.chunk;
  window = p.window;
  backward = p.backward;
  chunks = p.chunks.items;
  writes = p.writes.items;
  commit = p.commit;
  last = p.last;
  verifier = p.verifier;
  beginnings = p.beginnings;
  retries = p.retries;
  breaks = p.breaks;
  ending = p.ending;
}
