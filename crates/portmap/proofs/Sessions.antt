-- How a session goes on from piece to piece.
use Rattle.std.proofs.Common.{◌≡◌, ℕ, ◌+◌, ◌-◌, ◌<◌, ◌≤◌, ◌^◌, Bool, true, false, ◌&&◌, ◌||◌, nat_lt, Option, List, [], ◌++◌, length, refl, sym, ◌∙◌, ap, subst, append-nil, length-append, arith}
use Rattle.std.proofs.Math.Bool.{or-false}
use Rattle.std.proofs.lemmas.Bool.{le-ltb}
use Rattle.std.specs.Io.KnownBytes.{Appends, Consumes, Keeps}
use Rattle.std.proofs.KnownBytes.{Appends-nil, Appends-trans, Consumes-nil, Consumes-trans, Consumes-kept}
use Rattle.gw_outside.specs.Writing.{IsPrefix}
use Rattle.rpc_record.specs.Records.{Open, front}
use Rattle.rpc_record.proofs.Fronts.{front_empty}
use Rattle.portmap.specs.declared.ports.Mapping.{Mapping}
use Rattle.portmap.specs.declared.session.PieceEnd.TheVariants as piece_end
use Rattle.portmap.specs.declared.session.PortEnd.TheVariants as port_end
use Rattle.portmap.specs.Answers.{Answers, answers}
use Rattle.portmap.specs.Links.{LinkState, Leads, BreaksOff, IsPieceAnswered}
use Rattle.portmap.specs.Sessions.{AreAnswered, IsSession}
use Rattle.portmap.proofs.Links.{answered, leads_none, leads_trans, closes_after, breaks_after, leads_end, closes_end, breaks_end}

-- what passed so far, where `left` more bytes may be read
pub record Running (client : ℕ) (old : List Mapping) (now : LinkState) (left : ℕ) (i i' o o' : Option (List ℕ)) : Type 0 where
  pub taken : List ℕ
  pub written : List ℕ
  pub refused : List Bool
  pub leads : Leads client refused (record { held = []; table = old }) taken written now
  pub reads : Consumes i i' taken
  pub writes : Appends o o' written
  pub count : length taken + left ≡ 2 ^ 32

pub running_start : (client : ℕ) (old : List Mapping) (i o : Option (List ℕ)) → Running client old (record { held = []; table = old }) 4294967296 i i o o
running_start client old i o =
    record { taken = []; written = []; refused = []; leads = leads_none client (record { held = []; table = old }); reads = Consumes-nil i; writes = Appends-nil o; count = refl }

-- memory was refused for the stream
pub session_unbegun : (client : ℕ) (old : List Mapping) (i o : Option (List ℕ)) → IsSession port_end.Memory client old old i i o o
session_unbegun client old i o =
    let start : LinkState = record { held = []; table = old } in
    let part : IsPrefix [] [] = ([], refl) in
    let none : BreaksOff client [] start [] [] old =
    record { served = []; whole = []; to = start; front_of = part; leads = leads_none client start; at_rest = front_empty; part = part; table_is = refl } in
    record { taken = []; written = []; refused = []; reads = Consumes-nil i; writes = Appends-nil o; ends = breaks_end client [] old [] [] old none }

-- a read of some bytes isn't the end
pub still_open : (before : Bool) (n : ℕ) → 0 < n → (before || (nat_lt n 1 && nat_lt 0 1)) ≡ before
still_open before n some =
    let more : nat_lt n 1 ≡ false = le-ltb n 1 (omega arith) in
    ap (λ (b : Bool). before || (b && nat_lt 0 1)) more ∙ or-false before

are_answered : (all : Answers) (closes : Bool) (text : List ℕ) (table : List Mapping) → all ≡ answered text table closes → AreAnswered all closes text table
are_answered all closes text table e =
    record { text = ap (λ (a : Answers). a.text) (sym e); table_is = ap (λ (a : Answers). a.table) (sym e); closing = ap (λ (a : Answers). a.closes) e }

module _ (client : ℕ) (old : List Mapping) (now : LinkState) (left : ℕ) (i i' o o' : Option (List ℕ)) (s : Running client old now left i i' o o') where
  module _ (rests : front now.held ≡ Open) where
    all_answered : AreAnswered (answers s.refused client old s.taken) false s.written now.table
    all_answered = are_answered _ false s.written now.table (leads_end client s.refused old s.taken s.written now s.leads rests)

    pub session_ended : (i'' : Option (List ℕ)) → 0 < left → Consumes i' i'' [] → IsSession port_end.Ended client old now.table i i'' o o'
    session_ended i'' some none =
        let more : length s.taken + left ≡ 2 ^ 32 = s.count in
        record {
          taken = s.taken;
          written = s.written;
          refused = s.refused;
          reads = subst (Consumes i i'') (append-nil s.taken) (Consumes-trans i i' i'' s.taken [] s.reads none);
          writes = s.writes;
          ends = (all_answered, omega arith);
        }

    pub session_read_fault : (i'' : Option (List ℕ)) → 0 < left → Keeps i' i'' → IsSession port_end.ReadFault client old now.table i i'' o o'
    session_read_fault i'' some kept =
        let more : length s.taken + left ≡ 2 ^ 32 = s.count in
        record {
          taken = s.taken;
          written = s.written;
          refused = s.refused;
          reads = Consumes-kept i i' i'' s.taken s.reads kept;
          writes = s.writes;
          ends = (all_answered, omega arith);
        }

    pub session_spent : left ≤ 0 → IsSession port_end.Spent client old now.table i i' o o'
    session_spent none =
        let more : length s.taken + left ≡ 2 ^ 32 = s.count in
        record { taken = s.taken; written = s.written; refused = s.refused; reads = s.reads; writes = s.writes; ends = (all_answered, omega arith) }

  module _ (piece : List ℕ) (n : ℕ) (i'' o'' : Option (List ℕ)) (new : LinkState) (reads : Consumes i' i'' piece) (size : length piece ≡ n) (within : n ≤ left) where
    abbrev all_taken : Consumes i i'' (s.taken ++ piece)
    all_taken = Consumes-trans i i' i'' s.taken piece s.reads reads

    counted : length (s.taken ++ piece) ≡ length s.taken + length piece
    counted = length-append s.taken piece

    pub runs_on : IsPieceAnswered piece_end.Goes client now piece new o' o'' → Running client old new (left - n) i i'' o o''
    runs_on p =
        let more : length s.taken + left ≡ 2 ^ 32 = s.count in
        let both = counted in
        record {
          taken = s.taken ++ piece;
          written = s.written ++ p.text;
          refused = s.refused ++ p.refused;
          leads = leads_trans client s.refused _ now s.taken s.written s.leads p.refused piece p.text new p.ends;
          reads = all_taken;
          writes = Appends-trans o o' o'' s.written p.text s.writes p.writes;
          count = omega (arith, both);
        }

    pub session_closed : IsPieceAnswered piece_end.Closed client now piece new o' o'' → IsSession port_end.Closed client old new.table i i'' o o''
    session_closed p =
        let more : length s.taken + left ≡ 2 ^ 32 = s.count in
        let both = counted in
        let stop = closes_after client s.refused _ now s.taken s.written s.leads p.refused piece p.text new.table p.ends in
        record {
          taken = s.taken ++ piece;
          written = s.written ++ p.text;
          refused = s.refused ++ p.refused;
          reads = all_taken;
          writes = Appends-trans o o' o'' s.written p.text s.writes p.writes;
          ends = (are_answered _ true _ new.table (closes_end client (s.refused ++ p.refused) old (s.taken ++ piece) (s.written ++ p.text) new.table stop), omega (arith, both));
        }

    pub session_write_fault : IsPieceAnswered piece_end.WriteFault client now piece new o' o'' → IsSession port_end.WriteFault client old new.table i i'' o o''
    session_write_fault p = record {
      taken = s.taken ++ piece;
      written = s.written ++ p.text;
      refused = s.refused ++ p.refused;
      reads = all_taken;
      writes = Appends-trans o o' o'' s.written p.text s.writes p.writes;
      ends = breaks_end client (s.refused ++ p.refused) old (s.taken ++ piece) (s.written ++ p.text) new.table
          (breaks_after client s.refused _ now s.taken s.written s.leads p.refused piece p.text new.table p.ends);
    }

    pub session_memory : IsPieceAnswered piece_end.Memory client now piece new o' o'' → IsSession port_end.Memory client old new.table i i'' o o''
    session_memory p = record {
      taken = s.taken ++ piece;
      written = s.written ++ p.text;
      refused = s.refused ++ p.refused;
      reads = all_taken;
      writes = Appends-trans o o' o'' s.written p.text s.writes p.writes;
      ends = breaks_end client (s.refused ++ p.refused) old (s.taken ++ piece) (s.written ++ p.text) new.table
          (breaks_after client s.refused _ now s.taken s.written s.leads p.refused piece p.text new.table p.ends);
    }
