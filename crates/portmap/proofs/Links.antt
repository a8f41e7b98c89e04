-- How parts of a link are put behind one another.
use Rattle.std.proofs.Common.{◌≡◌, ℕ, Bool, true, false, Option, List, [], ◌∷◌, ◌++◌, take, drop, refl, sym, ◌∙◌, ap, subst, append_assoc, append-nil}
use Rattle.std.specs.Io.KnownBytes.{Appends}
use Rattle.std.proofs.KnownBytes.{Appends-nil, Appends-trans}
use Rattle.std.proofs.lemmas.List.{take-append-drop}
use Rattle.gw_outside.specs.Writing.{IsPrefix}
use Rattle.rpc_record.specs.declared.fault.FrameFault.{FrameFault}
use Rattle.rpc_record.specs.Records.{Open, Fault, Whole, front}
use Rattle.rpc_record.proofs.Fronts.{front_empty, whole_more, fault_more}
use Rattle.portmap.specs.declared.ports.Mapping.{Mapping}
use Rattle.portmap.specs.declared.session.MessageEnd.TheVariants as message_end
use Rattle.portmap.specs.declared.session.PieceEnd.TheVariants as piece_end
use Rattle.portmap.specs.Answers.{NoCall, Replied, message_result, Answers, reply_record, behind_text, answers}
use Rattle.portmap.specs.Links.{LinkState, Leads, ClosesLink, BreaksOff, IsMessageAnswered, IsPieceAnswered}
use Rattle.portmap.specs.Sessions.{AreAnsweredInPart}
use Rattle.portmap.proofs.Answers.{answers_open, answers_fault, answers_no_call, answers_replied}

abbrev pub answered : List ℕ → List Mapping → Bool → Answers
answered text table closes = record { text = text; table = table; closes = closes }

behind_twice : (t u : List ℕ) (a : Answers) → behind_text t (behind_text u a) ≡ behind_text (t ++ u) a
behind_twice t u a = ap (λ (x : List ℕ). answered x a.table a.closes) (sym (append_assoc t u a.text))

prefix_whole : (xs : List ℕ) → IsPrefix xs xs
prefix_whole xs = ([], sym (append-nil xs))

prefix_behind : (front part whole : List ℕ) → IsPrefix part whole → IsPrefix (front ++ part) (front ++ whole)
prefix_behind front part whole p = (p.0, ap (λ (x : List ℕ). front ++ x) p.1 ∙ sym (append_assoc front part p.0))

prefix_longer : (part whole more : List ℕ) → IsPrefix part whole → IsPrefix part (whole ++ more)
prefix_longer part whole more p = (p.0 ++ more, ap (λ (x : List ℕ). x ++ more) p.1 ∙ append_assoc part p.0 more)

module _ (client : ℕ) where
  -- nothing came
  pub leads_none : (s : LinkState) → Leads client [] s [] [] s
  leads_none s = record { all = λ later more. refl }

  module _ (r : List Bool) (f m : LinkState) (b t : List ℕ) (l : Leads client r f b t m) where
    -- more came, which completes nothing
    pub leads_more : (c : List ℕ) → Leads client r f (b ++ c) t (record { held = m.held ++ c; table = m.table })
    leads_more c = record {
      all = λ later more. ap (λ (x : List ℕ). answers (r ++ later) client f.table (f.held ++ x)) (append_assoc b c more)
          ∙ l.all later (c ++ more)
          ∙ ap (λ (x : List ℕ). behind_text t (answers later client m.table x)) (sym (append_assoc m.held c more));
    }

    first_part : (r' : List Bool) (c : List ℕ) (later : List Bool) (more : List ℕ)
        → answers ((r ++ r') ++ later) client f.table (f.held ++ ((b ++ c) ++ more)) ≡ behind_text t (answers (r' ++ later) client m.table (m.held ++ (c ++ more)))
    first_part r' c later more =
        ap (λ (x : List Bool). answers x client f.table (f.held ++ ((b ++ c) ++ more))) (append_assoc r r' later)
        ∙ ap (λ (x : List ℕ). answers (r ++ (r' ++ later)) client f.table (f.held ++ x)) (append_assoc b c more)
        ∙ l.all (r' ++ later) (c ++ more)

    pub leads_trans : (r' : List Bool) (c u : List ℕ) (to : LinkState) → Leads client r' m c u to → Leads client (r ++ r') f (b ++ c) (t ++ u) to
    leads_trans r' c u to k = record {
      all = λ later more. first_part r' c later more ∙ ap (behind_text t) (k.all later more) ∙ behind_twice t u (answers later client to.table (to.held ++ more));
    }

    pub closes_after : (r' : List Bool) (c u : List ℕ) (table : List Mapping) → ClosesLink client r' m c u table → ClosesLink client (r ++ r') f (b ++ c) (t ++ u) table
    closes_after r' c u table k = record { all = λ later more. first_part r' c later more ∙ ap (behind_text t) (k.all later more) }

    pub breaks_after : (r' : List Bool) (c u : List ℕ) (table : List Mapping) → BreaksOff client r' m c u table → BreaksOff client (r ++ r') f (b ++ c) (t ++ u) table
    breaks_after r' c u table k = record {
      served = b ++ k.served;
      whole = t ++ k.whole;
      to = k.to;
      front_of = prefix_behind b k.served c k.front_of;
      leads = leads_trans r' k.served k.whole k.to k.leads;
      at_rest = k.at_rest;
      part = prefix_behind t u k.whole k.part;
      table_is = k.table_is;
    }

  module _ (held : List ℕ) (table : List Mapping) (b : List ℕ) where
    abbrev here : LinkState
    here = record { held = held; table = table }

    -- a header is at fault
    closes_fault : (fault : FrameFault) → front (held ++ b) ≡ Fault fault → ClosesLink client [] here b [] table
    closes_fault fault broken = record {
      all = λ later more. answers_fault later client table (held ++ (b ++ more)) fault
          (ap front (sym (append_assoc held b more)) ∙ fault_more (held ++ b) more fault broken);
    }

    module _ (message : List ℕ) (whole : front (held ++ b) ≡ Whole message []) (refused : Bool) where
      whole_behind : (more : List ℕ) → front (held ++ (b ++ more)) ≡ Whole message more
      whole_behind more = ap front (sym (append_assoc held b more)) ∙ whole_more (held ++ b) more message [] whole

      closes_no_call : message_result refused client table message ≡ NoCall → ClosesLink client (refused ∷ []) here b [] table
      closes_no_call none = record {
        all = λ later more. answers_no_call (refused ∷ later) client table (held ++ (b ++ more)) message more (whole_behind more) none;
      }

      leads_reply : (reply : List ℕ) (after : List Mapping) → message_result refused client table message ≡ Replied reply after
          → Leads client (refused ∷ []) here b (reply_record reply) (record { held = []; table = after })
      leads_reply reply after is = record {
        all = λ later more. answers_replied (refused ∷ later) client table (held ++ (b ++ more)) message more (whole_behind more) reply after is;
      }

  closes_more : (r : List Bool) (f : LinkState) (b t : List ℕ) (table : List Mapping) → ClosesLink client r f b t table → (c : List ℕ) → ClosesLink client r f (b ++ c) t table
  closes_more r f b t table s c = record {
    all = λ later more. ap (λ (x : List ℕ). answers (r ++ later) client f.table (f.held ++ x)) (append_assoc b c more) ∙ s.all later (c ++ more);
  }

-- Of a piece, all but `rest` was served.
pub record Serves (client : ℕ) (from : LinkState) (piece rest : List ℕ) (now : LinkState) (held held' : Option (List ℕ)) : Type 0 where
  pub refused : List Bool
  pub bytes : List ℕ
  pub text : List ℕ
  pub split : piece ≡ bytes ++ rest
  pub leads : Leads client refused from bytes text now
  pub writes : Appends held held' text

pub serves_start : (client : ℕ) (s : LinkState) (piece : List ℕ) (held : Option (List ℕ)) → Serves client s piece piece s held held
serves_start client s piece held = record { refused = []; bytes = []; text = []; split = refl; leads = leads_none client s; writes = Appends-nil held }

module _ (client : ℕ) (from : LinkState) (piece rest : List ℕ) (now : LinkState) (held mid : Option (List ℕ)) (s : Serves client from piece rest now held mid) where
  -- the rest completes nothing
  pub serves_more : (new : List ℕ) → new ≡ now.held ++ rest → IsPieceAnswered piece_end.Goes client from piece (record { held = new; table = now.table }) held mid
  serves_more new is =
      let all = leads_more client s.refused from now s.bytes s.text s.leads rest in
      rw (s.split, is) (record { refused = s.refused; text = s.text; writes = s.writes; ends = all })

  -- a header is at fault
  pub serves_fault : (fault : FrameFault) (new : List ℕ) → front (now.held ++ rest) ≡ Fault fault → IsPieceAnswered piece_end.Closed client from piece (record { held = new; table = now.table }) held mid
  serves_fault fault new broken =
      let all = closes_after client s.refused from now s.bytes s.text s.leads [] rest [] now.table (closes_fault client now.held now.table rest fault broken) in
      rw s.split (record { refused = s.refused ++ []; text = s.text ++ []; writes = Appends-trans held mid mid s.text [] s.writes (Appends-nil mid); ends = all })

  -- memory was refused for the rest
  pub serves_memory : (new : List ℕ) → front now.held ≡ Open → IsPieceAnswered piece_end.Memory client from piece (record { held = new; table = now.table }) held mid
  serves_memory new rests =
      record {
        refused = s.refused;
        text = s.text;
        writes = s.writes;
        ends = record { served = s.bytes; whole = s.text; to = now; front_of = (rest, s.split); leads = s.leads; at_rest = rests; part = prefix_whole s.text; table_is = refl };
      }

  module _ (message : List ℕ) (taken : ℕ) (whole : front (now.held ++ take taken rest) ≡ Whole message []) (table : List Mapping) (held' : Option (List ℕ)) where
    parted : piece ≡ (s.bytes ++ take taken rest) ++ drop taken rest
    parted = s.split ∙ ap (λ (x : List ℕ). s.bytes ++ x) (sym (take-append-drop taken rest)) ∙ sym (append_assoc s.bytes (take taken rest) (drop taken rest))

    -- the record was answered, and the rest goes on
    pub serves_next : IsMessageAnswered message_end.Goes client now.table message table mid held' → Serves client from piece (drop taken rest) (record { held = []; table = table }) held held'
    serves_next m =
        let step = leads_reply client now.held now.table (take taken rest) message whole m.refused m.ends.0 table m.ends.1 in
        record {
          refused = s.refused ++ (m.refused ∷ []);
          bytes = s.bytes ++ take taken rest;
          text = s.text ++ reply_record m.ends.0;
          split = parted;
          leads = leads_trans client s.refused from now s.bytes s.text s.leads (m.refused ∷ []) (take taken rest) (reply_record m.ends.0) (record { held = []; table = table }) step;
          writes = Appends-trans held mid held' s.text (reply_record m.ends.0) s.writes (subst (Appends mid held') m.ends.2 m.writes);
        }

    -- the record is no call
    pub serves_no_call : (new : List ℕ) → IsMessageAnswered message_end.Closes client now.table message table mid held' → IsPieceAnswered piece_end.Closed client from piece (record { held = new; table = table }) held held'
    serves_no_call new m =
        let stop = closes_no_call client now.held now.table (take taken rest) message whole m.refused m.ends.0 in
        let all = closes_more client _ from _ _ now.table (closes_after client s.refused from now s.bytes s.text s.leads (m.refused ∷ []) (take taken rest) [] now.table stop) (drop taken rest) in
        rw (parted, m.ends.2)
        (record {
          refused = s.refused ++ (m.refused ∷ []);
          text = s.text ++ [];
          writes = Appends-trans held mid held' s.text [] s.writes (subst (Appends mid held') m.ends.1 m.writes);
          ends = all;
        })

    -- its reply was written in part
    pub serves_fault_in_write : IsMessageAnswered message_end.WriteFault client now.table message table mid held'
        → (new : List ℕ) → IsPieceAnswered piece_end.WriteFault client from piece (record { held = new; table = table }) held held'
    serves_fault_in_write m new =
        let after : LinkState = record { held = []; table = table } in
        let step = leads_reply client now.held now.table (take taken rest) message whole m.refused m.ends.0 table m.ends.1 in
        let all = leads_trans client s.refused from now s.bytes s.text s.leads (m.refused ∷ []) (take taken rest) (reply_record m.ends.0) after step in
        record {
          refused = s.refused ++ (m.refused ∷ []);
          text = s.text ++ m.text;
          writes = Appends-trans held mid held' s.text m.text s.writes m.writes;
          ends = record {
            served = s.bytes ++ take taken rest;
            whole = s.text ++ reply_record m.ends.0;
            to = after;
            front_of = (drop taken rest, parted);
            leads = all;
            at_rest = front_empty;
            part = prefix_behind s.text m.text (reply_record m.ends.0) m.ends.2;
            table_is = refl;
          };
        }

-- all bytes of a link
module _ (client : ℕ) (refused : List Bool) (old : List Mapping) where
  abbrev start : LinkState
  start = record { held = []; table = old }

  none_later : (bytes more : List ℕ) → answers refused client old (bytes ++ more) ≡ answers (refused ++ []) client old ([] ++ (bytes ++ more))
  none_later bytes more = ap (λ (r : List Bool). answers r client old (bytes ++ more)) (sym (append-nil refused))

  pub leads_end : (bytes text : List ℕ) (to : LinkState) → Leads client refused start bytes text to → front to.held ≡ Open → answers refused client old bytes ≡ answered text to.table false
  leads_end bytes text to l rests =
      ap (answers refused client old) (sym (append-nil bytes))
      ∙ none_later bytes []
      ∙ l.all [] []
      ∙ ap (λ (x : List ℕ). behind_text text (answers [] client to.table x)) (append-nil to.held)
      ∙ ap (behind_text text) (answers_open [] client to.table to.held rests)
      ∙ ap (λ (x : List ℕ). answered x to.table false) (append-nil text)

  pub closes_end : (bytes text : List ℕ) (table : List Mapping) → ClosesLink client refused start bytes text table → answers refused client old bytes ≡ answered text table true
  closes_end bytes text table s = ap (answers refused client old) (sym (append-nil bytes)) ∙ none_later bytes [] ∙ s.all [] []

  pub breaks_end : (bytes text : List ℕ) (table : List Mapping) → BreaksOff client refused start bytes text table → AreAnsweredInPart refused client old bytes text table
  breaks_end bytes text table b =
      let served = leads_end b.served b.whole b.to b.leads b.at_rest in
      let later : Answers = answers [] client b.to.table (b.to.held ++ b.front_of.0) in
      let all : answers refused client old bytes ≡ behind_text b.whole later = ap (answers refused client old) b.front_of.1 ∙ none_later b.served b.front_of.0 ∙ b.leads.all [] b.front_of.0 in
      record {
        served = b.served;
        front_of = b.front_of;
        table_is = b.table_is ∙ ap (λ (a : Answers). a.table) (sym served);
        part = subst (λ (a : Answers). IsPrefix text a.text) (sym served) b.part;
        part_of_all = subst (λ (a : Answers). IsPrefix text a.text) (sym all) (prefix_longer text b.whole later.text b.part);
      }
