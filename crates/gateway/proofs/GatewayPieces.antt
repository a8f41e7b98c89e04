-- What the records of a piece ask for, one after another.
use Rattle.std.proofs.Common.{◌≡◌, ℕ, Bool, true, false, List, [], ◌∷◌, ◌++◌, drop, refl, sym, ◌∙◌, ap, append_assoc, append-nil, string_bytes}
use Rattle.rpc_record.specs.declared.fault.FrameFault.{FrameFault}
use Rattle.rpc_record.specs.Records.{Records, Open, Fault, Whole, front}
use Rattle.rpc_record.proofs.Streams.{records_open, records_fault, records_whole}
use Rattle.file_requests.specs.Targets.{ends_connection}
use Rattle.nfs_procs.specs.World.{Operation, Serve, Break}
use Rattle.nfs_procs.specs.Contexts.{WorldScene, IsDone, IsCutOff, Does, Cuts, IsServed}
use Rattle.gateway.specs.Links.{Hearing, hearing, hearing_by, hearing_of}
use Rattle.gateway.specs.Steps.{IsPieceServed}
use Rattle.gateway.specs.declared.link.Link.TheVariants as link
use Rattle.nfs_procs.specs.declared.served.Served.{Served}
use Rattle.nfs_procs.proofs.WorldOperations.{does_none, does_more, does_cut, cuts_one, cuts_still}

-- operations were done before
abbrev pub behind : List Operation → Hearing → Hearing
behind done h = record h { operations = done ++ h.operations }

-- Of what a piece asks for, these operations were done, and the rest of it is ahead.
pub record Hears (tells : Type 0) (conn : ℕ) (total : Hearing) (held rest : List ℕ) (old new : WorldScene) (text : List ℕ) : Type 0 where
  pub done : List Operation
  pub does : Does tells done old new text
  pub ahead : total ≡ behind done (hearing_of conn (held ++ rest))

pub hears_start : (tells : Type 0) (conn : ℕ) (held piece : List ℕ) (s : WorldScene) → Hears tells conn (hearing_of conn (held ++ piece)) held piece s s []
hears_start tells conn held piece s = record { done = []; does = does_none tells s; ahead = refl }

hearing_in : ℕ → Records → Hearing
hearing_in conn r = hearing conn r.whole r.end

module _ (tells : Type 0) (conn : ℕ) (total : Hearing) (held rest : List ℕ) (old mid : WorldScene) (t : List ℕ)
    (h : Hears tells conn total held rest old mid t) where
  -- memory was refused with the rest ahead
  pub hears_cut : Cuts tells total.operations old mid
  hears_cut =
      let more : List Operation = (hearing_of conn (held ++ rest)).operations in
      does_cut tells h.done more total.operations old mid mid t h.does (ap (λ (x : Hearing). x.operations) h.ahead) (cuts_still tells more mid)

  -- the rest is no whole record
  pub hears_more : (new : List ℕ) (s : Served) → front (held ++ rest) ≡ Open → new ≡ held ++ rest → string_bytes s.text ≡ t → s.ended ≡ false → IsPieceServed tells s total new old mid
  unfolding hearing_in
  hears_more new s none is text ended =
      let last : hearing_of conn (held ++ rest) ≡ record { operations = []; link = link.Open new }
      = ap (hearing_in conn) (records_open (held ++ rest) none) ∙ ap (λ (bytes : List ℕ). let x : Hearing = record { operations = []; link = link.Open bytes } in x) (sym is) in
      let all : total ≡ record { operations = h.done; link = link.Open new }
      = h.ahead ∙ ap (behind h.done) last ∙ ap (λ xs. let x : Hearing = record { operations = xs; link = link.Open new } in x) (append-nil h.done) in
      rw (all, ended, text) (refl, h.does)

  -- a header is at fault
  module _ (fault : FrameFault) (broken : front (held ++ rest) ≡ Fault fault) where
    fault_all : total ≡ record { operations = h.done ++ Break conn ∷ []; link = link.Closed }
    unfolding hearing_in
    fault_all = h.ahead ∙ ap (behind h.done) (ap (hearing_in conn) (records_fault (held ++ rest) fault broken))

    pub hears_fault : (new : List ℕ) (s : Served) (next : WorldScene) (u : List ℕ) → IsDone tells (Break conn) mid next u false → string_bytes s.text ≡ t ++ u → s.ended ≡ true → IsPieceServed tells s total new old next
    hears_fault new s next u step text ended = rw (fault_all, ended, text) (refl, does_more tells h.done (Break conn) old mid next t u h.does step)

    -- memory was refused for the line that says so
    pub hears_fault_cut : (next : WorldScene) → IsCutOff tells (Break conn) mid next → Cuts tells total.operations old next
    hears_fault_cut next cut = does_cut tells h.done (Break conn ∷ []) total.operations old mid next t h.does (ap (λ (x : Hearing). x.operations) fault_all) (cuts_one tells (Break conn) [] mid next cut)

    -- or behind it
    pub hears_faulted_cut : (next : WorldScene) (u : List ℕ) → IsDone tells (Break conn) mid next u false → Cuts tells total.operations old next
    hears_faulted_cut next u step =
        does_cut tells (h.done ++ Break conn ∷ []) [] total.operations old next next (t ++ u) (does_more tells h.done (Break conn) old mid next t u h.does step)
        (ap (λ (x : Hearing). x.operations) fault_all ∙ sym (append-nil (h.done ++ Break conn ∷ []))) (cuts_still tells [] next)

  module _ (message : List ℕ) (taken : ℕ) (whole : front (held ++ rest) ≡ Whole message (drop taken rest)) where
    abbrev serve : Operation
    serve = Serve conn message

    abbrev later : Hearing
    later = hearing_of conn (drop taken rest)

    ahead_is : hearing_of conn (held ++ rest) ≡ hearing_by (ends_connection message) serve later
    unfolding hearing_in
    ahead_is = ap (hearing_in conn) (records_whole (held ++ rest) message (drop taken rest) whole)

    by_ending : (b : Bool) → ends_connection message ≡ b → total ≡ behind h.done (hearing_by b serve later)
    by_ending b e = h.ahead ∙ ap (behind h.done) (ahead_is ∙ ap (λ b. hearing_by b serve later) e)

    unfoldable operations_behind : Bool → List Operation
    operations_behind true = []
    operations_behind false = later.operations

    first_operations : (b : Bool) → ends_connection message ≡ b → total.operations ≡ h.done ++ serve ∷ operations_behind b
    unfolding operations_behind
    first_operations true e = ap (λ (x : Hearing). x.operations) (by_ending true e)
    first_operations false e = ap (λ (x : Hearing). x.operations) (by_ending false e)

    abbrev more : List Operation
    more = operations_behind (ends_connection message)

    -- memory was refused for its record
    pub hears_record_cut : (next : WorldScene) → IsCutOff tells serve mid next → Cuts tells total.operations old next
    hears_record_cut next cut = does_cut tells h.done (serve ∷ more) total.operations old mid next t h.does (first_operations (ends_connection message) refl) (cuts_one tells serve more mid next cut)

    module _ (served : Served) (next : WorldScene) (is : IsServed tells served serve (ends_connection message) mid next) where
      abbrev u : List ℕ
      u = string_bytes served.text

      done : Does tells (h.done ++ serve ∷ []) old next (t ++ u)
      done = does_more tells h.done serve old mid next t u h.does is.1

      -- its record was served, and memory was refused then
      pub hears_served_cut : Cuts tells total.operations old next
      hears_served_cut =
          does_cut tells (h.done ++ serve ∷ []) more total.operations old next next (t ++ u) done (first_operations (ends_connection message) refl ∙ sym (append_assoc h.done (serve ∷ []) more)) (cuts_still tells more next)

      -- its record ended the connection
      pub hears_end : (new : List ℕ) (s : Served) → served.ended ≡ true → string_bytes s.text ≡ t ++ u → s.ended ≡ true → IsPieceServed tells s total new old next
      hears_end new s ends text ended =
          let all : total ≡ record { operations = h.done ++ serve ∷ []; link = link.Closed } = by_ending true (sym is.0 ∙ ends) in
          rw (all, ended, text) (refl, done)

      -- its record was served, and the rest goes on
      pub hears_next : (new text : List ℕ) → served.ended ≡ false → new ≡ [] → text ≡ t ++ u → Hears tells conn total new (drop taken rest) old next text
      hears_next new text goes none is_text =
          let all : total ≡ behind (h.done ++ serve ∷ []) later = by_ending false (sym is.0 ∙ goes)
          ∙ ap (λ xs. let x : Hearing = record { operations = xs; link = later.link } in x) (sym (append_assoc h.done (serve ∷ []) later.operations)) in
          rw (none, is_text) (record { done = h.done ++ serve ∷ []; does = done; ahead = all })
