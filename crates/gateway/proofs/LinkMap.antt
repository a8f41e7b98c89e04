-- The links that are set in the connections' map.
use Rattle.std.proofs.Common.{◌≡◌, ℕ, ◌==◌, if◌then◌else◌, Bool, true, false, List, refl, sym, ◌∙◌, string_bytes, ◌++◌, []}
use Rattle.nfs_procs.specs.World.{entry_at}
use Rattle.nfs_procs.specs.Contexts.{WorldScene, Cuts}
use Rattle.gateway.specs.Links.{SetsLink, hearing_at, hearing_of, link_in, with_link}
use Rattle.gateway.specs.Steps.{IsPieceServed, IsReceived, link_after}
use Rattle.gateway.specs.declared.link.Link.{Link}
use Rattle.gateway.specs.declared.link.Link.TheVariants.{Open, Closed}
use Rattle.nfs_procs.specs.declared.served.Served.{Served}
use Rattle.nfs_procs.proofs.WorldOperations.{does_none}

twice : (b : Bool) (l m n : Link) → (if b then l else (if b then m else n)) ≡ (if b then l else n)
twice true l m n = refl
twice false l m n = refl

-- the last link that is set is the connection's
pub sets_twice : (conn : ℕ) (l m : Link) (a b c : List (ℕ × Link)) → SetsLink conn l a b → SetsLink conn m b c → SetsLink conn m a c
sets_twice conn l m a b c s t links are q = sym (twice (q == conn) m l (links q)) ∙ t (with_link conn l links) (s links are) q

-- what a piece of a connection came to

module _ (tells : Type 0) (conn : ℕ) (piece : List ℕ) (before after : List (ℕ × Link)) (old new : WorldScene) where
  -- on an open connection
  pub piece_received : (held now : List ℕ) (s : Served) → link_in (entry_at conn before) ≡ Open held → SetsLink conn (link_after s.ended now) before after
      → IsPieceServed tells s (hearing_of conn (held ++ piece)) now old new → IsReceived tells conn piece before after (string_bytes s.text) old new
  piece_received held now s open' sets served = record { links = rw (open', served.0) sets; does = rw open' served.1 }

  -- on one that ended
  pub piece_passed : link_in (entry_at conn before) ≡ Closed → SetsLink conn Closed before after → new ≡ old → IsReceived tells conn piece before after [] old new
  piece_passed closed sets same = record { links = rw closed sets; does = rw (closed, same) (does_none tells old) }

  -- memory was refused
  pub piece_cut : (held : List ℕ) → link_in (entry_at conn before) ≡ Open held → Cuts tells (hearing_of conn (held ++ piece)).operations old new
      → Cuts tells (hearing_at before conn piece).operations old new
  piece_cut held open' cuts = rw open' cuts
