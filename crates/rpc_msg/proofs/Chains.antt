-- A call as values behind one another, in the order in which they are read. The specs say the same by rows.
use Rattle.std.specs.Prelude.{◌≡◌, ◌⊎◌, ℕ, ◌≤◌, List, [], ◌∷◌, ◌++◌, length}
use Rattle.xdr.specs.Items.{SpellsU32, SpellsOpaque}
use Rattle.rpc_msg.specs.Calls.{SenderText, CallText, nobody}

-- a value's spelling, and behind it the spelling of what follows
abbrev pub Then : {A : Type 0} → (List ℕ → A → Type 0) → A → (List ℕ → Type 0) → List ℕ → Type 0
Then Spells value Follows bytes = (front : List ℕ) × (rest : List ℕ) × (bytes ≡ front ++ rest) × Spells front value × Follows rest

abbrev pub SpellsWords : List ℕ → (List ℕ → Type 0) → List ℕ → Type 0
SpellsWords [] Follows bytes = Follows bytes
SpellsWords (w ∷ ws) Follows bytes = Then SpellsU32 w (SpellsWords ws Follows) bytes

abbrev pub AtEnd : List ℕ → Type 0
AtEnd bytes = bytes ≡ []

-- a stamp, the machine's name, uid, gid, the number of further gids and these, and nothing more
abbrev pub ChainSystem : List ℕ → SenderText → Type 0
ChainSystem body s =
    (length s.host ≤ 255) × (length s.gids ≤ 16)
    × ((stamp : ℕ) × Then SpellsU32 stamp (Then SpellsOpaque s.host (Then SpellsU32 s.uid (Then SpellsU32 s.gid (Then SpellsU32 (length s.gids) (SpellsWords s.gids AtEnd))))) body)

-- a credential by its flavor: AUTH_NONE with any body, or AUTH_SYS
abbrev pub ChainSender : ℕ → List ℕ → SenderText → Type 0
ChainSender flavor body s = ((flavor ≡ 0) × (s ≡ nobody)) ⊎ ((flavor ≡ 1) × ChainSystem body s)

-- program, version, procedure, the credential, a verifier of any flavor, and the arguments
abbrev pub ChainParts : CallText → ℕ → List ℕ → ℕ → List ℕ → List ℕ → Type 0
ChainParts call flavor cred kind verf bytes =
    Then SpellsU32 call.prog (Then SpellsU32 call.vers (Then SpellsU32 call.proc_no (Then SpellsU32 flavor (Then SpellsOpaque cred (Then SpellsU32 kind (Then SpellsOpaque verf (λ rest. rest ≡ call.args))))))) bytes

-- xid, 0 for a call, the protocol's version 2, and these parts
pub record ChainCall (bytes : List ℕ) (call : CallText) : Type 0 where
  pub flavor : ℕ
  pub cred : List ℕ
  pub kind : ℕ
  pub verf : List ℕ
  pub short_cred : length cred ≤ 400
  pub short_verf : length verf ≤ 400
  pub sender : ChainSender flavor cred call.sender
  pub text : Then SpellsU32 call.xid (Then SpellsU32 0 (Then SpellsU32 2 (ChainParts call flavor cred kind verf))) bytes
