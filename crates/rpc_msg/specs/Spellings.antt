-- Which bytes spell a call (RFC 5531 section 9), and a credential of AUTH_SYS (its appendix A); and what is written for one.
use Rattle.std.specs.Prelude.{◌≡◌, ◌⊎◌, ℕ, ◌≤◌, List, [], ◌∷◌, ◌++◌, length}
use Rattle.xdr.specs.Rows.{Item, Word, Opaque, Spells, text, AllFit}
use Rattle.xdr.specs.Lists.{words_row}
use Rattle.rpc_msg.specs.Numbers.{rpc_version, call_type, auth_none, auth_sys, auth_max, host_max, groups_max}
use Rattle.rpc_msg.specs.Calls.{SenderText, CallText, nobody}

-- the body of AUTH_SYS: a stamp, the machine's name, uid, gid, the number of further gids, and these
abbrev pub system_row : ℕ → SenderText → List Item
system_row stamp s = Word stamp ∷ Opaque host_max s.host ∷ Word s.uid ∷ Word s.gid ∷ Word (length s.gids) ∷ words_row s.gids

abbrev pub SpellsSystem : List ℕ → SenderText → Type 0
SpellsSystem body s = (length s.gids ≤ groups_max) × ((stamp : ℕ) × Spells body (system_row stamp s))

-- a credential by its flavor: AUTH_NONE with any body, or AUTH_SYS
abbrev pub SpellsSender : ℕ → List ℕ → SenderText → Type 0
SpellsSender flavor body s = ((flavor ≡ auth_none) × (s ≡ nobody)) ⊎ ((flavor ≡ auth_sys) × SpellsSystem body s)

-- what stands in front of the arguments: up to the credential, and a verifier of any flavor
abbrev pub call_row : CallText → ℕ → List ℕ → ℕ → List ℕ → List Item
call_row call flavor cred kind verf =
    Word call.xid
    ∷ Word call_type
    ∷ Word rpc_version
    ∷ Word call.prog
    ∷ Word call.vers
    ∷ Word call.proc_no
    ∷ Word flavor
    ∷ Opaque auth_max cred
    ∷ Word kind
    ∷ Opaque auth_max verf
    ∷ []

pub record SpellsCall (bytes : List ℕ) (call : CallText) : Type 0 where
  pub flavor : ℕ
  pub cred : List ℕ
  pub kind : ℕ
  pub verf : List ℕ
  pub sender : SpellsSender flavor cred call.sender
  pub head : List ℕ
  pub spelled : Spells head (call_row call flavor cred kind verf)
  pub text : bytes ≡ head ++ call.args

-- What is written for a call: its sender as a credential of AUTH_SYS with the stamp 0, and a verifier of AUTH_NONE.
abbrev pub system_text : SenderText → List ℕ
system_text s = text (system_row 0 s)

abbrev pub sent_row : CallText → List Item
sent_row call = call_row call auth_sys (system_text call.sender) auth_none []

abbrev pub call_text : CallText → List ℕ
call_text call = text (sent_row call) ++ call.args

-- a call whose parts have a spelling
pub record CanBeWritten (call : CallText) : Type 0 where
  pub few : length call.sender.gids ≤ groups_max
  pub sender : AllFit (system_row 0 call.sender)
  pub head : AllFit (sent_row call)
