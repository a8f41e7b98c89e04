-- Entries that were gathered, with those that are left.
use Rattle.std.proofs.Common.{◌≡◌, ℕ, ◌-◌, ◌≤◌, ◌<◌, Bool, true, false, cond, List, [], ◌∷◌, ◌++◌, Result, Ok, Err, refl, sym, ◌∙◌, ap, arith, append_assoc, append-nil}
use Rattle.std.specs.Prelude.{nat_le, ◌&&◌, if◌then◌else◌}
use Rattle.std.proofs.lemmas.Bool.Decides.{nat_tests}
use Rattle.gw_model.specs.Statuses as status
use Rattle.nfs_wire.specs.Results.{Results}
use Rattle.name_queries.specs.Listings.{Filled, filled, in_front, listing, none_fits}

-- entries in front of what is gathered of the rest
abbrev pub behind : {E : Type 0} → List E → Filled E → Filled E
behind es f = record { entries = es ++ f.entries; eof = f.eof }

within : (a b : ℕ) → a ≤ b → nat_le a b ≡ true
within a b h = grind (arith, nat_tests)

past : (a b : ℕ) → b < a → nat_le a b ≡ false
past a b h = grind (arith, nat_tests)

module _ {E : Type 0} (size part : E → ℕ) where
  pub one_more : (done left rest : List E) (e : E) (room part_room : ℕ) → left ≡ e ∷ rest → size e ≤ room → part e ≤ part_room
      → behind (done ++ e ∷ []) (filled size part (room - size e) (part_room - part e) rest) ≡ behind done (filled size part room part_room left)
  one_more done left rest e room part_room is a b =
      let more : Filled E = filled size part (room - size e) (part_room - part e) rest in
      let fits : nat_le (size e) room && nat_le (part e) part_room ≡ true = rw (within (size e) room a, within (part e) part_room b) refl in
      let step : behind done (filled size part room part_room (e ∷ rest)) ≡ behind done (in_front e more) =
      ap (λ (k : Bool). behind done (cond k (in_front e more) (record { entries = []; eof = false }))) fits in
      let shift : behind (done ++ e ∷ []) more ≡ behind done (in_front e more) =
      ap (λ (xs : List E). record { entries = xs; eof = more.eof }) (append_assoc done (e ∷ []) more.entries) in
      shift ∙ sym step ∙ ap (λ (xs : List E). behind done (filled size part room part_room xs)) (sym is)

  pub none_left : (done left : List E) (room part_room : ℕ) → left ≡ []
      → behind done (filled size part room part_room left) ≡ record { entries = done; eof = true }
  none_left done left room part_room is =
      ap (λ (xs : List E). behind done (filled size part room part_room xs)) is
      ∙ ap (λ (xs : List E). record { entries = xs; eof = true }) (append-nil done)

  no_more : (done rest : List E) (e : E) (room part_room : ℕ) → (nat_le (size e) room && nat_le (part e) part_room) ≡ false
      → behind done (filled size part room part_room (e ∷ rest)) ≡ record { entries = done; eof = false }
  no_more done rest e room part_room h =
      let more : Filled E = filled size part (room - size e) (part_room - part e) rest in
      ap (λ (k : Bool). behind done (cond k (in_front e more) (record { entries = []; eof = false }))) h
      ∙ ap (λ (xs : List E). record { entries = xs; eof = false }) (append-nil done)

  pub too_long : (done left rest : List E) (e : E) (room part_room : ℕ) → left ≡ e ∷ rest → room < size e
      → behind done (filled size part room part_room left) ≡ record { entries = done; eof = false }
  too_long done left rest e room part_room is h =
      ap (λ (xs : List E). behind done (filled size part room part_room xs)) is
      ∙ no_more done rest e room part_room (rw (past (size e) room h) refl)

  pub part_too_long : (done left rest : List E) (e : E) (room part_room : ℕ) → left ≡ e ∷ rest → size e ≤ room → part_room < part e
      → behind done (filled size part room part_room left) ≡ record { entries = done; eof = false }
  part_too_long done left rest e room part_room is a h =
      ap (λ (xs : List E). behind done (filled size part room part_room xs)) is
      ∙ no_more done rest e room part_room (rw (within (size e) room a, past (part e) part_room h) refl)

abbrev small_if : Bool → Results → Result Results ℕ
small_if b results = if b then Err status.toosmall else Ok results

-- a listing of which an entry fits, or with nothing left
pub listing_made : {E : Type 0} (make : List E → Bool → Results) (f g : Filled E) → f ≡ g → none_fits f ≡ false
    → listing make g ≡ Ok (make f.entries f.eof)
listing_made {E = E} make f g e h =
    ap (λ (x : Filled E). listing make x) (sym e) ∙ ap (λ (k : Bool). small_if k (make f.entries f.eof)) h
