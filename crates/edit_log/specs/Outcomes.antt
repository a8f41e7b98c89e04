-- What a reading by code gives: what the definition gives, or want of memory.
use Rattle.std.specs.Prelude.{◌≡◌, List, Result, Ok, Err}
use Rattle.name_tree.specs.declared.edit.Edit.{Edit}
use Rattle.edit_log.specs.Edits.{Logged, Edits, DamagedAt}
use Rattle.edit_log.specs.declared.reading.EditFault.{EditFault}
use Rattle.edit_log.specs.declared.reading.EditFault.TheVariants.{Damaged, Memory as NoRoom}
use Rattle.edit_log.specs.declared.gauge.Cut.{Cut}
use Rattle.edit_log.specs.declared.reading.ReadFault.{ReadFault}
use Rattle.edit_log.specs.declared.reading.ReadFault.TheVariants.{Cut as Faulty, Memory}

abbrev pub Fails : {A : Type 0} → ReadFault → Result A Cut → Type 0
Fails (Faulty cut) r = r ≡ Err cut
Fails Memory r = Unit {0}

-- the reading's result by f, or its fault, or want of memory
abbrev pub Gives : {A B : Type 0} → (A → B) → Result A ReadFault → Result B Cut → Type 0
Gives f (Ok x) r = r ≡ Ok (f x)
Gives f (Err e) r = Fails e r

-- the edits of a log, or its damage, or want of memory
abbrev pub GivesEdits : {V : Type 0} → (V → List Edit) → Result V EditFault → Logged → Type 0
GivesEdits f (Ok v) l = l ≡ Edits (f v)
GivesEdits f (Err (Damaged place)) l = l ≡ DamagedAt place
GivesEdits f (Err NoRoom) l = Unit {0}
