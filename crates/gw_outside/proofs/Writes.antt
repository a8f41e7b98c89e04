-- What was written so far and what one more write took.
use Rattle.std.proofs.Common.{ℕ, ◌+◌, ◌-◌, List, length, take, drop, sym}
use Rattle.std.specs.declared.option.Option.{Option}
use Rattle.std.specs.Io.KnownBytes.{Appends, Keeps}
use Rattle.std.proofs.KnownBytes.{Appends-trans, Appends-kept}
use Rattle.std.proofs.lemmas.List.{take_rest, take-append-drop}
use Rattle.std.proofs.Math.Seq.{take-add}
use Rattle.gw_outside.specs.Writing.{AppendsPrefix}

pub one_more_write : (a b c : Option (List ℕ)) (text : List ℕ) (at n : ℕ) → Appends a b (take at text) → Appends b c (take n (take (length text - at) (drop at text)))
    → Appends a c (take (at + n) text)
one_more_write a b c text at n p q =
    let r = rw (take_rest text at) at q in
    rw (take-add at n text) (Appends-trans a b c _ _ p r)

pub front_written : (a b : Option (List ℕ)) (text : List ℕ) (at : ℕ) → Appends a b (take at text) → AppendsPrefix a b text
front_written a b text at p = (take at text, p, (drop at text, sym (take-append-drop at text)))

pub front_kept : (a b c : Option (List ℕ)) (text : List ℕ) (at : ℕ) → Appends a b (take at text) → Keeps b c → AppendsPrefix a c text
front_kept a b c text at p k = front_written a c text at (Appends-kept a b c _ p k)
