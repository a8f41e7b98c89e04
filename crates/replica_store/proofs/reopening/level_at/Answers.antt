use Rattle.std.proofs.Common.{rules, ◌≡◌, length, sym}
use Rattle.replica_store.proofs.Walking.{not_out, touch_same}
use Rattle.replica_store.proofs.Enduring.{levelled_same}
use Rattle.replica_store.proofs.reopening.level_at.Goals as goal

pub returns-else-is_at_home-clause-touched : goal.returns-else-is_at_home-clause-touched
returns-else-is_at_home-clause-touched g c = touch_same _ _ _ _

pub returns-else-is_at_home-clause-image : goal.returns-else-is_at_home-clause-image
returns-else-is_at_home-clause-image g c = λ before awaits told.
    let many : c.len-places.result ≡ length c.args.seats.now.items = search rules in
    absurd (not_out _ _ _ _ _ _ before _ (sym c.in-Some.ensures.value) many (c.is_at_home.ensures.out c.if-is_at_home.false) told awaits)

pub returns-in_default-clause-touched : goal.returns-in_default-clause-touched
returns-in_default-clause-touched g c = touch_same _ _ _ _

pub returns-else-is_at_home-clause-held : goal.returns-else-is_at_home-clause-held
returns-else-is_at_home-clause-held g c = levelled_same _ _ _ _

pub returns-in_default-clause-held : goal.returns-in_default-clause-held
returns-in_default-clause-held g c = levelled_same _ _ _ _
