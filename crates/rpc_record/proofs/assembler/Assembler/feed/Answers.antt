use Rattle.std.proofs.Common.{subst}
use Rattle.rpc_record.specs.declared.present.Taken.{Taken}
use Rattle.rpc_record.specs.Presents.{held_of, IsTaken}
use Rattle.rpc_record.proofs.Pieces.{fed_broken, fed_all, fed_record, fed_refusal}
use Rattle.rpc_record.proofs.assembler.Assembler.feed.Goals as goal

pub returns-in-Some-clause-fault : goal.returns-in-Some-clause-fault
returns-in-Some-clause-fault c = λ _. rw (← c.self.view_is) (fed_broken _ c.args.piece.now c.in-Some.fault c.in-Some.is)

pub returns-in-Ok-All-clause-ok : goal.returns-in-Ok-All-clause-ok
returns-in-Ok-All-clause-ok c =
    let t = subst (λ (k : Taken). IsTaken k (held_of c.self.inside.present) c.args.piece.now c.take.new.self) c.in-Ok-All.field-0-is c.in-Ok-All.ensures.ok in
    rw (← c.self.view_is) (fed_all _ c.args.piece.now (held_of c.take.new.self) c.in_default.is t.0 t.1)

pub returns-in-Ok-Record-clause-ok : goal.returns-in-Ok-Record-clause-ok
returns-in-Ok-Record-clause-ok c =
    let t = subst (λ (k : Taken). IsTaken k (held_of c.self.inside.present) c.args.piece.now c.take.new.self) c.in-Ok-Record.field-0-is c.in-Ok-Record.ensures.ok in
    rw (← c.self.view_is) (fed_record _ c.args.piece.now (held_of c.take.new.self) c.in_default.is c.in-Ok-Record.message c.in-Ok-Record.count t.0 t.1 t.2)

pub returns-else-eq-clause-fault : goal.returns-else-eq-clause-fault
returns-else-eq-clause-fault c = λ apart. rw (← c.self.view_is) (fed_refusal _ c.args.piece.now (held_of c.take.new.self) c.in_default.is c.in-Err.fault (c.in-Err.ensures.err.0 apart) c.in-Err.ensures.same)
