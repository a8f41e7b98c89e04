use Rattle.std.proofs.Common.{◌≡◌, ◌+◌, subst}
use Rattle.std.specs.Result.{OnOk}
use Rattle.pending_writes.proofs.SoundEntries.{sound-inserted}
use Rattle.pending_writes.specs.Weights.{entries_weight}
use Rattle.pending_writes.specs.Writes.{PendingState}
use Rattle.pending_writes.proofs.EntryWeights.{weight_inserted}
use Rattle.pending_writes.proofs.writes.PendingWrites.insert.Goals as goal

pub invariant_of-self : goal.invariant_of-self
invariant_of-self g c = sound-inserted c.insert.result c.args.entry _ _ _ c.insert.ensures.ok c.insert.ensures.err c.requires.here c.requires.sound c.self.invariant

pub returns-clause-weight : goal.returns-clause-weight
returns-clause-weight g c =
    let old = g.M.PendingMap.entries c.self.inside.map in
    let new = g.M.PendingMap.entries c.insert.new.self in
    subst (λ (p : PendingState). OnOk c.insert.result (entries_weight new ≡ c.args.entry.weight + entries_weight p.entries)) c.self.view_is
    (weight_inserted c.insert.result c.args.entry old new c.requires.here c.insert.ensures.ok)
