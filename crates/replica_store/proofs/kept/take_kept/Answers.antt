use Rattle.std.proofs.Common.{◌≡◌, ◌∙◌, ap, arith, length, subst, sym}
use Rattle.append_store.specs.State.{IsThere}
use Rattle.replica_store.specs.Seats.{AllTakePart, seat_view}
use Rattle.replica_store.specs.Kept.{told_now}
use Rattle.replica_store.specs.Parts.{counts, fresh_files}
use Rattle.replica_store.proofs.Deleting.{there_each}
use Rattle.replica_store.proofs.InTurn.{as_many}
use Rattle.replica_store.proofs.Taking.{take_copies, take_counts, take_losses, take_touched, taken_out, undo_called, undo_losses, undo_part, undo_told, undo_touched}
use Rattle.replica_store.proofs.kept.take_kept.Goals as goal

pub take_each-requires-clause-there : goal.take_each-requires-clause-there
take_each-requires-clause-there g c = there_each (seat_view g.C.Cluster.at g.C.Cluster.losses g.C.Cluster.count) c.args.object g.C.File.AppendFile.tells _ c.args.kept.now c.requires.there c.requires.part

pub over-requires : goal.over-requires
over-requires g c = record { copies = rw c.replace-parts.ensures.value (take_copies (seat_view g.C.Cluster.at g.C.Cluster.losses g.C.Cluster.count) g.C.File.AppendFile.tells c.args.object _ _ (record { chief = c.kept.inside.chief; synced = c.kept.inside.synced; parts = c.kept.inside.parts.items }) _ _ c.take_each.ensures (subst (λ k. g.C.File.AppendFile.tells → IsThere (told_now (seat_view g.C.Cluster.at g.C.Cluster.losses g.C.Cluster.count) c.args.object c.args.seats.now.items k)) (sym c.kept.view_is) c.requires.there) (subst (λ k. AllTakePart (seat_view g.C.Cluster.at g.C.Cluster.losses g.C.Cluster.count) c.args.seats.now.items k.parts) (sym c.kept.view_is) c.requires.part) (subst (λ k. length k.parts ≡ length c.args.seats.now.items) (sym c.kept.view_is) c.requires.places) c.in-Some.ensures.some) }

pub give_each-requires : goal.give_each-requires
give_each-requires g c = record { places = let n = as_many _ _ _ _ _ c.take_each.ensures in omega (arith, n.0, n.1, n.2) }

pub returns-in-Some-clause-touched : goal.returns-in-Some-clause-touched
returns-in-Some-clause-touched g c = take_touched (seat_view g.C.Cluster.at g.C.Cluster.losses g.C.Cluster.count) g.C.File.AppendFile.tells c.args.object _ _ _ _ c.take_each.ensures

pub returns-in-Some-clause-losses : goal.returns-in-Some-clause-losses
returns-in-Some-clause-losses g c = take_losses (seat_view g.C.Cluster.at g.C.Cluster.losses g.C.Cluster.count) g.C.File.AppendFile.tells c.args.object _ _ _ _ c.take_each.ensures

pub returns-in-Some-clause-taken : goal.returns-in-Some-clause-taken
returns-in-Some-clause-taken g c = rw (← c.kept.view_is) (taken_out (seat_view g.C.Cluster.at g.C.Cluster.losses g.C.Cluster.count) g.C.File.AppendFile.tells c.args.object _ _ (record { chief = c.kept.inside.chief; synced = c.kept.inside.synced; parts = c.kept.inside.parts.items }) _ c.replace-parts.new.dest.items _ c.args.quorum _ (c.over.ensures ∙ ap (λ ps. fresh_files ps.items c.in-Some.lead c.args.quorum c.kept.inside.synced) c.replace-parts.ensures.value) c.take_each.ensures (subst (λ k. g.C.File.AppendFile.tells → IsThere (told_now (seat_view g.C.Cluster.at g.C.Cluster.losses g.C.Cluster.count) c.args.object c.args.seats.now.items k)) (sym c.kept.view_is) c.requires.there) (subst (λ k. AllTakePart (seat_view g.C.Cluster.at g.C.Cluster.losses g.C.Cluster.count) c.args.seats.now.items k.parts) (sym c.kept.view_is) c.requires.part) (subst (λ k. length k.parts ≡ length c.args.seats.now.items) (sym c.kept.view_is) c.requires.places) c.in-Some.ensures.some)

pub returns-in-Some-clause-no_faults : goal.returns-in-Some-clause-no_faults
returns-in-Some-clause-no_faults g c = ap (λ f. counts f.parts) (c.over.ensures ∙ ap (λ ps. fresh_files ps.items c.in-Some.lead c.args.quorum c.kept.inside.synced) c.replace-parts.ensures.value) ∙ take_counts (seat_view g.C.Cluster.at g.C.Cluster.losses g.C.Cluster.count) g.C.File.AppendFile.tells c.args.object _ _ _ _ c.take_each.ensures

pub returns-in-None-clause-touched : goal.returns-in-None-clause-touched
returns-in-None-clause-touched g c = undo_touched (seat_view g.C.Cluster.at g.C.Cluster.losses g.C.Cluster.count) g.C.File.AppendFile.tells c.args.object _ _ _ _ _ _ c.take_each.ensures c.give_each.ensures

pub returns-in-None-clause-part : goal.returns-in-None-clause-part
returns-in-None-clause-part g c = undo_part (seat_view g.C.Cluster.at g.C.Cluster.losses g.C.Cluster.count) g.C.File.AppendFile.tells c.args.object _ _ _ _ c.give_each.ensures

pub returns-in-None-clause-losses : goal.returns-in-None-clause-losses
returns-in-None-clause-losses g c = undo_losses (seat_view g.C.Cluster.at g.C.Cluster.losses g.C.Cluster.count) g.C.File.AppendFile.tells c.args.object _ _ _ (record { chief = c.kept.inside.chief; synced = c.kept.inside.synced; parts = c.kept.inside.parts.items }) _ _ c.take_each.ensures c.give_each.ensures (subst (λ k. g.C.File.AppendFile.tells → IsThere (told_now (seat_view g.C.Cluster.at g.C.Cluster.losses g.C.Cluster.count) c.args.object c.args.seats.now.items k)) (sym c.kept.view_is) c.requires.there) (subst (λ k. AllTakePart (seat_view g.C.Cluster.at g.C.Cluster.losses g.C.Cluster.count) c.args.seats.now.items k.parts) (sym c.kept.view_is) c.requires.part) (subst (λ k. length k.parts ≡ length c.args.seats.now.items) (sym c.kept.view_is) c.requires.places)

pub returns-in-None-clause-taken : goal.returns-in-None-clause-taken
returns-in-None-clause-taken g c = rw (← c.kept.view_is) (undo_told (seat_view g.C.Cluster.at g.C.Cluster.losses g.C.Cluster.count) g.C.File.AppendFile.tells c.args.object _ _ _ (record { chief = c.kept.inside.chief; synced = c.kept.inside.synced; parts = c.kept.inside.parts.items }) _ _ c.take_each.ensures c.give_each.ensures (subst (λ k. g.C.File.AppendFile.tells → IsThere (told_now (seat_view g.C.Cluster.at g.C.Cluster.losses g.C.Cluster.count) c.args.object c.args.seats.now.items k)) (sym c.kept.view_is) c.requires.there) (subst (λ k. AllTakePart (seat_view g.C.Cluster.at g.C.Cluster.losses g.C.Cluster.count) c.args.seats.now.items k.parts) (sym c.kept.view_is) c.requires.part) (subst (λ k. length k.parts ≡ length c.args.seats.now.items) (sym c.kept.view_is) c.requires.places))

pub returns-in-None-clause-failed : goal.returns-in-None-clause-failed
returns-in-None-clause-failed g c = undo_called (seat_view g.C.Cluster.at g.C.Cluster.losses g.C.Cluster.count) g.C.File.AppendFile.tells c.args.object _ _ _ _ _ c.give_each.ensures c.in-None.ensures.none
