use Rattle.std.proofs.Common.{arith}
use Rattle.replica_store.specs.Seats.{seat_view}
use Rattle.replica_store.proofs.Entries.{foreign, given_in}
use Rattle.replica_store.proofs.objects.give_in.Goals as goal

pub returns-then-places_of-len : goal.returns-then-places_of-len
returns-then-places_of-len g c = foreign (seat_view g.C.Cluster.at g.C.Cluster.losses g.C.Cluster.count) g.C.File.AppendFile.tells c.args.object _ _ c.args.given c.requires.sound c.requires.copies (λ same there. absurd (omega (arith, same, c.places_of.ensures, c.len.ensures, c.if-places_of-len.true)))

pub returns-then-not-contains_key : goal.returns-then-not-contains_key
returns-then-not-contains_key g c = foreign (seat_view g.C.Cluster.at g.C.Cluster.losses g.C.Cluster.count) g.C.File.AppendFile.tells c.args.object _ _ c.args.given c.requires.sound c.requires.copies (λ same there. absurd (let e = c.contains_key.ensures in let f = c.if-not-contains_key.true in cc))

pub returns : goal.returns
returns g c = given_in (seat_view g.C.Cluster.at g.C.Cluster.losses g.C.Cluster.count) g.C.File.AppendFile.tells c.args.object _ _ _ _ c.args.given _ c.requires.sound c.put_back.ensures.others c.give_kept.ensures.touched c.put_back.ensures.here c.give_kept.ensures.part c.requires.copies c.give_kept.ensures.own c.give_kept.ensures.own_losses c.give_kept.ensures.losses c.give_kept.ensures.count
