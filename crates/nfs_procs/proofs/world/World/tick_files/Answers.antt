use Rattle.std.proofs.Common.{rules, ◌≡◌, ℕ, true, List, ◌∷◌, length, refl, ◌∙◌, ap, subst, arith}
use Rattle.std.specs.List.{All}
use Rattle.std.specs.Vec.Iter.{into_iter_items}
use Rattle.std.proofs.lemmas.List.Elements.{All-head, All-rest, All-weaker}
use Rattle.nfs_procs.specs.Contexts.{has_place, store_state, world_scene_of}
use Rattle.nfs_procs.specs.Ticks.{TicksFront}
use Rattle.nfs_procs.proofs.ContextStores.{losses_trans, objects_trans, there_trans}
use Rattle.nfs_procs.proofs.WorldTicks.{front_more, front_none}
use Rattle.nfs_procs.proofs.world.World.tick_files.Goals as goal

pub loop-file-init : goal.loop-file-init
loop-file-init g c =
    let is : into_iter_items c.into_iter-file-iterator.result ≡ c.args.files.items = search rules in
    rw is (record {
      front = front_none g.C.File.AppendFile.tells _ _ _ c.new.ensures.bytes;
      placed = c.requires.placed;
      places = c.requires.places;
      noted = c.requires.noted;
      names = refl;
      others = λ told q apart. (refl, refl);
      losses = λ told q. refl;
      there = λ told q h. h;
      event = refl;
      settings = refl;
    })

pub tick_file-requires-clause-place : goal.tick_file-requires-clause-place
tick_file-requires-clause-place g c =
    let steps : into_iter_items c.loop-file.file-iterator ≡ c.in-Some.file ∷ into_iter_items c.next.new.self = c.in-Some.ensures.steps.0 in
    All-head (λ k. has_place k c.loop-file.self.hulls ≡ true) c.in-Some.file (into_iter_items c.next.new.self) (subst (All (λ k. has_place k c.loop-file.self.hulls ≡ true)) steps c.loop-file.invariant.places)

pub loop-file-preserved : goal.loop-file-preserved
loop-file-preserved g c =
    let e = c.tick_file.ensures in
    let i = c.loop-file.invariant in
    let rest = into_iter_items c.next.new.self in
    let steps : into_iter_items c.loop-file.file-iterator ≡ c.in-Some.file ∷ rest = c.in-Some.ensures.steps.0 in
    let many = ap length steps in
    let noted = i.noted in
    let room = e.room in
    let mid = world_scene_of g.C.Cluster c.loop-file.self c.loop-file.cluster in
    let a = store_state g.C.Cluster c.args.cluster.now in
    let b = store_state g.C.Cluster c.loop-file.cluster in
    let d = store_state g.C.Cluster c.tick_file.new.cluster in
    let front = subst (λ (xs : List ℕ). TicksFront g.C.File.AppendFile.tells c.args.files.items (world_scene_of g.C.Cluster c.args.self.now c.args.cluster.now) c.loop-file.text mid xs) steps i.front in
    record {
      front = front_more g.C.File.AppendFile.tells c.args.files.items _ mid _ c.loop-file.text c.tick_file.result c.joined-text.result c.in-Some.file rest front e.done c.joined-text.ensures.text c.joined-text.ensures.first c.joined-text.ensures.second;
      placed = e.placed_after;
      places = All-weaker (λ k. has_place k c.loop-file.self.hulls ≡ true) (λ k. has_place k c.tick_file.new.self.hulls ≡ true) (λ k h. e.places k ∙ h) rest
          (All-rest (λ k. has_place k c.loop-file.self.hulls ≡ true) c.in-Some.file rest (into_iter_items c.loop-file.file-iterator) steps i.places);
      noted = omega (arith, many, noted, room);
      names = e.names ∙ i.names;
      others = λ told. objects_trans a b d (i.others told) (e.others told);
      losses = λ told. losses_trans a b d (i.losses told) (e.losses told);
      there = λ told. there_trans a b d (i.there told) (e.there told);
      event = e.event ∙ i.event;
      settings = e.settings ∙ i.settings;
    }
