use Rattle.std.proofs.Common.{◌≡◌, ◌<◌, true, take, length, ◌∙◌, rules}
use Rattle.std.proofs.lemmas.List.Elements.{All-more, All-weaker}
use Rattle.nfs_procs.specs.Contexts.{has_place}
use Rattle.nfs_procs.proofs.hulls.make_places.Goals as goal

pub loop-file-preserved : goal.loop-file-preserved
loop-file-preserved c =
    let files = c.args.files.now in
    let at = c.loop-file.file-index in
    let few : at < length files = search rules in
    record {
      made = All-more (λ k. has_place k c.make_place.new.hulls.entries ≡ true) files at 0 few
          (All-weaker (λ k. has_place k c.loop-file.hulls.entries ≡ true) (λ k. has_place k c.make_place.new.hulls.entries ≡ true) c.make_place.ensures.places (take at files) c.loop-file.invariant.made)
          c.in_ok-make_place.ensures.made;
      lost = λ k. c.make_place.ensures.lost k ∙ c.loop-file.invariant.lost k;
    }
