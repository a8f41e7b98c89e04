use Rattle.std.proofs.Common.{◌≡◌, length, take, ap, ◌∙◌, arith}
use Rattle.std.specs.List.{range_with_len}
use Rattle.std.proofs.lemmas.List.FromFn.{length-range_with_len}
use Rattle.load_gen.specs.Shuffles.{Shuffle}
use Rattle.load_gen.proofs.Excerpts.{range_front, window_shuffled, front_of}
use Rattle.load_gen.proofs.load.shuffled_window.Goals as goal

pub returns-clause-items : goal.returns-clause-items
returns-clause-items c =
    let f : take c.args.count c.window_from-writes.result ≡ range_with_len c.args.first c.args.count =
    ap (take c.args.count) c.window_from-writes.ensures ∙ range_front c.args.first c.args.count 8 (omega arith) in
    let len : length c.shuffle_items.new.items ≡ c.args.count = c.shuffle_items.auto.items ∙ (ap length f ∙ length-range_with_len c.args.first c.args.count) in
    front_of _ _ _ len ∙ (c.shuffle_items.ensures.items ∙ ap (λ (s : Shuffle). s.items) (window_shuffled _ _ _ _ f))

pub returns-clause-number : goal.returns-clause-number
returns-clause-number c =
    let f : take c.args.count c.window_from-writes.result ≡ range_with_len c.args.first c.args.count =
    ap (take c.args.count) c.window_from-writes.ensures ∙ range_front c.args.first c.args.count 8 (omega arith) in
    c.shuffle_items.ensures.number ∙ ap (λ (s : Shuffle). s.number) (window_shuffled _ _ _ _ f)
