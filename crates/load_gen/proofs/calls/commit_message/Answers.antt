use Rattle.std.proofs.Common.{◌∙◌}
use Rattle.load_gen.specs.Load.{load_commit}
use Rattle.load_gen.proofs.Messages.{message_written}
use Rattle.load_gen.proofs.calls.commit_message.Goals as goal

pub returns : goal.returns
returns c =
    c.into_vec.ensures
    ∙ message_written c.args.xid (load_commit c.args.load.now) _ _ _ c.new-writer.ensures c.in_ok-put_head.ensures c.in_ok-put_commit.ensures
