use Rattle.nfs_wire.proofs.Loops.{on_ok, attr_written}
use Rattle.nfs_wire.proofs.put_attr.put_attr.Goals as goal

pub returns : goal.returns
returns c = on_ok c.put_fixed.result _ _ (attr_written c.args.writer.now c.put_fixed.new.self c.attr_text.result c.args.attr.now c.attr_text.ensures) c.put_fixed.ensures.ok
