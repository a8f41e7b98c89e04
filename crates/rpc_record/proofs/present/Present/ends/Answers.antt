use Rattle.std.proofs.Common.{arith}
use Rattle.rpc_record.proofs.Advances.{end_last, end_more}
use Rattle.rpc_record.proofs.present.Present.ends.Goals as goal

pub returns-then-is_last-clause-last : goal.returns-then-is_last-clause-last
returns-then-is_last-clause-last c = end_last c.args.self.now (omega (arith, c.requires.header)) (omega arith) (cc)

pub finish-requires : goal.finish-requires
finish-requires c = record { some = c.requires.some (omega (arith, c.requires.header)) }

pub returns-clause-more : goal.returns-clause-more
returns-clause-more c =
    end_more c.args.self.now c.finish.new.self (omega (arith, c.requires.header)) (omega arith) (cc) c.finish.ensures.words c.finish.ensures.place c.finish.ensures.joined
