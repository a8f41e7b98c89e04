use Rattle.std.proofs.Common.{◌≡◌, ℕ, ◌+◌, ◌-◌, List, take, sym, ap, ◌∙◌, arith, rules, Ok, Err}
use Rattle.std.proofs.lemmas.List.{take_more_set, length-set}
use Rattle.rpc_msg.specs.Calls.{words_at}
use Rattle.rpc_msg.proofs.Words.{joined_words, words_more, words_fault, words_end}
use Rattle.rpc_msg.proofs.sender.read_words.Goals as goal

pub returns-in_err-words-clause-err : goal.returns-in_err-words-clause-err
returns-in_err-words-clause-err c =
    let i = c.loop-i.i in
    let none = words_fault (c.args.count - i) (c.args.count - (i + 1)) c.loop-i.reader c.in_err-words.field-0.0 (take i c.loop-i.words) (omega arith) c.in_err-words.ensures.err in
    let e : words_at c.args.count c.args.reader.now ≡ Err c.in_err-words.field-0.0 = sym c.loop-i.invariant.1 ∙ none in
    search rules

pub loop-i-preserved : goal.loop-i-preserved
loop-i-preserved c =
    let i = c.loop-i.i in
    let w = c.in_ok-words.field-0 in
    let more = words_more (c.args.count - i) (c.args.count - (i + 1)) w c.loop-i.reader c.take_u32.new.self (take i c.loop-i.words) (omega arith) c.in_ok-words.ensures.ok in
    let room = c.requires in
    let size = c.loop-i.invariant.0 in
    let front = take_more_set c.loop-i.words i w (omega arith) in
    (length-set c.loop-i.words i w ∙ size, ap (λ (k : List ℕ). joined_words k (words_at (c.args.count - (i + 1)) c.take_u32.new.self)) front ∙ sym more ∙ c.loop-i.invariant.1)

pub returns-clause-ok : goal.returns-clause-ok
returns-clause-ok c =
    let i = c.loop-i.i in
    let at : i ≡ c.args.count = omega arith in
    let e = words_end (c.args.count - i) c.loop-i.reader (take i c.loop-i.words) (omega arith) in
    sym c.loop-i.invariant.1 ∙ e ∙ ap (λ (k : ℕ). Ok (take k c.loop-i.words, c.loop-i.reader)) at
