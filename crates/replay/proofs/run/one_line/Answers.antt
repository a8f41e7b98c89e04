use Rattle.std.proofs.Common.{◌≡◌, Some, None, refl, sym, ap, ◌∙◌}
use Rattle.replay.specs.Grammar.{grammar_line}
use Rattle.replay.specs.declared.grammar.Line.TheVariants.{Go, End}
use Rattle.replay.proofs.RunLines.{links_in, on_ok_here, event_turn, only_read, rests, refused_line, no_read_fault, settles_end, settles_bad, settles_long}
use Rattle.replay.proofs.run.one_line.Goals as goal

pub returns-in-Ok-Some-End-clause-moves : goal.returns-in-Ok-Some-End-clause-moves
returns-in-Ok-Some-End-clause-moves g c = λ links are.
    let r = c.in-Line.ensures.bytes in
    let is : grammar_line c.args.grammar.now c.next.new.self.line ≡ Some End = sym (c.in-Ok-Some-End.ensures ∙ ap (grammar_line c.args.grammar.now) c.line.ensures) ∙ c.in-Ok-Some-End.field-0-is ∙ ap Some c.in-Ok-Some-End.field-0-0-is in
    only_read g.C.File.AppendFile.tells _ links _ _ _ _ _ _ _ r.0 r.1 (rests _ _ _ _ r.0 refl (λ k. refl), settles_end (record { state = c.args.gateway.now; grammar = c.args.grammar.now; before = c.args.before; pending = c.args.lines.now.pending }) _ _ _ c.requires.few r.2 is)

pub returns-in-Ok-None-clause-moves : goal.returns-in-Ok-None-clause-moves
returns-in-Ok-None-clause-moves g c = λ links are.
    let r = c.in-Line.ensures.bytes in
    let is : grammar_line c.args.grammar.now c.next.new.self.line ≡ None = sym (c.in-Ok-None.ensures ∙ ap (grammar_line c.args.grammar.now) c.line.ensures) ∙ c.in-Ok-None.field-0-is in
    only_read g.C.File.AppendFile.tells _ links _ _ _ _ _ _ _ r.0 r.1 (rests _ _ _ _ r.0 refl (λ k. refl), settles_bad (record { state = c.args.gateway.now; grammar = c.args.grammar.now; before = c.args.before; pending = c.args.lines.now.pending }) _ _ _ c.requires.few r.2 is)

pub returns-in-TooLong-clause-moves : goal.returns-in-TooLong-clause-moves
returns-in-TooLong-clause-moves g c = λ links are.
    let r = c.in-TooLong.ensures.bytes in
    only_read g.C.File.AppendFile.tells _ links _ _ _ _ _ _ _ r.0 r.1 (rests _ _ _ _ r.0 refl (λ k. refl), settles_long (record { state = c.args.gateway.now; grammar = c.args.grammar.now; before = c.args.before; pending = c.args.lines.now.pending }) _ r.2.1)

pub returns-in-AtEnd-clause-moves : goal.returns-in-AtEnd-clause-moves
returns-in-AtEnd-clause-moves g c = λ links are.
    let r = c.in-AtEnd.ensures.bytes in
    only_read g.C.File.AppendFile.tells _ links _ _ _ _ _ _ _ r.0 r.1 (rests _ _ _ _ r.0 refl (λ k. refl), r.2.1, r.2.2)

pub returns-in-ReadFault-clause-moves : goal.returns-in-ReadFault-clause-moves
returns-in-ReadFault-clause-moves g c = λ links are.
    let r = c.in-ReadFault.ensures.bytes in
    only_read g.C.File.AppendFile.tells _ links _ _ _ _ _ _ _ r.0 r.1 (rests _ _ _ _ r.0 refl (λ k. refl), r.2.1)

pub returns-in-Err-clause-moves : goal.returns-in-Err-clause-moves
returns-in-Err-clause-moves g c = λ links are.
    let r = c.in-Line.ensures.bytes in
    refused_line g.C.File.AppendFile.tells links _ _ _ _ _ _ _ r.0 r.1 refl

pub returns-in-NoMemory-clause-moves : goal.returns-in-NoMemory-clause-moves
returns-in-NoMemory-clause-moves g c = λ links are.
    let r = c.in-NoMemory.ensures.bytes in
    refused_line g.C.File.AppendFile.tells links _ _ _ _ _ _ _ r.0 r.1 refl

pub returns-then-is_err-clause-moves : goal.returns-then-is_err-clause-moves
returns-then-is_err-clause-moves g c = λ links are.
    let r = c.in-Line.ensures.bytes in
    refused_line g.C.File.AppendFile.tells links _ _ _ _ _ _ _ r.0 r.1 refl

pub returns-else-is_err-clause-moves : goal.returns-else-is_err-clause-moves
returns-else-is_err-clause-moves g c = λ links are.
    let r = c.in-Line.ensures.bytes in
    let is : grammar_line c.args.grammar.now c.next.new.self.line ≡ Some (Go c.in-Ok-Some-Go.event) = sym (c.in-Ok-Some-Go.ensures ∙ ap (grammar_line c.args.grammar.now) c.line.ensures) ∙ c.in-Ok-Some-Go.field-0-is ∙ ap Some c.in-Ok-Some-Go.field-0-0-is in
    let passed = on_ok_here c.pass.result (sym c.is_err.ensures.value ∙ c.if-is_err.false) c.pass.ensures.ok in
    rw passed (event_turn g.C.File.AppendFile.tells c.args.gateway.now c.one_event.new.gateway c.args.grammar.now c.args.before c.args.lines.now.pending r.0 c.next.new.self.line c.next.new.self.pending c.in-Ok-Some-Go.event
    c.requires.few r.2 is (g.S.Source.left c.args.source.now) (g.S.Source.left c.next.new.source) _ _ _ _ _ _ r.1 c.one_event.result links (c.one_event.ensures.moves _ links are))

pub returns-else-is_err-clause-read_cause : goal.returns-else-is_err-clause-read_cause
returns-else-is_err-clause-read_cause g c = λ q. absurd (no_read_fault g.C.File.AppendFile.tells c.one_event.result _ _ _ _ _ _ (c.one_event.ensures.moves (g.S.Source.left c.args.source.now) (links_in c.args.gateway.now.links) (λ conn. refl)) q)
