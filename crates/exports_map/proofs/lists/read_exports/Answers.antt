use Rattle.std.proofs.Common.{rules, ◌≡◌, ◌+◌, length, map, string_bytes, refl, sym, ◌∙◌, subst}
use Rattle.std.proofs.lemmas.List.{length-map}
use Rattle.std.proofs.lemmas.Option.{slice_get_read}
use Rattle.exports_map.specs.Items.{IsExport}
use Rattle.exports_map.specs.Rules.{IsFirstBad}
use Rattle.exports_map.specs.declared.access.ExportRule.{ExportRule}
use Rattle.exports_map.proofs.Items.{one_more, all_read, next_bad, length_same}
use Rattle.exports_map.proofs.lists.read_exports.Goals as goal

pub loop-i-init : goal.loop-i-init
loop-i-init c = search rules

pub returns-in_default-clause-bad : goal.returns-in_default-clause-bad
returns-in_default-clause-bad c = λ number e.
    let texts = c.args.texts.now in
    let at = slice_get_read texts (length texts) c.loop-i.i c.index-texts-i.result refl c.loop-i-test.true c.index-texts-i.is in
    let bad : (item : ExportRule) → IsExport (string_bytes c.index-texts-i.result) item → ⊥ =
    λ item is. absurd (c.in_default.not-Some item (c.export_of.ensures.found item (subst (λ t. IsExport t item) (sym c.as_bytes.ensures.value) is))) in
    let is = next_bad IsExport string_bytes texts c.loop-i.i c.loop-i.rules.items c.index-texts-i.result c.loop-i.invariant at bad in
    let same : c.loop-i.i + 1 ≡ number = cc in
    subst (λ n. IsFirstBad IsExport (map string_bytes texts) n) same is

pub loop-i-preserved : goal.loop-i-preserved
loop-i-preserved c =
    let texts = c.args.texts.now in
    let at = slice_get_read texts (length texts) c.loop-i.i c.index-texts-i.result refl c.loop-i-test.true c.index-texts-i.is in
    let is : IsExport (string_bytes c.index-texts-i.result) c.in-Some.rule = subst (λ t. IsExport t c.in-Some.rule) c.as_bytes.ensures.value c.in-Some.ensures.read in
    let more = one_more IsExport string_bytes texts c.loop-i.i c.loop-i.rules.items c.index-texts-i.result c.in-Some.rule c.loop-i.invariant at is in
    search (rules, more)

pub returns-clause-ok : goal.returns-clause-ok
returns-clause-ok c = all_read IsExport string_bytes c.args.texts.now c.loop-i.i c.loop-i.rules.items c.loop-i.invariant c.loop-i-test.false

pub returns-clause-few : goal.returns-clause-few
returns-clause-few c =
    let texts = c.args.texts.now in
    length_same IsExport (map string_bytes texts) c.loop-i.rules.items (all_read IsExport string_bytes texts c.loop-i.i c.loop-i.rules.items c.loop-i.invariant c.loop-i-test.false)
    ∙ length-map texts string_bytes
