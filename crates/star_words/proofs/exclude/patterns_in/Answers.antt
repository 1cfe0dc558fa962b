use Rattle.std.proofs.Common.{◌≡◌, ◌∙◌, ap, map, take}
use Rattle.std.specs.List.{filter}
use Rattle.std.specs.Str.{trim}
use Rattle.std.specs.Str.Lines.{lines}
use Rattle.std.proofs.lemmas.Iterator.Consumers.{map_from_collect}
use Rattle.std.proofs.lemmas.Iterator.Splits.{YieldsList-from_lines}
use Rattle.std.proofs.lemmas.List.{take_all}
use Rattle.std.proofs.lemmas.Result.{IfOk-at_ok}
use Rattle.star_words.specs.Excluded.{is_pattern}
use Rattle.star_words.proofs.Patterns.{kept, texts}
use Rattle.star_words.proofs.exclude.patterns_in.Goals as goal

pub returns : goal.returns
returns c =
    let items = c.as_slice-line-items.result.now in
    let collected : texts c.in_ok-lines.lines.items ≡ lines c.args.text.now = IfOk-at_ok _ c.in_ok-lines.was (map_from_collect _ c.collect.ensures.ran (YieldsList-from_lines c.args.text.now c.lines.ensures.rest)) in
    let are : texts items ≡ lines c.args.text.now = ap texts c.as_slice-line-items.ensures.value ∙ collected in
    let all : take c.loop-line.line-index items ≡ items = take_all c.loop-line.line-index items c.loop-line-test.false in
    c.loop-line.invariant ∙ ap kept all ∙ ap (λ ts. filter is_pattern (map trim ts)) are
