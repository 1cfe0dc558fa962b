use Rattle.std.proofs.Common.{rules, ◌≡◌, ◌<◌, ◌++◌, ◌∷◌, [], ◌∙◌, ap, arith, get_or, length, map, sym, take}
use Rattle.std.proofs.lemmas.List.{map-append}
use Rattle.serde_json.specs.Data.{string}
use Rattle.serde_json.specs.View.{view}
use Rattle.star_meaning.specs.declared.said.Said.{Said}
use Rattle.star_plan.specs.Text.{lines_in}
use Rattle.star_report.proofs.SaidRows.{lines_more}
use Rattle.star_report.proofs.report.strings.Goals as goal

pub loop-one-preserved : goal.loop-one-preserved
loop-one-preserved c =
    let said = c.args.said.now in
    let i = c.loop-one.one-index in
    let x : Said = c.one-item.result in
    let less : i < length said = omega (arith, c.loop-one-test.true) in
    let at : get_or said i x ≡ x = search rules in
    c.in_ok-push_string.ensures
    ∙ (ap (λ r. r ++ map string (lines_in (x ∷ []))) c.loop-one.invariant
    ∙ sym (ap (map string) (lines_more said i x less ∙ ap (λ y. lines_in (take i said) ++ lines_in (y ∷ [])) at) ∙ map-append string (lines_in (take i said)) (lines_in (x ∷ []))))
