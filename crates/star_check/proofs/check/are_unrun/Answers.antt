use Rattle.std.proofs.Common.{◌≡◌, ◌<◌, arith, length, subst, true}
use Rattle.std.proofs.lemmas.List.Elements.{All-more}
use Rattle.star_check.specs.Judged.{verdict_view}
use Rattle.star_check.specs.Text.{is_unrun}
use Rattle.star_check.specs.declared.verdict.Judged.{Judged}
use Rattle.star_check.proofs.Shown.{all_taken}
use Rattle.star_check.proofs.check.are_unrun.Goals as goal

pub loop-it-preserved : goal.loop-it-preserved
loop-it-preserved c =
    let j : Judged = c.it-item.result in
    let less : c.loop-it.it-index < length c.args.judged.now = omega (arith, c.loop-it-test.true) in
    let unrun : is_unrun (verdict_view j.verdict) ≡ true = grind (arith, c.is_unrun.ensures, c.if-not-is_unrun.false) in
    All-more (λ (x : Judged). is_unrun (verdict_view x.verdict) ≡ true) c.args.judged.now c.loop-it.it-index j less c.loop-it.invariant
    (subst (λ (x : Judged). is_unrun (verdict_view x.verdict) ≡ true) c.it-item.is unrun)

pub returns-clause-yes : goal.returns-clause-yes
returns-clause-yes c = λ e. all_taken (λ (x : Judged). is_unrun (verdict_view x.verdict) ≡ true) c.args.judged.now c.loop-it.it-index (omega (arith, c.loop-it-test.false, c.loop-it.auto.it-index-end)) c.loop-it.invariant
