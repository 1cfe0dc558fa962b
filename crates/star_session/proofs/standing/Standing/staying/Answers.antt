use Rattle.std.proofs.Common.{subst, sym}
use Rattle.star_memo.specs.Compared.{ComparedView}
use Rattle.star_memo.specs.Outcomes.{AreOutcomes}
use Rattle.star_memo.specs.declared.outcomes.Outcomes.{Outcomes}
use Rattle.star_session.proofs.standing.Standing.staying.Goals as goal

pub after-requires-2-clause-outcomes : goal.after-requires-2-clause-outcomes
after-requires-2-clause-outcomes g c κs within =
    let old = c.args.self.now in
    let before = c.replace-before.result in
    let kept = subst (λ (o : Outcomes). AreOutcomes old.files o.terms.prelude o.terms.mode o.all.items) (sym c.replace-before.ensures.value) c.requires.standing.kept.outcomes in
    subst (λ (v : ComparedView). AreOutcomes v.before before.terms.prelude before.terms.mode before.all.items) (sym c.new-compared.ensures) kept

pub returns-clause-outcomes : goal.returns-clause-outcomes
returns-clause-outcomes g c =
    let terms = c.args.terms in
    subst (λ (v : ComparedView). AreOutcomes v.files terms.prelude terms.mode c.in_ok-outcomes.outcomes.all.items) c.new-compared.ensures c.in_ok-outcomes.ensures.all

pub returns-clause-former : goal.returns-clause-former
returns-clause-former g c =
    let terms = c.args.terms in
    subst (λ (v : ComparedView). AreOutcomes v.before terms.prelude terms.mode c.in_ok-outcomes.former.items) c.new-compared.ensures c.in_ok-outcomes.ensures.others
