use Rattle.std.proofs.Common.{subst, sym}
use Rattle.star_check.specs.Judged.{AreNexts, AreProspects}
use Rattle.star_check.proofs.judge.judge.Goals as goal

pub returns-clause-check : goal.returns-clause-check
returns-clause-check c = λ files plan planned is.
    let row = c.args.reads.now.all.items in
    let told = c.as_slice-told.result.now in
    let are : AreProspects row told = subst (AreProspects row) (sym c.as_slice-told.ensures.value) c.in_ok-prospects.ensures.are in
    let nexts : AreNexts row told c.in_ok-causes.causes = subst (AreNexts row told) (sym c.in_ok-causes.ensures) c.in_ok-nexts.ensures.nexts in
    c.in_ok-judged.ensures.check files plan planned is are nexts
