use Rattle.std.proofs.Common.{◌≡◌, ◌∙◌, sym}
use Rattle.star_reading.specs.declared.code.StaticFault.{StaticFault as Fault}
use Rattle.star_reading.specs.declared.reading.Read.TheVariants as read
use Rattle.star_check.proofs.Rows.{verdict_fails, verdict_unrun}
use Rattle.star_check.proofs.judge.verdict_of.Goals as goal

pub returns-in_ok-cause-in-Some-clause-verdict : goal.returns-in_ok-cause-in-Some-clause-verdict
returns-in_ok-cause-in-Some-clause-verdict c = λ files plan ps planned is reached at has size are nexts.
    verdict_fails files c.args.reads.now.all.items plan ps c.args.causes.now c.args.n c.args.prospect c.in_ok-cause-in-Some.cause c.in-Some.load.now planned is size reached are nexts
    c.in_ok-cause-in-Some.ensures.way (c.in-Some.ensures.load plan is (are plan is c.args.n c.args.prospect has))

pub returns-in-None-clause-verdict : goal.returns-in-None-clause-verdict
returns-in-None-clause-verdict c = λ files plan ps planned is reached at has size are nexts.
    let told = are plan is c.args.n c.args.prospect has in
    verdict_unrun c.args.reads.now.all.items plan c.args.n c.args.read.now c.args.prospect is at
    (λ (f : Fault) e. let both : read.Program c.in_default.field-0 ≡ read.Fault f = sym c.in_default.is ∙ e in let no : ⊥ = cc in no)
    told (λ i same. c.load_by.ensures.none c.in-None.is plan is told i same)
