use Rattle.std.proofs.Common.{IfOk, subst}
use Rattle.star_plan.specs.Reading.{IsPlanOf}
use Rattle.star_outcome.specs.Kept.{AllKept}
use Rattle.star_host.specs.Worlds.{plan_in}
use Rattle.star_host.proofs.Settled.{if_ok}
use Rattle.star_host.proofs.Shared.{no_ends}
use Rattle.star_alone.proofs.running.run_over.Goals as goal

pub returns-clause-kept : goal.returns-clause-kept
returns-clause-kept c = subst (λ ms. IfOk c.run_named.result (λ x. AllKept ms x.kept.items)) c.new-common.ensures.modules c.run_named.ensures.kept

pub returns-clause-modules : goal.returns-clause-modules
returns-clause-modules c =
    let plan = plan_in c.new-common.result in
    if_ok c.run_named.result (λ x all. (plan, subst (λ fs. IsPlanOf fs plan) c.new-common.ensures.files c.new-common.ensures.world.planned, c.new-common.ensures.roots, c.new-common.ensures.prelude, c.new-common.ensures.mode, all)) c.run_named.ensures.modules

pub returns-clause-refused : goal.returns-clause-refused
returns-clause-refused c =
    let plan = plan_in c.new-common.result in
    if_ok c.run_named.result (λ x all. (plan, subst (λ fs. IsPlanOf fs plan) c.new-common.ensures.files c.new-common.ensures.world.planned, c.new-common.ensures.roots, c.new-common.ensures.prelude, c.new-common.ensures.mode, all)) c.run_named.ensures.refused

pub new-common-requires-clause-ends : goal.new-common-requires-clause-ends
new-common-requires-clause-ends c = no_ends c.args.files.now c.args.options.roots.now c.args.options.prelude c.args.options.mode.now
