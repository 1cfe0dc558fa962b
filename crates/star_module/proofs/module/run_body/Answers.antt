use Rattle.std.proofs.Common.{rules, IfOk}
use Rattle.star_module.specs.Outcomes.{IsOutcome, run_by_places}
use Rattle.star_module.proofs.Outcomes.{all_fit, means_names, so_named}
use Rattle.star_module.proofs.module.run_body.Goals as goal

pub returns-clause-names : goal.returns-clause-names
returns-clause-names c =
    let run : IfOk c.outcome_of.result (λ o. IsOutcome (run_by_places c.args.world.now c.args.steps c.args.program.now.statements.now) o) = search rules in
    λ ready. means_names c.args.world.now c.args.program.now.statements.now c.args.steps c.outcome_of.result c.are_outlined.ensures c.requires.running ready run

pub returns-clause-fit : goal.returns-clause-fit
returns-clause-fit c = λ ready. all_fit c.args.world.now c.args.program.now.statements.now c.args.steps c.are_outlined.ensures c.requires.running ready

pub returns-clause-named : goal.returns-clause-named
returns-clause-named c =
    let run : IfOk c.outcome_of.result (λ o. IsOutcome (run_by_places c.args.world.now c.args.steps c.args.program.now.statements.now) o) = search rules in
    λ ready. so_named c.args.world.now c.args.program.now.statements.now c.args.steps c.outcome_of.result c.are_outlined.ensures c.requires.running ready run
