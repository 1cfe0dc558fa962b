use Rattle.star_scope.specs.Uses.{parameter_name_uses}
use Rattle.star_scope.proofs.Placing.{place_none, place_turn, place_done}
use Rattle.star_scope.proofs.uses.place_parameter_names.Goals as goal

pub loop-parameter-init : goal.loop-parameter-init
loop-parameter-init c = place_none c.args.scope.now c.args.placed.now

pub loop-parameter-preserved : goal.loop-parameter-preserved
loop-parameter-preserved c =
    place_turn parameter_name_uses c.args.scope.now c.args.chain.now c.args.parameters.now c.loop-parameter.parameter-index c.parameter-item.result
    c.args.placed.now c.loop-parameter.placed c.place_parameter_name.new.placed c.loop-parameter-test.true c.parameter-item.is c.loop-parameter.invariant c.in_ok-place_parameter_name.ensures

pub returns : goal.returns
returns c =
    place_done parameter_name_uses c.args.scope.now c.args.chain.now c.args.parameters.now c.loop-parameter.parameter-index c.args.placed.now c.loop-parameter.placed
    c.loop-parameter-test.false c.loop-parameter.auto.parameter-index-end c.loop-parameter.invariant
