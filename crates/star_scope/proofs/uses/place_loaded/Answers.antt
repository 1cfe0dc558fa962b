use Rattle.star_scope.specs.Uses.{loaded_use}
use Rattle.star_scope.proofs.Placing.{place_none, place_turn, place_done}
use Rattle.star_scope.proofs.uses.place_loaded.Goals as goal

pub loop-name-init : goal.loop-name-init
loop-name-init c = place_none c.args.scope.now c.args.placed.now

pub loop-name-preserved : goal.loop-name-preserved
loop-name-preserved c =
    place_turn loaded_use c.args.scope.now c.args.chain.now c.args.names.now c.loop-name.name-index c.name-item.result
    c.args.placed.now c.loop-name.placed c.place_name.new.placed c.loop-name-test.true c.name-item.is c.loop-name.invariant c.in_ok-place_name.ensures

pub returns : goal.returns
returns c =
    place_done loaded_use c.args.scope.now c.args.chain.now c.args.names.now c.loop-name.name-index c.args.placed.now c.loop-name.placed
    c.loop-name-test.false c.loop-name.auto.name-index-end c.loop-name.invariant
