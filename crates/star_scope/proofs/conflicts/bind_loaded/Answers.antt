use Rattle.std.specs.List.{flat_map}
use Rattle.star_scope.specs.Conflicts.{loaded_binding}
use Rattle.star_scope.proofs.Bindings.{bind_none}
use Rattle.star_scope.proofs.BlockBindings.{binds_turn, binds_done, loaded_next}
use Rattle.star_scope.proofs.conflicts.bind_loaded.Goals as goal

pub loop-name-init : goal.loop-name-init
loop-name-init c = bind_none c.args.bound.now

pub loop-name-preserved : goal.loop-name-preserved
loop-name-preserved c =
    binds_turn loaded_binding (flat_map loaded_binding) loaded_next c.args.names.now c.loop-name.name-index c.name-item.result
    c.args.bound.now c.loop-name.bound c.bind.new.bound c.loop-name-test.true c.name-item.is c.loop-name.invariant c.in_ok-bind.ensures

pub returns : goal.returns
returns c =
    binds_done (flat_map loaded_binding) c.args.names.now c.loop-name.name-index c.args.bound.now c.loop-name.bound
    c.loop-name-test.false c.loop-name.auto.name-index-end c.loop-name.invariant
