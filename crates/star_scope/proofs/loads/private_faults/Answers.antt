use Rattle.std.proofs.Common.{refl}
use Rattle.std.specs.List.{flat_map}
use Rattle.star_scope.specs.Loads.{private_fault}
use Rattle.star_scope.proofs.Faults.{turn, done}
use Rattle.star_scope.proofs.loads.private_faults.Goals as goal

pub loop-name-preserved : goal.loop-name-preserved
loop-name-preserved c =
    turn private_fault (flat_map private_fault) (λ x xs. refl) c.args.names.now c.loop-name.name-index c.name-item.result
    c.loop-name.found c.private_fault-found.result _ c.loop-name-test.true c.name-item.is c.private_fault-found.ensures c.loop-name.invariant

pub returns : goal.returns
returns c = done (flat_map private_fault) c.args.names.now c.loop-name.name-index c.loop-name.found _ refl c.loop-name-test.false c.loop-name.invariant
