use Rattle.std.proofs.Common.{refl}
use Rattle.star_outline.specs.Outlines.{target_names, targets_names}
use Rattle.star_outline.proofs.BoundNames.{names_turn, names_done}
use Rattle.star_outline.proofs.names.+targets.Goals as goal

pub add_targets-loop-target-preserved : goal.add_targets-loop-target-preserved
add_targets-loop-target-preserved t c =
    names_turn target_names targets_names (λ x xs. refl) c.args.targets.now c.loop-target.target-index c.target-item.result c.loop-target.names c.add_target.new.names _ c.loop-target-test.true c.target-item.is c.in_ok-add_target.ensures c.loop-target.invariant

pub add_targets-returns : goal.add_targets-returns
add_targets-returns t c = names_done targets_names c.args.targets.now c.loop-target.target-index c.loop-target.names _ refl c.loop-target-test.false c.loop-target.invariant
