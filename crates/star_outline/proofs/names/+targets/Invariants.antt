use Rattle.std.proofs.Common.{◌≡◌, drop}
use Rattle.star_outline.specs.Names.{with_names}
use Rattle.star_outline.specs.Outlines.{targets_names}
use Rattle.star_outline.proofs.names.+targets.Given as goal

abbrev pub invariant-add_targets-loop-target : goal.invariant-add_targets-loop-target
invariant-add_targets-loop-target l = with_names l.names (targets_names (drop l.target-index l.targets)) ≡ with_names l.fn.names (targets_names l.targets)
