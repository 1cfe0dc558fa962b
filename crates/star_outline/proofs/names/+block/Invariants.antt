use Rattle.std.proofs.Common.{◌≡◌, drop}
use Rattle.star_outline.specs.Names.{with_names}
use Rattle.star_outline.specs.Outlines.{arms_names, block_names}
use Rattle.star_outline.proofs.names.+block.Given as goal

abbrev pub invariant-add_statements-loop-statement : goal.invariant-add_statements-loop-statement
invariant-add_statements-loop-statement l = with_names l.names (block_names (drop l.statement-index l.statements)) ≡ with_names l.fn.names (block_names l.statements)

abbrev pub invariant-add_arms-loop-arm : goal.invariant-add_arms-loop-arm
invariant-add_arms-loop-arm l = with_names l.names (arms_names (drop l.arm-index l.arms)) ≡ with_names l.fn.names (arms_names l.arms)
