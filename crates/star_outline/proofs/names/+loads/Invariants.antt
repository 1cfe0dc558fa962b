use Rattle.std.proofs.Common.{◌≡◌, drop}
use Rattle.star_outline.specs.Names.{with_names}
use Rattle.star_outline.specs.Outlines.{arms_loaded, loaded_names}
use Rattle.star_outline.proofs.names.+loads.Given as goal

abbrev pub invariant-load_statements-loop-statement : goal.invariant-load_statements-loop-statement
invariant-load_statements-loop-statement l = with_names l.names (loaded_names (drop l.statement-index l.statements)) ≡ with_names l.fn.names (loaded_names l.statements)

abbrev pub invariant-load_arms-loop-arm : goal.invariant-load_arms-loop-arm
invariant-load_arms-loop-arm l = with_names l.names (arms_loaded (drop l.arm-index l.arms)) ≡ with_names l.fn.names (arms_loaded l.arms)
