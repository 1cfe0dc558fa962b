use Rattle.std.proofs.Common.{◌≡◌, None, drop, map}
use Rattle.star_outline.specs.Definitions.{definition_of}
use Rattle.star_scope.specs.Faults.{first_from}
use Rattle.star_scope.specs.Resolve.{repeated}
use Rattle.star_scope.proofs.program.repeated.Given as goal

abbrev pub invariant-loop-definition : goal.invariant-loop-definition
invariant-loop-definition l = first_from l.found (repeated (map definition_of (drop l.definition-index l.definition-items))) ≡ first_from None (repeated (map definition_of l.definition-items))
