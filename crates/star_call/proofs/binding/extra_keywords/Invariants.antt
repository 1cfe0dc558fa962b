use Rattle.std.proofs.Common.{◌≡◌, ◌++◌, drop}
use Rattle.star_meaning.specs.Binding.{extra_keywords}
use Rattle.star_call.specs.BoundArguments.{all_named}
use Rattle.star_call.proofs.binding.extra_keywords.Given as goal

abbrev pub invariant-loop-value : goal.invariant-loop-value
invariant-loop-value l = all_named l.left.items ++ extra_keywords l.parameters (drop l.value-index l.named) ≡ extra_keywords l.parameters l.named
