use Rattle.std.proofs.Common.{◌≡◌, drop}
use Rattle.star_meaning.specs.Arguments.{is_given}
use Rattle.star_call.proofs.names.is_given.Given as goal

abbrev pub invariant-loop-value : goal.invariant-loop-value
invariant-loop-value l = is_given l.name (drop l.value-index l.named) ≡ is_given l.name l.named
