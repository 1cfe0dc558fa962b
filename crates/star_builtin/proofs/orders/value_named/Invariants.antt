use Rattle.std.proofs.Common.{◌≡◌, drop}
use Rattle.star_meaning.specs.Binding.{value_named}
use Rattle.star_builtin.proofs.orders.value_named.Given as goal

abbrev pub invariant-loop-value : goal.invariant-loop-value
invariant-loop-value l = value_named l.name (drop l.value-index l.named) ≡ value_named l.name l.named
