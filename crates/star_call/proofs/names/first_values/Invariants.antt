use Rattle.std.proofs.Common.{◌≡◌, ℕ, List, drop}
use Rattle.star_meaning.specs.Binding.{else_default, value_named}
use Rattle.star_call.specs.Found.{value_in}
use Rattle.star_call.proofs.names.first_values.Given as goal

abbrev pub invariant-loop-value : goal.invariant-loop-value
invariant-loop-value l = (q : List ℕ) → else_default (value_in l.first q) (value_named q (drop l.value-index l.named)) ≡ value_named q l.named
