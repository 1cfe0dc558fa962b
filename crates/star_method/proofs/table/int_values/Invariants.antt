use Rattle.std.proofs.Common.{◌≡◌, ◌++◌, drop, map}
use Rattle.star_store.specs.declared.values.Value.TheVariants as value
use Rattle.star_method.proofs.table.int_values.Given as goal

abbrev pub invariant-loop-number : goal.invariant-loop-number
invariant-loop-number l = l.made.items ++ map value.Int (drop l.number-index l.numbers) ≡ map value.Int l.numbers
