use Rattle.std.proofs.Common.{◌≡◌, ◌++◌, drop, map}
use Rattle.star_store.specs.declared.values.Value.{Value}
use Rattle.star_builtin.proofs.orders.items_of.Given as goal

abbrev pub invariant-loop-pair : goal.invariant-loop-pair
invariant-loop-pair l = let f = λ (p : Value × Value). p.1 in l.items.items ++ map f (drop l.pair-index l.pairs) ≡ map f l.pairs
